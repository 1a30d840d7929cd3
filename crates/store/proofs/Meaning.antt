-- What the two trees of a store hold, as lists: sound if both ascend by their keys, have the same members, all of one namespace, and none
-- prunes another. Filing and forgetting keep that, from any sound lists. Assumes nothing.
use Prim.Native.Nat.{ℕ}
use mathlib.Core.Path.{◌≡◌, refl, sym, ap, ap₂, ◌∙◌}
use mathlib.Core.Logic.{◌⊎◌, inl, inr, ⊎_elim, ◌↔◌}
use mathlib.Core.Bool.{Bool, true, false, not, ◌&&◌}
use mathlib.Core.List.Memᴰ.{head as here}
use mathlib.Core.List.Memᴰ.{not-nil as none_in}
use mathlib.Core.List.Memᴰ.{tail as there}
use mathlib.Core.List.{List, [], ◌∷◌}
use lib.ListN.{length}
use Rattle.laws.specs.Order.{Order, less, same, is_less, is_greater, by_number, by_pair, below, on, Linear}
use Rattle.laws.specs.Sorted.{◌∈◌, keep, Ascends}
use Rattle.laws.proofs.Truth.{split, clash, refute, not-true}
use Rattle.laws.proofs.Order.{number-linear, pair-linear, on-linear, below-strict, below_total, then_same, is-less, less-is-greater}
use Rattle.laws.proofs.Prefix.{prefix_refl}
use Rattle.laws.proofs.Sorted.{keep-view, insert-view, insert-new, insert-old, keep-ascends, insert-ascends, members}
use Rattle.laws.proofs.Sorted.{all-make, any_none}
use Rattle.data_model.specs.Path.{Components, by_components, same_component}
use Rattle.data_model.specs.Subspace.{by_subspace}
use Rattle.data_model.specs.Entry.{Entry, by_rank, newer, covers, prunes}
use Rattle.keys.specs.Encode.{Triple}
use Rattle.data_model.specs.declared.parameters.Subspace.{Subspace}
use Rattle.data_model.proofs.Orders.{path-linear, subspace-linear, component-equality}
use Rattle.key_laws.specs.KeyOrder.{spt_order, tsp_order}
use Rattle.key_laws.proofs.EntryLaws.{covers-make, newer-total, prunes-view, prunes-make, prunes-irrefl, entries}
use Rattle.tree.specs.Stored.{Stored, triple_of, same_entry}
use Rattle.tree.specs.Apart.{same_address, no_address_twice, none_prunes}
use Rattle.tree.specs.Matching.{outdates, removes, repeats}
use Rattle.tree.proofs.RecordLaws.{entry-equality}
use Rattle.tree.proofs.WalkLaws.{place_view}
use Rattle.store.specs.Store.{Held}
use Rattle.store.specs.Ingest.{spt_less, tsp_less, stays, filed_in, filed, NewTo}
use Rattle.store.specs.Forget.{without}
use Rattle.store.specs.Open.{nothing}
use Rattle.store.proofs.Counted.{same_length}

-- Both orders of triples are linear.
pub spt-linear : Linear Triple spt_order
unfolding spt_order by_pair
spt-linear =
    on-linear {A = Subspace × (Components × ℕ)} (λ t. (t.subspace, (t.path, t.timestamp))) (by_pair by_subspace (by_pair by_components by_number))
    (λ a b e. λ i. record { subspace = (e i).0; path = (e i).1.0; timestamp = (e i).1.1 })
    (pair-linear by_subspace (by_pair by_components by_number) subspace-linear (pair-linear by_components by_number path-linear number-linear))

pub tsp-linear : Linear Triple tsp_order
unfolding tsp_order by_pair
tsp-linear =
    on-linear {A = ℕ × (Subspace × Components)} (λ t. (t.timestamp, (t.subspace, t.path))) (by_pair by_number (by_pair by_subspace by_components))
    (λ a b e. λ i. record { timestamp = (e i).0; subspace = (e i).1.0; path = (e i).1.1 })
    (pair-linear by_number (by_pair by_subspace by_components) number-linear (pair-linear by_subspace by_components subspace-linear path-linear))

-- What is stored, ordered as its triple.
module _ (o : Triple → Triple → Order) (O : Linear Triple o) where
  abbrev pub before : Stored → Stored → Bool
  before = below (on (λ (x : Stored). triple_of x.entry) o)

  pub before-irrefl : (a : Stored) → before a a ≡ false
  unfolding below
  before-irrefl a = (below-strict o O).irrefl (triple_of a.entry)

  pub before-trans : (a b c : Stored) → before a b ≡ true → before b c ≡ true → before a c ≡ true
  unfolding below
  before-trans a b c = (below-strict o O).trans (triple_of a.entry) (triple_of b.entry) (triple_of c.entry)

  before-total : (a b : Stored) → before a b ≡ false → before b a ≡ false → triple_of a.entry ≡ triple_of b.entry
  unfolding below
  before-total a b = below_total o O (triple_of a.entry) (triple_of b.entry)

  -- What another order of triples tells apart, this one does.
  apart_in : (p : Triple → Triple → Order) → Linear Triple p → (a b : Stored) → below (on (λ (x : Stored). triple_of x.entry) p) a b ≡ true
      → before a b ≡ false → before b a ≡ true
  unfolding below
  apart_in p P a b e f = split (before b a) (λ g. g) λ g.
      clash {b = is_less (p (triple_of a.entry) (triple_of b.entry))} e
      (ap (λ t. is_less (p (triple_of a.entry) t)) (sym (before-total a b f g)) ∙ (below-strict p P).irrefl (triple_of a.entry))

-- Of one namespace, subspace and path.
pub record Beside (a b : Stored) : Type 0 where
  pub namespace : a.entry.namespace ≡ b.entry.namespace
  pub subspace : a.entry.subspace ≡ b.entry.subspace
  pub path : a.entry.path ≡ b.entry.path

beside-covers : (a b : Stored) → Beside a b → covers a.entry b.entry ≡ true
beside-covers a b k = covers-make a.entry b.entry (record {
  namespace = k.namespace;
  subspace = k.subspace;
  path = rw k.path (prefix_refl same_component component-equality b.entry.path);
})

beside-flip : {a b : Stored} → Beside a b → Beside b a
beside-flip k = record { namespace = sym k.namespace; subspace = sym k.subspace; path = sym k.path }

pub triple-beside : (a b : Stored) → a.entry.namespace ≡ b.entry.namespace → triple_of a.entry ≡ triple_of b.entry → Beside a b
unfolding triple_of
triple-beside a b n e = record { namespace = n; subspace = ap (λ t. t.subspace) e; path = ap (λ t. t.path) e }

-- `removes`, a conclusion at a time.
pub removes-view : (e : Entry) (x : Stored) → removes e x ≡ true → (covers e x.entry ≡ true) × (newer e x.entry ≡ true)
unfolding removes
removes-view e x = prunes-view e x.entry

pub removes-make : (e : Entry) (x : Stored) → covers e x.entry ≡ true → newer e x.entry ≡ true → removes e x ≡ true
unfolding removes
removes-make e x = prunes-make e x.entry

-- What x is new to and does not remove stands elsewhere.
pub elsewhere : (x y : Stored) (l : List Stored) → NewTo l x.entry → y ∈ l → removes x.entry y ≡ false → Beside x y → ⊥
unfolding outdates repeats
elsewhere x y l new m f k =
    let r = newer-total x.entry y.entry
    (refute _ λ q. clash (removes-make x.entry y (beside-covers x y k) q) f)
    (refute _ λ q. clash (prunes-make y.entry x.entry (beside-covers y x (beside-flip k)) q) (any_none (outdates x.entry) l new.current m)) in
    let z : x.entry ≡ y.entry = λ i. record { namespace = k.namespace i; subspace = k.subspace i; path = k.path i; rank = r i } in
    clash (ap (same_entry x.entry) (sym z) ∙ entry-equality.self x.entry) (any_none (repeats x.entry) l new.absent m)

pub record SoundHeld (namespace : List ℕ) (h : Held) : Type 0 where
  pub spt_ascends : Ascends spt_less h.spt
  pub tsp_ascends : Ascends tsp_less h.tsp
  pub both : (x : Stored) → x ∈ h.spt ↔ x ∈ h.tsp
  pub apart : (x y : Stored) → x ∈ h.spt → y ∈ h.spt → prunes x.entry y.entry ≡ false
  pub named : (x : Stored) → x ∈ h.spt → x.entry.namespace ≡ namespace

pub sound-nothing : (namespace : List ℕ) → SoundHeld namespace nothing
unfolding Ascends
sound-nothing n = record { spt_ascends = tt; tsp_ascends = tt; both = λ x. (λ m. m, λ m. m); apart = λ x y m k. absurd (none_in m); named = λ x m. absurd (none_in m) }

-- Kept: what a test holds of, in both.
abbrev left : (Stored → Bool) → Held → Held
left p h = record { spt = keep p h.spt; tsp = keep p h.tsp }

sound_left : {namespace : List ℕ} (p : Stored → Bool) (h : Held) → SoundHeld namespace h → SoundHeld namespace (left p h)
sound_left p h v = record {
  spt_ascends = keep-ascends spt_less p h.spt v.spt_ascends;
  tsp_ascends = keep-ascends tsp_less p h.tsp v.tsp_ascends;
  both = λ x. (λ m. search (members, (v.both x).0), λ m. search (members, (v.both x).1));
  apart = λ x y m n. search (members, v.apart);
  named = λ x m. search (members, v.named);
}

pub sound-without : {namespace : List ℕ} (p : Stored → Bool) (h : Held) → SoundHeld namespace h → SoundHeld namespace (without p h)
unfolding without
sound-without p h v = sound_left (λ (x : Stored). not (p x)) h v

-- Filed, being new there.
module _ {namespace : List ℕ} (x : Stored) (h : Held) (v : SoundHeld namespace h) (name : x.entry.namespace ≡ namespace) (new : NewTo h.spt x.entry) where
  others : SoundHeld namespace (left (stays x.entry) h)
  others = sound_left (stays x.entry) h v

  stayed : (y : Stored) → y ∈ keep (stays x.entry) h.spt → y ∈ h.spt × (removes x.entry y ≡ false)
  stayed y m = let k = keep-view (stays x.entry) h.spt m in (k.0, not-true _ k.1)

  away : (y : Stored) → y ∈ keep (stays x.entry) h.spt → triple_of x.entry ≡ triple_of y.entry → ⊥
  away y m e =
      let k = stayed y m in
      elsewhere x y h.spt new k.0 k.1 (triple-beside x y (name ∙ sym (v.named y k.0)) e)

  files-apart : (y z : Stored) → (y ≡ x) ⊎ y ∈ keep (stays x.entry) h.spt → (z ≡ x) ⊎ z ∈ keep (stays x.entry) h.spt → prunes y.entry z.entry ≡ false
  unfolding outdates
  files-apart y z (inl p) (inl q) = rw (p, q) (prunes-irrefl x.entry)
  files-apart y z (inl p) (inr q) = rw p (refute _ λ e.
      let k = stayed z q in
      clash (removes-make x.entry z (search entries) (search entries)) k.1)
  files-apart y z (inr p) (inl q) = rw q (any_none (outdates x.entry) h.spt new.current (stayed y p).0)
  files-apart y z (inr p) (inr q) = v.apart y z (stayed y p).0 (stayed z q).0

  pub sound-filed : SoundHeld namespace (filed x h)
  unfolding filed filed_in
  sound-filed = record {
    spt_ascends = insert-ascends spt_less (before-trans spt_order spt-linear) x _ others.spt_ascends
        λ y m e. split (spt_less y x) (λ f. f) (λ f. absurd (away y m (before-total spt_order spt-linear x y e f)));
    tsp_ascends = insert-ascends tsp_less (before-trans tsp_order tsp-linear) x _ others.tsp_ascends
        λ y m e. split (tsp_less y x) (λ f. f) (λ f. absurd (away y ((others.both y).1 m) (before-total tsp_order tsp-linear x y e f)));
    both = λ y. (
      λ m. ⊎_elim (λ e. rw e (insert-new tsp_less x _)) (λ n. insert-old tsp_less x _ ((others.both y).0 n)) (insert-view spt_less x _ m),
      λ m. ⊎_elim (λ e. rw e (insert-new spt_less x _)) (λ n. insert-old spt_less x _ ((others.both y).1 n)) (insert-view tsp_less x _ m),
    );
    apart = λ y z m n. files-apart y z (insert-view spt_less x _ m) (insert-view spt_less x _ n);
    named = λ y m. ⊎_elim (λ e. rw e name) (λ n. others.named y n) (insert-view spt_less x _ m);
  }

-- Both trees are equally long.
pub sound-length : {namespace : List ℕ} (h : Held) → SoundHeld namespace h → length h.spt ≡ length h.tsp
sound-length h v =
    same_length spt_less (before-trans spt_order spt-linear) (before-irrefl spt_order spt-linear) tsp_less (apart_in spt_order spt-linear tsp_order tsp-linear)
    h.spt h.tsp v.spt_ascends v.tsp_ascends v.both

-- As the tests have it: none prunes another, and so no place stands twice, since of two keys of one place the later is that of a newer entry.
pub none-prunes : (l : List Stored) → ((x y : Stored) → x ∈ l → y ∈ l → prunes x.entry y.entry ≡ false) → none_prunes l ≡ true
unfolding none_prunes
none-prunes l h = all-make _ l λ x m. all-make _ l λ y n. ap not (h x y m n)

later-newer : (a b : Stored) → spt_less a b ≡ true → Beside a b → newer b.entry a.entry ≡ true
unfolding below spt_order triple_of newer by_rank is_greater
later-newer a b e k =
    let sub : by_subspace a.entry.subspace b.entry.subspace ≡ same = ap (by_subspace a.entry.subspace) (sym k.subspace) ∙ subspace-linear.self a.entry.subspace in
    let pat : by_components a.entry.path b.entry.path ≡ same = ap (by_components a.entry.path) (sym k.path) ∙ path-linear.self a.entry.path in
    let t : by_number a.entry.rank.timestamp b.entry.rank.timestamp ≡ less = sym (then_same _ _ sub ∙ then_same _ _ pat) ∙ is-less _ e in
    rw (less-is-greater by_number number-linear a.entry.rank.timestamp b.entry.rank.timestamp t)

pub never-beside : (a b : Stored) → spt_less a b ≡ true → prunes b.entry a.entry ≡ false → Beside a b → ⊥
never-beside a b l h w = clash (prunes-make b.entry a.entry (beside-covers b a (beside-flip w)) (later-newer a b l w)) h

places-apart : (a b : Stored) → spt_less a b ≡ true → a.entry.namespace ≡ b.entry.namespace → prunes b.entry a.entry ≡ false → same_address a.entry b.entry ≡ false
places-apart a b l n h = refute (same_address a.entry b.entry) λ e.
    let k = place_view a.entry b.entry e in
    never-beside a b l h (record { namespace = n; subspace = k.0; path = k.1 })

pub places-once : {namespace : List ℕ} (l : List Stored) → Ascends spt_less l → ((x y : Stored) → x ∈ l → y ∈ l → prunes x.entry y.entry ≡ false)
    → ((x : Stored) → x ∈ l → x.entry.namespace ≡ namespace) → no_address_twice l ≡ true
unfolding no_address_twice Ascends
places-once [] s h n = refl
places-once (a ∷ l) s h n = ap₂ ◌&&◌
    (all-make _ l λ b m. ap not (places-apart a b (s.0 b m) (n a (here refl) ∙ sym (n b (there m))) (h b a (there m) (here refl))))
    (places-once l s.1 (λ x y m k. h x y (there m) (there k)) λ x m. n x (there m))
