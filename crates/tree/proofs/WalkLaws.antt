-- In the order of the subspace-first keys the walk finds the same as the comparison of all pairs: no place twice, none prunes another.
-- Assumes nothing.
use mathlib.Core.Path.{◌≡◌, refl, sym, ap, ap₂, ◌∙◌}
use mathlib.Core.Logic.{◌⊎◌, inl, inr, ⊎_elim}
use mathlib.Core.Bool.{Bool, true, false, not, cond, ◌&&◌}
use mathlib.Core.List.Memᴰ.{cases_cons as uncons}
use mathlib.Core.List.Memᴰ.{head as here}
use mathlib.Core.List.Memᴰ.{not-nil as none_in}
use mathlib.Core.List.Memᴰ.{tail as there}
use mathlib.Core.List.{List, [], ◌∷◌}
use Prim.Native.Nat.{ℕ}
use Rattle.laws.specs.Order.{less, same, ◌then◌, flip, by_number, below}
use Rattle.laws.specs.Sorted.{◌∈◌, all, Ascends}
use Rattle.laws.proofs.Truth.{split, clash, refute, and-true, not-true, differ, alike}
use Rattle.laws.proofs.Order.{less-greater, then-less-view, then_same, flip-then, is-less, number-linear}
use Rattle.laws.proofs.Prefix.{prefix_refl}
use Rattle.laws.proofs.Sorted.{all-view}
use Rattle.laws.proofs.Sorted.{all-make}
use Rattle.data_model.specs.Path.{same_component, same_path, by_components, is_prefix}
use Rattle.data_model.specs.Subspace.{same_subspace, by_subspace}
use Rattle.data_model.specs.Entry.{Entry, newer, covers, prunes}
use Rattle.keys.specs.Encode.{Triple}
use Rattle.data_model.proofs.Orders.{component-equality, path-equality, path-linear, subspace-equality, subspace-linear, extensions-after}
use Rattle.key_laws.specs.KeyOrder.{spt_order}
use Rattle.key_laws.proofs.EntryLaws.{covers_view, covers-make, prunes-view, prunes-make, prunes-irrefl}
use Rattle.key_laws.proofs.Extensions.{run-order}
use Rattle.tree.specs.Stored.{Stored, triple_of}
use Rattle.tree.specs.Apart.{same_address, no_address_twice, none_prunes, apart}

-- An entry against one that it covers: not at its address, and not newer.
unfoldable pub fine : Entry → Entry → Bool
fine a b = not (same_address a b) && not (newer a b)

-- An entry against those behind it, for as long as it covers them.
unfoldable pub clear_behind : Entry → List Stored → Bool
clear_behind a [] = true
clear_behind a (b ∷ l) = cond (covers a b.entry) (fine a b.entry && clear_behind a l) true

unfoldable pub all_clear : List Stored → Bool
all_clear [] = true
all_clear (a ∷ l) = clear_behind a.entry l && all_clear l

-- By subspace, path and timestamp.
abbrev pub entry_below : Stored → Stored → Bool
entry_below a b = below spt_order (triple_of a.entry) (triple_of b.entry)

-- All of one namespace.
abbrev pub OfOne : List ℕ → List Stored → Type 0
OfOne namespace l = (x : Stored) → x ∈ l → x.entry.namespace ≡ namespace

entry-below : (a b : Stored) → entry_below a b ≡ true → spt_order (triple_of a.entry) (triple_of b.entry) ≡ less
unfolding below
entry-below a b e = is-less _ e

spt-flips : (a b : Triple) → spt_order b a ≡ flip (spt_order a b)
unfolding spt_order
spt-flips a b =
    ap₂ ◌then◌ (subspace-linear.flips a.subspace b.subspace)
    (ap₂ ◌then◌ (path-linear.flips a.path b.path) (number-linear.flips a.timestamp b.timestamp)
    ∙ sym (flip-then (by_components a.path b.path) (by_number a.timestamp b.timestamp)))
    ∙ sym (flip-then (by_subspace a.subspace b.subspace) (by_components a.path b.path then by_number a.timestamp b.timestamp))

spt-asym : (a b : Triple) → spt_order a b ≡ less → spt_order b a ≡ less → ⊥
unfolding flip
spt-asym a b e f = less-greater f (spt-flips a b ∙ ap flip e)

-- What stands between an entry and one that it covers, it covers.
covers-between : (a b c : Entry) → a.namespace ≡ b.namespace → spt_order (triple_of a) (triple_of b) ≡ less → spt_order (triple_of b) (triple_of c) ≡ less
    → covers a c ≡ true → covers a b ≡ true
unfolding triple_of
covers-between a b c n e f g =
    let v = covers_view a c g in
    let x = run-order (triple_of a) (triple_of b) (triple_of c) (record { subspace = v.subspace; path = v.path }) (λ l. spt-asym (triple_of a) (triple_of b) e l) (λ l. spt-asym (triple_of b) (triple_of c) f l) in
    covers-make a b (record { namespace = n; subspace = x.subspace; path = x.path })

-- Entries of one place.
pub place_view : (a b : Entry) → same_address a b ≡ true → (a.subspace ≡ b.subspace) × (a.path ≡ b.path)
unfolding same_address
place_view a b e =
    let k = and-true (same_subspace a.subspace b.subspace) (same_path a.path b.path) e in
    (subspace-equality.equal a.subspace b.subspace k.0, path-equality.equal a.path b.path k.1)

pub place-make : (a b : Entry) → a.subspace ≡ b.subspace → a.path ≡ b.path → same_address a b ≡ true
unfolding same_address
place-make a b s p = cc (subspace-equality.self a.subspace, path-equality.self a.path)

place-covers : (a b : Entry) → a.namespace ≡ b.namespace → same_address a b ≡ true → covers a b ≡ true
place-covers a b n e =
    let k = place_view a b e in
    covers-make a b (record { namespace = n; subspace = k.0; path = ap (is_prefix a.path) (sym k.1) ∙ prefix_refl same_component component-equality a.path })

-- A later entry covers an earlier one only at its own place.
covers-back : (a b : Entry) → spt_order (triple_of a) (triple_of b) ≡ less → covers b a ≡ true → same_address a b ≡ true
unfolding triple_of spt_order
covers-back a b e f =
    let v = covers_view b a f in
    let s : by_subspace a.subspace b.subspace ≡ same = ap (by_subspace a.subspace) v.subspace ∙ subspace-linear.self a.subspace in
    ⊎_elim
    (λ l. absurd (extensions-after b.path a.path v.path l))
    (λ t. place-make a b (sym v.subspace) (path-linear.equal a.path b.path t.0))
    (then-less-view (by_components a.path b.path) (by_number a.rank.timestamp b.rank.timestamp) (sym (then_same (by_subspace a.subspace b.subspace) _ s) ∙ e))

-- What one entry may have behind it.
pub record Clear (a b : Entry) : Type 0 where
  pub place : same_address a b ≡ false
  pub forth : prunes a b ≡ false
  pub back : prunes b a ≡ false

clear_next : (a : Entry) (b : Stored) (l : List Stored) → clear_behind a (b ∷ l) ≡ true → covers a b.entry ≡ true
    → (same_address a b.entry ≡ false) × ((newer a b.entry ≡ false) × (clear_behind a l ≡ true))
unfolding clear_behind fine
clear_next a b l e f =
    let k = and-true (not (same_address a b.entry) && not (newer a b.entry)) (clear_behind a l) (rw f at e) in
    let m = and-true (not (same_address a b.entry)) (not (newer a b.entry)) k.0 in
    (not-true _ m.0, (not-true _ m.1, k.1))

-- The walk from one entry, and what it says of each behind it.
behind-view : (namespace : List ℕ) (a : Stored) (l : List Stored) → Ascends entry_below (a ∷ l) → OfOne namespace (a ∷ l) → clear_behind a.entry l ≡ true
    → (y : Stored) → y ∈ l → covers a.entry y.entry ≡ true → (same_address a.entry y.entry ≡ false) × (newer a.entry y.entry ≡ false)
unfolding Ascends
behind-view namespace a [] s n e y m g = absurd (none_in m)
behind-view namespace a (b ∷ l) s n e y m g = split (covers a.entry b.entry)
    (λ f.
    let k = clear_next a.entry b l e f in
    ⊎_elim
    (λ q. rw q (k.0, k.1.0))
    (λ j. behind-view namespace a l (λ x i. s.0 x (there i), s.1.1) (λ x i. ⊎_elim (λ q. n x (here q)) (λ h. n x (there (there h))) (uncons i)) k.1.1 y j g)
    (uncons m))
    (λ f. ⊎_elim
    (λ q. clash {b = covers a.entry b.entry} (rw q at g) f)
    (λ j. clash (covers-between a.entry b.entry y.entry (n a (here refl) ∙ sym (n b (there (here refl)))) (entry-below a b (s.0 b (here refl))) (entry-below b y (s.1.0 y j)) g) f)
    (uncons m))

behind-clear : (namespace : List ℕ) (a : Stored) (l : List Stored) → Ascends entry_below (a ∷ l) → OfOne namespace (a ∷ l) → clear_behind a.entry l ≡ true
    → (y : Stored) → y ∈ l → Clear a.entry y.entry
unfolding Ascends
behind-clear namespace a l s n e y m =
    let v = behind-view namespace a l s n e y m in
    let p : same_address a.entry y.entry ≡ false = refute _ λ f. differ _ f (v (place-covers a.entry y.entry (n a (here refl) ∙ sym (n y (there m))) f)).0 in
    record {
      place = p;
      forth = refute _ λ f. let k = prunes-view a.entry y.entry f in differ _ k.1 (v k.0).1;
      back = refute _ λ f. differ _ (covers-back a.entry y.entry (entry-below a y (s.0 y m)) (prunes-view y.entry a.entry f).0) p;
    }

behind-make : (a : Stored) (l : List Stored) → ((y : Stored) → y ∈ l → (same_address a.entry y.entry ≡ false) × (prunes a.entry y.entry ≡ false)) → clear_behind a.entry l ≡ true
unfolding clear_behind fine
behind-make a [] h = refl
behind-make a (b ∷ l) h = split (covers a.entry b.entry)
    (λ f.
    let k = h b (here refl) in
    let g : newer a.entry b.entry ≡ false = refute _ λ g. clash (prunes-make a.entry b.entry f g) k.1 in
    rw (f, k.0, g) (behind-make a l λ y m. h y (there m)))
    (λ f. rw f)

-- All pairs.
abbrev Apart : List Stored → Type 0
Apart l = (x y : Stored) → x ∈ l → y ∈ l → prunes x.entry y.entry ≡ false

prunes-none : (l : List Stored) → none_prunes l ≡ true → Apart l
unfolding none_prunes
prunes-none l e x y m n =
    not-true _ (all-view (λ (b : Stored). not (prunes x.entry b.entry)) l (all-view (λ (a : Stored). all (λ (b : Stored). not (prunes a.entry b.entry)) l) l e m) n)

none-prunes : (l : List Stored) → Apart l → none_prunes l ≡ true
unfolding none_prunes
none-prunes l h =
    all-make (λ (a : Stored). all (λ (b : Stored). not (prunes a.entry b.entry)) l) l
    λ x m. all-make (λ (b : Stored). not (prunes x.entry b.entry)) l λ y n. ap not (h x y m n)

pairs-walk : (l : List Stored) → no_address_twice l ≡ true → Apart l → all_clear l ≡ true
unfolding no_address_twice all_clear
pairs-walk [] e h = refl
pairs-walk (a ∷ l) e h =
    let k = and-true (all (λ (b : Stored). not (same_address a.entry b.entry)) l) (no_address_twice l) e in
    rw (behind-make a l λ y m. (not-true _ (all-view (λ (b : Stored). not (same_address a.entry b.entry)) l k.0 m), h a y (here refl) (there m)))
    (pairs-walk l k.1 λ x y m n. h x y (there m) (there n))

walk-pairs : (namespace : List ℕ) (l : List Stored) → Ascends entry_below l → OfOne namespace l → all_clear l ≡ true → (no_address_twice l ≡ true) × Apart l
unfolding Ascends no_address_twice all_clear
walk-pairs namespace [] s n e = (refl, λ x y m. absurd (none_in m))
walk-pairs namespace (a ∷ l) s n e =
    let rest = walk-pairs namespace l s.1 (λ x m. n x (there m)) k.1 in (
      rw (all-make (λ (b : Stored). not (same_address a.entry b.entry)) l λ y m. ap not (behind y m).place) rest.0,
      λ x y i j. pair rest.1 x y (uncons i) (uncons j),
    )
  where
    k : (clear_behind a.entry l ≡ true) × (all_clear l ≡ true)
    k = and-true (clear_behind a.entry l) (all_clear l) e

    behind : (y : Stored) → y ∈ l → Clear a.entry y.entry
    behind = behind-clear namespace a l s n k.0

    pair : Apart l → (x y : Stored) → (x ≡ a) ⊎ x ∈ l → (y ≡ a) ⊎ y ∈ l → prunes x.entry y.entry ≡ false
    pair rest x y (inl p) (inl q) = cc (prunes-irrefl a.entry)
    pair rest x y (inl p) (inr m) = rw p (behind y m).forth
    pair rest x y (inr m) (inl q) = rw q (behind x m).back
    pair rest x y (inr m) (inr o) = rest x y m o

pub apart-walk : (namespace : List ℕ) (l : List Stored) → Ascends entry_below l → OfOne namespace l → apart l ≡ all_clear l
unfolding apart
apart-walk namespace l s n = alike (no_address_twice l && none_prunes l) (all_clear l)
    (λ e. let k = and-true (no_address_twice l) (none_prunes l) e in pairs-walk l k.0 (prunes-none l k.1))
    (λ e. let k = walk-pairs namespace l s n e in rw (k.0, none-prunes l k.1))
