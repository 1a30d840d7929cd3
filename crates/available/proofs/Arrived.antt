-- Stored entries with another available length: their records, and the lists of a store. Assumes nothing.
use Prim.Native.Nat.{ℕ, zero, suc, ◌+◌, ◌-◌, ◌≤◌, ◌<◌}
use mathlib.Core.Path.{◌≡◌, refl, sym, ap, ap₂, subst, ◌∙◌}
use mathlib.Core.Bool.{Bool, true, false, ◌&&◌}
use mathlib.Core.List.Memᴰ.{head as here}
use mathlib.Core.List.Memᴰ.{tail as there}
use mathlib.Core.List.{List, [], ◌∷◌, ◌++◌, map, append_assoc}
use native.Mathlib.Omega.{arith}
use lib.ListN.{length, take, drop, get_or, set, length-append, length-map}
use lib.Seq.{take_at, drop_at, drop-drop}
use lib.Dec.{ltb}
use borrow.Author.Tests.{ltb-false}
use Rattle.laws.specs.Order.{Order, is_less, below, on}
use Rattle.laws.specs.Sorted.{◌∈◌, any, keep, Ascends}
use Rattle.laws.proofs.Truth.{split, clash, refute}
use Rattle.laws.proofs.Sorted.{any_none}
use Rattle.layout.specs.Buffers.{written}
use Rattle.layout.specs.Layout.{joined, pairs}
use Rattle.layout.specs.Marks.{marks_of, first_mark}
use Rattle.layout.proofs.PlaceLaws.{keep-none}
use Rattle.data_model.specs.Origin.{origin_kind, origin_session}
use Rattle.data_model.specs.Path.{Figures, Components}
use Rattle.data_model.specs.Entry.{Entry, prunes}
use Rattle.data_model.specs.declared.parameters.Subspace.{Subspace}
use Rattle.keys.specs.Encode.{Triple, be}
use Rattle.keys.proofs.Encoding.{be-length}
use Rattle.key_laws.specs.KeyOrder.{spt_order, tsp_order}
use Rattle.tree.specs.Value.{available_at, value_length, origin_bytes, value_bytes}
use Rattle.tree.specs.Stored.{Stored, key_in, triple_of, value_for, record_of, available_in, Lawful}
use Rattle.tree.specs.Tree.{Formed}
use Rattle.tree.specs.Matching.{stands_at}
use Rattle.tree.specs.declared.stored.KeyOrder.{KeyOrder}
use Rattle.tree.specs.declared.stored.KeyOrder.TheVariants.{Spt, Tsp}
use Rattle.store.specs.Store.{Held}
use Rattle.store.specs.Ingest.{spt_less, tsp_less}
use Rattle.std.proofs.Common.{Some}
use Rattle.store.specs.Change.{in_tree, first_place}
use Rattle.store.proofs.Meaning.{SoundHeld, spt-linear, tsp-linear, before-irrefl, places-once}
use Rattle.store.proofs.Recorded.{Proper, map-view, map-make}
use Rattle.store.proofs.Lifted.{Fit, list_of}
use Rattle.store.proofs.ForgetLaws.{only_one, at_first}
use Rattle.available.specs.Available.{arrive, arrive_at, arrived_at, exceeded, StandsFirst}

-- The record of an entry with this available length: 8 bytes of its record are others.
pub arrive-record : (f : Figures) (o : KeyOrder) (n : ℕ) (x : Stored) → Lawful f x → record_of o (arrive n x) ≡ written (available_in (record_of o x)) (be 8 n) (record_of o x)
unfolding written record_of value_bytes value_for triple_of
arrive-record f o n x h =
    let k = key_in o (triple_of x.entry) in
    let a = be 8 x.entry.rank.payload_length in
    let d = x.entry.rank.payload_digest in
    let t = x.token in
    let z = be 8 x.available in
    let o = origin_bytes (origin_kind x.origin) (origin_session x.origin) in
    let front = k ++ (a ++ (d ++ t)) in
    let whole : (w : List ℕ) → k ++ (a ++ (d ++ (t ++ w))) ≡ front ++ w = λ w.
    sym (append_assoc k (a ++ (d ++ t)) w ∙ ap (k ++◌) (append_assoc a (d ++ t) w ∙ ap (a ++◌) (append_assoc d t w))) in
    let same : length z ≡ length (be 8 n) = be-length 8 x.available ∙ sym (be-length 8 n) in
    let l : length (front ++ (z ++ o)) ≡ length front + (value_length - available_at)
    = length-append front (z ++ o) ∙ ap (length front +◌) (length-append z o ∙ omega (arith, be-length 8 x.available, be-length 8 (origin_session x.origin))) in
    let m : length front ≡ length k + available_at = length-append k (a ++ (d ++ t)) ∙ ap (length k +◌) (simp (length-append, be-length, h.digest, h.token)) in
    let at : (length (front ++ (z ++ o)) - value_length) + available_at ≡ length front = omega (arith, l, m) in
    let behind : drop (length front + length (be 8 n)) (front ++ (z ++ o)) ≡ o
    = sym (drop-drop (length (be 8 n)) (length front) (front ++ (z ++ o))) ∙ ap (drop (length (be 8 n))) (drop_at front (z ++ o) (length front) refl) ∙ drop_at z o (length (be 8 n)) same in
    let over : (r : List ℕ) → r ≡ front ++ (z ++ o) → front ++ (be 8 n ++ o) ≡ take ((length r - value_length) + available_at) r ++ be 8 n ++ drop ((length r - value_length) + available_at + length (be 8 n)) r = λ r e.
    rw (e, at) (sym (ap₂ (λ (p q : List ℕ). p ++ be 8 n ++ q) (take_at front (z ++ o) (length front) refl) behind ∙ append_assoc front (be 8 n) o)) in
    whole (be 8 n ++ o) ∙ over (k ++ (a ++ (d ++ (t ++ (z ++ o))))) (whole (z ++ o))

-- What is stored at a place, with another available length.
module _ (s : Subspace) (p : Components) (n : ℕ) where
  pub arrive-there : (x : Stored) → stands_at s p x ≡ true → arrive_at s p n x ≡ arrive n x
  unfolding arrive_at
  arrive-there x q = rw q refl

  pub arrive-elsewhere : (x : Stored) → stands_at s p x ≡ false → arrive_at s p n x ≡ x
  unfolding arrive_at
  arrive-elsewhere x q = rw q refl

  pub arrive-entry : (x : Stored) → (arrive_at s p n x).entry ≡ x.entry
  arrive-entry x = split (stands_at s p x) (λ q. ap (λ (y : Stored). y.entry) (arrive-there x q)) (λ q. ap (λ (y : Stored). y.entry) (arrive-elsewhere x q))

  pub arrive-token : (x : Stored) → (arrive_at s p n x).token ≡ x.token
  arrive-token x = split (stands_at s p x) (λ q. ap (λ (y : Stored). y.token) (arrive-there x q)) (λ q. ap (λ (y : Stored). y.token) (arrive-elsewhere x q))

  pub arrive-origin : (x : Stored) → (arrive_at s p n x).origin ≡ x.origin
  arrive-origin x = split (stands_at s p x) (λ q. ap (λ (y : Stored). y.origin) (arrive-there x q)) (λ q. ap (λ (y : Stored). y.origin) (arrive-elsewhere x q))

  -- None stands there: nothing changes.
  pub arrive_none : (l : List Stored) → any (stands_at s p) l ≡ false → map (arrive_at s p n) l ≡ l
  unfolding any
  arrive_none [] h = refl
  arrive_none (a ∷ l) h = split (stands_at s p a)
      (λ q. clash {b = any (stands_at s p) (a ∷ l)} (rw q refl) h)
      (λ q. ap₂ ◌∷◌ (arrive-elsewhere a q) (arrive_none l (rw q at h)))

  none_kept : (l : List Stored) → length (keep (stands_at s p) l) ≤ 0 → any (stands_at s p) l ≡ false
  unfolding any keep
  none_kept [] h = refl
  none_kept (a ∷ l) h = split (stands_at s p a) (λ q. absurd (let k : suc (length (keep (stands_at s p) l)) ≤ 0 = rw q at h in omega arith)) (λ q. rw q (none_kept l (rw q at h)))

  -- One does: the first that does is changed.
  pub arrive-first : (l : List Stored) (d : Stored) → length (keep (stands_at s p) l) ≤ 1 → first_mark (marks_of (stands_at s p) l) < length l
      → map (arrive_at s p n) l ≡ set l (first_mark (marks_of (stands_at s p) l)) (arrive n (get_or l (first_mark (marks_of (stands_at s p) l)) d))
  unfolding keep
  arrive-first [] d h w = absurd (omega arith)
  arrive-first (a ∷ l) d h w = split (stands_at s p a)
      (λ q. let k : suc (length (keep (stands_at s p) l)) ≤ 1 = rw q at h in
      rw q (ap₂ ◌∷◌ (arrive-there a q) (arrive_none l (none_kept l (omega arith)))))
      (λ q. let v : suc (first_mark (marks_of (stands_at s p) l)) < suc (length l) = rw q at w in
      rw q (ap₂ ◌∷◌ (arrive-elsewhere a q) (arrive-first l d (rw q at h) (omega arith))))

-- Records are as long as before, and so their pairs are the same.
pub length-arrive : (o : KeyOrder) (n : ℕ) (x : Stored) → length (record_of o (arrive n x)) ≡ length (record_of o x)
unfolding record_of value_bytes value_for
length-arrive o n x = simp (length-append, be-length)

pub length-arrive-at : (s : Subspace) (p : Components) (n : ℕ) (o : KeyOrder) (x : Stored) → length (record_of o (arrive_at s p n x)) ≡ length (record_of o x)
length-arrive-at s p n o x = split (stands_at s p x)
    (λ q. ap (λ (y : Stored). length (record_of o y)) (arrive-there s p n x q) ∙ length-arrive o n x)
    (λ q. ap (λ (y : Stored). length (record_of o y)) (arrive-elsewhere s p n x q))

pub pairs-kept : (o : KeyOrder) (g : Stored → Stored) → ((x : Stored) → length (record_of o (g x)) ≡ length (record_of o x)) → (l : List Stored) (a : ℕ)
    → pairs a (map (record_of o) (map g l)) ≡ pairs a (map (record_of o) l)
pairs-kept o g h [] a = refl
pairs-kept o g h (x ∷ l) a = rw (h x) (ap (λ (r : List ℕ). a ∷ length (record_of o x) ∷ r) (pairs-kept o g h l (a + length (record_of o x))))

pub joined-kept : (o : KeyOrder) (g : Stored → Stored) → ((x : Stored) → length (record_of o (g x)) ≡ length (record_of o x)) → (l : List Stored)
    → length (joined (map (record_of o) (map g l))) ≡ length (joined (map (record_of o) l))
joined-kept o g h [] = refl
joined-kept o g h (x ∷ l) = length-append (record_of o (g x)) _ ∙ ap₂ ◌+◌ (h x) (joined-kept o g h l) ∙ sym (length-append (record_of o x) _)

-- Entries that stay, in a list that is ordered by them.
pub order-kept : (g : Stored → Stored) → ((x : Stored) → (g x).entry ≡ x.entry) → (o : Triple → Triple → Order) (l : List Stored)
    → Ascends (below (on (λ (x : Stored). triple_of x.entry) o)) l → Ascends (below (on (λ (x : Stored). triple_of x.entry) o)) (map g l)
unfolding Ascends below
order-kept g h o [] a = tt
order-kept g h o (x ∷ l) a = (
  λ y m.
      let k = map-view g l m in
      ap₂ (λ (d e : Entry). is_less (o (triple_of d) (triple_of e))) (h x) (ap (λ (z : Stored). z.entry) k.2 ∙ h k.0) ∙ a.0 k.0 k.1,
  order-kept g h o l a.1,
)

-- What holds of one element alone, in a list that ascends strictly.
at_most_one : (less : Stored → Stored → Bool) → ((a : Stored) → less a a ≡ false) → (q : Stored → Bool) (l : List Stored) → Ascends less l
    → ((x y : Stored) → x ∈ l → y ∈ l → q x ≡ true → q y ≡ true → x ≡ y) → length (keep q l) ≤ 1
unfolding keep Ascends
at_most_one less irrefl q [] a h = omega arith
at_most_one less irrefl q (x ∷ l) a h = split (q x)
    (λ e.
    let none : keep q l ≡ [] = keep-none q l λ y m. refute (q y) λ g. clash (a.0 y m) (ap (less x) (h y x (there m) (here refl) g e) ∙ irrefl x) in
    rw (e, none) (omega arith))
    (λ e. rw e (at_most_one less irrefl q l a.1 λ y z m n. h y z (there m) (there n)))

pub map-set : {A B : Type 0} (g : A → B) (l : List A) (i : ℕ) (a : A) → map g (set l i a) ≡ set (map g l) i (g a)
map-set g [] i a = refl
map-set g (x ∷ l) zero a = refl
map-set g (x ∷ l) (suc i) a = ap (g x ∷◌) (map-set g l i a)

-- The first mark of a place is where it first stands.
pub stands-placed : {o : KeyOrder} {count : ℕ} {dir tree : List ℕ} (v : Formed o count dir tree) (ns : List ℕ) (s : Subspace) (p : Components) (k : ℕ)
    → Some k ≡ first_place (stands_at s p) (in_tree o ns count dir tree) → StandsFirst s p k (in_tree o ns count dir tree)
stands-placed v ns s p k e = let f = at_first v ns s p k e in record { inside = f.0; first = f.1 }

-- Lists that a store may hold stay so, where no available length is above the payload length.
module _ (f : Figures) {namespace : List ℕ} {limit : ℕ} {h : Held} (v : Fit f namespace limit h) (s : Subspace) (p : Components) where
  -- One place has one entry, in either tree.
  alone : (x y : Stored) → x ∈ h.spt → y ∈ h.spt → stands_at s p x ≡ true → stands_at s p y ≡ true → x ≡ y
  alone = only_one s p h.spt (places-once h.spt v.sound.spt_ascends v.sound.apart v.sound.named)

  pub single : (o : KeyOrder) → length (keep (stands_at s p) (list_of o h)) ≤ 1
  unfolding list_of
  single Spt = at_most_one spt_less (before-irrefl spt_order spt-linear) (stands_at s p) h.spt v.sound.spt_ascends alone
  single Tsp = at_most_one tsp_less (before-irrefl tsp_order tsp-linear) (stands_at s p) h.tsp v.sound.tsp_ascends λ x y m n. alone x y ((v.sound.both x).1 m) ((v.sound.both y).1 n)

  module _ (n : ℕ) where
    abbrev to : Stored → Stored
    to = arrive_at s p n

    entry_of : (x y : Stored) → y ≡ to x → y.entry ≡ x.entry
    entry_of x y e = ap (λ (z : Stored). z.entry) e ∙ arrive-entry s p n x

    both-kept : (l m : List Stored) → ((x : Stored) → x ∈ l → x ∈ m) → (x : Stored) → x ∈ map to l → x ∈ map to m
    both-kept l m g x i = let k = map-view to l i in subst (λ (y : Stored). y ∈ map to m) (sym k.2) (map-make to m (g k.0 k.1))

    pub sound-arrived : SoundHeld namespace (arrived_at s p n h)
    sound-arrived = record {
      spt_ascends = order-kept to (arrive-entry s p n) spt_order h.spt v.sound.spt_ascends;
      tsp_ascends = order-kept to (arrive-entry s p n) tsp_order h.tsp v.sound.tsp_ascends;
      both = λ x. (both-kept h.spt h.tsp (λ y. (v.sound.both y).0) x, both-kept h.tsp h.spt (λ y. (v.sound.both y).1) x);
      apart = λ x y i j.
          let k = map-view to h.spt i in
          let m = map-view to h.spt j in
          ap₂ prunes (entry_of k.0 x k.2) (entry_of m.0 y m.2) ∙ v.sound.apart k.0 m.0 k.1 m.1;
      named = λ x i. let k = map-view to h.spt i in ap (λ (e : Entry). e.namespace) (entry_of k.0 x k.2) ∙ v.sound.named k.0 k.1;
    }

    pub fit-arrived : any (exceeded s p n) h.spt ≡ false → Fit f namespace limit (arrived_at s p n h)
    unfolding exceeded
    fit-arrived e = record {
      sound = sound-arrived;
      proper = λ y i.
          let k = map-view to h.spt i in
          let x = k.0 in
          let q = v.proper x k.1 in
          let w = q.lawful in
          subst (Proper f) (sym k.2) (split (stands_at s p x)
          (λ t.
          let z : (stands_at s p x && ltb x.entry.rank.payload_length n) ≡ false = any_none (λ (y : Stored). stands_at s p y && ltb y.entry.rank.payload_length n) h.spt e k.1 in
          let m : n ≤ x.entry.rank.payload_length = ltb-false x.entry.rank.payload_length n (rw t at z) in
          let b = w.payload in
          subst (Proper f) (sym (arrive-there s p n x t)) (record {
            lawful = record { path = w.path; sized = w.sized; payload = w.payload; digest = w.digest; token = w.token; available = omega arith; session = w.session };
            available = m;
          }))
          (λ t. subst (Proper f) (sym (arrive-elsewhere s p n x t)) q));
      few = let l = v.few in omega (arith, length-map h.spt to);
    }
