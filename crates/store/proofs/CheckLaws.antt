-- The tests that every call on a store begins with, as facts: what they say where they hold, and which refusal comes of which. Assumes
-- nothing.
use Prim.Native.Nat.{ℕ, ◌*◌, ◌≤◌, ◌<◌, ◌^◌, ◌/◌}
use mathlib.Core.Path.{◌≡◌, refl, sym, ap₂, ◌∙◌}
use mathlib.Core.List.{List}
use mathlib.Core.Bool.{Bool, true, false, not, ◌&&◌}
use native.Mathlib.Omega.{arith}
use lib.ListN.{length}
use lib.Seq.{length-take-le}
use lib.Dec.{leb, eqb}
use borrow.Author.Tests.{leb-true, le-leb, lt-leb, eq-eqb, eqb-true}
use Rattle.laws.proofs.Truth.{split, clash, and-true, not-true, not-false, alike}
use Rattle.layout.specs.Layout.{records}
use Rattle.data_model.specs.Path.{field}
use Rattle.data_model.specs.Refusal.{refusal_number}
use Rattle.data_model.specs.declared.answer.Refusal.{Refusal}
use Rattle.data_model.specs.declared.answer.Refusal.TheVariants as refusal
use Rattle.key_laws.specs.Bytes.{Bytes}
use Rattle.tree.specs.Stored.{contents}
use Rattle.tree.specs.Tree.{well_formed, Formed, Ordered, Whole, within}
use Rattle.tree.specs.Apart.{no_address_twice, none_prunes}
use Rattle.tree.specs.declared.stored.KeyOrder.{KeyOrder}
use Rattle.tree.specs.declared.stored.KeyOrder.TheVariants.{Spt, Tsp}
use Rattle.tree.proofs.FormedLaws.{well-formed-tree, well-ordered, well-whole}
use Rattle.tree.proofs.AgreeLaws.{within-make, trees-agree}
use Rattle.store.specs.Store.{Store, limit_most, tree_room, dir_room, tree_of, dir_of, held, well_formed_tree, same_entries, well_formed_trees, well_formed_store, record_most}
use Rattle.store.proofs.Lifted.{Rooms, rooms}
use Rattle.store.specs.Refusal.{unless, ◌or_else◌, limit_ok, roomy, store_refusal}

-- What a test function answers, of its definition.
pub holds : {t b : Bool} → t ≡ b → not t ≡ false → b ≡ true
holds {t} q n = sym q ∙ not-false t n

pub fails : {t b : Bool} → t ≡ b → not t ≡ true → b ≡ false
fails {t} q n = sym q ∙ not-true t n

-- A multiple is within a number exactly if the factor is within the quotient.
pub tree-quotient : (n m : ℕ) → leb n (m / record_most field) ≡ leb (tree_room field n) m
tree-quotient n m = alike (leb n (m / record_most field)) (leb (tree_room field n) m)
    (λ e. let h = leb-true n (m / record_most field) e in le-leb (tree_room field n) m (omega arith))
    (λ e. let h = leb-true (tree_room field n) m e in le-leb n (m / record_most field) (omega arith))

pub dir-quotient : (n m : ℕ) → leb n (m / 2) ≡ leb (dir_room n) m
dir-quotient n m = alike (leb n (m / 2)) (leb (2 * n) m)
    (λ e. let h = leb-true n (m / 2) e in le-leb (2 * n) m (omega arith))
    (λ e. let h = leb-true (2 * n) m e in le-leb n (m / 2) (omega arith))

-- A limit is from 1 to the most.
pub limit-low : (n : ℕ) → n < 1 → false ≡ limit_ok n
unfolding limit_ok
limit-low n h = simp (lt-leb 1 n h)

pub limit-high : (n : ℕ) → 1 ≤ n → leb n limit_most ≡ limit_ok n
unfolding limit_ok
limit-high n h = simp (le-leb 1 n h)

pub limit-most : (n : ℕ) → limit_ok n ≡ true → (1 ≤ n) × (n ≤ limit_most)
unfolding limit_ok
limit-most n e = let k = and-true (leb 1 n) (leb n limit_most) e in (leb-true 1 n k.0, leb-true n limit_most k.1)

-- Of two trees that were tested the one is within the other exactly if they say the same.
pub trees-same : {count : ℕ} {dir tree dir' tree' : List ℕ} (ns : List ℕ) → Ordered Spt count dir tree → Formed Tsp count dir' tree' → Bytes tree → Bytes tree'
    → within (contents Spt field ns (records count dir tree)) (contents Tsp field ns (records count dir' tree'))
    ≡ same_entries (contents Spt field ns (records count dir tree)) (contents Tsp field ns (records count dir' tree'))
unfolding same_entries
trees-same {count} {dir} {tree} {dir'} {tree'} ns v w b b' =
    let l = contents Spt field ns (records count dir tree) in
    let m = contents Tsp field ns (records count dir' tree') in
    alike (within l m) (within l m && within m l)
    (λ e. ap₂ ◌&&◌ e (within-make m l λ x. ((trees-agree ns v w b b').0 e x).1))
    (λ e. (and-true (within l m) (within m l) e).0)

-- The store's test, from that of its trees in their rooms.
module _ (s : Store) where
  pub store_many : s.state.limit < s.state.count → false ≡ well_formed_store field s
  unfolding well_formed_store
  store_many h = simp (lt-leb s.state.count s.state.limit h)

  pub store-well : s.state.count ≤ s.state.limit → (t : Bool)
      → t ≡ well_formed_trees field s.state.namespace_id s.state.count (tree_of field Spt s) (dir_of Spt s) (tree_of field Tsp s) (dir_of Tsp s) → t ≡ well_formed_store field s
  unfolding well_formed_store well_formed_tree held well_formed_trees
  store-well h t e = simp (le-leb s.state.count s.state.limit h) e

-- The number of a refusal is not 0: the first of two refusals is this one.
pub number-some : (r : Refusal) → eqb (refusal_number r) 0 ≡ false
number-some refusal.BadLimit = refl
number-some refusal.ShortBuffer = refl
number-some refusal.NotWellFormed = refl
number-some refusal.IllegalPath = refl
number-some refusal.NoKey = refl
number-some refusal.OtherNamespace = refl
number-some refusal.PruningPrevented = refl
number-some refusal.Full = refl
number-some refusal.OtherDigest = refl
number-some refusal.WrongTally = refl
number-some refusal.AbsentEntry = refl
number-some refusal.TooMuchAvailable = refl

pub early : (r : Refusal) (m n : ℕ) → refusal_number r ≡ m → refusal_number r ≡ m or_else n
unfolding ◌or_else◌
early r m n e = rw (← e, number-some r)

-- No refusal: each test held.
pub or-none : (m n : ℕ) → m or_else n ≡ 0 → (m ≡ 0) × (n ≡ 0)
unfolding ◌or_else◌
or-none m n e = split (eqb m 0)
    (λ q. (eqb-true m 0 q, rw q at e))
    (λ q. let z : m ≡ 0 = rw q at e in clash (eq-eqb m 0 z) q)

pub unless-none : (b : Bool) (k : ℕ) → 0 < k → unless b k ≡ 0 → b ≡ true
unfolding unless
unless-none b k h e = split b (λ q. q) (λ q. let z : k ≡ 0 = rw q at e in absurd (omega arith))

-- What a store that was not refused is.
pub record Passed (s : Store) : Type 0 where
  pub least : 1 ≤ s.state.limit
  pub most : s.state.limit ≤ limit_most
  pub few : s.state.count ≤ s.state.limit
  pub room : Rooms field s
  pub well : well_formed_store field s ≡ true
  pub formed : (o : KeyOrder) → Formed o s.state.count (dir_of o s) (tree_of field o s)
  pub ordered : (o : KeyOrder) → Ordered o s.state.count (dir_of o s) (tree_of field o s)
  pub whole : (o : KeyOrder) → Whole o s.state.count (dir_of o s) (tree_of field o s)
  pub same : same_entries (held field Spt s) (held field Tsp s) ≡ true
  pub once : no_address_twice (held field Spt s) ≡ true
  pub apart : none_prunes (held field Spt s) ≡ true

module _ (s : Store) where
  well-parts : well_formed_store field s ≡ true
      → (s.state.count ≤ s.state.limit) × (well_formed_tree field Spt s ≡ true) × (well_formed_tree field Tsp s ≡ true)
      × (same_entries (held field Spt s) (held field Tsp s) ≡ true) × (no_address_twice (held field Spt s) ≡ true) × (none_prunes (held field Spt s) ≡ true)
  unfolding well_formed_store
  well-parts w =
      let e = same_entries (held field Spt s) (held field Tsp s) in
      let d = no_address_twice (held field Spt s) in
      let p = none_prunes (held field Spt s) in
      let k1 = and-true (leb s.state.count s.state.limit) (well_formed_tree field Spt s && (well_formed_tree field Tsp s && (e && (d && p)))) w in
      let k2 = and-true (well_formed_tree field Spt s) (well_formed_tree field Tsp s && (e && (d && p))) k1.1 in
      let k3 = and-true (well_formed_tree field Tsp s) (e && (d && p)) k2.1 in
      let k4 = and-true e (d && p) k3.1 in
      let k5 = and-true d p k4.1 in
      (leb-true s.state.count s.state.limit k1.0, k2.0, k3.0, k4.0, k5.0, k5.1)

  pub room_small : s.state.limit ≤ limit_most → Rooms field s → (o : KeyOrder) → length (tree_of field o s) < 2 ^ 32
  unfolding tree_of
  room_small m r Spt = let l = r.spt in omega (arith, length-take-le (tree_room field s.state.limit) s.spt l)
  room_small m r Tsp = let l = r.tsp in omega (arith, length-take-le (tree_room field s.state.limit) s.tsp l)

  tree-well : well_formed_store field s ≡ true → (o : KeyOrder) → well_formed o field s.state.count (dir_of o s) (tree_of field o s) ≡ true
  unfolding well_formed_tree
  tree-well w Spt = (well-parts w).1
  tree-well w Tsp = (well-parts w).2

  pub passed-make : 1 ≤ s.state.limit → s.state.limit ≤ limit_most → Rooms field s → well_formed_store field s ≡ true → Passed s
  passed-make l m g w =
      let p = well-parts w in
      record {
        least = l;
        most = m;
        few = p.0;
        room = g;
        well = w;
        formed = λ o. well-formed-tree (room_small m g o) (tree-well w o);
        ordered = λ o. well-ordered (room_small m g o) (tree-well w o);
        whole = λ o. well-whole (room_small m g o) (tree-well w o);
        same = p.3;
        once = p.4;
        apart = p.5;
      }

  pub passed : (b : Bool) → store_refusal field s b ≡ 0 → Passed s × (b ≡ true)
  unfolding store_refusal
  passed b e =
      let k1 = or-none (unless (limit_ok s.state.limit) 1) (unless (roomy field s.state.limit s && b) 2 or_else unless (well_formed_store field s) 3) e in
      let k2 = or-none (unless (roomy field s.state.limit s && b) 2) (unless (well_formed_store field s) 3) k1.1 in
      let l = limit-most s.state.limit (unless-none (limit_ok s.state.limit) 1 (omega arith) k1.0) in
      let r = and-true (roomy field s.state.limit s) b (unless-none (roomy field s.state.limit s && b) 2 (omega arith) k2.0) in
      (passed-make l.0 l.1 (rooms field s r.0) (unless-none (well_formed_store field s) 3 (omega arith) k2.1), r.1)

-- So each buffer may be cut to the limit's room.
pub cut-asks : (s : Store) → Passed s → (limit_ok s.state.limit ≡ true) × (roomy field s.state.limit s ≡ true)
unfolding limit_ok roomy
cut-asks s v =
    let r = v.room in (
      simp (le-leb 1 s.state.limit v.least, le-leb s.state.limit limit_most v.most),
      simp (le-leb (tree_room field s.state.limit) (length s.spt) r.spt, le-leb (dir_room s.state.limit) (length s.spt_dir) r.spt_dir, le-leb (tree_room field s.state.limit) (length s.tsp) r.tsp, le-leb (dir_room s.state.limit) (length s.tsp_dir) r.tsp_dir),
    )
