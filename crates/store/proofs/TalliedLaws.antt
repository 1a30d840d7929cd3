-- A store with its tally: what its tests say where they hold, which refusal comes of which, and the tally of the store that is left. Assumes nothing.
use Prim.Native.Nat.{ℕ, ◌≤◌, ◌/◌}
use mathlib.Core.Path.{◌≡◌, sym, ap, subst, ◌∙◌}
use mathlib.Core.List.{List}
use mathlib.Core.Bool.{Bool, true, ◌&&◌}
use native.Mathlib.Omega.{arith}
use lib.ListN.{length, take}
use lib.Seq.{length-take-le}
use lib.Dec.{leb}
use borrow.Author.Tests.{leb-true, le-leb}
use Rattle.laws.specs.Prefix.{same_number, same_list}
use Rattle.laws.proofs.Truth.{and-true, alike}
use Rattle.data_model.specs.Path.{field}
use Rattle.key_laws.specs.Bytes.{Bytes}
use Rattle.key_laws.proofs.Fits.{bytes_take}
use Rattle.tree.specs.Tree.{Ordered}
use Rattle.tree.specs.declared.stored.KeyOrder.{KeyOrder}
use Rattle.tree.specs.declared.stored.KeyOrder.TheVariants.{Spt, Tsp}
use Rattle.tally.specs.Tally.{item_length, tally_room, tally_in, tally_right, tally_holding}
use Rattle.store.specs.Store.{Store, store_of, limit_most, tree_room, dir_room, tree_of, dir_of, held, Held, held_by, holding, Tallied, tallied_of, tallied_holding}
use Rattle.store.specs.Refusal.{unless, store_refusal, tally_fits, tallied_refusal}
use Rattle.store.specs.Change.{in_tree}
use Rattle.store.specs.declared.state.State.{State}
use Rattle.store.proofs.Lifted.{Fit, list_of, bears-held, bears-well, holding-bears, holding-rooms}
use Rattle.store.proofs.WellStore.{held-fit}
use Rattle.store.proofs.CheckLaws.{or-none, Passed, passed, passed-make}

-- A multiple is within a number exactly if the factor is within the quotient.
pub tally-quotient : (n m : ℕ) → leb n (m / item_length) ≡ leb (tally_room n) m
tally-quotient n m = alike (leb n (m / item_length)) (leb (tally_room n) m)
    (λ e. let h = leb-true n (m / item_length) e in le-leb (tally_room n) m (omega arith))
    (λ e. let h = leb-true (tally_room n) m e in le-leb n (m / item_length) (omega arith))

-- What a store with its tally that was not refused is.
pub record TalliedPassed (w : Tallied) : Type 0 where
  pub passes : Passed w.store
  pub room : tally_room w.store.state.limit ≤ length w.tally

-- The store's tests held, and the tally has room.
pub fits-passed : (w : Tallied) (b : Bool) → store_refusal field w.store (tally_fits w && b) ≡ 0 → TalliedPassed w × (b ≡ true)
fits-passed w b e =
    let p = passed w.store (tally_fits w && b) e in
    let f = and-true (tally_fits w) b p.1 in
    (record { passes = p.0; room = leb-true (tally_room w.store.state.limit) (length w.tally) f.0 }, f.1)

pub tallied-passed : (w : Tallied) (b : Bool) → tallied_refusal field w b ≡ 0 → TalliedPassed w × (b ≡ true)
unfolding tallied_refusal
tallied-passed w b e =
    fits-passed w b (or-none (store_refusal field w.store (tally_fits w && b)) (unless (tally_right w.store.state.limit (held field Spt w.store) w.tally) 10) e).0

-- The store alone was not refused either, whatever else has room.
pub passed-alone : (w : Tallied) (b : Bool) → tallied_refusal field w b ≡ 0 → store_refusal field w.store b ≡ 0
unfolding tallied_refusal
passed-alone w b e =
    let k = (or-none (store_refusal field w.store (tally_fits w && b)) (unless (tally_right w.store.state.limit (held field Spt w.store) w.tally) 10) e).0 in
    let p = (passed w.store (tally_fits w && b) k).1 in
    subst (λ (c : Bool). store_refusal field w.store c ≡ 0) (p ∙ sym (and-true (tally_fits w) b p).1) k

-- The test of the tally in the limit's room is the definition's.
pub right-read : (w : Tallied) → tally_room w.store.state.limit ≤ length w.tally → (t : Bool)
    → ((ns : List ℕ) → t ≡ same_list same_number (take (tally_room w.store.state.limit) w.tally) (tally_in (length (take (tally_room w.store.state.limit) w.tally))
    (in_tree Spt ns w.store.state.count (dir_of Spt w.store) (tree_of field Spt w.store))))
    → t ≡ tally_right w.store.state.limit (held field Spt w.store) w.tally
unfolding tally_right held
right-read w l t e =
    e w.store.state.namespace_id
    ∙ ap (λ (n : ℕ). same_list same_number (take (tally_room w.store.state.limit) w.tally) (tally_in n (held field Spt w.store))) (length-take-le (tally_room w.store.state.limit) w.tally l)

-- In bytes, what a store that was tested holds may be held by it.
pub passed-fit : (s : Store) → Passed s → Bytes s.spt → Bytes s.tsp → Fit field s.state.namespace_id s.state.limit (held_by field s)
passed-fit s v b c = held-fit field s v.well bytes
  where
    bytes : (o : KeyOrder) → Bytes (tree_of field o s)
    bytes Spt = unfold tree_of in bytes_take (tree_room field s.state.limit) s.spt b
    bytes Tsp = unfold tree_of in bytes_take (tree_room field s.state.limit) s.tsp c

-- A store that was made to hold what it may hold: what writing its tally asks, and that the tally that is written is the one of what it holds.
module _ (w : Tallied) (v : TalliedPassed w) (h : Held) (fit : Fit field w.store.state.namespace_id w.store.state.limit h)
    (r : State) (a b c d : List ℕ) (g : store_of r a b c d ≡ holding field h w.store) where
  abbrev made : Store
  made = holding field h w.store

  made-passed : Passed made
  unfolding holding
  made-passed = passed-make made v.passes.least v.passes.most (holding-rooms field w.store h fit v.passes.room) (bears-well field made h fit (holding-bears field w.store h fit))

  left_passed : Passed (store_of r a b c d)
  left_passed = subst Passed (sym g) made-passed

  same-limit : r.limit ≡ w.store.state.limit
  unfolding holding
  same-limit = ap (λ (s : Store). s.state.limit) g

  pub retally-asks : Ordered Spt r.count (take (dir_room r.limit) b) (take (tree_room field r.limit) a) × (r.count ≤ r.limit) × (r.limit ≤ limit_most)
      × (tree_room field r.limit ≤ length a) × (dir_room r.limit ≤ length b) × (tally_room r.limit ≤ length w.tally)
  unfolding tree_of dir_of
  retally-asks =
      let p = left_passed in
      (p.ordered Spt, p.few, p.most, p.room.spt, p.room.spt_dir, subst (λ (n : ℕ). tally_room n ≤ length w.tally) (sym same-limit) v.room)

  made-says : held field Spt made ≡ h.spt
  unfolding holding list_of
  made-says = bears-held field made h fit (holding-bears field w.store h fit) Spt

  pub retallied : (t : List ℕ) → ((ns : List ℕ) → t ≡ tally_holding r.limit (in_tree Spt ns r.count (take (dir_room r.limit) b) (take (tree_room field r.limit) a)) w.tally)
      → tallied_of r a b c d t ≡ tallied_holding field h w
  unfolding held tree_of dir_of holding
  retallied t e =
      let q : t ≡ tally_holding w.store.state.limit h.spt w.tally =
      e r.namespace_id
      ∙ ap (λ (s : Store). tally_holding s.state.limit (held field Spt s) w.tally) g
      ∙ ap (λ (l : List _). tally_holding w.store.state.limit l w.tally) made-says in
      λ i. record { store = g i; tally = q i }
