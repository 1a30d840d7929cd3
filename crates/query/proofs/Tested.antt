-- The tests that every call that only reads begins with: which refusal comes of which, what is known where nothing is refused, and the
-- answer of each call, refused or not, by what its inner function answers. Assumes nothing.
use Prim.Native.Nat.{ℕ}
use mathlib.Core.Path.{◌≡◌, refl}
use mathlib.Core.List.{List}
use mathlib.Core.Bool.{Bool, true, ◌&&◌}
use native.Mathlib.Omega.{arith}
use lib.ListN.{length}
use Rattle.laws.specs.Sorted.{keep}
use Rattle.data_model.specs.Said.{refuses, says}
use Rattle.data_model.specs.Path.{field, legal, components}
use Rattle.data_model.specs.Area.{area_range, area_range_answer, empty_range}
use Rattle.data_model.specs.declared.path.Path.{Path}
use Rattle.data_model.specs.declared.parameters.Subspace.{Subspace}
use Rattle.data_model.specs.declared.area.Area.{Area}
use Rattle.data_model.specs.declared.area_of_interest.AreaOfInterest.{AreaOfInterest}
use Rattle.tree.specs.Stored.{Stored}
use Rattle.data_model.specs.declared.query_ignore_params.QueryIgnoreParams.{QueryIgnoreParams}
use Rattle.tree.specs.declared.stored.KeyOrder.TheVariants.{Spt, Tsp}
use Rattle.tree.specs.declared.stored.KeyOrder.{KeyOrder}
use Rattle.laws.proofs.Truth.{and-true}
use Rattle.store.specs.Store.{well_formed_store, Store, tree_of, dir_of, held}
use Rattle.store.specs.Refusal.{unless, ◌or_else◌, limit_ok, roomy, store_refusal}
use Rattle.store.specs.Change.{in_tree}
use Rattle.store.proofs.CheckLaws.{or-none, unless-none, Passed, passed, number-some}
use Rattle.query.specs.Reading.{read_refusal, area_refusal, is_remembered, list_refusal}
use Rattle.data_model.specs.Refusal.{refusal_number}
use Rattle.data_model.specs.declared.answer.Refusal.{Refusal}
use Rattle.data_model.specs.declared.range_3d.Range3d.{Range3d}
use Rattle.query.specs.Count.{counted}
use Rattle.query.specs.Lookup.{not_found, found_in, entry_found}
use Rattle.query.specs.Interest.{interest_time, starting_at, interest_range}
use Rattle.query.specs.Lookup.{EntryFound}

-- Where a first test refuses nothing, two refuse what the second does.
pub second_refused : (m n k : ℕ) → 0 ≡ m → k ≡ n → k ≡ (m or_else n)
unfolding ◌or_else◌
second_refused m n k e f = rw (← e) f

pub read-tested : (s : Store) (b : Bool) → read_refusal field s b ≡ 0 → Passed s × (b ≡ true)
unfolding read_refusal
read-tested s b z = let k = or-none (store_refusal field s true) (unless b 4) z in ((passed s true k.0).0, unless-none b 4 (omega arith) k.1)

-- A step of a listing: the same, and then the key that it remembers.
pub list-tested : (s : Store) (b : Bool) (last : List ℕ) → list_refusal field s b last ≡ 0 → Passed s × (b ≡ true) × (is_remembered field last ≡ true)
unfolding list_refusal
list-tested s b last z =
    let k = or-none (read_refusal field s b) (unless (is_remembered field last) 5) z in
    let r = read-tested s b k.0 in
    (r.0, r.1, unless-none (is_remembered field last) 5 (omega arith) k.1)

-- Nothing is refused.
pub store-passes : (s : Store) → limit_ok s.state.limit ≡ true → roomy field s.state.limit s ≡ true → well_formed_store field s ≡ true → 0 ≡ store_refusal field s true
unfolding store_refusal unless ◌or_else◌
store-passes s l m n = rw (l, m, n) refl

pub read-passes : (s : Store) (paths : Bool) → 0 ≡ store_refusal field s true → paths ≡ true → 0 ≡ read_refusal field s paths
unfolding read_refusal unless
read-passes s paths e l = second_refused (store_refusal field s true) _ 0 e (rw l refl)

pub list-passes : (s : Store) (paths : Bool) (last : List ℕ) → 0 ≡ read_refusal field s paths → is_remembered field last ≡ true → 0 ≡ list_refusal field s paths last
unfolding list_refusal unless
list-passes s paths last e k = second_refused (read_refusal field s paths) _ 0 e (rw k refl)

-- A store that is not refused can be cut to its limit's room.
pub cuts : (s : Store) (b : Bool) → read_refusal field s b ≡ 0 → (limit_ok s.state.limit ≡ true) × (roomy field s.state.limit s ≡ true)
unfolding read_refusal store_refusal
cuts s b z =
    let k = or-none (store_refusal field s true) (unless b 4) z in
    let l = or-none (unless (limit_ok s.state.limit) 1) _ k.0 in
    let m = or-none (unless (roomy field s.state.limit s && true) 2) _ l.1 in
    (unless-none _ 1 (omega arith) l.0, (and-true _ true (unless-none _ 2 (omega arith) m.0)).0)

pub list-cuts : (s : Store) (b : Bool) (last : List ℕ) → list_refusal field s b last ≡ 0 → (limit_ok s.state.limit ≡ true) × (roomy field s.state.limit s ≡ true)
unfolding list_refusal
list-cuts s b last z = cuts s b (or-none (read_refusal field s b) (unless (is_remembered field last) 5) z).0

-- The entries of a tree, as the inner functions have them.
abbrev pub tree_in : KeyOrder → Store → List Stored
tree_in o s = in_tree o s.state.namespace_id s.state.count (dir_of o s) (tree_of field o s)

-- What the calls answer, refused or not.
module _ (s : Store) (b : Bool) (test : Stored → Bool) where
  pub count_refused : (r : Refusal) → refusal_number r ≡ read_refusal field s b → record { refusal = refusal_number r; count = 0 } ≡ counted field s (read_refusal field s b) test
  unfolding counted
  count_refused r e = rw (← e, number-some r)

  pub count-done : 0 ≡ read_refusal field s b → (m : ℕ) → m ≡ length (keep test (tree_in Spt s)) → record { refusal = 0; count = m } ≡ counted field s (read_refusal field s b) test
  unfolding counted held
  count-done z m em = rw (← z, em)

module _ (s : Store) (subspace : Subspace) (path : Path) (ignore : QueryIgnoreParams) where
  pub entry_refused : (r : Refusal) → refusal_number r ≡ read_refusal field s (legal field path) → not_found (refusal_number r) ≡ entry_found field s subspace path ignore
  unfolding entry_found
  entry_refused r e = rw (← e, number-some r)

  pub entry-done : 0 ≡ read_refusal field s (legal field path) → (r : EntryFound) → r ≡ found_in subspace (components path) ignore (tree_in Spt s) → r ≡ entry_found field s subspace path ignore
  unfolding entry_found held
  entry-done z r er = rw (← z) er

module _ (s : Store) (a : AreaOfInterest) where
  pub interest_refused : (r : Refusal) → refusal_number r ≡ area_refusal field s a.area → record { refusal = refusal_number r; range = empty_range } ≡ interest_range field s a
  unfolding interest_range
  interest_refused r e = rw (← e, number-some r)

  pub interest-done : 0 ≡ area_refusal field s a.area → (time : ℕ) → time ≡ interest_time a (tree_in Tsp s) → (r : Range3d) → r ≡ area_range field a.area
      → record { refusal = 0; range = starting_at time r } ≡ interest_range field s a
  unfolding interest_range held
  interest-done z time et r er = rw (← z, er, ← et)

-- An area whose path is legal has its range.
pub range_is : (area : Area) → legal field area.path ≡ true → (r : Range3d) → says r ≡ area_range_answer field area → r ≡ area_range field area
unfolding area_range_answer
range_is area l r e = let w : says r ≡ says (area_range field area) = rw l at e in cc

pub range_given : {G : Type 0} (area : Area) → legal field area.path ≡ true → (n : ℕ) → refuses n ≡ area_range_answer field area → G
unfolding area_range_answer
range_given area l n e = absurd (let w : refuses n ≡ says (area_range field area) = rw l at e in let z : ◌≡◌ {A = ℕ} 0 1 = cc in omega arith)
