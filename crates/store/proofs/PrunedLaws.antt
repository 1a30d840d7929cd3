-- The pairs of what an entry removes from a well-formed store. Assumes nothing.
use Prim.Native.Nat.{ℕ, ◌*◌, ◌≤◌}
use mathlib.Core.Path.{◌≡◌, sym, ap, ◌∙◌}
use mathlib.Core.List.{List}
use mathlib.Core.Bool.{true}
use native.Mathlib.Omega.{arith}
use lib.ListN.{length}
use lib.Dec.{leb}
use Rattle.laws.specs.Sorted.{keep}
use Rattle.laws.proofs.Truth.{and-true}
use Rattle.layout.specs.Layout.{records}
use Rattle.layout.specs.Marks.{marks_of, selected}
use Rattle.layout.proofs.MarkLaws.{length-marks, selected-marks, count-marks, length_marked, records-marked}
use Rattle.data_model.specs.Path.{Figures}
use Rattle.data_model.specs.Entry.{Entry}
use Rattle.tree.specs.Stored.{stored, contents}
use Rattle.tree.specs.Tree.{WellFormed}
use Rattle.tree.specs.Matching.{removes}
use Rattle.tree.specs.declared.stored.KeyOrder.TheVariants.{Spt}
use Rattle.tree.proofs.RecordLaws.{contents-length}
use Rattle.tree.proofs.ContentLaws.{contents-marks, contents-selected}
use Rattle.tree.proofs.WellFormedLaws.{well-formed}
use Rattle.store.specs.Store.{Store, tree_of, dir_of, held, well_formed_tree, well_formed_store}
use Rattle.store.specs.Ingest.{pruned_pairs, Pruned}

module _ (f : Figures) (s : Store) (w : well_formed_store f s ≡ true) (e : Entry) where
  abbrev recs : List (List ℕ)
  recs = records s.state.count (dir_of Spt s) (tree_of f Spt s)

  abbrev marks : List ℕ
  marks = marks_of (removes e) (held f Spt s)

  facts : WellFormed Spt f s.state.count (dir_of Spt s) (tree_of f Spt s)
  unfolding well_formed_store well_formed_tree
  facts = (well-formed Spt f s.state.count (dir_of Spt s) (tree_of f Spt s)).0 (and-true (well_formed_tree f Spt s) _ (and-true (leb s.state.count s.state.limit) _ w).1).0

  -- One mark for each pair.
  marks-many : length marks ≡ s.state.count
  unfolding held
  marks-many = length-marks (removes e) (held f Spt s) ∙ contents-length Spt f s.state.namespace_id recs ∙ facts.many

  marks-fit : 2 * length marks ≤ length (dir_of Spt s)
  marks-fit = let k = facts.few in let m = marks-many in omega arith

  number : length (pruned_pairs f s e) ≡ 2 * length (keep (removes e) (held f Spt s))
  unfolding pruned_pairs
  number = length_marked marks (dir_of Spt s) marks-fit ∙ ap (2 *◌) (count-marks (removes e) (held f Spt s))

  -- They cut out the marked records.
  cut-marked : records (length (keep (removes e) (held f Spt s))) (pruned_pairs f s e) (tree_of f Spt s) ≡ selected marks recs
  unfolding pruned_pairs
  cut-marked =
      ap (λ (n : ℕ). records n (pruned_pairs f s e) (tree_of f Spt s)) (sym (count-marks (removes e) (held f Spt s)))
      ∙ records-marked marks (dir_of Spt s) (tree_of f Spt s) marks-fit
      ∙ ap (λ (n : ℕ). selected marks (records n (dir_of Spt s) (tree_of f Spt s))) marks-many

  cut_out : records (length (keep (removes e) (held f Spt s))) (pruned_pairs f s e) (tree_of f Spt s) ≡ keep (λ (r : List ℕ). removes e (stored Spt f s.state.namespace_id r)) recs
  unfolding held
  cut_out =
      cut-marked
      ∙ ap (λ (ms : List ℕ). selected ms recs) (contents-marks Spt f s.state.namespace_id (removes e) recs)
      ∙ selected-marks (λ (r : List ℕ). removes e (stored Spt f s.state.namespace_id r)) recs

  entries : contents Spt f s.state.namespace_id (records (length (keep (removes e) (held f Spt s))) (pruned_pairs f s e) (tree_of f Spt s)) ≡ keep (removes e) (held f Spt s)
  unfolding held
  entries = ap (contents Spt f s.state.namespace_id) cut-marked ∙ contents-selected Spt f s.state.namespace_id marks recs ∙ selected-marks (removes e) (held f Spt s)

  pub pruned : Pruned f s e
  pruned = record { number = number; cut_out = cut_out; entries = entries }
