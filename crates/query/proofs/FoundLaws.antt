-- What is found at a place by the first that stands there. Assumes nothing.
use Prim.Native.Nat.{ℕ}
use mathlib.Core.Path.{◌≡◌, sym, ap, ◌∙◌}
use mathlib.Core.List.{List}
use mathlib.Core.Bool.{Bool}
use mathlib.Core.Option.{some}
use native.Mathlib.Omega.{arith}
use Rattle.std.proofs.Common.{Some, None, Ok}
use Rattle.std.specs.Bool.{then_some}
use lib.ListN.{get_or}
use Rattle.laws.specs.First.{first_that}
use Rattle.laws.proofs.Truth.{split}
use Rattle.layout.specs.Layout.{record_at}
use Rattle.data_model.specs.Path.{Components, field}
use Rattle.data_model.specs.declared.parameters.Subspace.{Subspace}
use Rattle.tree.specs.Stored.{stored, lengthy, stored_of}
use Rattle.tree.specs.Tree.{Formed}
use Rattle.tree.specs.Matching.{stands_at, let_through}
use Rattle.data_model.specs.declared.query_ignore_params.QueryIgnoreParams.{QueryIgnoreParams}
use Rattle.tree.specs.declared.stored.KeyOrder.{KeyOrder}
use Rattle.tree.specs.declared.stored.LengthyAuthorisedEntry.{LengthyAuthorisedEntry}
use Rattle.store.specs.Change.{in_tree, first_place}
use Rattle.store.proofs.IngestLaws.{first_absent, first-at}
use Rattle.store.proofs.ForgetLaws.{none_first, at_first, is-first}
use Rattle.query.specs.Lookup.{entry_told, not_found, found_of, found_in}

-- The place of the first that stands at one: none does, or the one at the place.
module _ {o : KeyOrder} {count : ℕ} {dir tree : List ℕ} (v : Formed o count dir tree) (ns : List ℕ) (s : Subspace) (p : Components) (ignore : QueryIgnoreParams) where
  pub found_none : None ≡ first_place (stands_at s p) (in_tree o ns count dir tree) → not_found 0 ≡ found_in s p ignore (in_tree o ns count dir tree)
  unfolding found_of
  found_none e = sym (ap (found_of ignore) (first_absent (stands_at s p) (in_tree o ns count dir tree) (none_first v ns s p e)))

  module _ (k : ℕ) (e : Some k ≡ first_place (stands_at s p) (in_tree o ns count dir tree)) (a : LengthyAuthorisedEntry) (ea : a ≡ lengthy (stored o field ns (record_at k dir tree)))
      (es : stored_of a ≡ stored o field ns (record_at k dir tree)) (t : Bool) (et : t ≡ let_through ignore (stored_of a)) where
    first-is : first_that (stands_at s p) (in_tree o ns count dir tree) ≡ some (stored o field ns (record_at k dir tree))
    first-is =
        let l = in_tree o ns count dir tree in
        let x = stored o field ns (record_at k dir tree) in
        let f = at_first v ns s p k e in
        first-at (stands_at s p) l x (omega (arith, f.0, f.1)) ∙ ap some (ap (λ (j : ℕ). get_or l j x) (sym f.1) ∙ is-first v ns s p k e)

    through : let_through ignore (stored o field ns (record_at k dir tree)) ≡ t
    through = ap (let_through ignore) (sym es) ∙ sym et

    pub found-one : entry_told (Ok (then_some t a)) ≡ found_in s p ignore (in_tree o ns count dir tree)
    unfolding found_of
    found-one = split t (λ w. rw (first-is, through, w, ea)) (λ w. rw (first-is, through, w))
