-- The tally does not depend on the order of the entries: two lists of the same members, as many of each subspace, have one tally. Assumes nothing.
use mathlib.Core.Path.{◌≡◌, sym, ap, subst, ◌∙◌}
use mathlib.Core.Logic.{◌↔◌}
use mathlib.Core.List.{List}
use native.Mathlib.Omega.{arith}
use lib.ListN.{length}
use Rattle.laws.specs.Sorted.{◌∈◌, keep}
use Rattle.laws.proofs.Order.{below-strict}
use Rattle.laws.proofs.Sorted.{ascends-unique}
use Rattle.data_model.specs.Subspace.{by_subspace}
use Rattle.data_model.specs.declared.parameters.Subspace.{Subspace}
use Rattle.data_model.proofs.Orders.{subspace-linear}
use Rattle.tree.specs.Stored.{Stored}
use Rattle.tally.specs.Tally.{tally_of, item_below}
use Rattle.tally.specs.declared.item.Item.{Item}
use Rattle.tally.proofs.TallyLaws.{is_of, tally-said}

-- The same members, and as many of each subspace.
pub record AsMany (l m : List Stored) : Type 0 where
  pub members : (x : Stored) → x ∈ l ↔ x ∈ m
  pub many : (s : Subspace) → length (keep (is_of s) l) ≡ length (keep (is_of s) m)

item_in : (l m : List Stored) → AsMany l m → (i : Item) → i ∈ tally_of l → i ∈ tally_of m
item_in l m h i n =
    let v = tally-said l in
    let w = tally-said m in
    let x = v.newest i n in
    let y = (w.subspaces i.subspace).1 (x.0, (h.members x.0).0 x.1, x.2) in
    let j : Item = y.0 in
    let z = w.newest j y.1 in
    let up = w.none_later j y.1 x.0 ((h.members x.0).0 x.1) (x.2 ∙ sym y.2) in
    let down = v.none_later i n z.0 ((h.members z.0).1 z.1) (z.2 ∙ y.2) in
    let newest : i.newest ≡ j.newest = omega (arith, x.3, z.3) in
    let count : i.count ≡ j.count
    = v.counts i n ∙ h.many i.subspace ∙ ap (λ (s : Subspace). length (keep (is_of s) m)) (sym y.2) ∙ sym (w.counts j y.1) in
    let q : i ≡ j = λ d. record { subspace = sym y.2 d; count = count d; newest = newest d } in
    subst (◌∈ tally_of m) (sym q) y.1

pub one-tally : (l m : List Stored) → AsMany l m → tally_of l ≡ tally_of m
one-tally l m h =
    let strict = below-strict by_subspace subspace-linear in
    ascends-unique item_below (λ i j k. strict.trans i.subspace j.subspace k.subspace) (λ i. strict.irrefl i.subspace)
    (tally_of l) (tally_of m) (tally-said l).ascends (tally-said m).ascends
    λ i. (item_in l m h i, item_in m l (record { members = λ x. ((h.members x).1, (h.members x).0); many = λ s. sym (h.many s) }) i)
