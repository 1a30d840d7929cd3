-- `cmp` meets its contract. Assumes nothing.
use mathlib.Core.Path.{◌≡◌}
use native.Mathlib.Omega.{arith}
use lib.ListN.{length}
use Rattle.data_model.specs.Path.{field, components}
use Rattle.data_model.proofs.Values.{legal-count, legal-within}
use borrow.Author.Rules.{rules}
use Rattle.data_model.proofs.checked.cmp.Goals as goal
use Rattle.data_model.proofs.checked.cmp.Goals.{Start}

-- What the value's types say of its arrays.
p-bytes : (c : Start) → length c.args.p.bytes ≡ 128
p-bytes c = search rules

q-bytes : (c : Start) → length c.args.q.bytes ≡ 128
q-bytes c = search rules

pub shared_ref_as_front-compare_components : goal.shared_ref_as_front-compare_components
shared_ref_as_front-compare_components c = legal-count field c.args.p c.requires.0

pub shared_ref_as_front-compare_components-2 : goal.shared_ref_as_front-compare_components-2
shared_ref_as_front-compare_components-2 c = legal-count field c.args.q c.requires.1

pub compare_components-requires : goal.compare_components-requires
compare_components-requires c =
    let s = (goal.at.compare_components-requires c).Start in
    (legal-within field _ c.requires.0 (omega (arith, p-bytes s)) (omega (arith, p-bytes s)), legal-within field _ c.requires.1 (omega (arith, q-bytes s)) (omega (arith, q-bytes s)))

pub returns : goal.returns
unfolding components
returns c = c.compare_components.ensures
