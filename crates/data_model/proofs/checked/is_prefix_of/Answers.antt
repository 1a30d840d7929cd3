-- `is_prefix_of` meets its contract. Assumes nothing.
use Prim.Native.Nat.{◌≤◌}
use mathlib.Core.Path.{◌≡◌, sym, ap, ◌∙◌}
use native.Mathlib.Omega.{arith}
use borrow.Author.Tests.{lt-leb}
use lib.ListN.{length}
use Rattle.laws.specs.Order.{is_same}
use Rattle.data_model.specs.Path.{field, components}
use Rattle.data_model.proofs.Values.{legal-count, legal-within, ends-take}
use Rattle.data_model.proofs.Derived.{tested_same}
use Rattle.data_model.proofs.Compare.{prefix-longer, prefix-cut}
use borrow.Author.Rules.{rules}
use Rattle.data_model.proofs.checked.is_prefix_of.Goals as goal
use Rattle.data_model.proofs.checked.is_prefix_of.Goals.{Start}

-- What the value's types say of its arrays.
p-bytes : (c : Start) → length c.args.p.bytes ≡ 128
p-bytes c = search rules

q-bytes : (c : Start) → length c.args.q.bytes ≡ 128
q-bytes c = search rules

p-few : (c : Start) → c.args.p.count ≤ length c.args.p.ends
p-few c =
    let n : length c.args.p.ends ≡ 8 = search rules in
    omega (arith, legal-count field c.args.p c.requires.0)

q-few : (c : Start) → c.args.q.count ≤ length c.args.q.ends
q-few c =
    let n : length c.args.q.ends ≡ 8 = search rules in
    omega (arith, legal-count field c.args.q c.requires.1)

pub shared_ref_as_front-compare_components : goal.shared_ref_as_front-compare_components
shared_ref_as_front-compare_components c = legal-count field c.args.p c.requires.0

pub compare_components-requires : goal.compare_components-requires
compare_components-requires c =
    let s = (goal.at.compare_components-requires c).Start in (
      legal-within field _ c.requires.0 (omega (arith, p-bytes s)) (omega (arith, p-bytes s)),
      ends-take _ _ 0 c.args.p.count c.args.q.count c.args.q.ends (omega arith) (legal-within field _ c.requires.1 (omega (arith, q-bytes s)) (omega (arith, q-bytes s))),
    )

pub returns-then-p-q : goal.returns-then-p-q
unfolding components
returns-then-p-q c =
    let s = (goal.at.returns-then-p-q c).Start in
    c.eq.ensures
    ∙ tested_same c.compare_components.result
    ∙ ap is_same c.compare_components.ensures
    ∙ sym (prefix-cut c.args.p c.args.q (p-few s) (q-few s) (omega arith))

pub returns-else-p-q : goal.returns-else-p-q
returns-else-p-q c =
    let s = (goal.at.returns-else-p-q c).Start in
    lt-leb _ _ (omega arith) ∙ sym (prefix-longer c.args.p c.args.q (p-few s) (q-few s) (omega arith))
