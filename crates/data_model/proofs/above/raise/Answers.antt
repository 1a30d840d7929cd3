-- `raise` meets its contract. Assumes nothing.
use mathlib.Core.Path.{◌≡◌, sym}
use native.Mathlib.Omega.{arith}
use lib.ListN.{length, take}
use lib.Seq.{length-take-le}
use Rattle.data_model.proofs.Raise.{front-more}
use borrow.Author.Rules.{rules}
use Rattle.data_model.proofs.above.raise.Goals as goal
use Rattle.data_model.proofs.above.raise.Goals.{Start}

-- What the value's types say of its arrays.
p-bytes : (c : Start) → length c.args.p.bytes ≡ 128
p-bytes c = search rules

p-ends : (c : Start) → length c.args.p.ends ≡ 8
p-ends c = search rules

pub returns : goal.returns
returns c =
    let a = c.args in
    front-more _ (take a.e a.p.bytes) (take a.n a.p.ends) _ _ _ _ c.front-r.ensures
    (sym (length-take-le a.e a.p.bytes (omega (arith, p-bytes (goal.at.returns c).Start, c.requires.1))))
    (sym (length-take-le a.n a.p.ends (omega (arith, p-ends (goal.at.returns c).Start, c.requires.0))))
    c.requires.1
    c.requires.0
