-- `count_fields` meets its contract. Assumes nothing.
use Rattle.std.proofs.Common.{◌≡◌, [], ◌+◌, drop, ℕ, rules}
use native.Mathlib.Omega.{arith}
use lib.Dec.{eqb}
use lib.ListN.{drop_of_length-le}
use Rattle.std.specs.List.{count_by}
use Rattle.text.proofs.FieldLaws.{fields-count}
use Rattle.text.proofs.line.count_fields.Goals as goal

pub returns : goal.returns
returns c =
    let s = c.args.s.now in
    let l = c.loop-b in
    let none : drop l.b-index s ≡ [] = drop_of_length-le s (omega (arith, l.auto.b-index-end, c.loop-b-test.false)) in
    let all : l.n + 0 ≡ count_by (λ b. eqb b c.args.sep) s + 1 = rw none at l.invariant in
    omega (arith, all, fields-count c.args.sep s)
