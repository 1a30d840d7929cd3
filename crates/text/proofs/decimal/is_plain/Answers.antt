-- `is_plain` meets its contract. Assumes nothing.
use native.Mathlib.Omega.{arith}
use mathlib.Core.Path.{◌≡◌, ◌∙◌}
use lib.ListN.{length, get_or}
use Rattle.std.proofs.Common.{rules, tests}
use Rattle.text.proofs.DecimalLaws.{plain-none, plain-one, plain-zero, plain_more}
use Rattle.text.proofs.decimal.is_plain.Goals as goal
use Rattle.text.proofs.decimal.is_plain.Goals.{then-not-is_empty+then-s-eq1, then-not-is_empty+else-s-eq1, else-not-is_empty}

pub returns-then-s-ne48 : goal.returns-then-s-ne48
returns-then-s-ne48 c = c.all_digits.ensures ∙ elim c.if-not-is_empty.branch [
  | then-not-is_empty+then-s-eq1 w ↦ plain-one _ (λ z. omega (arith, w.if-s-eq1.true)) (omega (arith, w.if-s-eq1.true))
  | then-not-is_empty+else-s-eq1 w ↦
      let some : (length c.args.s.now ≡ 0 → ⊥) = search (rules, tests) in
      plain_more _ (omega (arith, some, w.if-s-eq1.false)) (search (rules, tests))
  | else-not-is_empty w ↦ search (rules, tests)
]

pub returns-else-s-ne48 : goal.returns-else-s-ne48
returns-else-s-ne48 c = elim c.if-not-is_empty.branch [
  | then-not-is_empty+then-s-eq1 w ↦ search (rules, tests)
  | then-not-is_empty+else-s-eq1 w ↦
      let some : (length c.args.s.now ≡ 0 → ⊥) = search (rules, tests) in
      let zero : get_or c.args.s.now 0 0 ≡ 48 = search (rules, tests) in
      c.if-s-ne48.false ∙ plain-zero _ (omega (arith, some, w.if-s-eq1.false)) zero
  | else-not-is_empty w ↦
      let none : length c.args.s.now ≡ 0 = search (rules, tests) in
      c.if-s-ne48.false ∙ plain-none _ none
]
