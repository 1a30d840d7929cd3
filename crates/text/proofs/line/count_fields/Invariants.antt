-- `count_fields` meets its contract: the bytes that part fields, those before and those that are left. Assumes nothing.
use Rattle.std.proofs.Common.{◌≡◌, ◌+◌, drop}
use lib.Dec.{eqb}
use Rattle.std.specs.List.{count_by}
use Rattle.text.proofs.line.count_fields.Given as goal

abbrev pub invariant-loop-b : goal.invariant-loop-b
invariant-loop-b l = l.n + count_by (λ b. eqb b l.sep) (drop l.b-index l.s) ≡ count_by (λ b. eqb b l.sep) l.s + 1
