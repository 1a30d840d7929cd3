-- `write_spaced` meets its contract: a store behind the digits. Assumes nothing.
use native.Mathlib.Omega.{arith}
use Prim.Native.Nat.{ℕ}
use mathlib.Core.Path.{◌≡◌, ap, ◌∙◌}
use mathlib.Core.List.{List}
use lib.ListN.{length, set, length-append}
use Rattle.laws.proofs.Lists.{put-snoc}
use Rattle.text.specs.EntryLine.{space}
use Rattle.text.specs.Decimal.{decimal_text}
use Rattle.text.proofs.LineLaws.{decimal-most}
use borrow.Author.Rules.{rules}
use Rattle.text.proofs.entry_line.write_spaced.Goals as goal

pub bounds-out-n : goal.bounds-out-n
bounds-out-n c = let z : length c.write_number-n.new.out ≡ length c.args.out.now = search rules in omega (arith, z, c.write_number-n.ensures.0, decimal-most c.args.x)

pub overflow_add-result : goal.overflow_add-result
overflow_add-result c = let z : length c.write_number-n.new.out ≡ length c.args.out.now = search rules in omega (arith, z, c.write_number-n.ensures.0, decimal-most c.args.x)

pub returns : goal.returns
returns c =
    let z : length c.write_number-n.new.out ≡ length c.args.out.now = search rules in
    (simp length-append (omega (arith, c.write_number-n.ensures.0)), omega (arith, z, c.write_number-n.ensures.0, decimal-most c.args.x), ap (λ (o : List ℕ). set o c.write_number-n.result space) c.write_number-n.ensures.1 ∙ put-snoc (decimal_text c.args.x) c.args.out.now c.write_number-n.result space c.write_number-n.ensures.0 (omega (arith, z, c.write_number-n.ensures.0, decimal-most c.args.x)))
