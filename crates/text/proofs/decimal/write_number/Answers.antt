-- `write_number` meets its contract: the digits at the end of the local buffer. Assumes nothing.
use native.Mathlib.Omega.{arith}
use Prim.Native.Nat.{ℕ, ◌-◌}
use mathlib.Core.Path.{◌≡◌, ap, ◌∙◌}
use mathlib.Core.List.{List}
use lib.ListN.{length, take, drop, length-drop}
use lib.Seq.{take_all}
use Rattle.laws.specs.Lists.{put}
use Rattle.text.specs.Decimal.{decimal_text}
use borrow.Author.Rules.{rules}
use Rattle.text.proofs.decimal.write_number.Goals as goal

pub returns : goal.returns
returns c =
    let d = c.digits_behind-j in
    let w = c.write_bytes in
    let z : length d.new.d ≡ 20 = search rules in
    let e : take (20 - d.result) (drop d.result d.new.d) ≡ decimal_text c.args.x
    = take_all (20 - d.result) (drop d.result d.new.d) (simp length-drop (omega arith)) ∙ d.ensures.1 in
    (w.ensures.0 ∙ ap length e, w.ensures.1 ∙ ap (λ (l : List ℕ). put l c.args.out.now) e)
