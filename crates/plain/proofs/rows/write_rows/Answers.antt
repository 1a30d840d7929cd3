-- `write_rows` meets its contract: after k turns the rows hold k pairs. Assumes nothing.
use mathlib.Core.Path.{◌≡◌, refl, ap, ◌∙◌}
use mathlib.Core.List.{map}
use native.Mathlib.Omega.{arith}
use lib.ListN.{length-set}
use Rattle.pairs.proofs.PairLaws.{pairs_into}
use Rattle.plain.specs.Rows.{pair_of}
use Rattle.plain.proofs.RowLaws.{rows_start, row-turn, rows_end}
use Rattle.plain.proofs.rows.write_rows.Goals as goal

pub loop-k-init : goal.loop-k-init
loop-k-init c = (refl, rows_start c.args.numbers c.args.rows.now)

pub loop-k-preserved : goal.loop-k-preserved
loop-k-preserved c =
    let l = c.loop-k in
    (simp length-set l.invariant.0, row-turn c.args.numbers l.rows c.args.rows.now l.k l.invariant.1)

pub shape_of-rows : goal.shape_of-rows
shape_of-rows c = c.loop-k.invariant.0

pub returns : goal.returns
returns c =
    let l = c.loop-k in
    let e : l.k ≡ c.args.n = omega arith in
    rows_end c.args.numbers c.args.rows.now c.args.n (omega arith) (omega arith) _ (l.invariant.1 ∙ ap (pairs_into c.args.numbers (map pair_of c.args.rows.now)) e)
