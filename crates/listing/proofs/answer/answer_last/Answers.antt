-- `answer_last` meets its contract: no line, or the one that has begun. Assumes nothing.
use native.Mathlib.Omega.{arith}
use lib.ListN.{length}
use Rattle.std.proofs.Common.{rules, tests}
use mathlib.Core.Path.{◌≡◌, ap, ◌∙◌}
use mathlib.Core.List.{List}
use Prim.Native.Nat.{ℕ}
use Rattle.data_model.specs.Path.{field}
use Rattle.listing.specs.Carry.{leaving}
use Rattle.listing.specs.Answers.{lines_written}
use Rattle.listing.proofs.AnswerLaws.{last_none, last_some}
use Rattle.listing.proofs.answer.answer_last.Goals as goal

pub returns-then-is_empty : goal.returns-then-is_empty
returns-then-is_empty c =
    let none : length c.args.line.now ≡ 0 = search (rules, tests) in
    (omega arith, last_none (leaving c.args.given c.args.spt.now c.args.spt_dir.now c.args.tsp.now c.args.tsp_dir.now c.args.tally.now c.args.prune.now) c.args.line.now c.args.out.now none)

pub returns : goal.returns
returns c =
    let g = c.answer_line in
    let some : (length c.args.line.now ≡ 0 → ⊥) = search (rules, tests) in
    (g.ensures.0, g.ensures.1 ∙ ap (λ (ls : List (List ℕ)). lines_written field (leaving c.args.given c.args.spt.now c.args.spt_dir.now c.args.tsp.now c.args.tsp_dir.now c.args.tally.now c.args.prune.now) ls c.args.out.now) (last_some c.args.line.now some))
