-- `answer_line` meets its contract: the line is carried out, and its answer written. Assumes nothing.
use Rattle.listing.specs.Carry.{leaving}
use Rattle.listing.proofs.AnswerLaws.{line-written}
use Rattle.listing.proofs.answer.answer_line.Goals as goal

pub returns : goal.returns
returns c =
    let a = c.args in
    let g = c.carry_out-a in
    let f = c.write_answer in
    (f.ensures.1, line-written (leaving a.given a.spt.now a.spt_dir.now a.tsp.now a.tsp_dir.now a.tally.now a.prune.now) a.line.now a.out.now f.new.out _ f.result g.ensures f.ensures.0 f.ensures.2)
