-- `carry_out` meets its contract: ingested if the line says an entry, else nothing is changed. Assumes nothing.
use mathlib.Core.Path.{sym, ap, ap₂, ◌∙◌}
use Rattle.store.specs.Store.{tallied_of}
use Rattle.store.specs.declared.state.State.{State}
use Rattle.listing.specs.Carry.{LineOutcome}
use Rattle.listing.specs.declared.carry.Answer.{Answer}
use Rattle.listing.proofs.CarryLaws.{line_taken, line-left}
use Rattle.listing.proofs.carry.carry_out.Goals as goal

pub returns-in-Ok : goal.returns-in-Ok
returns-in-Ok c =
    let g = c.ingest_entry_numbers-ingested in
    let r : Answer → State → LineOutcome = λ x s. record { answer = x; tallied = tallied_of s g.new.spt g.new.spt_dir g.new.tsp g.new.tsp_dir g.new.tally; prune = g.new.prune } in
    ap₂ r c.outcome_of.ensures.0 c.outcome_of.ensures.1
    ∙ line_taken (tallied_of c.args.state c.args.spt.now c.args.spt_dir.now c.args.tsp.now c.args.tsp_dir.now c.args.tally.now) c.args.prune.now c.args.line.now c.in-Ok.e (sym c.read_line.ensures ∙ c.in-Ok.is) _ c.ingestion_of_line.ensures _ g.ensures

pub returns-in-Err : goal.returns-in-Err
returns-in-Err c =
    ap (λ (x : Answer). record { answer = x; tallied = (tallied_of c.args.state c.args.spt.now c.args.spt_dir.now c.args.tsp.now c.args.tsp_dir.now c.args.tally.now); prune = c.args.prune.now }) c.answer_without.ensures
    ∙ line-left (tallied_of c.args.state c.args.spt.now c.args.spt_dir.now c.args.tsp.now c.args.tsp_dir.now c.args.tally.now) c.args.prune.now c.args.line.now c.in-Err.why (sym c.read_line.ensures ∙ c.in-Err.is)
