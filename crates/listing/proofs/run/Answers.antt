-- `run` is safe: the opening is not refused, and reads led from it to what is listed. Assumes nothing.
use Rattle.std.proofs.Common.{arith, Ok}
use Rattle.store.specs.Open.{opened_says}
use Rattle.listing.proofs.LedLaws.{after-reads}
use Rattle.listing.proofs.run.Goals as goal

pub answer_end-n-requires : goal.answer_end-n-requires
answer_end-n-requires g c =
    let o = c.open in
    let r = c.answer_reads in (
      after-reads c.args.spt.now c.args.spt_dir.now c.args.tsp.now c.args.tsp_dir.now c.args.tally.now c.requires.0 c.requires.1 c.requires.2 c.requires.3 c.requires.4 (opened_says (Ok c.in-Ok.opened)) _ _ _ _ _ c.args.prune.now c.requires.5 (rw c.in-Ok.is at o.ensures) _ _ c.in_ok-begun.ensures.ok.1,
      omega (arith, c.requires.7, r.auto.out),
    )
