-- `answer_reads` meets its contract, a read each turn. Assumes nothing.
use Rattle.std.proofs.Common.{refl, ap, ◌∙◌, take, arith, Result, Ok, Err, OnErr}
use Rattle.listing.specs.Carry.{leaving}
use Rattle.listing.specs.Answers.{WrittenPart}
use Rattle.listing.specs.Program.{StoppedByReads}
use Rattle.listing.proofs.ReadLaws.{by-none, by-more}
use Rattle.listing.proofs.answer_reads.Goals as goal

-- What holds whatever is answered holds where that is an error.
whatever : {T E P : Type 0} (r : Result T E) → P → OnErr r P
whatever (Ok x) p = tt
whatever (Err e) p = p

pub loop-init : goal.loop-init
loop-init g c =
    let a = c.args in
    (omega arith, c.requires.0, c.read_bytes-input.ensures, refl, by-none (leaving a.opened a.spt.now a.spt_dir.now a.tsp.now a.tsp_dir.now a.tally.now a.prune.now) (take 0 a.line.now) refl)

pub loop-preserved : goal.loop-preserved
loop-preserved g c =
    let l = c.loop in
    let p = c.answer_part-part in (
      p.ensures.0,
      p.auto.line ∙ l.invariant.1,
      c.read_full.auto.bytes ∙ l.invariant.2,
      p.auto.out ∙ l.invariant.3,
      by-more l.invariant.4 (take c.in_ok-got.got c.read_full.new.bytes) (ap (λ (x : WrittenPart). x.answers.left) p.ensures.2) (ap (λ (x : WrittenPart). x.line) p.ensures.2),
    )

pub returns-then-is_last-clause-ok : goal.returns-then-is_last-clause-ok
returns-then-is_last-clause-ok g c =
    let p = c.answer_part-part in
    (p.ensures.0, by-more c.loop.invariant.4 (take c.in_ok-got.got c.read_full.new.bytes) (ap (λ (x : WrittenPart). x.answers.left) p.ensures.2) (ap (λ (x : WrittenPart). x.line) p.ensures.2))

pub returns-in_err-write_all-clause-err : goal.returns-in_err-write_all-clause-err
returns-in_err-write_all-clause-err g c =
    let l = c.loop in
    let p = c.answer_part-part in
    let a = c.args in
    let stopped : StoppedByReads (leaving a.opened a.spt.now a.spt_dir.now a.tsp.now a.tsp_dir.now a.tally.now a.prune.now) p.new.spt p.new.spt_dir p.new.tsp p.new.tsp_dir p.new.tally p.new.prune p.new.line = record {
      state = p.result.state;
      kept = p.result.kept;
      few = p.ensures.0;
      reads = by-more l.invariant.4 (take c.in_ok-got.got c.read_full.new.bytes) (ap (λ (x : WrittenPart). x.answers.left) p.ensures.2) (ap (λ (x : WrittenPart). x.line) p.ensures.2);
    } in
    whatever c.from_residual-in_err-write_all.result stopped

pub returns-in_err-got-clause-err : goal.returns-in_err-got-clause-err
returns-in_err-got-clause-err g c =
    let l = c.loop in
    let a = c.args in
    let stopped : StoppedByReads (leaving a.opened a.spt.now a.spt_dir.now a.tsp.now a.tsp_dir.now a.tally.now a.prune.now) l.spt l.spt_dir l.tsp l.tsp_dir l.tally l.prune l.line = record {
      state = l.state;
      kept = l.kept;
      few = l.invariant.0;
      reads = l.invariant.4;
    } in
    whatever c.from_residual.result stopped
