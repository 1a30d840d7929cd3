-- `answer_part` meets its contract, a line each turn. The invariant: what is left of the part gives the rest of what it leaves and prints, and every buffer keeps its length. Assumes nothing.
use native.Mathlib.Omega.{arith}
use native.Mathlib.Nat.{le_refl}
use mathlib.Core.Path.{refl, sym, ◌∙◌}
use lib.ListN.{length, take}
use lib.Seq.{length-take-le}
use Rattle.data_model.proofs.Values.{length-piece}
use Rattle.listing.specs.Carry.{leaving}
use Rattle.listing.proofs.AnswerLaws.{answering-none, part-turn, part_end}
use Rattle.listing.proofs.answer.answer_part.Goals as goal

pub loop-stop-init : goal.loop-stop-init
loop-stop-init c =
    let a = c.args in
    let f = c.field_end-stop in
    (f.ensures.0, f.ensures.1, c.requires.1, c.requires.0, omega (arith, c.requires.2), refl, refl, refl, refl, refl, refl, refl, answering-none (leaving a.given a.spt.now a.spt_dir.now a.tsp.now a.tsp_dir.now a.tally.now a.prune.now) (take a.«so_far» a.line.now) a.bytes.now a.out.now)

pub slice_bounds-append-count : goal.slice_bounds-append-count
slice_bounds-append-count c = let l = c.loop-stop in omega (arith, l.invariant.0)

pub append-m-requires : goal.append-m-requires
append-m-requires c = let l = c.loop-stop in omega (arith, l.invariant.2, l.invariant.3)

pub slice_bounds-answer_line-end-in-loop-stop : goal.slice_bounds-answer_line-end-in-loop-stop
slice_bounds-answer_line-end-in-loop-stop c =
    let w = c.append-m in
    sym (length-take-le w.result w.new.line (omega (arith, w.auto.line, w.ensures.0)))

pub slice_bounds-answer_line-count : goal.slice_bounds-answer_line-count
slice_bounds-answer_line-count c =
    let l = c.loop-stop in
    let t = c.loop-stop-test.true in omega (arith, l.invariant.4)

pub answer_line-a-requires : goal.answer_line-a-requires
answer_line-a-requires c =
    let l = c.loop-stop in
    let t = c.loop-stop-test.true in omega (arith, t, l.invariant.0, l.invariant.4, length-piece l.to (length l.out) l.out (le_refl (length l.out)))

pub overflow_add-to : goal.overflow_add-to
overflow_add-to c =
    let l = c.loop-stop in
    let t = c.loop-stop-test.true in
    let g = c.answer_line-a in
    omega (arith, t, l.invariant.0, l.invariant.4, l.invariant.11, g.ensures.0)

pub overflow_add-at : goal.overflow_add-at
overflow_add-at c =
    let l = c.loop-stop in
    let t = c.loop-stop-test.true in
    omega (arith, t)

pub field_end-stop-requires-in-loop-stop : goal.field_end-stop-requires-in-loop-stop
field_end-stop-requires-in-loop-stop c =
    let l = c.loop-stop in
    let t = c.loop-stop-test.true in omega (arith, t)

pub loop-stop-smaller : goal.loop-stop-smaller
loop-stop-smaller c =
    let l = c.loop-stop in
    let t = c.loop-stop-test.true in omega (arith, t, l.invariant.0)

pub loop-stop-preserved : goal.loop-stop-preserved
loop-stop-preserved c =
    let l = c.loop-stop in
    let t = c.loop-stop-test.true in
    let w = c.append-m in
    let g = c.answer_line-a in
    let f = c.field_end-stop-in-loop-stop in
    let n = part-turn c.args.bytes.now (leaving l.state l.spt l.spt_dir l.tsp l.tsp_dir l.tally l.prune) l.line l.out l.at l.n l.to l.stop l.invariant.3 l.invariant.12 l.invariant.0 t _ w.ensures.1 _ g.result.written g.new.out g.ensures.1 (omega (arith, t, l.invariant.0, l.invariant.4, g.ensures.0)) in (
      f.ensures.0,
      f.ensures.1,
      omega arith,
      w.auto.line ∙ l.invariant.3,
      omega (arith, t, l.invariant.0, l.invariant.4, g.ensures.0, n.wrote.size, l.invariant.11),
      g.auto.spt ∙ l.invariant.5,
      g.auto.spt_dir ∙ l.invariant.6,
      g.auto.tsp ∙ l.invariant.7,
      g.auto.tsp_dir ∙ l.invariant.8,
      g.auto.tally ∙ l.invariant.9,
      g.auto.prune ∙ l.invariant.10,
      n.wrote.size,
      n,
    )

pub slice_bounds-append-count-2 : goal.slice_bounds-append-count-2
slice_bounds-append-count-2 c = let l = c.loop-stop in omega (arith, l.invariant.0, l.invariant.1)

pub append-requires : goal.append-requires
append-requires c = let l = c.loop-stop in omega (arith, l.invariant.2, l.invariant.3)

pub returns : goal.returns
returns c =
    let l = c.loop-stop in
    let t = c.loop-stop-test.false in
    let w = c.append in
    let e = part_end c.args.bytes.now (leaving l.state l.spt l.spt_dir l.tsp l.tsp_dir l.tally l.prune) l.line l.out l.at l.n l.to l.stop l.invariant.3 l.invariant.12 l.invariant.0 t _ w.ensures.1 in
    (omega (arith, w.ensures.0, l.invariant.3), e.0, e.1)
