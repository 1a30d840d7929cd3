-- `answer_end` meets its contract: the list is written behind the last answer. The store has a list, because lines led to it. Assumes nothing.
use native.Mathlib.Omega.{arith}
use native.Mathlib.Nat.{le_refl}
use Prim.Native.Nat.{◌≤◌}
use mathlib.Core.Path.{◌≡◌, ap}
use lib.ListN.{length}
use Rattle.data_model.proofs.Values.{length-piece}
use Rattle.listing.specs.Input.{last_line}
use Rattle.listing.specs.Carry.{leaving}
use Rattle.listing.specs.Answers.{Written}
use Rattle.listing.proofs.AnswerLaws.{end-written}
use Rattle.listing.proofs.LedLaws.{after-lines, after_more, not-refused, limit_is}
use Rattle.listing.proofs.answer.answer_end.Goals as goal

pub write_list-requires : goal.write_list-requires
write_list-requires c =
    let g = c.answer_last-a in
    let h = after_more (after-lines c.requires.0) (last_line c.args.line.now) _ (ap (λ (x : Written). x.left) g.ensures.1) in
    let out = g.new.out in
    let one : length out ≡ length c.args.out.now = g.auto.out in
    let l = limit_is h in
    (not-refused h, omega (arith, l, one, g.ensures.0, c.requires.1, length-piece g.result.written (length out) out (le_refl (length out))))

pub overflow_add-result : goal.overflow_add-result
overflow_add-result c =
    let g = c.answer_last-a in
    let w = c.write_list in
    let out = g.new.out in
    let one : length out ≡ length c.args.out.now = g.auto.out in
    omega (arith, one, g.ensures.0, c.requires.1, w.ensures.1, length-piece g.result.written (length out) out (le_refl (length out)))

pub returns : goal.returns
returns c =
    let g = c.answer_last-a in
    let w = c.write_list in
    let out = g.new.out in
    let one : length out ≡ length c.args.out.now = g.auto.out in
    let two : g.result.written ≤ length out = omega (arith, one, g.ensures.0, c.requires.1) in
    let q = length-piece g.result.written (length out) out (le_refl (length out)) in
    let e = end-written (leaving c.args.given c.args.spt.now c.args.spt_dir.now c.args.tsp.now c.args.tsp_dir.now c.args.tally.now c.args.prune.now) _ (last_line c.args.line.now) c.args.out.now out w.new.out g.result.written w.result (omega (arith, one, two)) g.ensures.1 (omega (arith, two, w.ensures.1, q)) w.ensures.0 w.ensures.2 in
    (e.0, omega (arith, one, two, w.ensures.1, q), e.1)
