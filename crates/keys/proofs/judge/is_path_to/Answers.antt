-- `is_path_to` meets its contract. The invariant: what is left to walk decides. Assumes nothing.
use Prim.Native.Nat.{◌+◌, ◌≤◌, ◌<◌}
use mathlib.Core.Path.{◌≡◌, refl, sym, ap, ◌∙◌}
use mathlib.Core.Bool.{◌&&◌}
use native.Mathlib.Omega.{arith}
use lib.Dec.{eqb, leb}
use lib.ListN.{length}
use Rattle.laws.proofs.Truth.{not-true, not-false}
use Rattle.data_model.specs.Path.{field}
use Rattle.keys.specs.Decode.{read_path}
use Rattle.keys.specs.declared.judge.Counts.{Counts}
use Rattle.keys.proofs.Counting.{counts-few, ends-before}
use Rattle.keys.proofs.Exact.{judging-start, judged-off, judged-turn, judged-end, judged}
use Rattle.keys.proofs.judge.is_path_to.Goals as goal
use Rattle.keys.proofs.judge.is_path_to.Goals.{After-counts_to_end-f, After-counts_up_to-c, After-min-w, After-shared_slice_known-1}

-- There are no more bytes than can be counted.
within : (c : After-shared_slice_known-1) → length c.args.k.now ≤ 0xffff_ffff_ffff_ffff
within c = omega arith

-- A stretch has a byte at least, and ends where the path's own mark should stand, at the latest.
span : (c : After-min-w) → (c.loop-at.at + c.min-w.result ≤ c.args.stop) × (c.min-w.result ≤ 32) × (0 < c.min-w.result)
span c = (omega (arith, c.min-w.ensures), omega (arith, c.min-w.ensures), omega (arith, c.min-w.ensures))

few : (c : After-counts_up_to-c) → c.counts_up_to-c.result.others ≤ c.min-w.result
few c = (counts-few _ _ _ _ c.counts_up_to-c.ensures).0

-- Some component ends in the stretch: before its end, and no component before that.
upto : (c : After-counts_to_end-f) → (c.counts_to_end-f.result.w < c.min-w.result) × (c.counts_to_end-f.result.counts.others ≤ c.counts_to_end-f.result.w) × (c.counts_to_end-f.result.counts.ends ≡ 0)
upto c =
    let x = c.counts_to_end-f.ensures in
    (ends-before _ _ _ _ x.0 x.1 (λ e. c.if-c-eq0.false (ap (λ (d : Counts). d.ends) c.counts_up_to-c.ensures ∙ e)), (counts-few _ _ _ _ c.counts_to_end-f.ensures.3).0, ap (λ (d : Counts). d.ends) c.counts_to_end-f.ensures.3 ∙ x.1)

pub loop-at-init : goal.loop-at-init
unfolding read_path
loop-at-init c = judging-start _ _ _ _ _ _ (omega arith) refl

pub counts_up_to-c-requires : goal.counts_up_to-c-requires
counts_up_to-c-requires c = (omega (arith, span (c), c.loop-at.invariant.fits), omega (arith, span (c)))

pub overflow_add-len : goal.overflow_add-len
overflow_add-len c = omega (arith, span (goal.at.overflow_add-len c).After-min-w, few (goal.at.overflow_add-len c).After-counts_up_to-c, c.loop-at.invariant.low)

pub returns-then-not-passes : goal.returns-then-not-passes
returns-then-not-passes c = let l = c.loop-at in judged-off _ _ _ _ _ _ l.at l.len l.total l.ends c.min-w.result c.counts_up_to-c.result l.invariant c.counts_up_to-c.ensures c.if-c-eq0.true (span (goal.at.returns-then-not-passes c).After-min-w).0 (sym c.passes.ensures ∙ not-true _ c.if-not-passes.true-raw)

pub overflow_add-len-then-c-eq0 : goal.overflow_add-len-then-c-eq0
overflow_add-len-then-c-eq0 c = omega (arith, span (goal.at.overflow_add-len-then-c-eq0 c).After-min-w, few (goal.at.overflow_add-len-then-c-eq0 c).After-counts_up_to-c, c.loop-at.invariant.low)

pub overflow_add-total : goal.overflow_add-total
overflow_add-total c = omega (arith, span (goal.at.overflow_add-total c).After-min-w, few (goal.at.overflow_add-total c).After-counts_up_to-c, c.loop-at.invariant.fits, c.loop-at.invariant.few_bytes, within (goal.at.overflow_add-total c).After-shared_slice_known-1)

pub overflow_add-at : goal.overflow_add-at
overflow_add-at c = omega (arith, span (goal.at.overflow_add-at c).After-min-w, c.loop-at.invariant.fits, within (goal.at.overflow_add-at c).After-shared_slice_known-1)

pub loop-at-smaller-then-c-eq0 : goal.loop-at-smaller-then-c-eq0
loop-at-smaller-then-c-eq0 c = omega (arith, span (goal.at.loop-at-smaller-then-c-eq0 c).After-min-w)

pub loop-at-preserved-then-c-eq0 : goal.loop-at-preserved-then-c-eq0
loop-at-preserved-then-c-eq0 c = let l = c.loop-at in judged-turn _ _ _ _ _ _ l.at l.len l.total l.ends c.min-w.result c.counts_up_to-c.result l.invariant c.counts_up_to-c.ensures c.if-c-eq0.true (span (goal.at.loop-at-preserved-then-c-eq0 c).After-min-w).0 (sym c.passes.ensures ∙ not-false _ c.if-not-passes.false-raw)

pub counts_to_end-f-requires : goal.counts_to_end-f-requires
counts_to_end-f-requires c = omega (arith, span (goal.at.counts_to_end-f-requires c).After-min-w, c.loop-at.invariant.fits)

pub overflow_add-len-else-c-eq0 : goal.overflow_add-len-else-c-eq0
overflow_add-len-else-c-eq0 c = omega (arith, span (goal.at.overflow_add-len-else-c-eq0 c).After-min-w, upto (goal.at.overflow_add-len-else-c-eq0 c).After-counts_to_end-f, c.loop-at.invariant.low)

pub returns-then-not-passes-2 : goal.returns-then-not-passes-2
returns-then-not-passes-2 c = let l = c.loop-at in let u = upto (goal.at.returns-then-not-passes-2 c).After-counts_to_end-f in judged-off _ _ _ _ _ _ l.at l.len l.total l.ends c.counts_to_end-f.result.w c.counts_to_end-f.result.counts l.invariant c.counts_to_end-f.ensures.3 u.2 (omega (arith, span (goal.at.returns-then-not-passes-2 c).After-min-w, u.0)) (sym c.passes-else-c-eq0.ensures ∙ not-true _ c.if-not-passes-2.true-raw)

pub overflow_add-total-else-c-eq0 : goal.overflow_add-total-else-c-eq0
overflow_add-total-else-c-eq0 c = omega (arith, span (goal.at.overflow_add-total-else-c-eq0 c).After-min-w, upto (goal.at.overflow_add-total-else-c-eq0 c).After-counts_to_end-f, c.loop-at.invariant.fits, c.loop-at.invariant.few_bytes, within (goal.at.overflow_add-total-else-c-eq0 c).After-shared_slice_known-1)

pub overflow_add-ends : goal.overflow_add-ends
overflow_add-ends c = omega (arith, c.loop-at.invariant.fits, c.loop-at.invariant.few_ends, within (goal.at.overflow_add-ends c).After-shared_slice_known-1)

pub overflow_add-at-else-c-eq0 : goal.overflow_add-at-else-c-eq0
overflow_add-at-else-c-eq0 c = omega (arith, span (goal.at.overflow_add-at-else-c-eq0 c).After-min-w, upto (goal.at.overflow_add-at-else-c-eq0 c).After-counts_to_end-f)

pub overflow_add-at-else-c-eq0-2 : goal.overflow_add-at-else-c-eq0-2
overflow_add-at-else-c-eq0-2 c = omega (arith, span (goal.at.overflow_add-at-else-c-eq0-2 c).After-min-w, upto (goal.at.overflow_add-at-else-c-eq0-2 c).After-counts_to_end-f, c.loop-at.invariant.fits, within (goal.at.overflow_add-at-else-c-eq0-2 c).After-shared_slice_known-1)

pub loop-at-preserved : goal.loop-at-preserved
loop-at-preserved c = let l = c.loop-at in let u = upto (goal.at.loop-at-preserved c).After-counts_to_end-f in judged-end _ _ _ _ _ _ l.at l.len l.total l.ends c.counts_to_end-f.result.w c.counts_to_end-f.result.counts l.invariant c.counts_to_end-f.ensures.3 u.2 (omega (arith, span (goal.at.loop-at-preserved c).After-min-w, u.0)) (sym c.passes-else-c-eq0.ensures ∙ not-false _ c.if-not-passes-2.false-raw) (c.counts_to_end-f.ensures.2 u.0)

pub returns : goal.returns
returns c = let l = c.loop-at in ap (((eqb l.len 0 && leb l.total field.mpl) && leb l.ends field.mcc) &&◌) c.has_mark.ensures ∙ judged _ _ _ _ _ _ l.at l.len l.total l.ends l.invariant (omega arith)
