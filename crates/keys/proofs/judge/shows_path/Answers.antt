-- `shows_path` meets its contract. The invariant: what stands before the place, whether or not a token ends there. Assumes nothing.
use Prim.Native.Nat.{ℕ, ◌+◌, ◌-◌, ◌≤◌}
use mathlib.Core.Path.{◌≡◌, refl, sym, ap, ◌∙◌}
use mathlib.Core.Bool.{Bool, true, ◌&&◌}
use native.Mathlib.Omega.{arith}
use lib.Dec.{ltb, leb}
use borrow.Author.Tests.{ltb-true, leb-true}
use lib.ListN.{length}
use Rattle.laws.proofs.Truth.{clash, and-true, not-false}
use Rattle.data_model.specs.Path.{field}
use Rattle.keys.specs.Decode.{read_path}
use Rattle.keys.specs.Judge.{takes}
use Rattle.keys.specs.declared.judge.Counts.{Counts}
use Rattle.keys.proofs.Counting.{counts-few, kept-least}
use Rattle.keys.proofs.Stretches.{showing-start, showing-turn, showing-ends, showing-closes}
use Rattle.keys.proofs.judge.shows_path.Goals as goal
use Rattle.keys.proofs.judge.shows_path.Goals.{After-count_on, After-counts_of-c, After-counts_of-c-2, After-counts_of-d, Else-n-lt4}

-- There are no more bytes than can be counted, and so many are a path.
within : (c : Else-n-lt4) → (c.args.n - 4 + 4 ≤ length c.args.k.now) × (length c.args.k.now ≤ 0xffff_ffff_ffff_ffff)
within c = (omega arith, omega arith)

-- Of a whole stretch.
few : (c : After-counts_of-c) → (c.counts_of-c.result.others ≤ 32) × (c.counts_of-c.result.ends ≤ 32)
few c = counts-few 32 c.loop-left.at c.args.k.now c.counts_of-c.result c.counts_of-c.ensures

-- What counts on is no more than what was counted.
less : (c : After-count_on) → c.count_on.result ≤ c.loop-left.len
less c = omega (arith, kept-least c.loop-left.len c.counts_of-c.result.ends, c.count_on.ensures)

-- Up to the end of a component.
upto : (c : After-counts_of-d) → (c.to_end-w.result ≤ 30) × (c.counts_of-d.result.others ≤ c.to_end-w.result) × (c.counts_of-d.result.ends ≡ 0)
upto c = (c.to_end-w.ensures.0, (counts-few _ _ _ _ c.counts_of-d.ensures).0, ap (λ (d : Counts). d.ends) c.counts_of-d.ensures ∙ c.to_end-w.ensures.1)

-- The last stretch.
rest : (c : After-counts_of-c-2) → (c.loop-left.at + c.counts_of-c-2.result.others ≤ c.args.n - 4) × (c.loop-left.at + c.counts_of-c-2.result.ends ≤ c.args.n - 4)
rest c = let l = c.loop-left in let f = counts-few l.left l.at c.args.k.now c.counts_of-c-2.result c.counts_of-c-2.ensures in let u = l.invariant.upto in (omega (arith, f.0, u), omega (arith, f.1, u))

-- A test that was passed, taken apart.
passed : (p s : Bool) (n m : ℕ) → p ≡ (s && leb n m) → p ≡ true → (s ≡ true) × (n ≤ m)
passed p s n m e t = let g = and-true s (leb n m) (sym e ∙ t) in (g.0, leb-true n m g.1)

pub returns-then-n-lt4 : goal.returns-then-n-lt4
returns-then-n-lt4 c = λ e. clash e refl

pub loop-left-init : goal.loop-left-init
unfolding read_path
loop-left-init c = let a = c.args in let i : a.n ≡ a.n - 4 + 4 = omega arith in showing-start _ _ _ _ _ _ (ap (λ (n : ℕ). takes n (read_path field a.k.now)) i)

pub counts_of-c-requires : goal.counts_of-c-requires
counts_of-c-requires c = (omega (arith, within (goal.at.counts_of-c-requires c).Else-n-lt4, c.loop-left.invariant.upto), omega arith)

pub overflow_add-len : goal.overflow_add-len
overflow_add-len c = omega (arith, few (goal.at.overflow_add-len c).After-counts_of-c, c.loop-left.invariant.few_len, c.loop-left.invariant.upto, within (goal.at.overflow_add-len c).Else-n-lt4)

pub overflow_add-len-then-passes : goal.overflow_add-len-then-passes
overflow_add-len-then-passes c = omega (arith, few (goal.at.overflow_add-len-then-passes c).After-counts_of-c, less (goal.at.overflow_add-len-then-passes c).After-count_on, c.loop-left.invariant.few_len, c.loop-left.invariant.upto, within (goal.at.overflow_add-len-then-passes c).Else-n-lt4)

pub overflow_add-others : goal.overflow_add-others
overflow_add-others c = omega (arith, few (goal.at.overflow_add-others c).After-counts_of-c, c.loop-left.invariant.few_others, c.loop-left.invariant.upto, within (goal.at.overflow_add-others c).Else-n-lt4)

pub overflow_add-ends : goal.overflow_add-ends
overflow_add-ends c = omega (arith, few (goal.at.overflow_add-ends c).After-counts_of-c, c.loop-left.invariant.few_ends, c.loop-left.invariant.upto, within (goal.at.overflow_add-ends c).Else-n-lt4)

pub overflow_add-at : goal.overflow_add-at
overflow_add-at c = omega (arith, c.loop-left.invariant.upto, within (goal.at.overflow_add-at c).Else-n-lt4)

pub loop-left-preserved-then-passes : goal.loop-left-preserved-then-passes
loop-left-preserved-then-passes c =
    let l = c.loop-left in
    let g = passed _ _ _ _ c.passes.ensures c.if-passes.true in
    showing-turn _ _ _ _ _ _ l.at l.left l.len l.others l.ends 32 c.count_on.result c.counts_of-c.result l.invariant c.counts_of-c.ensures g.0 g.1 (omega arith) (omega (arith, within (goal.at.loop-left-preserved-then-passes c).Else-n-lt4)) c.count_on.ensures

pub to_end-w-requires : goal.to_end-w-requires
to_end-w-requires c = omega (arith, c.loop-left.invariant.upto, within (goal.at.to_end-w-requires c).Else-n-lt4)

pub counts_of-d-requires : goal.counts_of-d-requires
counts_of-d-requires c = (omega (arith, c.to_end-w.ensures.0, c.loop-left.invariant.upto, within (goal.at.counts_of-d-requires c).Else-n-lt4), omega (arith, c.to_end-w.ensures.0))

pub overflow_add-len-else-passes : goal.overflow_add-len-else-passes
overflow_add-len-else-passes c = omega (arith, upto (goal.at.overflow_add-len-else-passes c).After-counts_of-d, c.loop-left.invariant.few_len, c.loop-left.invariant.upto, within (goal.at.overflow_add-len-else-passes c).Else-n-lt4)

pub overflow_add-at-else-passes : goal.overflow_add-at-else-passes
overflow_add-at-else-passes c = omega (arith, c.to_end-w.ensures.0, c.loop-left.invariant.upto, within (goal.at.overflow_add-at-else-passes c).Else-n-lt4)

pub has_mark-requires : goal.has_mark-requires
has_mark-requires c = omega (arith, c.to_end-w.ensures.0, c.loop-left.invariant.upto, within (goal.at.has_mark-requires c).Else-n-lt4)

pub returns-then-not-passes-has_mark : goal.returns-then-not-passes-has_mark
returns-then-not-passes-has_mark c = λ e. clash e refl

pub overflow_add-others-else-passes : goal.overflow_add-others-else-passes
overflow_add-others-else-passes c = omega (arith, upto (goal.at.overflow_add-others-else-passes c).After-counts_of-d)

pub overflow_add-others-else-passes-2 : goal.overflow_add-others-else-passes-2
overflow_add-others-else-passes-2 c = omega (arith, upto (goal.at.overflow_add-others-else-passes-2 c).After-counts_of-d, c.loop-left.invariant.few_others, c.loop-left.invariant.upto, within (goal.at.overflow_add-others-else-passes-2 c).Else-n-lt4)

pub overflow_add-ends-else-passes : goal.overflow_add-ends-else-passes
overflow_add-ends-else-passes c = omega (arith, c.loop-left.invariant.few_ends, c.loop-left.invariant.upto, within (goal.at.overflow_add-ends-else-passes c).Else-n-lt4)

pub overflow_add-at-else-passes-2 : goal.overflow_add-at-else-passes-2
overflow_add-at-else-passes-2 c = omega (arith, c.to_end-w.ensures.0)

pub overflow_add-at-else-passes-3 : goal.overflow_add-at-else-passes-3
overflow_add-at-else-passes-3 c = omega (arith, c.to_end-w.ensures.0, c.loop-left.invariant.upto, within (goal.at.overflow_add-at-else-passes-3 c).Else-n-lt4)

pub overflow_add-left : goal.overflow_add-left
overflow_add-left c = omega (arith, c.to_end-w.ensures.0)

pub overflow_sub-left-else-passes : goal.overflow_sub-left-else-passes
overflow_sub-left-else-passes c = omega (arith, c.to_end-w.ensures.0)

pub loop-left-smaller : goal.loop-left-smaller
loop-left-smaller c = omega (arith, c.to_end-w.ensures.0)

pub loop-left-preserved : goal.loop-left-preserved
loop-left-preserved c =
    let l = c.loop-left in
    let b = and-true c.passes-else-passes.result c.has_mark.result (not-false _ c.if-not-passes-has_mark.false-raw) in
    let g = passed _ _ _ _ c.passes-else-passes.ensures b.0 in
    showing-ends _ _ _ _ _ _ l.at l.left l.len l.others l.ends c.to_end-w.result c.counts_of-d.result l.invariant c.counts_of-d.ensures g.0 g.1 (upto (goal.at.loop-left-preserved c).After-counts_of-d).2 (omega (arith, c.to_end-w.ensures.0)) (omega (arith, within (goal.at.loop-left-preserved c).Else-n-lt4)) (sym c.has_mark.ensures ∙ b.1)

pub counts_of-c-requires-2 : goal.counts_of-c-requires-2
counts_of-c-requires-2 c = (omega (arith, c.loop-left.invariant.upto, within (goal.at.counts_of-c-requires-2 c).Else-n-lt4), omega arith)

pub overflow_add-others-2 : goal.overflow_add-others-2
overflow_add-others-2 c = omega (arith, rest (goal.at.overflow_add-others-2 c).After-counts_of-c-2, c.loop-left.invariant.few_others, within (goal.at.overflow_add-others-2 c).Else-n-lt4)

pub overflow_add-ends-2 : goal.overflow_add-ends-2
overflow_add-ends-2 c = omega (arith, rest (goal.at.overflow_add-ends-2 c).After-counts_of-c-2, c.loop-left.invariant.few_ends, within (goal.at.overflow_add-ends-2 c).Else-n-lt4)

pub overflow_add-len-2 : goal.overflow_add-len-2
overflow_add-len-2 c = omega (arith, rest (goal.at.overflow_add-len-2 c).After-counts_of-c-2, c.loop-left.invariant.few_len, within (goal.at.overflow_add-len-2 c).Else-n-lt4)

pub overflow_add-result : goal.overflow_add-result
overflow_add-result c = omega (arith, rest (goal.at.overflow_add-result c).After-counts_of-c-2, c.loop-left.invariant.few_ends, within (goal.at.overflow_add-result c).Else-n-lt4)

pub closes-requires : goal.closes-requires
closes-requires c = omega (arith, within (goal.at.closes-requires c).Else-n-lt4)

pub returns : goal.returns
returns c =
    let l = c.loop-left in
    let d = c.counts_of-c-2 in
    let n = l.others + d.result.others in
    let e = l.ends + d.result.ends in
    let p = c.passes-2.result in
    λ r.
    let r1 = and-true ((p && ltb e field.mcc) && leb n (field.mpl + e)) c.closes.result r in
    let r2 = and-true (p && ltb e field.mcc) (leb n (field.mpl + e)) r1.0 in
    let r3 = and-true p (ltb e field.mcc) r2.0 in
    let g = passed _ _ _ _ c.passes-2.ensures r3.0 in
    showing-closes _ _ _ _ _ _ l.at l.left l.len l.others l.ends d.result l.invariant d.ensures g.0 g.1 (within (goal.at.returns c).Else-n-lt4).0 (ltb-true e field.mcc r3.1) (leb-true n (field.mpl + e) r2.1) (sym c.closes.ensures ∙ r1.1)
