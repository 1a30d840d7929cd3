-- `least_above` meets its contract: no component from i on can be replaced. Assumes nothing.
use Prim.Native.Nat.{ℕ, ◌+◌, ◌-◌}
use mathlib.Core.Path.{◌≡◌, sym, ap, ◌∙◌}
use mathlib.Core.Option.{none}
use native.Mathlib.Omega.{arith}
use lib.ListN.{length}
use Rattle.data_model.specs.Path.{field, components}
use Rattle.data_model.specs.Above.{above_found}
use Rattle.data_model.proofs.Values.{legal-count, components-length}
use Rattle.data_model.proofs.Raise.{above_from, above-begins, above-here, above-next, above-ends, found_some, found_none}
use borrow.Author.Rules.{rules}
use Rattle.data_model.proofs.above.least_above.Goals as goal
use Rattle.data_model.proofs.above.least_above.Goals.{Start}

few : (c : Start) → length (components c.args.p) ≡ c.args.p.count
few c =
    let n : length c.args.p.ends ≡ 8 = search rules in
    components-length c.args.p (omega (arith, legal-count field c.args.p c.requires))

pub loop-i-init : goal.loop-i-init
loop-i-init c = above-begins field (components c.args.p) c.args.p.count (omega (arith, few c))

pub returns-in-Some : goal.returns-in-Some
returns-in-Some c =
    let l = c.loop-i in
    let cs = components c.args.p in
    let e : l.i - 1 + 1 ≡ l.i = omega arith in
    let h : above_from field cs (l.i - 1 + 1) ≡ none = ap (λ (n : ℕ). above_from field cs n) e ∙ l.invariant in
    let s = sym c.in-Some.is ∙ c.raised_at.ensures in
    let r = found_some _ _ s in
    s ∙ ap above_found (r.1 ∙ sym (above-here field cs (l.i - 1) (omega (arith, few (goal.at.returns-in-Some c).Start)) h r.0 r.1))

pub loop-i-preserved : goal.loop-i-preserved
loop-i-preserved c =
    let l = c.loop-i in
    let cs = components c.args.p in
    let e : l.i - 1 + 1 ≡ l.i = omega arith in
    let h : above_from field cs (l.i - 1 + 1) ≡ none = ap (λ (n : ℕ). above_from field cs n) e ∙ l.invariant in
    above-next field cs (l.i - 1) (omega (arith, few (goal.at.loop-i-preserved c).Start)) h (found_none _ (sym c.in_default.is ∙ c.raised_at.ensures))

pub returns : goal.returns
unfolding above_found
returns c =
    let l = c.loop-i in
    let cs = components c.args.p in
    let e : l.i ≡ 0 = omega arith in
    ap above_found (sym (above-ends field cs (ap (λ (n : ℕ). above_from field cs n) (sym e) ∙ l.invariant)))
