-- `available_place` meets its contract: each refusal in checking order, or the place. Assumes nothing.
use Rattle.std.proofs.Common.{rules}
use mathlib.Core.Path.{◌≡◌, refl, sym, ◌∙◌}
use mathlib.Core.Bool.{true}
use native.Mathlib.Omega.{arith}
use Rattle.data_model.specs.Refusal.{refused_with, refusal_number}
use Rattle.tree.specs.declared.stored.KeyOrder.TheVariants.{Spt}
use Rattle.store.specs.Store.{held}
use Rattle.store.specs.Lent.{lent}
use Rattle.store.specs.Refusal.{unless, ◌or_else◌}
use Rattle.store.proofs.CheckLaws.{Passed, passed, early, cut-asks}
use Rattle.available.specs.Available.{available_refusal}
use Rattle.available.proofs.available_place.Goals as goal
use Rattle.available.proofs.available_place.Goals.{After-from_residual, In_ok-check}

answered : (c : After-from_residual) → refused_with c.from_residual.result ≡ refusal_number c.in_err-check.field-0.0
answered c = search rules

known : (c : In_ok-check) → Passed (lent c.args.store)
known c = (passed (lent c.args.store) true (sym c.in_ok-check.ensures)).0

pub returns-in_err-check-clause-refusal_value : goal.returns-in_err-check-clause-refusal_value
unfolding available_refusal
returns-in_err-check-clause-refusal_value c = answered c ∙ early _ _ _ c.in_err-check.ensures

pub returns-then-not-is_legal-clause-refusal_value : goal.returns-then-not-is_legal-clause-refusal_value
unfolding available_refusal unless ◌or_else◌
returns-then-not-is_legal-clause-refusal_value c = search rules

pub spt-requires : goal.spt-requires
spt-requires c = cut-asks (lent c.args.store) (known (goal.at.spt-requires c).In_ok-check)

pub entry_place-requires : goal.entry_place-requires
unfolding held
entry_place-requires c =
    let k = known (goal.at.entry_place-requires c).In_ok-check in
    let m = k.most in
    let f = k.few in
    let t = c.spt.ensures in
    rw (t.0, t.1, t.2, t.3) (k.formed Spt, omega arith, sym c.if-not-is_legal.ensures, k.once)

pub returns-clause-refusal_value : goal.returns-clause-refusal_value
unfolding available_refusal unless ◌or_else◌ held
returns-clause-refusal_value c =
    let t = c.spt.ensures in
    c.entry_place.ensures.refusal_value ∙ rw (t.0, t.1, t.2, t.3, ← c.in_ok-check.ensures, ← c.if-not-is_legal.ensures) refl

pub returns-clause-stands_first : goal.returns-clause-stands_first
unfolding held
returns-clause-stands_first c = λ k e.
    let t = c.spt.ensures in
    let f = c.entry_place.ensures.stands_first k e in
    rw (t.0, t.1, t.2, t.3) at f
