-- `check_tallied` meets its contract. Assumes nothing.
use Rattle.std.proofs.Common.{rules}
use mathlib.Core.Path.{◌≡◌, refl, sym, ap, ◌∙◌}
use mathlib.Core.Bool.{◌&&◌}
use Rattle.data_model.specs.Path.{field}
use Rattle.data_model.specs.Refusal.{refused_with, refusal_number}
use Rattle.store.specs.Store.{held}
use Rattle.tree.specs.declared.stored.KeyOrder.TheVariants.{Spt}
use lib.Seq.{length-take-le}
use native.Mathlib.Omega.{arith}
use Rattle.tally.specs.Tally.{tally_right}
use Rattle.store.specs.Lent.{lent, lent_with}
use Rattle.store.specs.Refusal.{unless, ◌or_else◌, tally_fits, tallied_refusal, store_refusal}
use Rattle.store.proofs.CheckLaws.{early, cut-asks}
use Rattle.store.proofs.TalliedLaws.{TalliedPassed, fits-passed, right-read}
use Rattle.store.proofs.tallied.check_tallied.Goals as goal
use Rattle.store.proofs.tallied.check_tallied.Goals.{After-check, After-from_residual, In_ok-check, After-tally_is, then-tally_fits, else-tally_fits}

asked : (c : After-check) → c.if-tally_fits.check ≡ tally_fits (lent_with c.args.store c.args.tally.now) && c.args.rooms
asked c = elim c.if-tally_fits.branch [ then-tally_fits w ↦ search rules | else-tally_fits w ↦ search rules ]

answered : (c : After-from_residual) → refused_with c.from_residual.result ≡ refusal_number c.in_err-check.field-0.0
answered c = search rules

known : (c : In_ok-check) → TalliedPassed (lent_with c.args.store c.args.tally.now)
known c = (fits-passed (lent_with c.args.store c.args.tally.now) c.args.rooms (sym (ap (store_refusal field (lent c.args.store)) (asked (goal.at.spt-requires c).After-check)) ∙ sym c.in_ok-check.ensures)).0

pub returns-in_err-check : goal.returns-in_err-check
unfolding tallied_refusal
returns-in_err-check c = answered c ∙ early _ _ _ (c.in_err-check.ensures ∙ ap (store_refusal field (lent c.args.store)) (asked (goal.at.returns-in_err-check c).After-check))

pub spt-requires : goal.spt-requires
spt-requires c = cut-asks (lent c.args.store) (known (goal.at.spt-requires c).In_ok-check).passes

pub overflow_mul-store : goal.overflow_mul-store
overflow_mul-store c = let m = (known (goal.at.overflow_mul-store c).In_ok-check).passes.most in omega arith

pub slice_bounds-tally_is-end : goal.slice_bounds-tally_is-end
slice_bounds-tally_is-end c = sym (length-take-le _ _ (known (goal.at.slice_bounds-tally_is-end c).In_ok-check).room)

pub tally_is-requires : goal.tally_is-requires
tally_is-requires c =
    let k = known (goal.at.tally_is-requires c).In_ok-check in
    let f = k.passes.few in
    let t = c.spt.ensures in
    (rw (t.1, t.2, t.3) (k.passes.ordered Spt), rw t.1 (omega (arith, length-take-le _ c.args.tally.now k.room)))

-- What the tally was compared with is that of what the store holds.
right : (c : After-tally_is) → TalliedPassed (lent_with c.args.store c.args.tally.now) → c.tally_is.result ≡ tally_right c.args.store.state.limit (held field Spt (lent c.args.store)) c.args.tally.now
right c k =
    right-read (lent_with c.args.store c.args.tally.now) k.room c.tally_is.result
    λ ns. c.tally_is.ensures ns ∙ rw (c.spt.ensures.1, c.spt.ensures.2, c.spt.ensures.3) refl

passes : (c : In_ok-check) → 0 ≡ store_refusal field (lent c.args.store) (tally_fits (lent_with c.args.store c.args.tally.now) && c.args.rooms)
passes c = c.in_ok-check.ensures ∙ ap (store_refusal field (lent c.args.store)) (asked (goal.at.spt-requires c).After-check)

pub returns-then-not-tally_is : goal.returns-then-not-tally_is
unfolding tallied_refusal ◌or_else◌ unless
returns-then-not-tally_is c =
    let a = goal.at.returns-then-not-tally_is c in
    rw (← passes a.In_ok-check, ← right a.After-tally_is (known a.In_ok-check), c.if-not-tally_is.true)

pub returns : goal.returns
unfolding tallied_refusal ◌or_else◌ unless
returns c =
    let a = goal.at.returns c in
    rw (← passes a.In_ok-check, ← right a.After-tally_is (known a.In_ok-check), c.if-not-tally_is.false)
