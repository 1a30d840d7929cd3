-- `check_entry` meets its contract. Assumes nothing.
use Rattle.std.proofs.Common.{rules}
use mathlib.Core.Path.{◌≡◌, refl, sym, ◌∙◌}
use mathlib.Core.Bool.{true}
use native.Mathlib.Omega.{arith}
use Rattle.laws.specs.Sorted.{any}
use Rattle.data_model.specs.Path.{field, components}
use Rattle.data_model.specs.Refusal.{refused_with, refusal_number}
use Rattle.tree.specs.declared.stored.KeyOrder.TheVariants.{Spt}
use Rattle.store.specs.Store.{held}
use Rattle.store.specs.Lent.{lent, lent_with}
use Rattle.store.specs.Refusal.{unless, ◌or_else◌}
use Rattle.store.specs.Forget.{unexpected, forget_entry_refusal}
use Rattle.store.proofs.CheckLaws.{Passed, early, cut-asks}
use Rattle.store.proofs.TalliedLaws.{tallied-passed}
use Rattle.store.proofs.ForgetLaws.{unasked-in}
use Rattle.store.proofs.forget.check_entry.Goals as goal
use Rattle.store.proofs.forget.check_entry.Goals.{After-from_residual, In_ok-check_tallied, After-is_other_digest}

answered : (c : After-from_residual) → refused_with c.from_residual.result ≡ refusal_number c.in_err-check_tallied.field-0.0
answered c = search rules

known : (c : In_ok-check_tallied) → Passed (lent c.args.store)
known c = (tallied-passed (lent_with c.args.store c.args.tally.now) true (sym c.in_ok-check_tallied.ensures)).0.passes

pub returns-in_err-check_tallied : goal.returns-in_err-check_tallied
unfolding forget_entry_refusal
returns-in_err-check_tallied c = answered c ∙ early _ _ _ c.in_err-check_tallied.ensures

pub returns-then-not-is_legal : goal.returns-then-not-is_legal
unfolding forget_entry_refusal unless ◌or_else◌
returns-then-not-is_legal c = search rules

pub returns-in_default : goal.returns-in_default
unfolding forget_entry_refusal unless ◌or_else◌
returns-in_default c = rw (c.in_default.is, ← c.in_ok-check_tallied.ensures, ← c.if-not-is_legal.ensures, unasked-in (lent c.args.store) c.args.subspace (components c.args.path) _)

pub spt-requires : goal.spt-requires
spt-requires c = cut-asks (lent c.args.store) (known (goal.at.spt-requires c).In_ok-check_tallied)

pub is_other_digest-requires : goal.is_other_digest-requires
unfolding held
is_other_digest-requires c =
    let k = known (goal.at.is_other_digest-requires c).In_ok-check_tallied in
    let m = k.most in
    let f = k.few in
    let t = c.spt.ensures in
    rw (t.0, t.1, t.2, t.3) (k.formed Spt, omega arith, sym c.if-not-is_legal.ensures, k.once)

-- What was looked for in the tree is looked for in what the store holds.
other : (c : After-is_other_digest) → c.is_other_digest.result ≡ any (unexpected c.args.subspace (components c.args.path) true c.in-Some.digest) (held field Spt (lent c.args.store))
unfolding held
other c = let t = c.spt.ensures in c.is_other_digest.ensures ∙ rw (t.0, t.1, t.2, t.3) refl

pub returns-then-is_other_digest : goal.returns-then-is_other_digest
unfolding forget_entry_refusal unless ◌or_else◌
returns-then-is_other_digest c = rw (c.in-Some.is, ← c.in_ok-check_tallied.ensures, ← c.if-not-is_legal.ensures, ← other (goal.at.returns-then-is_other_digest c).After-is_other_digest, c.if-is_other_digest.true)

pub returns : goal.returns
unfolding forget_entry_refusal unless ◌or_else◌
returns c = rw (c.in-Some.is, ← c.in_ok-check_tallied.ensures, ← c.if-not-is_legal.ensures, ← other (goal.at.returns c).After-is_other_digest, c.if-is_other_digest.false)
