-- `raised_at` meets its contract: the component grows, or its last byte below ff is raised, or neither. Assumes nothing.
use Prim.Native.Nat.{◌-◌, ◌≤◌}
use mathlib.Core.Path.{◌≡◌, sym, ap, subst, ◌∙◌}
use native.Mathlib.Omega.{arith}
use lib.ListN.{length, get_or}
use Rattle.data_model.specs.declared.path.Path.{Path}
use Rattle.std.specs.Prelude.{Some}
use Rattle.laws.specs.Lists.{piece}
use Rattle.data_model.specs.Path.{field}
use Rattle.data_model.specs.Above.{above_found, RaisesByte}
use Rattle.data_model.proofs.Values.{legal-count}
use Rattle.data_model.proofs.Raise.{grow-room, piece-at, nth-bounds, grown, lifted, stuck}
use borrow.Author.Rules.{rules}
use Rattle.data_model.proofs.above.raised_at.Goals as goal
use Rattle.data_model.proofs.above.raised_at.Goals.{After-start-from, Start}

-- What the value's types say of its arrays.
p-bytes : (c : Start) → length c.args.p.bytes ≡ 128
p-bytes c = search rules

p-ends : (c : Start) → length c.args.p.ends ≡ 8
p-ends c = search rules

room : (c : Start) → field.mpl ≤ length c.args.p.bytes
room c = omega (arith, p-bytes c)

few : (c : Start) → c.args.p.count ≤ length c.args.p.ends
few c = omega (arith, p-ends c, legal-count field c.args.p c.requires.0)

bounds : (c : After-start-from)
    → (c.start-from.result ≤ get_or c.args.p.ends c.args.i 0)
    × (get_or c.args.p.ends c.args.i 0 - c.start-from.result ≤ 64)
    × (get_or c.args.p.ends c.args.i 0 ≤ 128)
bounds c =
    nth-bounds c.args.p (room c.before.before.before.before) (few c.before.before.before.before) c.requires.0 c.args.i c.requires.1 c.start-from.result c.start-from.ensures

pub offset_bounds-p-i : goal.offset_bounds-p-i
offset_bounds-p-i c = omega (arith, p-ends (goal.at.offset_bounds-p-i c).Start, legal-count field c.args.p c.requires.0, c.requires.1)

pub bounds-p-i : goal.bounds-p-i
bounds-p-i c = omega (arith, p-ends (goal.at.bounds-p-i c).Start, legal-count field c.args.p c.requires.0, c.requires.1)

pub start-from-requires : goal.start-from-requires
start-from-requires c = omega (arith, p-ends (goal.at.start-from-requires c).Start, legal-count field c.args.p c.requires.0, c.requires.1)

pub may_grow-requires : goal.may_grow-requires
may_grow-requires c = (bounds c).0

pub raise-requires : goal.raise-requires
raise-requires c = (omega (arith, legal-count field c.args.p c.requires.0, c.requires.1), grow-room _ _ _ _ (bounds (goal.at.raise-requires c).After-start-from).0 (sym c.may_grow.ensures ∙ c.if-may_grow.true))

pub returns-then-may_grow : goal.returns-then-may_grow
returns-then-may_grow c =
    ap (λ (x : Path). Some x) c.raise.ensures
    ∙ grown c.args.p (room (goal.at.returns-then-may_grow c).Start) (few (goal.at.returns-then-may_grow c).Start) c.requires.0 c.args.i c.requires.1 _ c.start-from.ensures (sym c.may_grow.ensures ∙ c.if-may_grow.true)

pub slice_bounds-last_below-count : goal.slice_bounds-last_below-count
slice_bounds-last_below-count c = (bounds (goal.at.slice_bounds-last_below-count c).After-start-from).0

pub slice_bounds-last_below-start : goal.slice_bounds-last_below-start
slice_bounds-last_below-start c = (bounds (goal.at.slice_bounds-last_below-start c).After-start-from).0

pub slice_bounds-last_below-end : goal.slice_bounds-last_below-end
slice_bounds-last_below-end c = omega (arith, p-bytes (goal.at.slice_bounds-last_below-end c).Start, (bounds (goal.at.slice_bounds-last_below-end c).After-start-from).2)

pub returns-in_err-j : goal.returns-in_err-j
unfolding above_found
returns-in_err-j c =
    c.from_residual.ensures
    ∙ ap above_found (sym (stuck c.args.p (room (goal.at.returns-in_err-j c).Start) (few (goal.at.returns-in_err-j c).Start) c.requires.0 c.args.i c.requires.1 _ c.start-from.ensures (sym c.may_grow.ensures ∙ c.if-may_grow.false)
    (subst (RaisesByte (piece c.start-from.result (get_or c.args.p.ends c.args.i 0) c.args.p.bytes)) c.in_err-j.was c.last_below.ensures)))

pub returns : goal.returns
returns c =
    let e = get_or c.args.p.ends c.args.i 0 in
    let m : RaisesByte (piece c.start-from.result e c.args.p.bytes) (Some c.in_ok-j.j) = subst (RaisesByte (piece c.start-from.result e c.args.p.bytes)) c.in_ok-j.was c.last_below.ensures in
    let b = piece-at c.start-from.result e c.in_ok-j.j c.args.p.bytes m.0 in
    ap (λ (x : Path). Some x) c.raise-2.ensures
    ∙ lifted c.args.p (room (goal.at.returns c).Start) (few (goal.at.returns c).Start) c.requires.0 c.args.i c.requires.1 _ c.start-from.ensures c.in_ok-j.j (sym c.may_grow.ensures ∙ c.if-may_grow.false)
    m.0
    (rw b at m.2)
