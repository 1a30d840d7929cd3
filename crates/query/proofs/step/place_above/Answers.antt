-- `place_above` meets its contract: the keys below the remembered one and, if it is there, the key itself. Assumes nothing.
use native.Mathlib.Omega.{arith}
use Rattle.layout.specs.Layout.{records}
use Rattle.layout.proofs.LaidLaws.{records-many}
use Rattle.query.proofs.StepLaws.{passed-few, above-found, above-absent}
use Rattle.std.proofs.Common.{refl, true, false, ◌+◌, ◌≤◌, ◌≡◌}
use Rattle.query.specs.Listing.{not_above}
use Rattle.query.proofs.step.place_above.Goals as goal
use Rattle.query.proofs.step.place_above.Goals.{In-Ok}

-- So many records are passed.
passed : (c : In-Ok) → (c.in-Ok.at + 1 ≡ not_above c.args.last.now (records c.args.tree.count c.args.tree.dir.now c.args.tree.bytes.now)) × (c.in-Ok.at + 1 ≤ c.args.tree.count)
passed c =
    let l = records c.args.tree.count c.args.tree.dir.now c.args.tree.bytes.now in
    let e = above-found c.args.last.now l c.requires.ascends c.in-Ok.at c.in-Ok.ensures.at true c.in-Ok.ensures.found refl in
    (e, omega (arith, e, passed-few c.args.last.now l, records-many c.args.tree.count c.args.tree.dir.now c.args.tree.bytes.now c.requires.few))

pub overflow_add-result : goal.overflow_add-result
overflow_add-result c = let h = (passed c).1 in let n = c.requires.few in omega arith

pub returns-in-Ok : goal.returns-in-Ok
returns-in-Ok c = passed c

pub returns-in-Err : goal.returns-in-Err
returns-in-Err c =
    let l = records c.args.tree.count c.args.tree.dir.now c.args.tree.bytes.now in
    let e = above-absent c.args.last.now l c.requires.ascends c.in-Err.at c.in-Err.ensures.at false c.in-Err.ensures.found refl in
    (e, omega (arith, e, passed-few c.args.last.now l, records-many c.args.tree.count c.args.tree.dir.now c.args.tree.bytes.now c.requires.few))
