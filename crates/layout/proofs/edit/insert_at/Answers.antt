-- `insert_at` meets its contract. Assumes nothing.
use native.Mathlib.Omega.{arith}
use Rattle.layout.proofs.InsertLaws.{Spans, spans, insert-tree, insert-end, insert-dir}
use Rattle.layout.proofs.LaidLaws.{laid}
use Rattle.layout.proofs.edit.insert_at.Goals as goal
use Rattle.layout.proofs.edit.insert_at.Goals.{After-end_of-e}

-- The numbers that the code computes with.
numbers : (c : After-end_of-e)
    → Spans c.args.count c.args.at
    c.args.dir.now c.args.tree.now
    c.end_of-o.result c.end_of-e.result
numbers c =
    spans (laid _ _ _ c.requires.0.laid) c.args.at c.requires.1 c.end_of-o.result c.end_of-e.result c.end_of-o.ensures.0 c.end_of-e.ensures.0

pub overflow_sub-e : goal.overflow_sub-e
overflow_sub-e c =
    let x = numbers (goal.at.overflow_sub-e c).After-end_of-e in
    omega arith

pub shift_up-requires : goal.shift_up-requires
shift_up-requires c =
    let x = numbers (goal.at.shift_up-requires c).After-end_of-e in
    (omega arith, omega arith)

pub write-requires : goal.write-requires
write-requires c =
    let x = numbers (goal.at.write-requires c).After-end_of-e in
    omega arith

pub open_pairs-requires : goal.open_pairs-requires
open_pairs-requires c =
    let x = numbers (goal.at.open_pairs-requires c).After-end_of-e in
    let e = insert-end (laid _ _ _ c.requires.0.laid) x c.args.rec.now c.requires.1 in
    (c.requires.1, c.requires.2, omega arith)

pub returns : goal.returns
returns c =
    let x = numbers (goal.at.returns c).After-end_of-e in
    let v = laid _ _ _ c.requires.0.laid in
    record {
      bytes = insert-tree v x c.args.rec.now _ _ (omega arith) c.shift_up.ensures c.write.ensures;
      numbers = insert-dir v x c.args.rec.now c.requires.1 _ c.requires.2 c.open_pairs.ensures;
    }
