-- `file` meets its contract: the front parts of the buffers are rewritten by `file_marked` and `file_in`, the rest is kept. Assumes nothing.
use Prim.Native.Nat.{◌*◌}
use mathlib.Core.Path.{sym}
use native.Mathlib.Omega.{arith}
use lib.Seq.{length-take-le}
use Rattle.tree.specs.Stored.{stored_of}
use Rattle.store.specs.Store.{store_of}
use Rattle.store.proofs.IngestLaws.{Ready}
use Rattle.store.proofs.FileLaws.{may-ready, may-many, may-prune, pruned-done, marked-spt, files-spt, files-tsp, filed-both}
use Rattle.store.proofs.ingest.file.Goals as goal
use Rattle.store.proofs.ingest.file.Goals.{Start}

known : (c : Start) → Ready (store_of c.args.state c.args.spt.now c.args.spt_dir.now c.args.tsp.now c.args.tsp_dir.now) c.args.prune.now c.args.ingestion.entry
known c = may-ready (store_of c.args.state c.args.spt.now c.args.spt_dir.now c.args.tsp.now c.args.tsp_dir.now) c.args.prune.now c.args.ingestion.entry c.requires.0

pub overflow_mul-n : goal.overflow_mul-n
overflow_mul-n c = let m = (known (goal.at.overflow_mul-n c).Start).passes.most in omega arith

pub overflow_mul-m : goal.overflow_mul-m
overflow_mul-m c = let m = (known (goal.at.overflow_mul-m c).Start).passes.most in omega arith

pub slice_bounds-write_pairs-end : goal.slice_bounds-write_pairs-end
slice_bounds-write_pairs-end c = (known (goal.at.slice_bounds-write_pairs-end c).Start).passes.room.spt_dir

pub slice_bounds-write_pairs-end-2 : goal.slice_bounds-write_pairs-end-2
slice_bounds-write_pairs-end-2 c = sym (length-take-le (2 * c.args.state.limit) c.args.spt_dir.now (known (goal.at.slice_bounds-write_pairs-end-2 c).Start).passes.room.spt_dir)

pub slice_bounds-write_pairs-end-3 : goal.slice_bounds-write_pairs-end-3
slice_bounds-write_pairs-end-3 c = sym (may-many (store_of c.args.state c.args.spt.now c.args.spt_dir.now c.args.tsp.now c.args.tsp_dir.now) c.args.prune.now c.args.ingestion.entry c.requires.0 c.args.removed.now c.requires.1 c.requires.2)

pub write_pairs-requires : goal.write_pairs-requires
write_pairs-requires c = may-prune (store_of c.args.state c.args.spt.now c.args.spt_dir.now c.args.tsp.now c.args.tsp_dir.now) c.args.prune.now c.args.ingestion.entry c.requires.0 c.args.removed.now c.requires.1 c.requires.2

pub slice_bounds-file_marked-end : goal.slice_bounds-file_marked-end
slice_bounds-file_marked-end c = (known (goal.at.slice_bounds-file_marked-end c).Start).passes.room.spt

pub slice_bounds-file_marked-end-2 : goal.slice_bounds-file_marked-end-2
slice_bounds-file_marked-end-2 c = sym (length-take-le _ c.args.spt.now (known (goal.at.slice_bounds-file_marked-end-2 c).Start).passes.room.spt)

pub slice_bounds-file_marked-end-3 : goal.slice_bounds-file_marked-end-3
slice_bounds-file_marked-end-3 c = (known (goal.at.slice_bounds-file_marked-end-3 c).Start).passes.room.spt_dir

pub slice_bounds-file_marked-end-4 : goal.slice_bounds-file_marked-end-4
slice_bounds-file_marked-end-4 c = sym (length-take-le (2 * c.args.state.limit) c.args.spt_dir.now (known (goal.at.slice_bounds-file_marked-end-4 c).Start).passes.room.spt_dir)

pub file_marked-requires : goal.file_marked-requires
file_marked-requires c =
    let f = (known (goal.at.file_marked-requires c).Start).passes.few in
    let m = (known (goal.at.file_marked-requires c).Start).passes.most in (
      files-spt (store_of c.args.state c.args.spt.now c.args.spt_dir.now c.args.tsp.now c.args.tsp_dir.now) c.args.prune.now c.args.ingestion.entry c.requires.0 (λ i. (c.slice_known-1.given i).fits) (λ i. (c.slice_known-3-1.given i).fits) c.args.ingestion.token c.args.ingestion.origin,
      marked-spt (store_of c.args.state c.args.spt.now c.args.spt_dir.now c.args.tsp.now c.args.tsp_dir.now) c.args.prune.now c.args.ingestion.entry c.requires.0 c.args.removed.now c.requires.1 c.requires.2,
      omega (arith, c.requires.2),
    )

pub slice_bounds-file_in-end : goal.slice_bounds-file_in-end
slice_bounds-file_in-end c = (known (goal.at.slice_bounds-file_in-end c).Start).passes.room.tsp

pub slice_bounds-file_in-end-2 : goal.slice_bounds-file_in-end-2
slice_bounds-file_in-end-2 c = sym (length-take-le _ c.args.tsp.now (known (goal.at.slice_bounds-file_in-end-2 c).Start).passes.room.tsp)

pub slice_bounds-file_in-end-3 : goal.slice_bounds-file_in-end-3
slice_bounds-file_in-end-3 c = (known (goal.at.slice_bounds-file_in-end-3 c).Start).passes.room.tsp_dir

pub slice_bounds-file_in-end-4 : goal.slice_bounds-file_in-end-4
slice_bounds-file_in-end-4 c = sym (length-take-le (2 * c.args.state.limit) c.args.tsp_dir.now (known (goal.at.slice_bounds-file_in-end-4 c).Start).passes.room.tsp_dir)

pub file_in-requires : goal.file_in-requires
file_in-requires c = files-tsp (store_of c.args.state c.args.spt.now c.args.spt_dir.now c.args.tsp.now c.args.tsp_dir.now) c.args.prune.now c.args.ingestion.entry c.requires.0 (λ i. (c.slice_known-1.given i).fits) (λ i. (c.slice_known-3-1.given i).fits) c.args.ingestion.token c.args.ingestion.origin

pub returns : goal.returns
unfolding stored_of
returns c =
    let x = c.file_marked in
    let y = c.file_in in record { store = filed-both (store_of c.args.state c.args.spt.now c.args.spt_dir.now c.args.tsp.now c.args.tsp_dir.now) c.args.prune.now c.args.ingestion.entry c.requires.0 c.args.ingestion.token c.args.ingestion.origin x.new.tree x.new.dir y.new.tree y.new.dir x.result y.result x.ensures.changed y.ensures; pairs = pruned-done (store_of c.args.state c.args.spt.now c.args.spt_dir.now c.args.tsp.now c.args.tsp_dir.now) c.args.prune.now c.args.ingestion.entry c.requires.0 c.args.removed.now c.requires.1 c.requires.2 _ c.write_pairs.ensures.1; lawful = x.ensures.lawful }
