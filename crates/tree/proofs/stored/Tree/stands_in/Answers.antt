-- `stands_in` meets its contract: the time-first key is written and looked up, with the record's value. Assumes nothing.
use Prim.Native.Nat.{ℕ, ◌≤◌}
use mathlib.Core.Path.{sym}
use native.Mathlib.Omega.{arith}
use lib.ListN.{length-replicate}
use lib.Seq.{length-take-le}
use Rattle.data_model.specs.Path.{field}
use Rattle.tree.proofs.FormedLaws.{formed-record, formed-bounds, ordered-searchable}
use Rattle.tree.proofs.RecordParts.{key_fits}
use Rattle.tree.proofs.WithinLaws.{at-bytes, formed-recorded, stands}
use Rattle.keys.specs.Encode.{key_most}
use Rattle.tree.proofs.stored.Tree.stands_in.Goals as goal
use Rattle.tree.proofs.stored.Tree.stands_in.Goals.{After-encode_key-n}

-- The key is no longer than the most that one is.
long : (c : After-encode_key-n) → c.encode_key-n.result ≤ key_most field
long c =
    let a = c.stored_at in
    omega (arith, c.encode_key-n.ensures.0, key_fits c.args.other.order field a.result.entry.subspace_id a.result.entry.path a.result.entry.timestamp a.ensures.path_value.0)

pub stored_at-requires : goal.stored_at-requires
stored_at-requires c = formed-bounds c.requires.0 c.args.k c.requires.2

pub slice_bounds-key-end : goal.slice_bounds-key-end
slice_bounds-key-end c = omega (arith, long (goal.at.slice_bounds-key-end c).After-encode_key-n)

pub slice_bounds-has_record-end : goal.slice_bounds-has_record-end
slice_bounds-has_record-end c =
    let g = c.encode_key-n in
    sym (length-take-le g.result g.new.out (omega (arith, long (goal.at.slice_bounds-has_record-end c).After-encode_key-n, g.auto.out, length-replicate {A = ℕ} (key_most field) 0)))

pub value_at-requires : goal.value_at-requires
value_at-requires c = formed-bounds c.requires.0 c.args.k c.requires.2

pub has_record-requires : goal.has_record-requires
has_record-requires c = ordered-searchable c.requires.1

pub returns : goal.returns
returns c =
    let a = c.stored_at in
    let g = c.encode_key-n in
    stands c.args.self.order c.args.other.order c.args.namespace _ _ a.result _ g.new.out _ g.result _
    (at-bytes c.args.k c.args.self.dir.now c.args.self.bytes.now c.args.self.fits)
    (formed-record c.requires.0 c.args.k c.requires.2)
    (formed-recorded c.requires.1.formed c.args.other.fits)
    a.ensures.path_value.1 g.ensures.0 g.ensures.1 c.value_at.ensures c.has_record.ensures
