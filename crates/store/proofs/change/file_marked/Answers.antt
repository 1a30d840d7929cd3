-- `file_marked` meets its contract. Assumes nothing.
use borrow.Author.Rules.{rules}
use Prim.Native.Nat.{ℕ, ◌≤◌}
use mathlib.Core.Path.{◌≡◌, sym, ◌∙◌}
use native.Mathlib.Omega.{arith}
use lib.ListN.{length, length-replicate}
use lib.Seq.{length-take-le}
use Rattle.data_model.specs.Entry.{entry_of, rank_of}
use Rattle.key_laws.specs.Bytes.{Bytes}
use Rattle.layout.specs.Layout.{records}
use Rattle.tree.specs.Stored.{stored_of, triple_of}
use Rattle.store.proofs.ChangeLaws.{Handed, written-least, written-most, front-written, front-key, filing-editable, filing-searchable, filing-numbers, filing-many, filing-bytes, filing-place, filing-done, inserted-lawful}
use Rattle.tree.specs.Tree.{place_in}
use Rattle.tree.specs.Value.{value_length}
use Rattle.store.specs.Store.{record_most}
use Rattle.data_model.specs.Path.{field}
use Rattle.store.proofs.change.file_marked.Goals as goal
use Rattle.store.proofs.change.file_marked.Goals.{After-encode_record-n, After-slice_known-1, After-rec-4-1, Start, in-Ok, in-Ok-2}

handed : (c : Start) → Handed (stored_of c.args.a)
unfolding triple_of stored_of entry_of rank_of
handed c = record {
  sized = record { high = search rules; low = search rules; time = search rules };
  payload = search rules;
  digest = search rules;
  token = search rules;
  available = search rules;
}

path-long : (c : Start) → length c.args.a.entry.path.bytes ≡ 128
path-long c = search rules

known : (c : After-slice_known-1) → Bytes c.args.tree.now
known c i = (c.slice_known-1.given i).fits

-- The record has a key and fits its buffer.
least : (c : After-encode_record-n) → value_length ≤ c.encode_record-n.result
least c = omega (arith, c.encode_record-n.ensures.0, written-least c.args.order c.args.a (handed c.before.before.before.before.before.before.before.before.before.before.before.before.before))

most : (c : After-encode_record-n) → c.encode_record-n.result ≤ length c.encode_record-n.new.out
most c =
    omega (arith, c.encode_record-n.ensures.0, written-most c.args.order c.args.a (handed c.before.before.before.before.before.before.before.before.before.before.before.before.before) c.requires.0.path, c.encode_record-n.auto.out, length-replicate {A = ℕ} (record_most field) 0)

-- The place that was found.
found : (c : After-rec-4-1) → c.match-find.at ≡ place_in c.find.result
found c = elim c.match-find.branch [ in-Ok w ↦ search rules | in-Ok-2 w ↦ search rules ]

pub slice_bounds-rec-count : goal.slice_bounds-rec-count
slice_bounds-rec-count c = least (goal.at.slice_bounds-rec-count c).After-encode_record-n

pub slice_bounds-rec-end : goal.slice_bounds-rec-end
slice_bounds-rec-end c = omega (arith, most (goal.at.slice_bounds-rec-end c).After-encode_record-n)

pub slice_bounds-find-length : goal.slice_bounds-find-length
slice_bounds-find-length c = let e = c.encode_record-n in sym (length-take-le _ e.new.out (omega (arith, most (goal.at.slice_bounds-find-length c).After-encode_record-n)))

pub find-requires : goal.find-requires
find-requires c =
    let r = c.retain-left in
    filing-searchable c.requires.0 (handed (goal.at.find-requires c).Start) (known (goal.at.find-requires c).After-slice_known-1) _ _ c.requires.1 r.result r.new.dir r.new.tree r.ensures.left r.ensures.bytes r.ensures.numbers

pub slice_bounds-rec-end-2 : goal.slice_bounds-rec-end-2
slice_bounds-rec-end-2 c = most (goal.at.slice_bounds-rec-end-2 c).After-encode_record-n

pub slice_bounds-insert_at-end : goal.slice_bounds-insert_at-end
slice_bounds-insert_at-end c = let e = c.encode_record-n in sym (length-take-le _ e.new.out (most (goal.at.slice_bounds-insert_at-end c).After-encode_record-n))

pub insert_at-requires : goal.insert_at-requires
insert_at-requires c =
    let b = known (goal.at.insert_at-requires c).After-slice_known-1 in
    let r = c.retain-left in
    let e = c.encode_record-n in
    let w = front-written _ _ e.new.out e.result e.ensures.0 e.ensures.1 in
    let k = front-key _ _ e.new.out e.result e.ensures.0 e.ensures.1 in (
      filing-editable c.requires.0 (handed (goal.at.insert_at-requires c).Start) b _ _ c.requires.1 r.result r.new.dir r.new.tree r.ensures.left r.ensures.bytes r.ensures.numbers,
      filing-place c.requires.0 (handed (goal.at.insert_at-requires c).Start) b _ _ c.requires.1 r.result r.new.dir r.new.tree r.ensures.left r.ensures.bytes r.ensures.numbers _ w _ k _ (found (goal.at.insert_at-requires c).After-rec-4-1 ∙ c.find.ensures.at),
      filing-numbers c.requires.0 (handed (goal.at.insert_at-requires c).Start) b _ _ c.requires.1 r.result r.new.dir r.new.tree r.ensures.left r.ensures.bytes r.ensures.numbers,
      filing-bytes c.requires.0 (handed (goal.at.insert_at-requires c).Start) b _ _ c.requires.1 r.result r.new.dir r.new.tree r.ensures.left r.ensures.bytes r.ensures.numbers _ w,
    )

pub overflow_add-result : goal.overflow_add-result
overflow_add-result c =
    let r = c.retain-left in
    omega (arith, c.requires.0.few, filing-many c.requires.0 (handed (goal.at.overflow_add-result c).Start) (known (goal.at.overflow_add-result c).After-slice_known-1) _ _ c.requires.1 r.result r.new.dir r.new.tree r.ensures.left r.ensures.bytes r.ensures.numbers)

pub returns-clause-changed : goal.returns-clause-changed
returns-clause-changed c =
    let r = c.retain-left in
    let e = c.encode_record-n in
    let i = c.insert_at in
    filing-done c.requires.0 (handed (goal.at.returns-clause-changed c).Start) (known (goal.at.returns-clause-changed c).After-slice_known-1) _ _ c.requires.1 r.result r.new.dir r.new.tree r.ensures.left r.ensures.bytes r.ensures.numbers _
    (front-written _ _ e.new.out e.result e.ensures.0 e.ensures.1) _ (front-key _ _ e.new.out e.result e.ensures.0 e.ensures.1) _ (found (goal.at.returns-clause-changed c).After-rec-4-1 ∙ c.find.ensures.at) _ _ i.ensures.bytes i.ensures.numbers

pub returns-clause-lawful : goal.returns-clause-lawful
returns-clause-lawful c =
    let r = c.retain-left in
    let e = c.encode_record-n in
    let i = c.insert_at in
    inserted-lawful c.args.order c.args.a (handed (goal.at.returns-clause-lawful c).Start) (omega (arith, path-long (goal.at.returns-clause-lawful c).Start)) c.requires.0.path e.ensures.2 _ (front-written _ _ e.new.out e.result e.ensures.0 e.ensures.1) _ c.match-find.at (records r.result r.new.dir r.new.tree) _ (λ j. (c.slice_known-6-1.given j).fits) i.ensures.bytes
