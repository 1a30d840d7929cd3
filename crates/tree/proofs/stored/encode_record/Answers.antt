-- `encode_record` meets its contract: the key, and the value in the part behind it. Assumes nothing.
use Prim.Native.Nat.{ℕ, ◌≤◌, ◌<◌, ◌+◌, ◌^◌}
use mathlib.Core.Path.{◌≡◌, subst}
use native.Mathlib.Omega.{arith}
use native.Mathlib.Nat.{le_refl}
use lib.ListN.{length}
use Rattle.data_model.specs.Path.{field}
use Rattle.data_model.proofs.Values.{length-piece}
use Rattle.tree.proofs.RecordParts.{key_fits, record-wrote}
use borrow.Author.Rules.{rules}
use Rattle.keys.specs.Encode.{key_most}
use Rattle.tree.specs.Value.{value_length}
use Rattle.tree.proofs.stored.encode_record.Goals as goal
use Rattle.tree.proofs.stored.encode_record.Goals.{After-session, After-encode_key-n, Start}

-- The arrays' lengths.
digest-long : (c : Start) → length c.args.a.entry.payload_digest ≡ 32
digest-long c = search rules

token-long : (c : Start) → length c.args.a.token ≡ 64
token-long c = search rules

-- The session is a number of 64 bits.
session-fits : (c : After-session) → c.session.result < 2 ^ 64
session-fits c = search rules

long : (c : After-encode_key-n) → c.encode_key-n.result ≤ key_most field
long c =
    let a = c.args in
    omega (arith, c.encode_key-n.ensures.0, key_fits a.order field a.a.entry.subspace_id a.a.entry.path a.a.entry.timestamp c.requires.0)

room : (c : After-encode_key-n) → key_most field + value_length ≤ length c.encode_key-n.new.out
room c = omega (arith, c.encode_key-n.auto.out, c.requires.1)

pub slice_bounds-encode_entry_values-count : goal.slice_bounds-encode_entry_values-count
slice_bounds-encode_entry_values-count c = omega (arith, long (goal.at.slice_bounds-encode_entry_values-count c).After-encode_key-n, room (goal.at.slice_bounds-encode_entry_values-count c).After-encode_key-n)

pub slice_bounds-encode_entry_values-start : goal.slice_bounds-encode_entry_values-start
slice_bounds-encode_entry_values-start c = omega (arith, long (goal.at.slice_bounds-encode_entry_values-start c).After-encode_key-n, room (goal.at.slice_bounds-encode_entry_values-start c).After-encode_key-n)

pub encode_entry_values-requires : goal.encode_entry_values-requires
encode_entry_values-requires c =
    let m = c.encode_key-n.new.out in
    let n = c.encode_key-n.result in
    simp (length-piece n (length m) m (le_refl (length m))) (omega (arith, long (goal.at.encode_entry_values-requires c).After-encode_key-n, room (goal.at.encode_entry_values-requires c).After-encode_key-n))

pub overflow_add-result : goal.overflow_add-result
overflow_add-result c = omega (arith, long (goal.at.overflow_add-result c).After-encode_key-n, c.encode_entry_values.ensures.0)

pub returns : goal.returns
returns c =
    let f = c.encode_key-n in
    let g = c.encode_entry_values in
    let w = record-wrote c.args.order c.args.a (digest-long (goal.at.returns c).Start) (token-long (goal.at.returns c).Start) _ _ c.kind.ensures c.session.ensures c.args.out.now f.new.out _ f.result g.result
    (omega (arith, long (goal.at.returns c).After-encode_key-n, c.requires.1)) f.ensures.0 f.ensures.1 (omega (arith, long (goal.at.returns c).After-encode_key-n, room (goal.at.returns c).After-encode_key-n, g.ensures.0)) g.ensures.0 g.ensures.1 in
    (w.0, w.1, subst (λ (n : ℕ). n < 2 ^ 64) c.session.ensures (session-fits (goal.at.returns c).After-session))
