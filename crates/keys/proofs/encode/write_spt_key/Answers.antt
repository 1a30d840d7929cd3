-- `write_spt_key` meets its contract. The path goes into the part behind the subspace, the timestamp into that behind the path. Assumes nothing.
use Prim.Native.Nat.{ℕ, ◌+◌, ◌-◌, ◌≤◌}
use mathlib.Core.Path.{◌≡◌, sym, ◌∙◌}
use mathlib.Core.List.{List}
use native.Mathlib.Omega.{arith}
use native.Mathlib.Nat.{le_refl}
use lib.ListN.{length}
use borrow.Rule.Slice.PartMut.{put_mid}
use Rattle.data_model.specs.Path.{components, field}
use Rattle.keys.specs.Encode.{be, subspace_key, path_key, triple, spt_key}
use Rattle.laws.proofs.Lists.{Wrote, wrote-first, wrote-lent, wrote-last}
use Rattle.keys.proofs.Encoding.{be-length, subspace-length, legal-most}
use Rattle.data_model.proofs.Values.{length-piece}
use borrow.Author.Rules.{rules}
use Rattle.keys.proofs.encode.write_spt_key.Goals as goal
use Rattle.keys.proofs.encode.write_spt_key.Goals.{After-slice_known-3-1}

-- The buffer after the path came back.
abbrev mid : (c : After-slice_known-3-1) → List ℕ
mid c = put_mid 16 (length c.write_subspace-at.new.out - 16) c.write_subspace-at.new.out c.encode_path-at.new.out

long : (c : After-slice_known-3-1) → c.encode_path-at.result ≤ 274
long c = omega (arith, c.encode_path-at.ensures.0, legal-most field c.args.p c.requires.0)

-- What is written once the path is, and what is to come: the timestamp.
after : (c : After-slice_known-3-1) → let a = c.args in
    Wrote (spt_key (triple a.s (components a.p) a.t)) (be 8 a.t) a.out.now (mid c) (16 + c.encode_path-at.result)
unfolding spt_key
after c =
    let a = c.args in
    let f = c.write_subspace-at in
    let g = c.encode_path-at in
    let size : length f.new.out ≡ length a.out.now = search rules in
    wrote-lent _ (path_key (components a.p)) (be 8 a.t) _ f.new.out _ 16 g.result
    (wrote-first (subspace_key a.s) _ a.out.now f.new.out 16 (omega (arith, c.requires.1)) (sym (subspace-length a.s)) f.ensures.1)
    (omega (arith, long c, size, c.requires.1))
    g.ensures.0
    g.ensures.1

pub overflow_add-at : goal.overflow_add-at
overflow_add-at c = omega (arith, long c)

pub slice_bounds-write_u64-count : goal.slice_bounds-write_u64-count
slice_bounds-write_u64-count c = (after c).room

pub slice_bounds-write_u64-start : goal.slice_bounds-write_u64-start
slice_bounds-write_u64-start c = (after c).room

pub write_u64-requires : goal.write_u64-requires
write_u64-requires c =
    let m = mid (goal.at.write_u64-requires c).After-slice_known-3-1 in
    let at = 16 + c.encode_path-at.result in
    simp (length-piece at (length m) m (le_refl (length m)))
    (omega (arith, long (goal.at.write_u64-requires c).After-slice_known-3-1, (after (goal.at.write_u64-requires c).After-slice_known-3-1).size, c.requires.1))

pub overflow_add-result : goal.overflow_add-result
overflow_add-result c = omega (arith, long (goal.at.overflow_add-result c).After-slice_known-3-1, c.write_u64.ensures.0)

pub returns : goal.returns
returns c =
    let a = c.args in
    let g = c.write_u64 in
    wrote-last _ (be 8 a.t) _ (mid (goal.at.returns c).After-slice_known-3-1) _ (16 + c.encode_path-at.result) g.result
    (after (goal.at.returns c).After-slice_known-3-1)
    (omega (arith, long (goal.at.returns c).After-slice_known-3-1, (after (goal.at.returns c).After-slice_known-3-1).size, g.ensures.0, c.requires.1))
    (g.ensures.0 ∙ sym (be-length 8 a.t))
    g.ensures.1
