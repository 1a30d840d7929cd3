-- `write_tsp_key` meets its contract. The subspace goes into the part behind the timestamp, the path into that behind the subspace. Assumes nothing.
use Prim.Native.Nat.{◌≤◌}
use mathlib.Core.Path.{◌≡◌, sym}
use mathlib.Core.List.{◌++◌}
use native.Mathlib.Omega.{arith}
use lib.ListN.{length}
use Rattle.data_model.specs.Path.{components, field}
use Rattle.keys.specs.Encode.{be, subspace_key, path_key, tsp_key}
use Rattle.laws.proofs.Lists.{wrote-first, wrote-lent, wrote-last}
use Rattle.keys.proofs.Encoding.{be-length, subspace-length, legal-most}
use borrow.Author.Rules.{rules}
use Rattle.keys.proofs.encode.write_tsp_key.Goals as goal
use Rattle.keys.proofs.encode.write_tsp_key.Goals.{After-slice_known-4-1}

long : (c : After-slice_known-4-1) → c.encode_path.result ≤ 274
long c = omega (arith, c.encode_path.ensures.0, legal-most field c.args.p c.requires.0)

pub overflow_add-result : goal.overflow_add-result
overflow_add-result c = omega (arith, long c)

pub returns : goal.returns
unfolding tsp_key
returns c =
    let a = c.args in
    let f = c.write_u64 in
    let g = c.write_subspace in
    let e = c.encode_path in
    let size : length f.new.out ≡ length a.out.now = search rules in
    let p = path_key (components a.p) in
    let d = wrote-lent (be 8 a.t ++ (subspace_key a.s ++ p)) (subspace_key a.s) p a.out.now f.new.out g.new.out 8 16
    (wrote-first (be 8 a.t) (subspace_key a.s ++ p) a.out.now f.new.out 8 (omega (arith, c.requires.1)) (sym (be-length 8 a.t)) f.ensures.1)
    (omega (arith, size, c.requires.1))
    (sym (subspace-length a.s))
    g.ensures.1 in
    wrote-last _ p _ _ _ 24 e.result d
    (omega (arith, long c, d.size, c.requires.1))
    e.ensures.0
    e.ensures.1
