-- `decode_key` meets its contract: no path, bytes left over, or a key. Assumes nothing.
use Prim.Native.Nat.{ℕ, ◌+◌, ◌-◌, ◌≤◌}
use mathlib.Core.Path.{◌≡◌, ap, ◌∙◌}
use native.Mathlib.Omega.{arith}
use lib.ListN.{length, drop, length-drop}
use Rattle.std.proofs.Common.{rules}
use Rattle.data_model.specs.Path.{field}
use Rattle.data_model.specs.Said.{refuses, says}
use Rattle.data_model.specs.Refusal.{said, refused_with}
use Rattle.keys.specs.Decode.{path_read, read_path, number, subspace_at}
use Rattle.keys.specs.Inner.{read_key}
use Rattle.keys.proofs.Reading.{rest}
use Rattle.keys.proofs.Decoding.{PathTaken, path-taken, path-refused, next_fits, whole-refused, whole-other, whole-took, decoded-took, decoded-refused}
use Rattle.keys.proofs.decode.decode_key.Goals as goal
use Rattle.keys.proofs.decode.decode_key.Goals.{In_ok-read}

pub returns-in_err-read : goal.returns-in_err-read
unfolding read_key
returns-in_err-read c =
    let a = c.args in
    let n = refused_with c.from_residual.result in
    let s : said c.from_residual.result ≡ refuses n = search rules in
    let e : refuses n ≡ path_read 0 (read_path field (drop a.before a.key.now)) = search rules in
    let r = path-refused 0 _ n e in
    s ∙ ap refuses r.1 ∙ decoded-refused _ (whole-refused a.before a.behind (length a.key.now) _ _ r.0)

-- What reading the path answered, and that what it took is within the key.
read : (c : In_ok-read) → says c.in_ok-read.read ≡ path_read 0 (read_path field (drop c.args.before c.args.key.now))
read c = search rules

long : (c : In_ok-read) → c.args.before + c.in_ok-read.read.next ≤ length c.args.key.now
long c =
    let a = c.args in
    omega (arith, next_fits field (drop a.before a.key.now) c.in_ok-read.read (read c), length-drop a.before a.key.now)

pub overflow_add-before : goal.overflow_add-before
overflow_add-before c = omega (arith, long (goal.at.overflow_add-before c).In_ok-read)

pub overflow_add-before-2 : goal.overflow_add-before-2
overflow_add-before-2 c = omega (arith, long (goal.at.overflow_add-before-2 c).In_ok-read)

-- The path that was read, taken apart.
parts : (c : In_ok-read) → PathTaken 0 (read_path field (drop c.args.before c.args.key.now)) c.in_ok-read.read
parts c = path-taken 0 _ c.in_ok-read.read (read c)

pub returns-then-before-read : goal.returns-then-before-read
unfolding read_key
returns-then-before-read c =
    let a = c.args in
    let t = parts (goal.at.returns-then-before-read c).In_ok-read in
    decoded-refused _ (whole-other a.before a.behind (length a.key.now) _ _ t.cs t.u t.is (λ e. c.if-before-read.true (omega (arith, e, t.next_is))))

pub returns : goal.returns
unfolding read_key
returns c =
    let a = c.args in
    let t = parts (goal.at.returns c).In_ok-read in
    decoded-took _ _ (length a.key.now) _ _ _
    (whole-took a.before a.behind (length a.key.now) _ _ t.cs t.u t.is (omega (arith, c.if-before-read.false, t.next_is)))
    (c.read_subspace.ensures ∙ ap subspace_at (rest a.key.now (a.before - 16)))
    t.path_is
    (c.read_u64.ensures ∙ ap number (rest a.key.now a.time))
