-- `decode_path` meets its contract: what `decode_components` read into zeros. Assumes nothing.
use Prim.Native.Nat.{ℕ, ◌-◌}
use mathlib.Core.Path.{◌≡◌, ap, subst, ◌∙◌}
use mathlib.Core.List.{List, []}
use native.Mathlib.Omega.{arith}
use lib.ListN.{length, drop, take, length-drop, drop_of_length-le, replicate}
use Rattle.std.proofs.Common.{rules}
use Rattle.data_model.specs.Path.{field, joined, ends_from}
use Rattle.data_model.specs.Said.{refuses, says}
use Rattle.data_model.specs.Refusal.{said, refused_with}
use Rattle.keys.specs.Decode.{read_components, read_path}
use Rattle.keys.specs.Inner.{part_of, Filled}
use Rattle.keys.proofs.Reading.{rest}
use Rattle.keys.proofs.Decoding.{path-past, parts-fit, path-took, path-missed}
use Rattle.keys.proofs.decode.decode_path.Goals as goal
use Rattle.keys.proofs.decode.decode_path.Goals.{In_ok-count}

pub returns-then-key-at : goal.returns-then-key-at
returns-then-key-at c =
    let a = c.args in
    let z : drop a.at a.key.now ≡ [] = drop_of_length-le a.key.now {i = a.at} (omega arith) in
    path-past a.at field (drop a.at a.key.now) z

pub returns-in_err-count : goal.returns-in_err-count
unfolding read_path
returns-in_err-count c =
    let a = c.args in
    let n = refused_with c.from_residual.result in
    let s : said c.from_residual.result ≡ refuses n = search rules in
    let e : refuses n ≡ part_of (read_components 64 128 8 (take (length a.key.now - a.at) (drop a.at a.key.now))) = search rules in
    s ∙ path-missed a.at _ n (e ∙ ap (λ (k : List ℕ). part_of (read_path field k)) (rest a.key.now a.at))

-- What was read is what stands at the position.
read : (c : In_ok-count) → let a = c.args in let t = read_path field (drop a.at a.key.now) in
    (says (c.in_ok-count.count, c.in_ok-count.used) ≡ part_of t)
    × (Filled joined t (replicate 128 0) c.decode_components.new.bytes × Filled (ends_from 0) t (replicate 8 0) c.decode_components.new.ends)
unfolding read_path
read c =
    let a = c.args in
    let d = c.decode_components in
    let o = c.in_ok-count in
    let e : says (o.count, o.used) ≡ part_of (read_components 64 128 8 (take (length a.key.now - a.at) (drop a.at a.key.now))) = search rules in
    subst (λ (k : List ℕ). (says (o.count, o.used) ≡ part_of (read_path field k)) × (Filled joined (read_path field k) (replicate 128 0) d.new.bytes × Filled (ends_from 0) (read_path field k) (replicate 8 0) d.new.ends))
    (rest a.key.now a.at)
    (e, (d.ensures.filled, d.ensures.filled_2))

pub overflow_add-result : goal.overflow_add-result
overflow_add-result c =
    let a = c.args in
    let e = read (goal.at.overflow_add-result c).In_ok-count in
    omega (arith, parts-fit field (drop a.at a.key.now) _ _ e.0, length-drop a.at a.key.now)

pub returns : goal.returns
returns c =
    let e = read (goal.at.returns c).In_ok-count in
    path-took _ _ _ _ _ _ e.0 e.1.0 e.1.1
