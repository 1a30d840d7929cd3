-- `component_bytes` meets its contract: the path's end, or what `read_component` read into zeros. Assumes nothing.
use Prim.Native.Nat.{ℕ, ◌-◌}
use mathlib.Core.Path.{◌≡◌, sym, ap, subst, ◌∙◌}
use mathlib.Core.List.{List, []}
use native.Mathlib.Omega.{arith}
use lib.ListN.{length, drop, take, length-drop, drop_of_length-le, replicate}
use Rattle.std.proofs.Common.{rules}
use Rattle.std.specs.Prelude.{Err}
use Rattle.data_model.specs.Said.{refuses, says}
use Rattle.data_model.specs.Refusal.{refusal_number}
use Rattle.keys.specs.Decode.{token_of, ends_path, by_token, read_component, component_says, next_component, component_read}
use Rattle.keys.specs.Inner.{part_of, Filled}
use Rattle.keys.proofs.Reading.{rest, took_it, component-fits}
use Rattle.keys.proofs.Decoding.{component-ended, component-took, component-refused}
use Rattle.keys.proofs.decode.component_bytes.Goals as goal
use Rattle.keys.proofs.decode.component_bytes.Goals.{In_ok-len}

pub returns-then-key-at : goal.returns-then-key-at
unfolding token_of ends_path by_token read_component component_says next_component component_read
returns-then-key-at c =
    let a = c.args in
    let z : drop a.at a.key.now ≡ [] = drop_of_length-le a.key.now {i = a.at} (omega arith) in
    rw z

pub returns-then-ends_path : goal.returns-then-ends_path
returns-then-ends_path c = component-ended _ _ (sym c.ends_path.ensures ∙ c.if-ends_path.true)

pub returns-in_err-len : goal.returns-in_err-len
returns-in_err-len c =
    let a = c.args in
    let r = c.in_err-len.field-0.0 in
    let s : c.from_residual.result ≡ Err r = search rules in
    let e : refuses (refusal_number r) ≡ part_of (read_component 64 (take (length a.key.now - a.at) (drop a.at a.key.now))) = search rules in
    ap component_says s
    ∙ component-refused a.at (drop a.at a.key.now) r (sym c.ends_path.ensures ∙ c.if-ends_path.false) (e ∙ ap (λ (k : List ℕ). part_of (read_component 64 k)) (rest a.key.now a.at))

-- What was read is what stands at the position.
read : (c : In_ok-len) → let a = c.args in
    (says (c.in_ok-len.len, c.in_ok-len.used) ≡ part_of (read_component 64 (drop a.at a.key.now)))
    × Filled (λ x. x) (read_component 64 (drop a.at a.key.now)) (replicate 64 0) c.read_component.new.bytes
read c =
    let a = c.args in
    let e : says (c.in_ok-len.len, c.in_ok-len.used) ≡ part_of (read_component 64 (take (length a.key.now - a.at) (drop a.at a.key.now))) = search rules in
    subst (λ (k : List ℕ). (says (c.in_ok-len.len, c.in_ok-len.used) ≡ part_of (read_component 64 k)) × Filled (λ x. x) (read_component 64 k) (replicate 64 0) c.read_component.new.bytes)
    (rest a.key.now a.at)
    (e, c.read_component.ensures.1)

pub overflow_add-result-2 : goal.overflow_add-result-2
overflow_add-result-2 c =
    let a = c.args in
    let e = read (goal.at.overflow_add-result-2 c).In_ok-len in
    let t = took_it _ _ _ _ _ e.0 e.1 in
    omega (arith, (component-fits 64 (drop a.at a.key.now) t.c _ t.is).0, length-drop a.at a.key.now)

pub returns : goal.returns
returns c =
    let e = read (goal.at.returns c).In_ok-len in
    component-took _ _ _ _ _ (sym c.ends_path.ensures ∙ c.if-ends_path.false) e.0 e.1
