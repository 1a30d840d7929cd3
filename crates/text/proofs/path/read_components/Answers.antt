-- `read_components` meets its contract. The invariant: the components filled in so far, and those left. Assumes nothing.
use native.Mathlib.Omega.{arith}
use Prim.Native.Nat.{ℕ, ◌≤◌, ◌<◌, ◌-◌, ◌+◌, ◌/◌}
use mathlib.Core.Path.{◌≡◌, sym, ap, subst}
use mathlib.Core.Bool.{true}
use mathlib.Core.List.{List, ◌∷◌, map}
use lib.ListN.{length, drop, set, length-map}
use borrow.Rule.Slice.PartMut.{put_mid, mid_of}
use Rattle.laws.specs.Lists.{piece, put}
use Rattle.laws.specs.Sorted.{all}
use Rattle.data_model.proofs.Values.{length-piece}
use Rattle.data_model.specs.Path.{field}
use Rattle.text.specs.Hex.{hex_of}
use Rattle.text.specs.Fields.{fields}
use Rattle.text.specs.PathField.{slash, is_component_field}
use Rattle.text.proofs.HexLaws.{bytes-length}
use Rattle.text.proofs.FieldLaws.{behind, behind_more, behind-none, fields-first, fields-cut, fields-hold}
use Rattle.text.proofs.Filling.{Filling, filling-none, filling-long, filling-full, filling-goes, filling-to, filling-end, over-is}
use Rattle.text.proofs.path.read_components.Goals as goal
use Rattle.text.proofs.path.read_components.Goals.{After-field_end-e, then-len-gt-MCL-via-then-len-gt-MCL, then-len-gt-MCL-via-else-len-gt-MCL+then-bytes-total}

-- In a turn: the component that comes next, and how long it is.
turn : (c : After-field_end-e) → let l = c.loop-n in let a = c.args in let e = c.field_end-e.result in
    Filling (map hex_of (fields slash a.s.now)) (hex_of (piece l.at e a.s.now) ∷ map hex_of (behind slash (drop e a.s.now))) a.bytes.now a.ends.now l.bytes l.ends l.total l.n
turn c =
    let l = c.loop-n in
    let a = c.args in
    let e = c.field_end-e in
    subst (λ (x : List (List ℕ)). Filling (map hex_of (fields slash a.s.now)) (map hex_of x) a.bytes.now a.ends.now l.bytes l.ends l.total l.n)
    (fields-cut slash a.s.now l.at e.result e.ensures.0)
    l.invariant.2

long : (c : After-field_end-e) → (c.field_end-e.result - c.loop-n.at) / 2 ≡ length (hex_of (piece c.loop-n.at c.field_end-e.result c.args.s.now))
long c = omega (arith, bytes-length (piece c.loop-n.at c.field_end-e.result c.args.s.now), length-piece c.loop-n.at c.field_end-e.result c.args.s.now c.field_end-e.ensures.1)

held : (c : After-field_end-e) → (is_component_field (piece c.loop-n.at c.field_end-e.result c.args.s.now) ≡ true) × (all is_component_field (behind slash (drop c.field_end-e.result c.args.s.now)) ≡ true)
held c = fields-hold slash is_component_field c.args.s.now c.loop-n.at c.field_end-e.result c.field_end-e.ensures.0 c.loop-n.invariant.1

-- After its stores, `out` in the rest of the bytes: those behind are left.
next : (c : After-field_end-e) (out : List ℕ) → let l = c.loop-n in let a = c.args in let e = c.field_end-e.result in let m = (e - l.at) / 2 in
    l.n < length a.ends.now → m ≤ field.mcl → m ≤ length a.bytes.now - l.total
    → out ≡ put (hex_of (piece l.at e a.s.now)) (mid_of l.total (length l.bytes - l.total) l.bytes)
    → Filling (map hex_of (fields slash a.s.now)) (map hex_of (behind slash (drop e a.s.now))) a.bytes.now a.ends.now (put_mid l.total (length l.bytes - l.total) l.bytes out) (set l.ends l.n (l.total + m)) (l.total + m) (l.n + 1)
next c out few short room e = filling-goes _ _ _ _ _ _ _ _ _ (turn c) _ _ (long c) few short room e

pub loop-n-init : goal.loop-n-init
loop-n-init c = (omega arith, c.requires, filling-none _ _ _)

pub overflow_sub-len : goal.overflow_sub-len
overflow_sub-len c = omega (arith, c.field_end-e.ensures.0)

pub returns-then-len-gt-MCL : goal.returns-then-len-gt-MCL
returns-then-len-gt-MCL c =
    let t = (goal.at.returns-then-len-gt-MCL c).After-field_end-e in
    let all_of = over-is _ _ _ _ _ _ _ (elim c.then-len-gt-MCL.branch [
      | then-len-gt-MCL-via-then-len-gt-MCL w ↦ filling-long _ _ _ _ _ _ _ _ _ (turn t) (omega (arith, long t))
      | then-len-gt-MCL-via-else-len-gt-MCL+then-bytes-total w ↦ filling-long _ _ _ _ _ _ _ _ _ (turn t) (omega (arith, long t, c.loop-n.invariant.2.bytes_size, w.if-bytes-total.true))
    ]) in record { value = all_of.0; put_if = all_of.1.0; put_if_2 = all_of.1.1 }

pub overflow_sub-bytes : goal.overflow_sub-bytes
overflow_sub-bytes c = omega (arith, c.loop-n.invariant.2.low, c.loop-n.invariant.2.bytes_size)

pub write_component-requires : goal.write_component-requires
write_component-requires c = ((held (goal.at.write_component-requires c).After-field_end-e).0, omega (arith, length-piece c.loop-n.at c.field_end-e.result c.args.s.now c.field_end-e.ensures.1, c.loop-n.invariant.2.low))

pub returns-then-e-s : goal.returns-then-e-s
returns-then-e-s c =
    let all_of = filling-end _ _ _ _ _ _ _ _
    (filling-to _ _ _ _ _ _ _ _ _ (ap (map hex_of) (behind-none slash c.args.s.now c.field_end-e.result (omega arith))) (next (goal.at.returns-then-e-s c).After-field_end-e c.write_component.new.out (omega (arith, c.loop-n.invariant.2.ends_size)) (omega arith) (omega (arith, c.loop-n.invariant.2.bytes_size)) c.write_component.ensures.1))
    (sym (length-map (fields slash c.args.s.now) hex_of)) in record { value = all_of.0; put_if = all_of.1.0; put_if_2 = all_of.1.1 }

pub overflow_add-at : goal.overflow_add-at
overflow_add-at c = omega (arith, c.field_end-e.ensures.1)

pub loop-n-preserved : goal.loop-n-preserved
loop-n-preserved c =
    let e = c.field_end-e.result in
    let s = c.args.s.now in
    let l : e < length s = omega (arith, c.field_end-e.ensures.1) in (
      omega arith,
      subst (λ (x : List (List ℕ)). all is_component_field x ≡ true) (behind_more slash s e l) (held (goal.at.loop-n-preserved c).After-field_end-e).1,
      filling-to _ _ _ _ _ _ _ _ _ (ap (map hex_of) (behind_more slash s e l)) (next (goal.at.loop-n-preserved c).After-field_end-e c.write_component.new.out (omega (arith, c.loop-n.invariant.2.ends_size)) (omega arith) (omega (arith, c.loop-n.invariant.2.bytes_size)) c.write_component.ensures.1),
    )

pub returns : goal.returns
returns c =
    let l = c.loop-n in
    let all_of = over-is _ _ _ _ _ _ _ (filling-full _ _ _ _ _ _ _ _ _ (subst (λ (x : List (List ℕ)). Filling (map hex_of (fields slash c.args.s.now)) (map hex_of x) c.args.bytes.now c.args.ends.now l.bytes l.ends l.total l.n) (fields-first slash (drop l.at c.args.s.now)) l.invariant.2) (omega (arith, l.invariant.2.ends_size))) in record { value = all_of.0; put_if = all_of.1.0; put_if_2 = all_of.1.1 }
