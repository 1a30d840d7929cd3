-- `decode_components` meets its contract. The invariant: the components read so far, in front of what reading on gives. Assumes nothing.
use Prim.Native.Nat.{ℕ, ◌≤◌, ◌-◌, ◌+◌, min}
use mathlib.Core.Path.{◌≡◌, sym, ap, subst, ◌∙◌}
use mathlib.Core.List.{List}
use native.Mathlib.Omega.{arith}
use lib.ListN.{length, drop, take, length-drop}
use borrow.Rule.Slice.PartMut.{mid_of}
use Rattle.std.proofs.Common.{rules}
use Rattle.data_model.specs.Said.{refuses, says}
use Rattle.data_model.specs.Refusal.{said, refused_with}
use Rattle.keys.specs.Decode.{Taken, read_component}
use Rattle.keys.specs.Inner.{part_of}
use Rattle.keys.proofs.Reading.{TookIt, took_it, refused-it, component-fits}
use Rattle.keys.proofs.Walking.{walking-none, walking-ends, walking-stops, walking-fails, walking-took, asked, parts-refused, parts-took}
use Rattle.keys.proofs.decode.decode_components.Goals as goal
use Rattle.keys.proofs.decode.decode_components.Goals.{In_ok-len}

pub loop-n-init : goal.loop-n-init
loop-n-init c = walking-none _ _ _ _

pub returns-then-ends_path : goal.returns-then-ends_path
returns-then-ends_path c =
    let a = c.args in
    let l = c.loop-n in
    let all_of = parts-took _ _ _ _ _ l.invariant.cs l.n _
    (walking-ends a.mcl a.k.now a.bytes.now a.ends.now l.bytes l.ends l.at l.total l.n l.invariant (sym c.ends_path.ensures ∙ c.if-ends_path.true))
    l.invariant.n_is
    l.invariant.bytes_are
    l.invariant.ends_are in record { value = all_of.0; filled = all_of.1.0; filled_2 = all_of.1.1 }

pub returns-in_err-len : goal.returns-in_err-len
returns-in_err-len c =
    let a = c.args in
    let l = c.loop-n in
    let n = refused_with c.from_residual.result in
    let s : said c.from_residual.result ≡ refuses n = search rules in
    let e : refuses n ≡ part_of (read_component c.min-lim.result (take (length a.k.now - l.at) (drop l.at a.k.now))) = search rules in
    let r = refused-it _ n e in
    let all_of = parts-refused _ _ _ _ _
    (walking-fails a.mcl a.k.now a.bytes.now a.ends.now l.bytes l.ends l.at l.total l.n l.invariant
    (omega (arith, l.invariant.ends_size))
    (sym c.ends_path.ensures ∙ c.if-ends_path.false)
    (sym (asked a.mcl c.min-lim.result l.total l.at a.k.now a.bytes.now l.bytes c.min-lim.ensures l.invariant.bytes_size) ∙ r.0)) in record { value = s ∙ ap refuses r.1 ∙ all_of.0; filled = all_of.1.0; filled_2 = all_of.1.1 }

got : (c : In_ok-len) → let l = c.loop-n in let a = c.args in
    TookIt (read_component (min a.mcl (length a.bytes.now - l.total)) (drop l.at a.k.now)) (mid_of l.total (length l.bytes - l.total) l.bytes) c.read_component.new.bytes c.in_ok-len.len c.in_ok-len.used
got c =
    let l = c.loop-n in
    let a = c.args in
    let e : says (c.in_ok-len.len, c.in_ok-len.used) ≡ part_of (read_component c.min-lim.result (take (length a.k.now - l.at) (drop l.at a.k.now))) = search rules in
    subst (λ (t : Taken (List ℕ)). TookIt t (mid_of l.total (length l.bytes - l.total) l.bytes) c.read_component.new.bytes c.in_ok-len.len c.in_ok-len.used)
    (asked a.mcl c.min-lim.result l.total l.at a.k.now a.bytes.now l.bytes c.min-lim.ensures l.invariant.bytes_size)
    (took_it _ _ _ _ _ e c.read_component.ensures.1)

-- Its bytes are within the key, and within the room.
fits : (c : In_ok-len) → let l = c.loop-n in let a = c.args in
    (l.at + c.in_ok-len.used ≤ length a.k.now) × (l.total + c.in_ok-len.len ≤ length a.bytes.now)
fits c =
    let l = c.loop-n in
    let a = c.args in
    let t = got c in
    let f = component-fits (min a.mcl (length a.bytes.now - l.total)) (drop l.at a.k.now) t.c _ t.is in
    (omega (arith, f.0, length-drop l.at a.k.now, l.invariant.within), omega (arith, f.1, t.long, l.invariant.low))

pub overflow_add-total : goal.overflow_add-total
overflow_add-total c = omega (arith, (fits c).1)

pub overflow_add-at : goal.overflow_add-at
overflow_add-at c = omega (arith, (fits c).0)

pub loop-n-preserved : goal.loop-n-preserved
loop-n-preserved c =
    let a = c.args in
    let l = c.loop-n in
    walking-took a.mcl a.k.now a.bytes.now a.ends.now l.bytes l.ends l.at l.total l.n l.invariant _ _ _
    (omega (arith, l.invariant.ends_size))
    (sym c.ends_path.ensures ∙ c.if-ends_path.false)
    (got c)

pub returns-then-ends_path-2 : goal.returns-then-ends_path-2
returns-then-ends_path-2 c =
    let a = c.args in
    let l = c.loop-n in
    let n : length l.ends ≡ l.n = omega (arith, l.invariant.ends_size, l.invariant.few) in
    let all_of = parts-took _ _ _ _ _ l.invariant.cs (length l.ends) _
    (walking-ends a.mcl a.k.now a.bytes.now a.ends.now l.bytes l.ends l.at l.total l.n l.invariant (sym c.ends_path-2.ensures ∙ c.if-ends_path-2.true))
    (n ∙ l.invariant.n_is)
    l.invariant.bytes_are
    l.invariant.ends_are in record { value = all_of.0; filled = all_of.1.0; filled_2 = all_of.1.1 }

pub returns-else-ends_path-2 : goal.returns-else-ends_path-2
returns-else-ends_path-2 c =
    let a = c.args in
    let l = c.loop-n in
    let all_of = parts-refused _ _ _ _ _
    (walking-stops a.mcl a.k.now a.bytes.now a.ends.now l.bytes l.ends l.at l.total l.n l.invariant (omega (arith, l.invariant.ends_size)) (sym c.ends_path-2.ensures ∙ c.if-ends_path-2.false)) in record { value = all_of.0; filled = all_of.1.0; filled_2 = all_of.1.1 }
