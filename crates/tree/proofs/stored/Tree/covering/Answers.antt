-- `covering` meets its contract: those from d on do not cover record k. Assumes nothing.
use Prim.Native.Nat.{ℕ, ◌+◌, ◌-◌}
use mathlib.Core.Path.{◌≡◌, ◌∙◌, sym, ap, ap₂, subst}
use mathlib.Core.List.{List}
use mathlib.Core.Bool.{true}
use native.Mathlib.Omega.{arith}
use lib.ListN.{get_or}
use Rattle.laws.specs.Prefix.{same_number, prefix_of}
use Rattle.layout.specs.Layout.{record_at}
use Rattle.tree.specs.Address.{open_at, address_at}
use Rattle.tree.proofs.RankLaws.{above-next}
use Rattle.tree.proofs.stored.Tree.covering.Goals as goal

pub loop-d-init : goal.loop-d-init
loop-d-init c = (omega arith, λ i x y. absurd (omega arith))

pub returns-then-begins : goal.returns-then-begins
returns-then-begins c =
    let e = c.address_at-address.ensures in
    let l = c.loop-d in
    let a = c.args.self in
    let back : l.d ≡ l.d - 1 + 1 = omega arith in (
      omega arith,
      λ i x y. ap (prefix_of same_number _) (sym e) ∙ l.invariant.1 i (omega arith) y,
      λ h. subst (λ (n : ℕ). prefix_of same_number (open_at a.order (record_at (get_or c.args.stack.now (n - 1) 0) a.dir.now a.bytes.now)) (address_at a.order (record_at c.args.k a.dir.now a.bytes.now)) ≡ true) back
          (sym (ap₂ (prefix_of same_number) c.open_at.ensures e) ∙ sym c.begins.ensures ∙ c.if-begins.true),
    )

pub loop-d-preserved : goal.loop-d-preserved
loop-d-preserved c =
    let l = c.loop-d in
    let s = c.args.self in
    let a = c.address_at-address.result.now in
    (omega arith, above-next s.order s.dir.now s.bytes.now c.args.stack.now a l.d (omega arith) l.invariant.1 (sym (ap (λ (f : List ℕ). prefix_of same_number f a) c.open_at.ensures) ∙ sym c.begins.ensures ∙ c.if-begins.false))

pub returns : goal.returns
returns c =
    let e = c.address_at-address.ensures in
    let l = c.loop-d in
    (omega arith, λ i x y. ap (prefix_of same_number _) (sym e) ∙ l.invariant.1 i (omega arith) y, λ h. absurd (omega arith))
