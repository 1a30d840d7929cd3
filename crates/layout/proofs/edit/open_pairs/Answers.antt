-- `open_pairs` meets its contract. Assumes nothing.
use mathlib.Core.Path.{◌≡◌, sym, ap, ◌∙◌}
use Prim.Native.Nat.{ℕ, ◌*◌, ◌+◌}
use native.Mathlib.Omega.{arith}
use lib.ListN.{set}
use Rattle.layout.proofs.InsertLaws.{opening-start, opening-turn, opening-end}
use Rattle.layout.proofs.edit.open_pairs.Goals as goal

pub loop-k-init : goal.loop-k-init
loop-k-init c = opening-start _ _ _ _ _ (omega arith) (omega arith)

pub loop-k-preserved : goal.loop-k-preserved
loop-k-preserved c = opening-turn c.loop-k.invariant _ c.put_pair.ensures (omega arith) c.size-next.result c.size-next.ensures.0

pub returns : goal.returns
returns c =
    let e : c.loop-k.k ≡ c.args.count = omega arith in
    opening-end c.loop-k.invariant _ (c.put_pair-2.ensures ∙ ap (λ (x : ℕ). set (set c.loop-k.dir (2 * x) c.loop-k.pos) (2 * x + 1) c.loop-k.len) (sym e)) e
