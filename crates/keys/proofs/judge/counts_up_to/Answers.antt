-- `counts_up_to` meets its contract. Assumes nothing.
use mathlib.Core.Path.{sym, ap, ◌∙◌}
use Prim.Native.Nat.{ℕ}
use native.Mathlib.Omega.{arith}
use Rattle.keys.specs.Judge.{sound, others, endings}
use Rattle.keys.specs.declared.judge.Counts.{Counts}
use Rattle.keys.proofs.judge.counts_up_to.Goals as goal

pub counts_of-requires : goal.counts_of-requires
counts_of-requires c = let e = c.if-w-eq-STRETCH.true in (omega (arith, c.requires.0), omega arith)

pub returns-then-w-eq-STRETCH : goal.returns-then-w-eq-STRETCH
returns-then-w-eq-STRETCH c =
    c.counts_of.ensures ∙ ap (λ (w : ℕ). counted c.args.at w) (sym c.if-w-eq-STRETCH.true)
  where
    counted : ℕ → ℕ → Counts
    counted at w = record { sound = sound w at c.args.k.now; others = others w at c.args.k.now; ends = endings w at c.args.k.now }
