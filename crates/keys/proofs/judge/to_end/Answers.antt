-- `to_end` meets its contract. Assumes nothing.
use Prim.Native.Nat.{ℕ}
use mathlib.Core.Path.{sym, ap, ◌∙◌}
use native.Mathlib.Numerals.{add-one}
use Rattle.keys.specs.Judge.{endings}
use Rattle.keys.proofs.Counting.{endings-more}
use Rattle.keys.proofs.judge.to_end.Goals as goal

pub loop-j-preserved : goal.loop-j-preserved
loop-j-preserved c =
    let l = c.loop-j in
    let a = c.args in
    ap (λ (i : ℕ). endings i a.at a.k.now) (add-one l.j) ∙ endings-more l.j a.at a.k.now l.invariant (sym c.has_mark.ensures ∙ c.if-has_mark.false)
