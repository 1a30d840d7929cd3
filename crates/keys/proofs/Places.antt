-- The walk over a path's bytes by places: what the byte at a place does. Assumes nothing.
use Prim.Native.Nat.{ℕ, zero, suc, ◌+◌, ◌<◌}
use mathlib.Core.Path.{◌≡◌, refl, sym, ap, ap₂, ◌∙◌}
use mathlib.Core.List.{List, ◌∷◌}
use mathlib.Core.Bool.{Bool, true, false, ◌&&◌}
use native.Mathlib.Omega.{arith}
use native.Mathlib.Numerals.{add-one}
use lib.Dec.{eqb, leb}
use borrow.Author.Tests.{ne_eqb}
use lib.ListN.{length, get_or, drop}
use lib.Seq.{drop-cons}
use Rattle.keys.proofs.Automaton.{none_after, runs, short}

-- The walk over the bytes of k.
module _ (mcl room most end : ℕ) (k : List ℕ) where
  abbrev pub Runs : (cut : Bool) (at m t e : ℕ) → Bool
  Runs cut at m t e = runs mcl room most end cut at m t e (drop at k)

  here : (at a : ℕ) → at < length k → get_or k at 0 ≡ a → drop at k ≡ a ∷ drop (at + 1) k
  here at a l v = drop-cons k at 0 l ∙ ap₂ ◌∷◌ v (ap (λ (i : ℕ). drop i k) (sym (add-one at)))

  module _ (at m t e : ℕ) (l : at < length k) where
    pub step-byte : (get_or k at 0 ≡ 0 → ⊥) → Runs false at m t e ≡ (leb (m + 1) mcl && Runs false (at + 1) (m + 1) (t + 1) e)
    step-byte n = ap (runs mcl room most end false at m t e) (here at (get_or k at 0) l refl) ∙ front (get_or k at 0) n
      where
        front : (a : ℕ) → (a ≡ 0 → ⊥) → runs mcl room most end false at m t e (a ∷ drop (at + 1) k) ≡ (leb (m + 1) mcl && Runs false (at + 1) (m + 1) (t + 1) e)
        front zero n = absurd (n refl)
        front (suc a) n = refl

    pub step-zero : get_or k at 0 ≡ 0 → Runs false at m t e ≡ Runs true (at + 1) m t e
    step-zero v = ap (runs mcl room most end false at m t e) (here at 0 l v)

    pub step_end : get_or k at 0 ≡ 1 → Runs true at m t e ≡ Runs false (at + 1) 0 t (e + 1)
    step_end v = ap (runs mcl room most end true at m t e) (here at 1 l v)

    pub step-escaped : get_or k at 0 ≡ 2 → Runs true at m t e ≡ (leb (m + 1) mcl && Runs false (at + 1) (m + 1) (t + 1) e)
    step-escaped v = ap (runs mcl room most end true at m t e) (here at 2 l v)

    pub step-close : get_or k at 0 ≡ 0 → Runs true at m t e ≡ (eqb m 0 && (eqb (at + 1) end && (leb t room && leb e most)))
    step-close v = ap (runs mcl room most end true at m t e) (here at 0 l v)

    -- A 00 that begins no mark of a component, where the path cannot end.
    pub step-bad : (get_or k at 0 ≡ 1 → ⊥) → (get_or k at 0 ≡ 2 → ⊥) → at + 1 < end → Runs true at m t e ≡ false
    step-bad p q g = ap (runs mcl room most end true at m t e) (here at (get_or k at 0) l refl) ∙ front (get_or k at 0) p q
      where
        front : (a : ℕ) → (a ≡ 1 → ⊥) → (a ≡ 2 → ⊥) → runs mcl room most end true at m t e (a ∷ drop (at + 1) k) ≡ false
        front zero p q = rw (ne_eqb (at + 1) end (λ z. omega arith)) (none_after (eqb m 0) refl)
        front (suc zero) p q = absurd (p refl)
        front (suc (suc zero)) p q = absurd (q refl)
        front (suc (suc (suc a))) p q = refl

    -- Behind a byte or a mark of a component that ends less than two bytes before `end`, no path ends there.
    pub last_byte : (get_or k at 0 ≡ 0 → ⊥) → end < at + 3 → Runs false at m t e ≡ false
    last_byte n g = step-byte n ∙ none_after (leb (m + 1) mcl) (short mcl room most end false (at + 1) (m + 1) (t + 1) e (drop (at + 1) k) (omega arith))

    pub last-mark : (get_or k at 0 ≡ 0 → ⊥) → end < at + 3 → Runs true at m t e ≡ false
    last-mark n g = ap (runs mcl room most end true at m t e) (here at (get_or k at 0) l refl) ∙ front (get_or k at 0) n
      where
        front : (a : ℕ) → (a ≡ 0 → ⊥) → runs mcl room most end true at m t e (a ∷ drop (at + 1) k) ≡ false
        front zero n = absurd (n refl)
        front (suc zero) n = short mcl room most end false (at + 1) 0 t (e + 1) (drop (at + 1) k) (omega arith)
        front (suc (suc zero)) n = none_after (leb (m + 1) mcl) (short mcl room most end false (at + 1) (m + 1) (t + 1) e (drop (at + 1) k) (omega arith))
        front (suc (suc (suc a))) n = refl
