-- The subspaces from one on up to its next one are that one alone.
-- Assumes nothing.
use Prim.Native.Nat.{◌+◌, ◌-◌, ◌^◌, ◌≤◌, ◌<◌}
use mathlib.Core.Path.{◌≡◌, refl, subst, ◌∙◌}
use mathlib.Core.Logic.{⊎_elim}
use mathlib.Core.Option.{Option, some, none}
use mathlib.Core.Bool.{true, cond}
use native.Mathlib.Omega.{arith}
use lib.Dec.{ltb}
use borrow.Author.Tests.{ltb-true, ltb-false}
use Rattle.laws.specs.Order.{less, same, by_number}
use Rattle.laws.proofs.Truth.{split}
use Rattle.laws.proofs.Order.{less-same, then-less-view, then_less, then_same, number-is-less, number-is-same, number-less, number_same}
use Rattle.data_model.specs.Subspace.{same_subspace, by_subspace, next_subspace}
use Rattle.data_model.specs.Range.{includes, end_says}
use Rattle.key_laws.specs.Least.{First, Least, end_of}
use Rattle.data_model.specs.declared.parameters.Subspace.{Subspace}
use Rattle.data_model.proofs.Orders.{subspace-linear, subspace-equality}
use Rattle.key_laws.proofs.Least.{least-includes}

-- Both halves are 64-bit numbers.
pub record Words (s : Subspace) : Type 0 where
  pub high : s.high < 2 ^ 64
  pub low : s.low < 2 ^ 64

-- A subspace is below another in the high half, or in the low one where the high ones are equal.
pub less-cases : {G : Type 0} (a b : Subspace) → by_subspace a b ≡ less → (a.high < b.high → G) → (a.high ≡ b.high → a.low < b.low → G) → G
unfolding by_subspace
less-cases a b e f g = ⊎_elim
    (λ h. f (number-is-less a.high b.high h))
    (λ h. g (number-is-same a.high b.high h.0) (number-is-less a.low b.low h.1))
    (then-less-view (by_number a.high b.high) (by_number a.low b.low) e)

-- The next subspace is the least later one.
abbrev Later : Subspace → Subspace → Type 0
Later a x = Words x × (by_subspace a x ≡ less)

next_low : (a : Subspace) → Words a → a.low < 2 ^ 64 - 1 → First by_subspace (Later a) (record { high = a.high; low = a.low + 1 })
unfolding by_subspace
next_low a v l = record {
  holds = (
    record { high = v.high; low = omega arith },
    then_same (by_number a.high a.high) (by_number a.low (a.low + 1)) (number_same a.high a.high refl) ∙ number-less a.low (a.low + 1) (omega arith),
  );
  least = λ x h e. less-cases a x h.1
      (λ p. less-cases x (record { high = a.high; low = a.low + 1 }) e (omega arith) (omega arith))
      (λ p q. less-cases x (record { high = a.high; low = a.low + 1 }) e (omega arith) (omega arith));
}

next-high : (a : Subspace) → 2 ^ 64 - 1 ≤ a.low → a.high < 2 ^ 64 - 1 → First by_subspace (Later a) (record { high = a.high + 1; low = 0 })
unfolding by_subspace
next-high a m l = record {
  holds = (
    record { high = omega arith; low = omega arith },
    then_less (by_number a.high (a.high + 1)) (by_number a.low 0) (number-less a.high (a.high + 1) (omega arith)),
  );
  least = λ x h e. less-cases a x h.1
      (λ p. less-cases x (record { high = a.high + 1; low = 0 }) e (omega arith) (omega arith))
      (omega arith);
}

next : Subspace → Option Subspace
next s =
    cond (ltb s.low (2 ^ 64 - 1)) (some (record { high = s.high; low = s.low + 1 }))
    (cond (ltb s.high (2 ^ 64 - 1)) (some (record { high = s.high + 1; low = 0 })) none)

next-least : (a : Subspace) → Words a → Least by_subspace (Later a) (next a)
unfolding next
next-least a v = split (ltb a.low (2 ^ 64 - 1))
    (λ e. rw e (next_low a v (ltb-true a.low (2 ^ 64 - 1) e)))
    (λ e.
    let m : 2 ^ 64 - 1 ≤ a.low = ltb-false a.low (2 ^ 64 - 1) e in
    split (ltb a.high (2 ^ 64 - 1))
    (λ f. rw (e, f) (next-high a m (ltb-true a.high (2 ^ 64 - 1) f)))
    (λ f.
    let n : 2 ^ 64 - 1 ≤ a.high = ltb-false a.high (2 ^ 64 - 1) f in
    rw (e, f) λ x h. less-cases a x h.1 (omega arith) (omega arith)))

next-end : (a : Subspace) → end_says (next_subspace a) ≡ end_of (next a)
unfolding end_says next_subspace next
next-end a = split (ltb a.low (2 ^ 64 - 1)) (λ e. rw e) (λ e. split (ltb a.high (2 ^ 64 - 1)) (λ f. rw (e, f)) (λ f. rw (e, f)))

pub next-splits : (a x : Subspace) → Words a → Words x → same_subspace a x ≡ includes by_subspace a (end_says (next_subspace a)) x
next-splits a x v w =
    rw next-end
    (least-includes by_subspace subspace-linear a x (Later a) (same_subspace a x)
    (λ q. subst (λ (y : Subspace). same_subspace a y ≡ true) q (subspace-equality.self a))
    (λ e l. less-same l (subst (λ (y : Subspace). by_subspace y a ≡ same) (subspace-equality.equal a x e) (subspace-linear.self a)))
    (λ b e h. subst (λ (y : Subspace). by_subspace y b ≡ less) (subspace-equality.equal a x e) h.1)
    (λ e n. (w, e))
    (next a) (next-least a v))
