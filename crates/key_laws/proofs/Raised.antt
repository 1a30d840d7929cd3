-- What a raised component is: the least one above it that fits, also for the bytes that a component cannot grow by.
-- Assumes nothing.
use Prim.Native.Nat.{ℕ, suc, ◌+◌, ◌≤◌}
use mathlib.Core.Path.{◌≡◌, refl, sym, subst, ◌∙◌}
use mathlib.Core.Logic.{⊎_elim}
use mathlib.Core.List.{[], ◌∷◌, ◌++◌}
use mathlib.Core.Option.{Option, some, none, map}
use mathlib.Core.Bool.{true, cond}
use native.Mathlib.Omega.{arith}
use lib.Dec.{leb, ltb}
use lib.ListN.{length, take, length-append}
use lib.Seq.{take_all}
use borrow.Author.Tests.{ltb-true, ltb-false, lt-ltb}
use Rattle.laws.specs.Order.{less, same, by_number, by_elements}
use Rattle.laws.specs.Prefix.{same_number, same_list, prefix_of}
use Rattle.laws.specs.Sorted.{all}
use Rattle.laws.proofs.Truth.{split, refute, and-true}
use Rattle.laws.proofs.Order.{less-same, less-greater, three, then-less-view, then_same, then-greater, less-is-greater, number-is-less, number-is-same, number-less, number_same, number-linear}
use Rattle.laws.proofs.Prefix.{number-equality, list-equality, prefix-take}
use Rattle.data_model.specs.Path.{Component, by_bytes}
use Rattle.data_model.specs.Above.{raised_byte, raised_bytes, raised}
use Rattle.key_laws.specs.Least.{Least}
use Rattle.data_model.proofs.Orders.{bytes-linear}
use Rattle.key_laws.proofs.Least.{least-same, nil-first, Past, past-none, past-step}

-- A byte: the next one, or none above ff.
next_byte : ℕ → Option ℕ
next_byte b = cond (ltb b 255) (some (b + 1)) none

next-byte : (b : ℕ) → Least by_number (λ x. (ltb x 256 ≡ true) × (by_number b x ≡ less)) (next_byte b)
unfolding next_byte
next-byte b = split (ltb b 255)
    (λ e. rw e record {
      holds = (lt-ltb (b + 1) 256 (omega (arith, ltb-true b 255 e)), number-less b (b + 1) (omega arith));
      least = λ x h l. omega (arith, number-is-less b x h.1, number-is-less x (b + 1) l);
    })
    (λ e. rw e λ x h. omega (arith, ltb-true x 256 h.0, number-is-less b x h.1, ltb-false b 255 e))

raised_byte_lem : (b : ℕ) → raised_byte b ≡ map (◌∷ []) (next_byte b)
unfolding raised_byte next_byte
raised_byte_lem b = split (ltb b 255) (λ e. rw e) (λ e. rw e)

-- Bytes, at most so many.
pub record Short (n : ℕ) (c : Component) : Type 0 where
  pub few : length c ≤ n
  pub bytes : all (λ b. ltb b 256) c ≡ true

short-tail : (n b : ℕ) (c : Component) → Short (suc n) (b ∷ c) → Short n c
unfolding all
short-tail n b c h = record { few = omega arith; bytes = (and-true (ltb b 256) (all (λ b. ltb b 256) c) h.bytes).1 }

short-head : (n b : ℕ) (c : Component) → Short n (b ∷ c) → ltb b 256 ≡ true
unfolding all
short-head n b c h = (and-true (ltb b 256) (all (λ b. ltb b 256) c) h.bytes).0

short-cons : (n b : ℕ) (c : Component) → ltb b 256 ≡ true → Short n c → Short (suc n) (b ∷ c)
unfolding all
short-cons n b c e h = record { few = omega arith; bytes = rw e h.bytes }

short_none : (n : ℕ) → Short n []
unfolding all
short_none n = record { few = omega arith; bytes = refl }

raised-bytes : (c : Component) → Short (length c) c → Least by_bytes (Past same_number by_number (Short (length c)) c) (raised_bytes c)
unfolding raised_bytes
raised-bytes [] h = past-none same_number by_number (Short 0)
raised-bytes (b ∷ c) h =
    rw raised_byte_lem
    (past-step same_number number-equality by_number number-linear b c (Short (suc (length c))) (Short (length c)) (λ x. ltb x 256 ≡ true)
    (λ t. short-cons (length c) b t (short-head (suc (length c)) b c h))
    (λ t. short-tail (length c) b t)
    (λ x e. short-cons (length c) x [] e (short_none (length c)))
    (λ x t. short-head (suc (length c)) x t)
    (raised_bytes c) (next_byte b) (raised-bytes c (short-tail (length c) b c h)) (next-byte b))

-- Nothing stands between a component and the same with a byte 00 behind it.
grown-next : (c x : Component) → by_bytes c x ≡ less → by_bytes x (c ++ 0 ∷ []) ≡ less → ⊥
unfolding by_elements
grown-next [] [] e f = less-same e refl
grown-next [] (b ∷ x) e f = ⊎_elim (λ l. omega (arith, number-is-less b 0 l)) (λ l. nil-first by_number x l.1) (then-less-view (by_number b 0) (by_bytes x []) f)
grown-next (a ∷ c) [] e f = less-greater e refl
grown-next (a ∷ c) (b ∷ x) e f = three (by_number a b)
    (λ h. less-greater f (then-greater (by_number b a) (by_bytes x (c ++ 0 ∷ [])) (less-is-greater by_number number-linear a b h)))
    (λ h. grown-next c x
    (sym (then_same (by_number a b) (by_bytes c x) h) ∙ e)
    (sym (then_same (by_number b a) (by_bytes x (c ++ 0 ∷ [])) (number_same b a (sym (number-is-same a b h)))) ∙ f))
    (λ h. less-greater e (then-greater (by_number a b) (by_bytes c x) h))

grown-above : (c : Component) → by_bytes c (c ++ 0 ∷ []) ≡ less
unfolding by_elements
grown-above [] = refl
grown-above (b ∷ c) = then_same (by_number b b) (by_bytes c (c ++ 0 ∷ [])) (number-linear.self b) ∙ grown-above c

grown-bytes : (c : Component) → all (λ b. ltb b 256) c ≡ true → all (λ b. ltb b 256) (c ++ 0 ∷ []) ≡ true
unfolding all
grown-bytes [] h = refl
grown-bytes (b ∷ c) h = let k = and-true (ltb b 256) (all (λ b. ltb b 256) c) h in rw k.0 (grown-bytes c k.1)

-- A prefix that is no shorter is the whole.
short-prefix : (c x : Component) → length x ≤ length c → prefix_of same_number c x ≡ true → c ≡ x
short-prefix c x h e =
    (list-equality same_number number-equality).equal c x
    (rw (take_all (length c) x h) at (and-true (leb (length c) (length x)) (same_list same_number c (take (length c) x)) (sym (prefix-take same_number c x) ∙ e)).1)

-- A component: the least one above it that fits.
pub raised-least : (n : ℕ) (c : Component) → Short n c → Least by_bytes (λ x. Short n x × (by_bytes c x ≡ less)) (raised n c)
unfolding raised
raised-least n c h = split (ltb (length c) n)
    (λ e. rw e record {
      holds = (record { few = simp length-append (omega (arith, ltb-true (length c) n e)); bytes = grown-bytes c h.bytes }, grown-above c);
      least = λ x p l. grown-next c x p.1 l;
    })
    (λ e.
    let full : n ≡ length c = omega (arith, ltb-false (length c) n e) in
    rw (e, full)
    (least-same by_bytes (Past same_number by_number (Short (length c)) c) (λ x. Short (length c) x × (by_bytes c x ≡ less))
    (λ x p. (p.kind, p.above))
    (λ x p. record {
      kind = p.0;
      above = p.1;
      apart = refute _ λ q. less-same p.1 (subst (λ (y : Component). by_bytes c y ≡ same) (short-prefix c x p.0.few q) (bytes-linear.self c));
    })
    (raised_bytes c) (raised-bytes c (record { few = omega arith; bytes = h.bytes }))))
