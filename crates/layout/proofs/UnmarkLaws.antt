-- Marks taken away, one after the other; and what two tests mark. Assumes nothing.
use mathlib.Core.Path.{◌≡◌, refl, sym, ap, ap₂, ◌∙◌}
use mathlib.Core.List.{List, [], ◌∷◌, ◌++◌, append_assoc}
use mathlib.Core.Bool.{Bool, true, false, not, cond, ◌&&◌}
use Prim.Native.Nat.{ℕ, suc, ◌+◌, ◌≤◌, ◌<◌}
use native.Mathlib.Omega.{arith}
use native.Mathlib.Numerals.{add-one}
use lib.Dec.{eqb}
use borrow.Author.Tests.{eq-eqb, ne_eqb}
use lib.ListN.{length, take, drop, set, get_or, length-set, take-append-drop, drop_of_length-le}
use lib.Seq.{drop-cons, drop-set-lt, set-get_or, take-suc-set, take-append_seam}
use Rattle.laws.specs.Lists.{put}
use Rattle.layout.specs.Marks.{marks_of, unmarked}
use Rattle.layout.proofs.MarkLaws.{length-marks}

unmarked-none : (m : List ℕ) → unmarked m [] ≡ m
unfolding unmarked
unmarked-none [] = refl
unmarked-none (a ∷ m) = refl

-- After k marks: those, and what the rest of the others leaves of the rest.
pub record Unmarking (m₀ other m : List ℕ) (k : ℕ) : Type 0 where
  pub long : length m ≡ length m₀
  pub left : unmarked m₀ other ≡ take k m ++ unmarked (drop k m) (drop k other)

pub unmarking-start : (m other : List ℕ) → Unmarking m other m 0
unmarking-start m other = record { long = refl; left = refl }

module _ (m₀ other m : List ℕ) (k : ℕ) (v : Unmarking m₀ other m k) where
  next-left : k < length other → k < length m
      → unmarked m₀ other ≡ take (suc k) (set m k (cond (eqb (get_or other k 0) 1) 0 (get_or m k 0))) ++ unmarked (drop (suc k) (set m k (cond (eqb (get_or other k 0) 1) 0 (get_or m k 0)))) (drop (suc k) other)
  unfolding unmarked
  next-left h g =
      let w : ℕ = cond (eqb (get_or other k 0) 1) 0 (get_or m k 0) in
      let rest = unmarked (drop (suc k) m) (drop (suc k) other) in
      v.left
      ∙ ap₂ (λ (a b : List ℕ). take k m ++ unmarked a b) (drop-cons m k 0 g) (drop-cons other k 0 h)
      ∙ sym (append_assoc (take k m) (w ∷ []) rest)
      ∙ ap₂ (λ (a b : List ℕ). a ++ unmarked b (drop (suc k) other)) (sym (take-suc-set m k w g)) (sym (drop-set-lt (suc k) m k w (omega arith)))

  unmarking-next : k < length other → k < length m → (b : ℕ) → b ≡ cond (eqb (get_or other k 0) 1) 0 (get_or m k 0) → Unmarking m₀ other (set m k b) (k + 1)
  unmarking-next h g b e = record { long = simp length-set v.long; left = rw (e, add-one k) (next-left h g) }

  pub unmarking-one : k < length other → k < length m → get_or other k 0 ≡ 1 → Unmarking m₀ other (set m k 0) (k + 1)
  unmarking-one h g e = unmarking-next h g 0 (sym (ap (λ (t : Bool). cond t 0 (get_or m k 0)) (eq-eqb _ 1 e)))

  pub unmarking-none : k < length other → k < length m → (get_or other k 0 ≡ 1 → ⊥) → Unmarking m₀ other m (k + 1)
  unmarking-none h g n =
      let v = unmarking-next h g (get_or m k 0) (sym (ap (λ (t : Bool). cond t 0 (get_or m k 0)) (ne_eqb _ 1 n))) in
      rw (set-get_or m k 0) at v

  pub unmarking-end : length other ≤ k → m ≡ unmarked m₀ other
  unmarking-end h =
      sym (v.left ∙ ap (λ (b : List ℕ). take k m ++ unmarked (drop k m) b) (drop_of_length-le other {i = k} h) ∙ ap (take k m ++◌) (unmarked-none (drop k m)) ∙ take-append-drop k m)

-- Of what one test marks, what another marks is taken away.
module _ {A : Type 0} (p q : A → Bool) where
  both : A → Bool
  both a = p a && not (q a)

  one : (a b : Bool) → cond (eqb (cond b 1 0) 1) 0 (cond a 1 0) ≡ cond {A = ℕ} (a && not b) 1 0
  one true true = refl
  one true false = refl
  one false true = refl
  one false false = refl

  front-unmarked : (l : List A) (z : List ℕ) → unmarked (marks_of p l ++ z) (marks_of q l) ≡ marks_of (λ (a : A). p a && not (q a)) l ++ z
  unfolding unmarked
  front-unmarked [] z = unmarked-none z
  front-unmarked (a ∷ l) z = ap₂ ◌∷◌ (one (p a) (q a)) (front-unmarked l z)

  pub marks-unmarked : (l : List A) (n : ℕ) (m s : List ℕ) → n ≡ length l → unmarked (put (marks_of p l) m) (take n (put (marks_of q l) s)) ≡ put (marks_of (λ (a : A). p a && not (q a)) l) m
  unfolding put
  marks-unmarked l n m s e =
      let lq = length-marks q l in
      let lp = length-marks p l in
      let lb = length-marks (λ (a : A). p a && not (q a)) l in
      ap (unmarked (marks_of p l ++ drop (length (marks_of p l)) m))
      (ap (λ (k : ℕ). take k (marks_of q l ++ drop (length (marks_of q l)) s)) (e ∙ sym lq) ∙ take-append_seam (marks_of q l) (drop (length (marks_of q l)) s))
      ∙ front-unmarked l (drop (length (marks_of p l)) m)
      ∙ ap (λ (k : ℕ). marks_of (λ (a : A). p a && not (q a)) l ++ drop k m) (lp ∙ sym lb)
