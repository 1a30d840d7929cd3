-- Laws of membership, filtering, insertion and strict ascent, over any test. Assumes nothing.
use Prim.Native.Nat.{◌+◌, ◌≤◌, ◌<◌}
use mathlib.Core.Path.{◌≡◌, refl, sym, ap₂}
use mathlib.Core.Logic.{◌⊎◌, inl, inr, ⊎_elim, ◌↔◌}
use mathlib.Core.Bool.{Bool, true, false, not, ◌&&◌}
use mathlib.Core.List.Memᴰ.{cases_cons as uncons}
use mathlib.Core.List.Memᴰ.{head as here}
use mathlib.Core.List.Memᴰ.{not-nil as none_in}
use mathlib.Core.List.Memᴰ.{tail as there}
use mathlib.Core.List.{List, [], ◌∷◌}
use native.Mathlib.Omega.{arith}
use lib.ListN.{length}
use Rattle.laws.specs.Sorted.{◌∈◌, any, all, keep, insert, ascending, Ascends}
use Rattle.laws.proofs.Truth.{split, clash, refute, and-true}

module _ {A : Type 0} where
  -- `any`
  pub any-view : (p : A → Bool) (l : List A) → any p l ≡ true → (x : A) × x ∈ l × (p x ≡ true)
  unfolding any
  any-view p [] e = clash e refl
  any-view p (a ∷ l) e = split (p a)
      (λ q. (a, here refl, q))
      (λ q. let k = any-view p l (rw q at e) in (k.0, there k.1, k.2))

  pub any-make : (p : A → Bool) {x : A} (l : List A) → x ∈ l → p x ≡ true → any p l ≡ true
  unfolding any
  any-make p [] m e = absurd (none_in m)
  any-make p (a ∷ l) m e = split (p a)
      (λ q. rw q)
      (λ q. rw q (⊎_elim (λ r. clash {b = p a} (cc) q) (λ n. any-make p l n e) (uncons m)))

  pub any_none : (p : A → Bool) {x : A} (l : List A) → any p l ≡ false → x ∈ l → p x ≡ false
  any_none p l e m = refute _ λ f. clash (any-make p l m f) e

  -- `all`
  pub all-view : (p : A → Bool) {x : A} (l : List A) → all p l ≡ true → x ∈ l → p x ≡ true
  unfolding all
  all-view p [] e m = absurd (none_in m)
  all-view p (a ∷ l) e m = let k = and-true (p a) (all p l) e in ⊎_elim (λ q. cc) (λ n. all-view p l k.1 n) (uncons m)

  -- `keep`
  pub keep-length : (p : A → Bool) (l : List A) → length (keep p l) ≤ length l
  unfolding keep
  keep-length p [] = omega arith
  keep-length p (a ∷ l) = let h = keep-length p l in split (p a) (λ q. rw q (omega arith)) (λ q. rw q (omega arith))

  -- Without an element that fails the test fewer are left.
  pub keep-fewer : (p : A → Bool) {a : A} (l : List A) → a ∈ l → p a ≡ false → length (keep p l) < length l
  unfolding keep
  keep-fewer p [] m e = absurd (none_in m)
  keep-fewer p {a} (b ∷ l) m e =
      let h = keep-length p l in
      split (p b)
      (λ q. ⊎_elim (λ r. clash {b = p b} q (cc)) (λ n. let k = keep-fewer p l n e in rw q (omega arith)) (uncons m))
      (λ q. rw q (omega arith))

  pub keep-both : (p : A → Bool) (l : List A) → length (keep p l) + length (keep (λ (x : A). not (p x)) l) ≡ length l
  unfolding keep
  keep-both p [] = refl
  keep-both p (a ∷ l) = let h = keep-both p l in split (p a) (λ q. rw q (omega arith)) (λ q. rw q (omega arith))

  pub keep-view : (p : A → Bool) {x : A} (l : List A) → x ∈ keep p l → x ∈ l × (p x ≡ true)
  unfolding keep
  keep-view p [] m = absurd (none_in m)
  keep-view p (a ∷ l) m = split (p a)
      (λ q. ⊎_elim (λ e. (here e, cc)) (λ k. let b = keep-view p l k in (there b.0, b.1)) (uncons (rw q at m)))
      (λ q. let b = keep-view p l (rw q at m) in (there b.0, b.1))

  pub keep-make : (p : A → Bool) {x : A} (l : List A) → x ∈ l → p x ≡ true → x ∈ keep p l
  unfolding keep
  keep-make p [] m e = absurd (none_in m)
  keep-make p (a ∷ l) m e = split (p a)
      (λ q. rw q (⊎_elim (λ r. here r) (λ n. there (keep-make p l n e)) (uncons m)))
      (λ q. rw q (⊎_elim (λ r. clash {b = p a} (cc) q) (λ n. keep-make p l n e) (uncons m)))

  -- `insert`
  module _ (test : A → A → Bool) (e : A) where
    pub insert-view : {x : A} (l : List A) → x ∈ insert test e l → (x ≡ e) ⊎ x ∈ l
    unfolding insert
    insert-view [] m = uncons m
    insert-view (a ∷ l) m = split (test e a)
        (λ q. uncons (rw q at m))
        (λ q. ⊎_elim (λ r. inr (here r)) (λ k. ⊎_elim (λ r. inl r) (λ j. inr (there j)) (insert-view l k)) (uncons (rw q at m)))

    pub insert-new : (l : List A) → e ∈ insert test e l
    unfolding insert
    insert-new [] = here refl
    insert-new (a ∷ l) = split (test e a) (λ q. rw q (here refl)) (λ q. rw q (there (insert-new l)))

    pub insert-old : {x : A} (l : List A) → x ∈ l → x ∈ insert test e l
    unfolding insert
    insert-old [] m = there m
    insert-old (a ∷ l) m = split (test e a)
        (λ q. rw q (there m))
        (λ q. rw q (⊎_elim (λ r. here r) (λ n. there (insert-old l n)) (uncons m)))

  -- strict ascent
  module _ (test : A → A → Bool) where
    pub keep-ascends : (p : A → Bool) (l : List A) → Ascends test l → Ascends test (keep p l)
    unfolding Ascends keep
    keep-ascends p [] s = tt
    keep-ascends p (a ∷ l) s = split (p a)
        (λ q. rw q (λ x m. s.0 x (keep-view p l m).0, keep-ascends p l s.1))
        (λ q. rw q (keep-ascends p l s.1))

    module _ (trans : (a b c : A) → test a b ≡ true → test b c ≡ true → test a c ≡ true) where
      pub insert-ascends : (e : A) (l : List A) → Ascends test l → ((x : A) → x ∈ l → test e x ≡ false → test x e ≡ true) → Ascends test (insert test e l)
      unfolding Ascends insert
      insert-ascends e [] s apart = (λ x m. absurd (none_in m), tt)
      insert-ascends e (a ∷ l) s apart = split (test e a)
          (λ q. rw q (λ x m. ⊎_elim (λ r. cc) (λ n. trans e a x q (s.0 x n)) (uncons m), s))
          (λ q. rw q (
            λ x m. ⊎_elim (λ r. let z = apart a (here refl) q in cc) (λ n. s.0 x n) (insert-view test e l m),
            insert-ascends e l s.1 λ x m. apart x (there m),
          ))

      -- Two ascending lists with the same members are equal
      pub ascends-unique : ((a : A) → test a a ≡ false) → (s t : List A) → Ascends test s → Ascends test t → ((x : A) → x ∈ s ↔ x ∈ t) → s ≡ t
      unfolding Ascends
      ascends-unique irrefl [] [] p q same = refl
      ascends-unique irrefl [] (b ∷ t) p q same = absurd (none_in ((same b).1 (here refl)))
      ascends-unique irrefl (a ∷ s) [] p q same = absurd (none_in ((same a).0 (here refl)))
      ascends-unique irrefl (a ∷ s) (b ∷ t) p q same = ap₂ ◌∷◌ heads (ascends-unique irrefl s t p.1 q.1 λ x. (left x, right x))
        where
          heads : a ≡ b
          heads = ⊎_elim (λ e. e) (λ m. ⊎_elim (λ e. sym e) (λ n. clash (trans a b a (p.0 b n) (q.0 a m)) (irrefl a)) (uncons ((same b).1 (here refl)))) (uncons ((same a).0 (here refl)))

          left : (x : A) → x ∈ s → x ∈ t
          left x m = ⊎_elim (λ e. let z = p.0 x m in clash {b = test a a} (cc heads) (irrefl a)) (λ n. n) (uncons ((same x).0 (there m)))

          right : (x : A) → x ∈ t → x ∈ s
          right x m = ⊎_elim (λ e. let z = q.0 x m in clash {b = test a a} (cc heads) (irrefl a)) (λ n. n) (uncons ((same x).1 (there m)))

-- The same, a conclusion at a time, for `search`.
module _ {A : Type 0} (p : A → Bool) (x : A) (l : List A) where
  pub keep-in : x ∈ keep p l → x ∈ l
  keep-in m = (keep-view p l m).0

  pub keep-holds : x ∈ keep p l → p x ≡ true
  keep-holds m = (keep-view p l m).1

pub ruleset members = (keep-in, keep-holds, keep-make, insert-new, insert-old, here, there)

-- The test of neighbours and strict ascent say the same, if the test is transitive.
module _ {A : Type 0} (test : A → A → Bool) where
  pub ascending-ascends : ((a b c : A) → test a b ≡ true → test b c ≡ true → test a c ≡ true) → (l : List A) → ascending test l ≡ true → Ascends test l
  unfolding ascending Ascends
  ascending-ascends trans [] e = tt
  ascending-ascends trans (a ∷ []) e = (λ x m. absurd (none_in m), tt)
  ascending-ascends trans (a ∷ b ∷ l) e =
      let k = and-true (test a b) (ascending test (b ∷ l)) e in
      let s = ascending-ascends trans (b ∷ l) k.1 in
      (λ x m. ⊎_elim (λ q. cc) (λ n. trans a b x k.0 (s.0 x n)) (uncons m), s)

  pub ascends-ascending : (l : List A) → Ascends test l → ascending test l ≡ true
  unfolding ascending Ascends
  ascends-ascending [] s = refl
  ascends-ascending (a ∷ []) s = refl
  ascends-ascending (a ∷ b ∷ l) s = ap₂ ◌&&◌ (s.0 b (here refl)) (ascends-ascending (b ∷ l) s.1)

pub all-make : {A : Type 0} (p : A → Bool) (l : List A) → ((x : A) → x ∈ l → p x ≡ true) → all p l ≡ true
unfolding all
all-make p [] h = refl
all-make p (a ∷ l) h = ap₂ ◌&&◌ (h a (here refl)) (all-make p l λ x m. h x (there m))
