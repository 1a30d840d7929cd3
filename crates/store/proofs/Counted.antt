-- How long filtered, inserted and resorted lists are; two lists that ascend, each in its own order, and have the same members, are equally
-- long; a list whose members stand at different places is no longer than the places. Over any tests. Assumes nothing.
use Prim.Native.Nat.{suc, ◌≤◌}
use mathlib.Core.Path.{◌≡◌, refl, sym, ap, ◌∙◌}
use mathlib.Core.Logic.{◌↔◌, ⊎_elim}
use mathlib.Core.Bool.{Bool, true, false}
use mathlib.Core.List.Memᴰ.{cases_cons as uncons}
use mathlib.Core.List.Memᴰ.{head as here}
use mathlib.Core.List.Memᴰ.{not-nil as none_in}
use mathlib.Core.List.Memᴰ.{tail as there}
use mathlib.Core.List.{List, [], ◌∷◌}
use native.Mathlib.Omega.{arith}
use lib.ListN.{length}
use Rattle.laws.specs.Sorted.{◌∈◌, insert, Ascends}
use Rattle.laws.proofs.Truth.{split}
use Rattle.laws.proofs.Sorted.{insert-view, insert-new, insert-old, insert-ascends, ascends-unique}

module _ {A : Type 0} where
  -- A list sorted anew.
  unfoldable resort : (A → A → Bool) → List A → List A
  resort test [] = []
  resort test (a ∷ l) = insert test a (resort test l)

  module _ (test : A → A → Bool) where
    pub insert-length : (e : A) (l : List A) → length (insert test e l) ≡ suc (length l)
    unfolding insert
    insert-length e [] = refl
    insert-length e (a ∷ l) = split (test e a) (λ q. rw q) (λ q. rw q (ap suc (insert-length e l)))

    resort-length : (l : List A) → length (resort test l) ≡ length l
    unfolding resort
    resort-length [] = refl
    resort-length (a ∷ l) = insert-length a (resort test l) ∙ ap suc (resort-length l)

    resort-in : {x : A} (l : List A) → x ∈ resort test l ↔ x ∈ l
    unfolding resort
    resort-in [] = (λ m. m, λ m. m)
    resort-in (a ∷ l) = (
      λ m. ⊎_elim (λ e. here e) (λ n. there ((resort-in l).0 n)) (insert-view test a (resort test l) m),
      λ m. ⊎_elim (λ e. rw e (insert-new test a (resort test l))) (λ n. insert-old test a (resort test l) ((resort-in l).1 n)) (uncons m),
    )

    module _ (trans : (a b c : A) → test a b ≡ true → test b c ≡ true → test a c ≡ true) where
      -- Resorted by another order, in which what differs in the first is apart too.
      resort-ascends : (other : A → A → Bool) (l : List A) → Ascends other l
          → ((x y : A) → other x y ≡ true → test x y ≡ false → test y x ≡ true) → Ascends test (resort test l)
      unfolding Ascends resort
      resort-ascends other [] s apart = tt
      resort-ascends other (a ∷ l) s apart =
          insert-ascends test trans a (resort test l) (resort-ascends other l s.1 apart) λ x m e. apart a x (s.0 x ((resort-in l).0 m)) e

      pub same_length : ((a : A) → test a a ≡ false) → (other : A → A → Bool) → ((x y : A) → other x y ≡ true → test x y ≡ false → test y x ≡ true)
          → (s t : List A) → Ascends test s → Ascends other t → ((x : A) → x ∈ s ↔ x ∈ t) → length s ≡ length t
      same_length irrefl other apart s t p q same =
          ap length
          (ascends-unique test trans irrefl s (resort test t) p (resort-ascends other t q apart)
          λ x. (λ m. (resort-in t).1 ((same x).0 m), λ m. (same x).1 ((resort-in t).0 m)))
          ∙ resort-length t

-- Different places of a list: a list whose members stand at different ones is no longer than it.
taken_out : {B : Type 0} {b : B} (p : List B) → b ∈ p → (q : List B) × (length p ≡ suc (length q)) × ((c : B) → c ∈ p → (b ≡ c → ⊥) → c ∈ q)
taken_out [] m = absurd (none_in m)
taken_out (a ∷ p) m = ⊎_elim
    (λ e. (p, refl, λ c n d. ⊎_elim (λ k. absurd (d (e ∙ sym k))) (λ k. k) (uncons n)))
    (λ k. let r = taken_out p k in (a ∷ r.0, ap suc r.1, λ c n d. ⊎_elim (λ e. here e) (λ j. there (r.2 c j d)) (uncons n)))
    (uncons m)

module _ {A B : Type 0} (at : A → B) where
  unfoldable pub Differ : List A → Type 0
  Differ [] = Unit
  Differ (a ∷ l) = ((x : A) → x ∈ l → at a ≡ at x → ⊥) × Differ l

  pub differ-length : (l : List A) (p : List B) → Differ l → ((x : A) → x ∈ l → at x ∈ p) → length l ≤ length p
  unfolding Differ
  differ-length [] p d m = omega arith
  differ-length (a ∷ l) p d m =
      let r = taken_out p (m a (here refl)) in
      let h = differ-length l r.0 d.1 (λ x n. r.2 (at x) (m x (there n)) (d.0 x n)) in
      omega (arith, r.1)
