-- Laws of equality tests and prefixes, and where the extensions of a list stand in its order. Assumes nothing.
use mathlib.Core.Path.{◌≡◌, refl, sym, ap, ap₂, ◌∙◌}
use mathlib.Core.Bool.{Bool, true, false, ◌&&◌}
use mathlib.Core.List.{List, [], ◌∷◌, ◌++◌}
use Prim.Native.Nat.{ℕ, suc}
use borrow.Author.Tests.{eqb-true, eq-eqb}
use Rattle.laws.specs.Order.{Order, less, is_same, by_elements, Linear}
use Rattle.laws.specs.Prefix.{Equality, same_number, same_list, prefix_of}
use Rattle.laws.proofs.Truth.{clash, and-true, alike}
use native.Mathlib.Omega.{arith}
use lib.Dec.{leb}
use lib.ListN.{length, take}
use borrow.Author.Tests.{le-leb, lt-leb, leb-true}
use Rattle.laws.proofs.Order.{less-same, less-greater, three, then_less, then_same, is_same_lem, greater-less, list-linear}

pub number-equality : Equality ℕ same_number
unfolding same_number
number-equality = record { self = λ a. eq-eqb a a refl; equal = λ a b e. eqb-true a b e }

-- The same two things are equal by any two tests of equality.
pub equality-unique : {A : Type 0} (eq eq' : A → A → Bool) → Equality A eq → Equality A eq' → (a b : A) → eq a b ≡ eq' a b
equality-unique eq eq' E F a b =
    alike (eq a b) (eq' a b) (λ h. let q = E.equal a b h in cc (F.self a)) (λ h. let q = F.equal a b h in cc (E.self a))

-- A linear order gives a test of equality.
pub order-equality : {A : Type 0} (o : A → A → Order) → Linear A o → Equality A (λ a b. is_same (o a b))
unfolding is_same
order-equality o O = record { self = λ a. ap is_same (O.self a); equal = λ a b e. O.equal a b (is_same_lem (o a b) e) }

module _ {A : Type 0} (eq : A → A → Bool) (E : Equality A eq) where
  list-self : (s : List A) → same_list eq s s ≡ true
  unfolding same_list
  list-self [] = refl
  list-self (a ∷ s) = cc (E.self a, list-self s)

  list-equal : (s t : List A) → same_list eq s t ≡ true → s ≡ t
  unfolding same_list
  list-equal [] [] e = refl
  list-equal [] (b ∷ t) e = clash e refl
  list-equal (a ∷ s) [] e = clash e refl
  list-equal (a ∷ s) (b ∷ t) e = let k = and-true (eq a b) (same_list eq s t) e in ap₂ ◌∷◌ (E.equal a b k.0) (list-equal s t k.1)

  pub list-equality : Equality (List A) (same_list eq)
  list-equality = record { self = list-self; equal = list-equal }

  -- A prefix test at two lists that are not empty, taken apart.
  pub prefix-tail : (a b : A) (s t : List A) → prefix_of eq (a ∷ s) (b ∷ t) ≡ true → (a ≡ b) × (prefix_of eq s t ≡ true)
  unfolding prefix_of
  prefix-tail a b s t e = let k = and-true (eq a b) (prefix_of eq s t) e in (E.equal a b k.0, k.1)

  pub prefix-cons : (a : A) (s t : List A) → prefix_of eq (a ∷ s) (a ∷ t) ≡ prefix_of eq s t
  unfolding prefix_of
  prefix-cons a s t = rw (E.self a)

  -- A partial order.
  pub prefix_refl : (s : List A) → prefix_of eq s s ≡ true
  unfolding prefix_of
  prefix_refl [] = refl
  prefix_refl (a ∷ s) = cc (E.self a, prefix_refl s)

  pub prefix_trans : (s t u : List A) → prefix_of eq s t ≡ true → prefix_of eq t u ≡ true → prefix_of eq s u ≡ true
  unfolding prefix_of
  prefix_trans [] t u e f = refl
  prefix_trans (a ∷ s) [] u e f = clash e refl
  prefix_trans (a ∷ s) (b ∷ t) [] e f = clash f refl
  prefix_trans (a ∷ s) (b ∷ t) (c ∷ u) e f =
      let k = prefix-tail a b s t e in
      let m = prefix-tail b c t u f in
      cc (prefix_trans s t u k.1 m.1)

  pub prefix-antisym : (s t : List A) → prefix_of eq s t ≡ true → prefix_of eq t s ≡ true → s ≡ t
  unfolding prefix_of
  prefix-antisym [] [] e f = refl
  prefix-antisym [] (b ∷ t) e f = clash f refl
  prefix-antisym (a ∷ s) [] e f = clash e refl
  prefix-antisym (a ∷ s) (b ∷ t) e f =
      let k = prefix-tail a b s t e in
      ap₂ ◌∷◌ k.0 (prefix-antisym s t k.1 (prefix-tail b a t s f).1)

  pub prefix-append : (s t : List A) → prefix_of eq s (s ++ t) ≡ true
  unfolding prefix_of
  prefix-append [] t = refl
  prefix-append (a ∷ s) t = cc (E.self a, prefix-append s t)

  module _ (o : A → A → Order) (O : Linear A o) where
    -- A list does not come after its extensions.
    pub prefix-first : (s t : List A) → prefix_of eq s t ≡ true → by_elements o t s ≡ less → ⊥
    unfolding prefix_of by_elements
    prefix-first [] [] e f = less-same f refl
    prefix-first [] (b ∷ t) e f = less-greater f refl
    prefix-first (a ∷ s) [] e f = clash e refl
    prefix-first (a ∷ s) (b ∷ t) e f =
        let k = prefix-tail a b s t e in
        prefix-first s t k.1 (sym (then_same (o b a) (by_elements o t s) (let q = k.0 in cc (O.self a))) ∙ f)

    -- What stands between a list and an extension of it is an extension of it: the extensions stand in one run behind it.
    pub prefix-between : (s t u : List A) → prefix_of eq s u ≡ true → (by_elements o t s ≡ less → ⊥) → (by_elements o u t ≡ less → ⊥) → prefix_of eq s t ≡ true
    unfolding prefix_of by_elements
    prefix-between [] t u e f g = refl
    prefix-between (a ∷ s) t [] e f g = clash e refl
    prefix-between (a ∷ s) [] (c ∷ u) e f g = absurd (f refl)
    prefix-between (a ∷ s) (b ∷ t) (c ∷ u) e f g =
        let k = prefix-tail a c s u e in
        three (o a b)
        (λ h. absurd (g (then_less (o c b) (by_elements o u t) (let q = k.0 in cc))))
        (λ h.
        let q : a ≡ b = O.equal a b h in
        cc (
          E.self a,
          prefix-between s t u k.1
              (λ l. f (then_same (o b a) (by_elements o t s) (cc (O.self a)) ∙ l))
              (λ l. g (then_same (o c b) (by_elements o u t) (let r = k.0 in cc (O.self a)) ∙ l)),
        ))
        (λ h. absurd (f (then_less (o b a) (by_elements o t s) (greater-less o O a b h))))

-- Lists that a linear order of the elements finds the same are those that a test of equality does.
pub same-elements : {A : Type 0} (eq : A → A → Bool) (E : Equality A eq) (o : A → A → Order) (O : Linear A o) (s t : List A) → is_same (by_elements o s t) ≡ same_list eq s t
same-elements eq E o O s t = equality-unique (λ s t. is_same (by_elements o s t)) (same_list eq) (order-equality (by_elements o) (list-linear o O)) (list-equality eq E) s t

-- A prefix is as long as the beginning that it is.
pub prefix-take : {A : Type 0} (eq : A → A → Bool) (s t : List A) → prefix_of eq s t ≡ leb (length s) (length t) && same_list eq s (take (length s) t)
unfolding prefix_of same_list
prefix-take eq [] t = sym (ap (λ (b : Bool). b && true) (le-leb 0 (length t) (omega arith)))
prefix-take eq (a ∷ s) [] = sym (ap (λ (b : Bool). b && same_list eq (a ∷ s) []) (lt-leb (suc (length s)) 0 (omega arith)))
prefix-take eq (a ∷ s) (b ∷ t) =
    ap (eq a b &&◌) (prefix-take eq s t)
    ∙ swap (eq a b) (leb (length s) (length t)) (same_list eq s (take (length s) t))
    ∙ ap (λ (x : Bool). x && (eq a b && same_list eq s (take (length s) t))) (leb-suc (length s) (length t))
  where
    swap : (x y z : Bool) → x && (y && z) ≡ y && (x && z)
    swap true y z = refl
    swap false true z = refl
    swap false false z = refl

    leb-suc : (m n : ℕ) → leb m n ≡ leb (suc m) (suc n)
    leb-suc m n = alike (leb m n) (leb (suc m) (suc n)) (λ e. le-leb (suc m) (suc n) (omega (arith, leb-true m n e))) (λ e. le-leb m n (omega (arith, leb-true (suc m) (suc n) e)))
