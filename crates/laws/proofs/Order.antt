-- Laws of three-way comparison: `then` is associative, and numbers, pairs and lists are linearly ordered. Assumes nothing.
use Prim.Native.Nat.{ℕ, ◌<◌}
use mathlib.Core.Path.{◌≡◌, refl, sym, ap, ap₂, ◌∙◌}
use mathlib.Core.Logic.{◌⊎◌, inl, inr}
use mathlib.Core.Bool.{true, false}
use mathlib.Core.List.{List, [], ◌∷◌}
use native.Mathlib.Omega.{arith}
use lib.Dec.{ltb}
use borrow.Author.Tests.{ltb-true, ltb-false, lt-ltb, le-ltb}
use Rattle.laws.specs.Order.{Order, less, same, greater, ◌then◌, flip, is_less, is_same, is_greater, by_number, by_pair, by_elements, on, below, Linear, Strict}
use Rattle.laws.proofs.Truth.{split, clash}

-- The three answers differ.
module _ {G : Type 0} {o : Order} where
  pub less-same : o ≡ less → o ≡ same → G
  less-same p q = absurd (let z : ◌≡◌ {A = ℕ} 0 1 = cc in omega arith)

  pub less-greater : o ≡ less → o ≡ greater → G
  less-greater p q = absurd (let z : ◌≡◌ {A = ℕ} 0 1 = cc in omega arith)

  pub same-greater : o ≡ same → o ≡ greater → G
  same-greater p q = absurd (let z : ◌≡◌ {A = ℕ} 0 1 = cc in omega arith)

-- A case distinction on a comparison, each case with its equation.
pub three : {G : Type 0} (o : Order) → (o ≡ less → G) → (o ≡ same → G) → (o ≡ greater → G) → G
three less l s g = l refl
three same l s g = s refl
three greater l s g = g refl

pub then-assoc : (a b c : Order) → (a then b) then c ≡ a then b then c
then-assoc less b c = refl
then-assoc same b c = refl
then-assoc greater b c = refl

pub then-end : (a : Order) → a then same ≡ a
then-end less = refl
then-end same = refl
then-end greater = refl

pub flip-then : (a b : Order) → flip (a then b) ≡ flip a then flip b
unfolding flip
flip-then less b = refl
flip-then same b = refl
flip-then greater b = refl

-- What a first comparison that decides makes of the whole, and one that does not.
pub then_less : (a b : Order) → a ≡ less → a then b ≡ less
then_less a b e = ap (λ (x : Order). x then b) e

pub then_same : (a b : Order) → a ≡ same → a then b ≡ b
then_same a b e = ap (λ (x : Order). x then b) e

pub then-greater : (a b : Order) → a ≡ greater → a then b ≡ greater
then-greater a b e = ap (λ (x : Order). x then b) e

-- Where the whole is less, the first is, or it says same and the second is.
pub then-less-view : (a b : Order) → a then b ≡ less → (a ≡ less) ⊎ ((a ≡ same) × (b ≡ less))
then-less-view less b e = inl refl
then-less-view same b e = inr (refl, e)
then-less-view greater b e = less-greater e refl

pub then-same-view : (a b : Order) → a then b ≡ same → (a ≡ same) × (b ≡ same)
then-same-view less b e = less-same refl e
then-same-view same b e = (refl, e)
then-same-view greater b e = same-greater e refl

pub is-less : (o : Order) → is_less o ≡ true → o ≡ less
unfolding is_less
is-less less e = refl
is-less same e = clash e refl
is-less greater e = clash e refl

pub is_same_lem : (o : Order) → is_same o ≡ true → o ≡ same
unfolding is_same
is_same_lem less e = clash e refl
is_same_lem same e = refl
is_same_lem greater e = clash e refl

pub is_greater_lem : (o : Order) → is_greater o ≡ true → o ≡ greater
unfolding is_greater
is_greater_lem less e = clash e refl
is_greater_lem same e = clash e refl
is_greater_lem greater e = refl

-- Numbers.
pub number-less : (a b : ℕ) → a < b → by_number a b ≡ less
unfolding by_number
number-less a b h = rw (lt-ltb a b h)

pub number_same : (a b : ℕ) → a ≡ b → by_number a b ≡ same
unfolding by_number
number_same a b e = rw (le-ltb a b (omega arith), le-ltb b a (omega arith))

pub number-greater : (a b : ℕ) → b < a → by_number a b ≡ greater
unfolding by_number
number-greater a b h = rw (le-ltb a b (omega arith), lt-ltb b a h)

-- Which of three ways two numbers stand.
pub data Tri (a b : ℕ) : Type 0 where
  under : a < b → Tri a b
  equal : a ≡ b → Tri a b
  over : b < a → Tri a b

pub tri : (a b : ℕ) → Tri a b
tri a b = split (ltb a b) (λ e. under (ltb-true a b e)) λ e. split (ltb b a) (λ f. over (ltb-true b a f)) λ f. equal (omega (arith, ltb-false a b e, ltb-false b a f))

pub number-is-less : (a b : ℕ) → by_number a b ≡ less → a < b
number-is-less a b e = go (tri a b)
  where
    go : Tri a b → a < b
    go (under h) = h
    go (equal h) = less-same e (number_same a b h)
    go (over h) = less-greater e (number-greater a b h)

pub number-is-same : (a b : ℕ) → by_number a b ≡ same → a ≡ b
number-is-same a b e = go (tri a b)
  where
    go : Tri a b → a ≡ b
    go (under h) = less-same (number-less a b h) e
    go (equal h) = h
    go (over h) = same-greater e (number-greater a b h)

pub number-linear : Linear ℕ by_number
unfolding flip
number-linear = record {
  self = λ a. number_same a a refl;
  equal = number-is-same;
  flips = λ a b. flips a b (tri a b);
  trans = λ a b c e f. number-less a c (omega (arith, number-is-less a b e, number-is-less b c f));
}
  where
    flips : (a b : ℕ) → Tri a b → by_number b a ≡ flip (by_number a b)
    flips a b (under h) = number-greater b a h ∙ sym (ap flip (number-less a b h))
    flips a b (equal h) = number_same b a (sym h) ∙ sym (ap flip (number_same a b h))
    flips a b (over h) = number-less b a h ∙ sym (ap flip (number-greater a b h))

-- What holds of every linear order.
module _ {A : Type 0} (o : A → A → Order) (O : Linear A o) where
  pub greater-less : (a b : A) → o a b ≡ greater → o b a ≡ less
  unfolding flip
  greater-less a b e = O.flips a b ∙ ap flip e

  pub less-is-greater : (a b : A) → o a b ≡ less → o b a ≡ greater
  unfolding flip
  less-is-greater a b e = O.flips a b ∙ ap flip e

  -- The test that a comparison gives is a strict order, and total.
  pub below-strict : Strict A (below o)
  unfolding below is_less
  below-strict = record {
    irrefl = λ a. ap is_less (O.self a);
    trans = λ a b c e f. ap is_less (O.trans a b c (is-less (o a b) e) (is-less (o b c) f));
  }

  pub below_total : (a b : A) → below o a b ≡ false → below o b a ≡ false → a ≡ b
  unfolding below is_less
  below_total a b e f = three (o a b)
      (λ h. clash {b = is_less (o a b)} (ap is_less h) e)
      (λ h. O.equal a b h)
      (λ h. clash {b = is_less (o b a)} (ap is_less (greater-less a b h)) f)

  -- A step of a lexicographic order.
  then-trans : (a b c : A) (x y z : Order) → (x ≡ less → y ≡ less → z ≡ less) → o a b then x ≡ less → o b c then y ≡ less → o a c then z ≡ less
  then-trans a b c x y z next e f = go (then-less-view (o a b) x e) (then-less-view (o b c) y f)
    where
      go : (o a b ≡ less) ⊎ ((o a b ≡ same) × (x ≡ less)) → (o b c ≡ less) ⊎ ((o b c ≡ same) × (y ≡ less)) → o a c then z ≡ less
      go (inl h) (inl k) = then_less (o a c) z (O.trans a b c h k)
      go (inl h) (inr k) = then_less (o a c) z (let q = O.equal b c k.0 in cc)
      go (inr h) (inl k) = then_less (o a c) z (let q = O.equal a b h.0 in cc)
      go (inr h) (inr k) = then_same (o a c) z (let q = O.equal a b h.0 in cc) ∙ next h.1 k.1

  list-self : (s : List A) → by_elements o s s ≡ same
  unfolding by_elements
  list-self [] = refl
  list-self (a ∷ s) = then_same (o a a) (by_elements o s s) (O.self a) ∙ list-self s

  list-equal : (s t : List A) → by_elements o s t ≡ same → s ≡ t
  unfolding by_elements
  list-equal [] [] e = refl
  list-equal [] (b ∷ t) e = less-same refl e
  list-equal (a ∷ s) [] e = same-greater e refl
  list-equal (a ∷ s) (b ∷ t) e = let k = then-same-view (o a b) (by_elements o s t) e in ap₂ ◌∷◌ (O.equal a b k.0) (list-equal s t k.1)

  list-flips : (s t : List A) → by_elements o t s ≡ flip (by_elements o s t)
  unfolding by_elements flip
  list-flips [] [] = refl
  list-flips [] (b ∷ t) = refl
  list-flips (a ∷ s) [] = refl
  list-flips (a ∷ s) (b ∷ t) = ap₂ ◌then◌ (O.flips a b) (list-flips s t) ∙ sym (flip-then (o a b) (by_elements o s t))

  list-trans : (s t u : List A) → by_elements o s t ≡ less → by_elements o t u ≡ less → by_elements o s u ≡ less
  unfolding by_elements
  list-trans [] [] u e f = less-same e refl
  list-trans [] (b ∷ t) [] e f = less-greater f refl
  list-trans [] (b ∷ t) (c ∷ u) e f = refl
  list-trans (a ∷ s) [] u e f = less-greater e refl
  list-trans (a ∷ s) (b ∷ t) [] e f = less-greater f refl
  list-trans (a ∷ s) (b ∷ t) (c ∷ u) e f = then-trans a b c (by_elements o s t) (by_elements o t u) (by_elements o s u) (list-trans s t u) e f

  pub list-linear : Linear (List A) (by_elements o)
  list-linear = record { self = list-self; equal = list-equal; flips = list-flips; trans = list-trans }

pub pair-linear : {A B : Type 0} (o : A → A → Order) (p : B → B → Order) → Linear A o → Linear B p → Linear (A × B) (by_pair o p)
unfolding by_pair
pair-linear o p O P = record {
  self = λ x. then_same (o x.0 x.0) (p x.1 x.1) (O.self x.0) ∙ P.self x.1;
  equal = λ x y e.
      let k = then-same-view (o x.0 y.0) (p x.1 y.1) e in
      λ i. (O.equal x.0 y.0 k.0 i, P.equal x.1 y.1 k.1 i);
  flips = λ x y. ap₂ ◌then◌ (O.flips x.0 y.0) (P.flips x.1 y.1) ∙ sym (flip-then (o x.0 y.0) (p x.1 y.1));
  trans = λ x y z. then-trans o O x.0 y.0 z.0 (p x.1 y.1) (p y.1 z.1) (p x.1 z.1) (P.trans x.1 y.1 z.1);
}

-- Things are ordered as what is read off them, if that tells them apart.
pub on-linear : {A B : Type 0} (f : B → A) (o : A → A → Order) → ((a b : B) → f a ≡ f b → a ≡ b) → Linear A o → Linear B (on f o)
on-linear f o apart O = record {
  self = λ a. O.self (f a);
  equal = λ a b e. apart a b (O.equal (f a) (f b) e);
  flips = λ a b. O.flips (f a) (f b);
  trans = λ a b c. O.trans (f a) (f b) (f c);
}
