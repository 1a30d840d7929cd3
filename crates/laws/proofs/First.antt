-- Laws of the first and of the least element that a test holds of. Assumes nothing.
use mathlib.Core.Path.{◌≡◌, refl, ap, subst, ◌∙◌}
use mathlib.Core.Logic.{⊎_elim}
use mathlib.Core.Bool.{Bool, true, false}
use mathlib.Core.List.Memᴰ.{cases_cons as uncons}
use mathlib.Core.List.Memᴰ.{head as here}
use mathlib.Core.List.Memᴰ.{not-nil as none_in}
use mathlib.Core.List.Memᴰ.{tail as there}
use mathlib.Core.List.{List, [], ◌∷◌}
use mathlib.Core.Option.{Option, some, none}
use Rattle.laws.specs.Order.{Order, below, on, Linear}
use Rattle.laws.specs.Sorted.{◌∈◌, Ascends}
use Rattle.laws.specs.First.{first_that, lesser, least_that}
use Rattle.laws.proofs.Truth.{split, clash, refute}
use Rattle.laws.proofs.Order.{below-strict, below_total}

-- A strict order by which elements that are not below one another need not be the same. `between`: if the first is below the third and the second is not, the
-- first is below the second.
pub record Weak (A : Type 0) (test : A → A → Bool) : Type 0 where
  pub irrefl : (a : A) → test a a ≡ false
  pub trans : (a b c : A) → test a b ≡ true → test b c ≡ true → test a c ≡ true
  pub between : (a b c : A) → test a c ≡ true → test b c ≡ false → test a b ≡ true

-- By keys that are linearly ordered.
pub on-weak : {A K : Type 0} (k : A → K) (o : K → K → Order) → Linear K o → Weak A (below (on k o))
unfolding below
on-weak k o O = record {
  irrefl = λ a. (below-strict o O).irrefl (k a);
  trans = λ a b c. (below-strict o O).trans (k a) (k b) (k c);
  between = λ a b c p q. split (below o (k a) (k b))
      (λ y. y)
      (λ y. split (below o (k b) (k a))
      (λ z. clash ((below-strict o O).trans (k b) (k a) (k c) z p) q)
      (λ z. let w = below_total o O (k a) (k b) y z in clash (subst (λ x. below o x (k c) ≡ true) w p) q));
}

module _ {A : Type 0} (test : A → A → Bool) where
  -- An element is the least of those that a test holds of: it is one of them, and none of them is below it.
  pub record Least (p : A → Bool) (l : List A) (x : A) : Type 0 where
    pub among : x ∈ l
    pub holds : p x ≡ true
    pub none_below : (y : A) → y ∈ l → p y ≡ true → test y x ≡ false

  -- What is said of the least: it is that; or the test holds of no element.
  abbrev pub LeastIs : (A → Bool) → List A → Option A → Type 0
  LeastIs p l none = (y : A) → y ∈ l → p y ≡ false
  LeastIs p l (some x) = Least p l x

module _ {A : Type 0} (test : A → A → Bool) (w : Weak A test) where
  not-both : (a b : A) → test a b ≡ true → test b a ≡ false
  not-both a b e = refute _ λ f. clash (w.trans a b a e f) (w.irrefl a)

  lesser-is : (p : A → Bool) (a : A) (l : List A) (x : Option A) → p a ≡ true → LeastIs test p l x → LeastIs test p (a ∷ l) (lesser test a x)
  unfolding lesser
  lesser-is p a l none e v = record {
    among = here refl;
    holds = e;
    none_below = λ y m h. ⊎_elim (λ q. ap (λ z. test z a) q ∙ w.irrefl a) (λ n. clash h (v y n)) (uncons m);
  }
  lesser-is p a l (some b) e v = split (test b a)
      (λ q. rw q (record {
        among = there v.among;
        holds = v.holds;
        none_below = λ y m h. ⊎_elim (λ d. ap (λ z. test z b) d ∙ not-both b a q) (λ n. v.none_below y n h) (uncons m);
      }))
      (λ q. rw q (record {
        among = here refl;
        holds = e;
        none_below = λ y m h. ⊎_elim
            (λ d. ap (λ z. test z a) d ∙ w.irrefl a)
            (λ n. refute _ λ g. clash (w.between y b a g q) (v.none_below y n h))
            (uncons m);
      }))

  pub least-is : (p : A → Bool) (l : List A) → LeastIs test p l (least_that test p l)
  unfolding least_that
  least-is p [] = λ y m. absurd (none_in m)
  least-is p (a ∷ l) = split (p a)
      (λ e. rw e (lesser-is p a l (least_that test p l) e (least-is p l)))
      (λ e. rw e (more (least_that test p l) (least-is p l) e))
    where
      more : (x : Option A) → LeastIs test p l x → p a ≡ false → LeastIs test p (a ∷ l) x
      more none v e = λ y m. ⊎_elim (λ q. rw q e) (λ n. v y n) (uncons m)
      more (some x) v e = record {
        among = there v.among;
        holds = v.holds;
        none_below = λ y m h. ⊎_elim (λ q. clash h (rw q e)) (λ n. v.none_below y n h) (uncons m);
      }

  -- On an ascending list the least is the first.
  ascends-lesser : (p : A → Bool) (a : A) (l : List A) (x : Option A) → ((b : A) → b ∈ l → test a b ≡ true) → LeastIs test p l x → lesser test a x ≡ some a
  unfolding lesser
  ascends-lesser p a l none s v = refl
  ascends-lesser p a l (some b) s v = rw (not-both a b (s b v.among))

  pub least_first : (p : A → Bool) (l : List A) → Ascends test l → least_that test p l ≡ first_that p l
  unfolding least_that first_that Ascends
  least_first p [] s = refl
  least_first p (a ∷ l) s = split (p a)
      (λ e. rw e (ascends-lesser p a l (least_that test p l) s.0 (least-is p l)))
      (λ e. rw e (least_first p l s.1))
