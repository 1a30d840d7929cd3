-- The least list of a kind above a list that the list does not prefix: found from the front, by what is found for the rest, or
-- else by a greater first element. Assumes nothing.
use mathlib.Core.Path.{◌≡◌, refl, sym, ap, subst, ◌∙◌}
use mathlib.Core.Logic.{⊎_elim}
use mathlib.Core.List.{List, [], ◌∷◌}
use mathlib.Core.Option.{Option, some, none, map}
use mathlib.Core.Bool.{Bool, true, false, not}
use Rattle.laws.specs.Order.{Order, less, same, is_less, by_elements, Linear}
use Rattle.laws.specs.Prefix.{Equality, prefix_of}
use Rattle.laws.proofs.Truth.{split, clash, refute, and-true, not-true, alike}
use Rattle.laws.proofs.Order.{less-same, less-greater, three, is-less, greater-less, then_less, then_same, then-greater, then-less-view, less-is-greater}
use Rattle.laws.proofs.Prefix.{prefix-tail, prefix-cons}
use Rattle.data_model.specs.Above.{or_else}
use Rattle.data_model.specs.Range.{before_end, includes}
use Rattle.key_laws.specs.Least.{Least, end_of}

-- The least of those that are the same.
pub least-same : {A : Type 0} (o : A → A → Order) (P Q : A → Type 0) → ((x : A) → P x → Q x) → ((x : A) → Q x → P x) → (r : Option A) → Least o P r → Least o Q r
least-same o P Q to from none h = λ x q. h x (from x q)
least-same o P Q to from (some a) h = record { holds = to a h.holds; least = λ x q. h.least x (from x q) }

-- A range from a start up to the least beyond it includes what passes a test: if the start passes, what passes is not below the
-- start and is below all beyond, and what is above the start and does not pass is beyond.
module _ {A : Type 0} (o : A → A → Order) (O : Linear A o) (start x : A) (Beyond : A → Type 0) (test : Bool)
    (first : start ≡ x → test ≡ true)
    (from : test ≡ true → o x start ≡ less → ⊥)
    (before : (b : A) → test ≡ true → Beyond b → o x b ≡ less)
    (beyond : o start x ≡ less → test ≡ false → Beyond x) where
  not-below : test ≡ true → is_less (o x start) ≡ false
  not-below p = refute _ λ e. from p (is-less (o x start) e)

  within : is_less (o x start) ≡ false → (Beyond x → ⊥) → test ≡ true
  unfolding is_less
  within l never = split test (λ t. t) λ t. three (o start x)
      (λ e. absurd (never (beyond e t)))
      (λ e. first (O.equal start x e))
      (λ e. clash {b = is_less (o x start)} (ap is_less (greater-less o O start x e)) l)

  pub least-includes : (r : Option A) → Least o Beyond r → test ≡ includes o start (end_of r) x
  unfolding includes before_end is_less
  least-includes none h = alike _ _
      (λ p. rw (not-below p))
      (λ e. within (not-true _ (and-true (not (is_less (o x start))) true e).0) (h x))
  least-includes (some q) h = alike _ _
      (λ p. rw (not-below p, before q p h.holds))
      (λ e.
      let k = and-true (not (is_less (o x start))) (is_less (o x q)) e in
      within (not-true _ k.0) λ y. h.least x y (is-less (o x q) k.1))

pub nil-first : {A : Type 0} (o : A → A → Order) (s : List A) → by_elements o s [] ≡ less → ⊥
unfolding by_elements
nil-first o [] e = less-same e refl
nil-first o (a ∷ s) e = less-greater e refl

module _ {A : Type 0} (eq : A → A → Bool) (o : A → A → Order) where
  -- Of a kind, above a list, and not prefixed by it.
  pub record Past (Kind : List A → Type 0) (s x : List A) : Type 0 where
    pub kind : Kind x
    pub above : by_elements o s x ≡ less
    pub apart : prefix_of eq s x ≡ false

  pub past-none : (Kind : List A → Type 0) → Least (by_elements o) (Past Kind []) none
  unfolding prefix_of
  past-none Kind x p = clash refl p.apart

module _ {A : Type 0} (eq : A → A → Bool) (E : Equality A eq) (o : A → A → Order) (O : Linear A o) (a : A) (s : List A) where
  -- The kind of the list, the kind of the rest behind the same first element, and the kind of the first element.
  module _ (Kind Rest : List A → Type 0) (Head : A → Type 0)
      (into : (t : List A) → Rest t → Kind (a ∷ t)) (out : (t : List A) → Kind (a ∷ t) → Rest t)
      (one : (b : A) → Head b → Kind (b ∷ [])) (head : (b : A) (t : List A) → Kind (b ∷ t) → Head b) where
    -- A list past a ∷ s goes on past s behind a, or has a first element above a.
    data Way : List A → Type 0 where
      deeper : (t : List A) → Past eq o Rest s t → Way (a ∷ t)
      higher : (b : A) (t : List A) → Head b → o a b ≡ less → Way (b ∷ t)

    way : (x : List A) → Past eq o Kind (a ∷ s) x → Way x
    unfolding by_elements
    way [] p = less-greater p.above refl
    way (b ∷ t) p = ⊎_elim
        (λ l. higher b t (head b t p.kind) l)
        (λ l.
        let q : b ≡ a = sym (O.equal a b l.0) in
        subst (λ (c : A). Way (c ∷ t)) (sym q) (deeper t (record {
          kind = out t (subst (λ (c : A). Kind (c ∷ t)) q p.kind);
          above = l.1;
          apart = sym (prefix-cons eq E a s t) ∙ subst (λ (c : A). prefix_of eq (a ∷ s) (c ∷ t) ≡ false) q p.apart;
        })))
        (then-less-view (o a b) (by_elements o s t) p.above)

    pub past-step : (r : Option (List A)) (e : Option A) → Least (by_elements o) (Past eq o Rest s) r → Least o (λ b. Head b × (o a b ≡ less)) e
        → Least (by_elements o) (Past eq o Kind (a ∷ s)) (or_else (map (a ∷◌) r) (map (◌∷ []) e))
    unfolding or_else by_elements
    past-step none none h g = λ x p. go x (way x p)
      where
        go : (x : List A) → Way x → ⊥
        go _ (deeper t p) = h t p
        go _ (higher b t q l) = g b (q, l)
    past-step none (some b) h g = record {
      holds = record {
        kind = one b g.holds.0;
        above = then_less (o a b) (by_elements o s []) g.holds.1;
        apart = refute _ λ e. less-same g.holds.1 (subst (λ (c : A). o a c ≡ same) (prefix-tail eq E a b s [] e).0 (O.self a));
      };
      least = λ x p. go x (way x p);
    }
      where
        go : (x : List A) → Way x → by_elements o x (b ∷ []) ≡ less → ⊥
        go _ (deeper t p) l = h t p
        go _ (higher c t q k) l = ⊎_elim (λ m. g.least c (q, k) m) (λ m. nil-first o t m.1) (then-less-view (o c b) (by_elements o t []) l)
    past-step (some t) e h g = record {
      holds = record {
        kind = into t h.holds.kind;
        above = then_same (o a a) (by_elements o s t) (O.self a) ∙ h.holds.above;
        apart = prefix-cons eq E a s t ∙ h.holds.apart;
      };
      least = λ x p. go x (way x p);
    }
      where
        go : (x : List A) → Way x → by_elements o x (a ∷ t) ≡ less → ⊥
        go _ (deeper u p) l = h.least u p (sym (then_same (o a a) (by_elements o u t) (O.self a)) ∙ l)
        go _ (higher c u q k) l = less-greater l (then-greater (o c a) (by_elements o u t) (less-is-greater o O a c k))
