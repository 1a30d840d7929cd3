-- Laws of the fields of a line: the first, and those behind it. Assumes nothing.
use Prim.Native.Nat.{ℕ, ◌+◌, ◌-◌, ◌≤◌, ◌<◌}
use mathlib.Core.Path.{◌≡◌, refl, sym, ap, ap₂, ◌∙◌}
use mathlib.Core.List.{List, [], ◌∷◌}
use mathlib.Core.Bool.{Bool, true, cond}
use native.Mathlib.Omega.{arith}
use native.Mathlib.Numerals.{add-one}
use lib.Dec.{eqb, ltb}
use borrow.Author.Tests.{ltb-false}
use lib.ListN.{length, take, drop, drop_of_length-le}
use lib.Seq.{drop-cons, drop-drop}
use Rattle.laws.specs.Lists.{piece}
use Rattle.laws.specs.Sorted.{all}
use Rattle.laws.proofs.Truth.{split, and-true}
use Rattle.std.specs.Prelude.{Option, Some, None}
use Rattle.std.proofs.lemmas.List.Splits.{length-slice_split}
use Rattle.std.specs.List.{slice_split, onto_first, position_or_len, count_by}
use Rattle.text.specs.Fields.{fields, front, on_first}

module _ (sep : ℕ) where
  pub front-take : (s : List ℕ) → take (length (front sep s)) s ≡ front sep s
  unfolding front
  front-take [] = refl
  front-take (b ∷ s) = split (eqb b sep) (λ e. rw e) (λ e. rw e (ap (b ∷◌) (front-take s)))

  -- The library's words for the fields and for where the first ends.
  same-first : (b : ℕ) (fs : List (List ℕ)) → on_first b fs ≡ onto_first b fs
  same-first b [] = refl
  same-first b (f ∷ fs) = refl

  pub fields-split : (s : List ℕ) → slice_split (λ b. eqb b sep) s ≡ fields sep s
  unfolding fields
  fields-split [] = refl
  fields-split (b ∷ s) = rw (fields-split s, sym (same-first b (fields sep s)))

  pub front-position : (s : List ℕ) → position_or_len (λ b. eqb b sep) s ≡ length (front sep s)
  unfolding front
  front-position [] = refl
  front-position (b ∷ s) = split (eqb b sep) (λ e. rw e) (λ e. rw e (omega (arith, front-position s)))

  front-most : (s : List ℕ) → length (front sep s) ≤ length s
  unfolding front
  front-most [] = omega arith
  front-most (b ∷ s) = split (eqb b sep) (λ e. rw e (omega arith)) (λ e. rw e (omega (arith, front-most s)))

  module _ (s : List ℕ) (r : Option ℕ) (h : r ≡ cond (ltb (position_or_len (λ b. eqb b sep) s) (length s)) (Some (position_or_len (λ b. eqb b sep) s)) None) where
    found : r ≡ cond (ltb (length (front sep s)) (length s)) (Some (length (front sep s))) None
    found = rw (front-position s) at h

    pub found-at : (n : ℕ) → r ≡ Some n → (n ≡ length (front sep s)) × (n ≤ length s)
    found-at n e =
        split (ltb (length (front sep s)) (length s))
        (λ b.
        let g : r ≡ Some (length (front sep s)) = rw b at found in
        let v : n ≡ length (front sep s) = cc in
        (v, omega (arith, front-most s)))
        (λ b. let g : r ≡ None = rw b at found in absurd (let z : ◌≡◌ {A = ℕ} 0 1 = cc in omega arith))

    pub found-none : r ≡ None → length (front sep s) ≡ length s
    found-none e =
        split (ltb (length (front sep s)) (length s))
        (λ b. let g : r ≡ Some (length (front sep s)) = rw b at found in absurd (let z : ◌≡◌ {A = ℕ} 0 1 = cc in omega arith))
        (λ b. omega (arith, front-most s, ltb-false (length (front sep s)) (length s) b))

  -- The fields behind the first.
  abbrev pub behind : List ℕ → List (List ℕ)
  behind [] = []
  behind (b ∷ s) = fields sep s

  pub fields-first : (s : List ℕ) → fields sep s ≡ front sep s ∷ behind (drop (length (front sep s)) s)
  unfolding fields front
  fields-first [] = refl
  fields-first (b ∷ s) = split (eqb b sep) (λ e. rw e) (λ e. rw e (ap (on_first b) (fields-first s)))

  pub fields-cut : (s : List ℕ) (at e : ℕ) → e ≡ at + length (front sep (drop at s)) → fields sep (drop at s) ≡ piece at e s ∷ behind (drop e s)
  fields-cut s at e h =
      let n : e - at ≡ length (front sep (drop at s)) = omega arith in
      fields-first (drop at s)
      ∙ ap₂ ◌∷◌ (sym (ap (λ (k : ℕ). take k (drop at s)) n ∙ front-take (drop at s)))
      (ap behind (drop-drop (length (front sep (drop at s))) at s ∙ ap (λ (k : ℕ). drop k s) (sym h)))

  -- A field more than there are bytes that part them.
  pub fields-count : (s : List ℕ) → length (fields sep s) ≡ count_by (λ b. eqb b sep) s + 1
  fields-count s = sym (ap length (fields-split s)) ∙ length-slice_split (λ b. eqb b sep) s

  pub behind_more : (s : List ℕ) (e : ℕ) → e < length s → behind (drop e s) ≡ fields sep (drop (e + 1) s)
  behind_more s e h = rw (drop-cons s e 0 h, add-one)

  pub behind-none : (s : List ℕ) (e : ℕ) → length s ≤ e → behind (drop e s) ≡ []
  behind-none s e h = rw (drop_of_length-le s h)

-- A test of each field of what is left.
module _ (sep : ℕ) (p : List ℕ → Bool) (s : List ℕ) (at e : ℕ) (h : e ≡ at + length (front sep (drop at s))) where
  pub fields-hold : all p (fields sep (drop at s)) ≡ true → (p (piece at e s) ≡ true) × (all p (behind sep (drop e s)) ≡ true)
  unfolding all
  fields-hold a = and-true (p (piece at e s)) (all p (behind sep (drop e s))) (rw (fields-cut sep s at e h) at a)
