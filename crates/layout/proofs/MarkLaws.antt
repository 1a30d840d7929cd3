-- What the marks of a test keep, select, count and find; a mark buffer that is longer than the list; how much is left of joined records.
-- Assumes nothing.
use mathlib.Core.Path.{◌≡◌, refl, sym, ap, ◌∙◌}
use mathlib.Core.List.Memᴰ.{cases_cons as uncons}
use mathlib.Core.List.Memᴰ.{head as here}
use mathlib.Core.List.Memᴰ.{not-nil as none_in}
use mathlib.Core.List.Memᴰ.{tail as there}
use mathlib.Core.List.{List, [], ◌∷◌, ◌++◌, map}
use mathlib.Core.Logic.{⊎_elim}
use mathlib.Core.Bool.{Bool, true, false, not, cond}
use Prim.Native.Nat.{ℕ, zero, suc, ◌+◌, ◌-◌, ◌*◌, ◌≤◌, ◌<◌}
use native.Mathlib.Omega.{arith}
use native.Mathlib.Numerals.{add-one}
use lib.Dec.{eqb, ltb}
use lib.ListN.{length, take, drop, get_or, length-append, length-drop, drop_of_length-le}
use lib.Seq.{take_all, drop-cons}
use borrow.Author.Tests.{eq-eqb, ne_eqb, ltb-false}
use Rattle.std.specs.Prelude.{Option, Some, None}
use Rattle.std.specs.List.{count_by, filter, position, position_or_len}
use Rattle.std.proofs.lemmas.List.Sums.{length-filter}
use Rattle.laws.specs.Sorted.{◌∈◌, any, keep, Ascends}
use Rattle.laws.specs.Lists.{put}
use Rattle.laws.proofs.Truth.{split}
use Rattle.layout.specs.Layout.{records, joined}
use Rattle.layout.specs.Marks.{marks_of, kept, selected, first_mark, count_marks, marked_pairs}
use Rattle.layout.proofs.LaidLaws.{drop-pair}

module _ {A : Type 0} where
  -- The marks of a test.
  module _ (p : A → Bool) where
    pub length-marks : (l : List A) → length (marks_of p l) ≡ length l
    length-marks [] = refl
    length-marks (a ∷ l) = ap suc (length-marks l)

    pub kept-marks : (l : List A) → kept (marks_of p l) l ≡ keep (λ (a : A). not (p a)) l
    unfolding keep
    kept-marks [] = refl
    kept-marks (a ∷ l) = let h = kept-marks l in split (p a) (λ q. rw q h) (λ q. rw q (ap (a ∷◌) h))

    pub selected-marks : (l : List A) → selected (marks_of p l) l ≡ keep p l
    unfolding keep
    selected-marks [] = refl
    selected-marks (a ∷ l) = let h = selected-marks l in split (p a) (λ q. rw q (ap (a ∷◌) h)) (λ q. rw q h)

    pub count-marks : (l : List A) → count_marks (marks_of p l) ≡ length (keep p l)
    unfolding keep
    count-marks [] = refl
    count-marks (a ∷ l) = let h = count-marks l in split (p a) (λ q. rw q (ap suc h)) (λ q. rw q h)

    -- The first mark is at the first element that the test holds of.
    pub first-before : (l : List A) (k : ℕ) (d : A) → k < first_mark (marks_of p l) → p (get_or l k d) ≡ false
    first-before [] k d h = absurd (omega arith)
    first-before (a ∷ l) zero d h = split (p a) (λ q. let z : 0 < 0 = rw q at h in absurd (omega arith)) (λ q. q)
    first-before (a ∷ l) (suc k) d h =
        let i = first-before l k d in
        split (p a)
        (λ q. let z : suc k < 0 = rw q at h in absurd (omega arith))
        (λ q. let w : suc k < suc (first_mark (marks_of p l)) = rw q at h in i (omega arith))

    pub first_holds : (l : List A) (d : A) → first_mark (marks_of p l) < length l → p (get_or l (first_mark (marks_of p l)) d) ≡ true
    first_holds [] d h = absurd (omega arith)
    first_holds (a ∷ l) d h =
        let i = first_holds l d in
        split (p a)
        (λ q. rw q q)
        (λ q. let w : suc (first_mark (marks_of p l)) < suc (length l) = rw q at h in rw q (i (omega arith)))

    pub first-none : (l : List A) → length l ≤ first_mark (marks_of p l) → any p l ≡ false
    unfolding any
    first-none [] h = refl
    first-none (a ∷ l) h =
        let i = first-none l in
        split (p a)
        (λ q. let w : suc (length l) ≤ 0 = rw q at h in absurd (omega arith))
        (λ q. let w : suc (length l) ≤ suc (first_mark (marks_of p l)) = rw q at h in rw q (i (omega arith)))

  -- What the marks leave.
  pub kept_in : {x : A} (ms : List ℕ) (l : List A) → x ∈ kept ms l → x ∈ l
  kept_in ms [] m = m
  kept_in [] (a ∷ l) m = m
  kept_in (i ∷ ms) (a ∷ l) m =
      let h = kept_in ms l in
      split (eqb i 1) (λ q. there (h (rw q at m))) (λ q. ⊎_elim (λ e. here e) (λ n. there (h n)) (uncons (rw q at m)))

  pub selected-in : {x : A} (ms : List ℕ) (l : List A) → x ∈ selected ms l → x ∈ l
  selected-in ms [] m = m
  selected-in [] (a ∷ l) m = absurd (none_in m)
  selected-in (i ∷ ms) (a ∷ l) m =
      let h = selected-in ms l in
      split (eqb i 1) (λ q. ⊎_elim (λ e. here e) (λ n. there (h n)) (uncons (rw q at m))) (λ q. there (h (rw q at m)))

  pub kept-ascends : (test : A → A → Bool) (ms : List ℕ) (l : List A) → Ascends test l → Ascends test (kept ms l)
  unfolding Ascends
  kept-ascends test ms [] s = s
  kept-ascends test [] (a ∷ l) s = s
  kept-ascends test (i ∷ ms) (a ∷ l) s =
      let h = kept-ascends test ms l s.1 in
      split (eqb i 1) (λ q. rw q h) (λ q. rw q (λ x m. s.0 x (kept_in ms l m), h))

  pub selected-ascends : (test : A → A → Bool) (ms : List ℕ) (l : List A) → Ascends test l → Ascends test (selected ms l)
  unfolding Ascends
  selected-ascends test ms [] s = s
  selected-ascends test [] (a ∷ l) s = tt
  selected-ascends test (i ∷ ms) (a ∷ l) s =
      let h = selected-ascends test ms l s.1 in
      split (eqb i 1) (λ q. rw q (λ x m. s.0 x (selected-in ms l m), h)) (λ q. rw q h)

  -- How much that is.
  pub length-kept : (ms : List ℕ) (l : List A) → length ms ≡ length l → length (kept ms l) + count_marks ms ≡ length l
  length-kept [] [] e = refl
  length-kept (i ∷ ms) [] e = absurd (omega arith)
  length-kept [] (a ∷ l) e = absurd (omega arith)
  length-kept (i ∷ ms) (a ∷ l) e =
      let h : length (kept ms l) + count_marks ms ≡ length l = length-kept ms l (omega arith) in
      split (eqb i 1)
      (λ q. rw q (let z : length (kept ms l) + suc (count_marks ms) ≡ suc (length l) = omega arith in z))
      (λ q. rw q (let z : suc (length (kept ms l)) + count_marks ms ≡ suc (length l) = omega arith in z))

  pub length-kept-most : (ms : List ℕ) (l : List A) → length (kept ms l) ≤ length l
  length-kept-most ms [] = omega arith
  length-kept-most [] (a ∷ l) = omega arith
  length-kept-most (i ∷ ms) (a ∷ l) =
      let h : length (kept ms l) ≤ length l = length-kept-most ms l in
      split (eqb i 1)
      (λ q. rw q (let z : length (kept ms l) ≤ suc (length l) = omega arith in z))
      (λ q. rw q (let z : suc (length (kept ms l)) ≤ suc (length l) = omega arith in z))

  pub length-selected : (ms : List ℕ) (l : List A) → length ms ≡ length l → length (selected ms l) ≡ count_marks ms
  length-selected [] [] e = refl
  length-selected (i ∷ ms) [] e = absurd (omega arith)
  length-selected [] (a ∷ l) e = absurd (omega arith)
  length-selected (i ∷ ms) (a ∷ l) e =
      let h : length (selected ms l) ≡ count_marks ms = length-selected ms l (omega arith) in
      split (eqb i 1) (λ q. rw q (ap suc h)) (λ q. rw q h)

  -- Marks beyond the list are not looked at.
  pub kept-front : (ms z : List ℕ) (l : List A) → length l ≤ length ms → kept (ms ++ z) l ≡ kept ms l
  kept-front ms z [] h = refl
  kept-front [] z (a ∷ l) h = absurd (omega arith)
  kept-front (i ∷ ms) z (a ∷ l) h =
      let g : kept (ms ++ z) l ≡ kept ms l = kept-front ms z l (omega arith) in
      split (eqb i 1) (λ q. rw q g) (λ q. rw q (ap (a ∷◌) g))

  pub kept_put : (ms old : List ℕ) (l : List A) → length ms ≡ length l → kept (put ms old) l ≡ kept ms l
  unfolding put
  kept_put ms old l e = kept-front ms (drop (length ms) old) l (omega arith)

  pub selected-front : (ms z : List ℕ) (l : List A) → length l ≤ length ms → selected (ms ++ z) l ≡ selected ms l
  selected-front ms z [] h = refl
  selected-front [] z (a ∷ l) h = absurd (omega arith)
  selected-front (i ∷ ms) z (a ∷ l) h =
      let g : selected (ms ++ z) l ≡ selected ms l = selected-front ms z l (omega arith) in
      split (eqb i 1) (λ q. rw q (ap (a ∷◌) g)) (λ q. rw q g)

  pub selected-put : (ms old : List ℕ) (l : List A) → length ms ≡ length l → selected (put ms old) l ≡ selected ms l
  unfolding put
  selected-put ms old l e = selected-front ms (drop (length ms) old) l (omega arith)

-- Marks of a list and of what is read off it.
module _ {A B : Type 0} (f : A → B) where
  pub marks-map : (p : B → Bool) (l : List A) → marks_of p (map f l) ≡ marks_of (λ (a : A). p (f a)) l
  marks-map p [] = refl
  marks-map p (a ∷ l) = ap (cond (p (f a)) 1 0 ∷◌) (marks-map p l)

  pub kept_map : (ms : List ℕ) (l : List A) → kept ms (map f l) ≡ map f (kept ms l)
  kept_map ms [] = refl
  kept_map [] (a ∷ l) = refl
  kept_map (i ∷ ms) (a ∷ l) = let h = kept_map ms l in split (eqb i 1) (λ q. rw q h) (λ q. rw q (ap (f a ∷◌) h))

  pub selected-map : (ms : List ℕ) (l : List A) → selected ms (map f l) ≡ map f (selected ms l)
  selected-map ms [] = refl
  selected-map [] (a ∷ l) = refl
  selected-map (i ∷ ms) (a ∷ l) = let h = selected-map ms l in split (eqb i 1) (λ q. rw q (ap (f a ∷◌) h)) (λ q. rw q h)

-- Places and numbers of marks.
pub first-most : (ms : List ℕ) → first_mark ms ≤ length ms
first-most [] = omega arith
first-most (i ∷ ms) =
    let h : first_mark ms ≤ length ms = first-most ms in
    split (eqb i 1) (λ q. rw q (let z : 0 ≤ suc (length ms) = omega arith in z)) (λ q. rw q (let z : suc (first_mark ms) ≤ suc (length ms) = omega arith in z))

pub count_most : (ms : List ℕ) → count_marks ms ≤ length ms
count_most [] = omega arith
count_most (i ∷ ms) =
    let h : count_marks ms ≤ length ms = count_most ms in
    split (eqb i 1)
    (λ q. rw q (let z : suc (count_marks ms) ≤ suc (length ms) = omega arith in z))
    (λ q. rw q (let z : count_marks ms ≤ suc (length ms) = omega arith in z))

pub length_marked : (ms dir : List ℕ) → 2 * length ms ≤ length dir → length (marked_pairs ms dir) ≡ 2 * count_marks ms
length_marked [] dir h = refl
length_marked (i ∷ ms) [] h = absurd (omega arith)
length_marked (i ∷ ms) (o ∷ []) h = absurd (omega arith)
length_marked (i ∷ ms) (o ∷ l ∷ dir) h =
    let g : length (marked_pairs ms dir) ≡ 2 * count_marks ms = length_marked ms dir (omega arith) in
    split (eqb i 1)
    (λ q. rw q (let z : suc (suc (length (marked_pairs ms dir))) ≡ 2 * suc (count_marks ms) = omega arith in z))
    (λ q. rw q g)

-- The marked pairs cut out the selected records.
pub records-front : (n : ℕ) (xs z tree : List ℕ) → 2 * n ≤ length xs → records n (xs ++ z) tree ≡ records n xs tree
records-front zero xs z tree h = refl
records-front (suc n) [] z tree h = absurd (omega arith)
records-front (suc n) (o ∷ []) z tree h = absurd (omega arith)
records-front (suc n) (o ∷ l ∷ xs) z tree h = ap (take l (drop o tree) ∷◌) (records-front n xs z tree (omega arith))

pub records-marked : (ms dir tree : List ℕ) → 2 * length ms ≤ length dir → records (count_marks ms) (marked_pairs ms dir) tree ≡ selected ms (records (length ms) dir tree)
records-marked [] dir tree h = refl
records-marked (i ∷ ms) [] tree h = absurd (omega arith)
records-marked (i ∷ ms) (o ∷ []) tree h = absurd (omega arith)
records-marked (i ∷ ms) (o ∷ l ∷ dir) tree h =
    let g = records-marked ms dir tree (omega arith) in
    split (eqb i 1) (λ q. rw q (ap (take l (drop o tree) ∷◌) g)) (λ q. rw q g)

-- What is kept is no longer than what there was.
pub joined-kept : (ms : List ℕ) (recs : List (List ℕ)) → length (joined (kept ms recs)) ≤ length (joined recs)
joined-kept ms [] = omega arith
joined-kept [] (r ∷ rs) = omega arith
joined-kept (i ∷ ms) (r ∷ rs) =
    let h : length (joined (kept ms rs)) ≤ length (joined rs) = joined-kept ms rs in
    let e = length-append r (joined rs) in
    let f = length-append r (joined (kept ms rs)) in
    split (eqb i 1)
    (λ q. rw q (let z : length (joined (kept ms rs)) ≤ length (r ++ joined rs) = omega arith in z))
    (λ q. rw q (let z : length (r ++ joined (kept ms rs)) ≤ length (r ++ joined rs) = omega arith in z))

-- Turns of the loops over marks: what is said of the marks from k on.
module _ (ms : List ℕ) (k : ℕ) where
  module _ (h : k < length ms) where
    next-mark : drop k ms ≡ get_or ms k 0 ∷ drop (k + 1) ms
    next-mark = rw (add-one k) (drop-cons ms k 0 h)

    pub count-one : get_or ms k 0 ≡ 1 → count_marks (drop k ms) ≡ suc (count_marks (drop (k + 1) ms))
    count-one e = rw (next-mark, eq-eqb (get_or ms k 0) 1 e)

    pub count_none : (get_or ms k 0 ≡ 1 → ⊥) → count_marks (drop k ms) ≡ count_marks (drop (k + 1) ms)
    count_none e = rw (next-mark, ne_eqb (get_or ms k 0) 1 e)

    module _ (dir : List ℕ) (w : 2 * k + 1 < length dir) where
      pub marked-one : get_or ms k 0 ≡ 1
          → marked_pairs (drop k ms) (drop (2 * k) dir) ≡ get_or dir (2 * k) 0 ∷ get_or dir (2 * k + 1) 0 ∷ marked_pairs (drop (k + 1) ms) (drop (2 * (k + 1)) dir)
      marked-one e = rw (drop-pair dir k w, next-mark, eq-eqb (get_or ms k 0) 1 e)

      pub marked-none : (get_or ms k 0 ≡ 1 → ⊥) → marked_pairs (drop k ms) (drop (2 * k) dir) ≡ marked_pairs (drop (k + 1) ms) (drop (2 * (k + 1)) dir)
      marked-none e = rw (drop-pair dir k w, next-mark, ne_eqb (get_or ms k 0) 1 e)

  module _ (h : length ms ≤ k) where
    pub count-end : count_marks (drop k ms) ≡ 0
    count-end = rw (drop_of_length-le ms h)

    pub marked-end : (dir : List ℕ) → marked_pairs (drop k ms) (drop (2 * k) dir) ≡ []
    marked-end dir = rw (drop_of_length-le ms h)

-- How many marks the library counts, and where it finds the first.
pub count-is : (ms : List ℕ) → count_by (λ (m : ℕ). eqb m 1) ms ≡ count_marks ms
count-is ms = sym (length-filter (λ (m : ℕ). eqb m 1) ms) ∙ ones ms
  where
    ones : (l : List ℕ) → length (filter (λ (m : ℕ). eqb m 1) l) ≡ count_marks l
    ones [] = refl
    ones (m ∷ l) = split (eqb m 1) (λ q. rw q (ap suc (ones l))) (λ q. rw q (ones l))

first-is : (ms : List ℕ) → position_or_len (λ (m : ℕ). eqb m 1) ms ≡ first_mark ms
first-is [] = refl
first-is (m ∷ ms) = split (eqb m 1) (λ q. rw q refl) (λ q. rw q (omega (arith, first-is ms)))

first_most : (ms : List ℕ) → first_mark ms ≤ length ms
first_most [] = omega arith
first_most (m ∷ ms) =
    let h = first_most ms in
    split (eqb m 1) (λ q. rw q (omega arith)) (λ q. rw q (omega arith))

module _ (ms : List ℕ) (from : ℕ) where
  behind : position (λ (m : ℕ). eqb m 1) (take (length ms - from) (drop from ms)) ≡ cond (ltb (first_mark (drop from ms)) (length (drop from ms))) (Some (first_mark (drop from ms))) None
  behind =
      let w : length (drop from ms) ≤ length ms - from = omega (arith, length-drop from ms) in
      ap (position λ (m : ℕ). eqb m 1) (take_all (length ms - from) (drop from ms) w)
      ∙ ap (λ (k : ℕ). cond (ltb k (length (drop from ms))) (Some k) None) (first-is (drop from ms))

  pub marked_at : (k : ℕ) → position (λ (m : ℕ). eqb m 1) (take (length ms - from) (drop from ms)) ≡ Some k → from + k ≡ from + first_mark (drop from ms)
  marked_at k e =
      split (ltb (first_mark (drop from ms)) (length (drop from ms)))
      (λ q. let h : Some (first_mark (drop from ms)) ≡ Some k = sym (behind ∙ rw q refl) ∙ e in ap (from +◌) (sym (some-is h)))
      (λ q. let h : None ≡ Some k = sym (behind ∙ rw q refl) ∙ e in absurd (none-some h))
    where
      inside : Option ℕ → ℕ
      inside None = 0
      inside (Some n) = n

      some-is : {a b : ℕ} → Some a ≡ Some b → a ≡ b
      some-is h = ap inside h

      none-some : {a : ℕ} → None ≡ Some a → ⊥
      none-some h = let z : ◌≡◌ {A = ℕ} 0 1 = cc in omega arith

  pub marked_nowhere : from ≤ length ms → position (λ (m : ℕ). eqb m 1) (take (length ms - from) (drop from ms)) ≡ None → length ms ≡ from + first_mark (drop from ms)
  marked_nowhere w e =
      split (ltb (first_mark (drop from ms)) (length (drop from ms)))
      (λ q. let h : Some (first_mark (drop from ms)) ≡ None = sym (behind ∙ rw q refl) ∙ e in absurd (some-none h))
      (λ q. omega (arith, length-drop from ms, first_most (drop from ms), ltb-false _ _ q))
    where
      some-none : {a : ℕ} → Some a ≡ None → ⊥
      some-none h = let z : ◌≡◌ {A = ℕ} 0 1 = cc in omega arith
