-- What marks in a buffer give to counts and areas of interest. Assumes nothing.
use Prim.Native.Nat.{ℕ}
use mathlib.Core.Path.{◌≡◌, refl, ap, ◌∙◌}
use mathlib.Core.List.{List, [], ◌∷◌, reverse}
use mathlib.Core.Bool.{Bool}
use lib.ListN.{length, take}
use Rattle.laws.specs.Lists.{put}
use Rattle.laws.specs.Sorted.{keep}
use Rattle.laws.proofs.Truth.{split}
use Rattle.layout.specs.Marks.{marks_of, selected, count_marks}
use Rattle.layout.proofs.MarkLaws.{selected-marks}
use Rattle.tree.specs.Stored.{Stored}
use Rattle.tree.specs.Interest.{interest_from}
use Rattle.store.proofs.DecideLaws.{marks-front, marks-number}

-- Two tests that answer the same keep the same.
pub keep_same : {A : Type 0} (p q : A → Bool) → ((x : A) → p x ≡ q x) → (l : List A) → keep p l ≡ keep q l
unfolding keep
keep_same p q e [] = refl
keep_same {A} p q e (x ∷ l) = let h = keep_same p q e l in split (q x) (λ r. rw (e x, r) (ap (x ∷◌) h)) (λ r. rw (e x, r) h)

-- What the marks of a test in a buffer give: how many, and from which time on.
module _ (p : Stored → Bool) (l : List Stored) (n : ℕ) (many : length l ≡ n) (marks old : List ℕ) (e : marks ≡ put (marks_of p l) old) where
  module _ (same : Stored → Bool) (alike : (x : Stored) → p x ≡ same x) where
    pub count-marked : (k : ℕ) → k ≡ count_marks (take n marks) → k ≡ length (keep same l)
    count-marked k q = marks-number p l n many marks old e k q ∙ ap length (keep_same p same alike l)

    pub interest-marked : (max_count max_size start time : ℕ) → time ≡ interest_from max_count max_size 0 0 start (reverse (selected (take n marks) l))
        → time ≡ interest_from max_count max_size 0 0 start (reverse (keep same l))
    interest-marked max_count max_size start time q =
        q
        ∙ ap (λ (ms : List ℕ). interest_from max_count max_size 0 0 start (reverse (selected ms l))) (marks-front p l n many marks old e)
        ∙ ap (λ (x : List Stored). interest_from max_count max_size 0 0 start (reverse x)) (selected-marks p l ∙ keep_same p same alike l)
