-- Numbers as pairs and pairs as numbers; pairs that a loop writes one after the other. Assumes nothing.
use Prim.Native.Nat.{ℕ, zero, suc, ◌+◌, ◌*◌, ◌≤◌, ◌<◌}
use mathlib.Core.Path.{◌≡◌, refl, sym, ap, ◌∙◌}
use mathlib.Core.List.{List, [], ◌∷◌, ◌++◌, append-nil}
use native.Mathlib.Omega.{arith}
use native.Mathlib.Nat.{le_of_suc-le-suc, not-suc-le-zero}
use lib.ListN.{length, take, drop, get_or, set, length-set}
use lib.Seq.{drop-nil, take_all, drop-length}
use Rattle.laws.specs.Lists.{put}
use Rattle.pairs.specs.Pairs.{pair, pairs_of, numbers_of}
use Rattle.pairs.specs.declared.Pair.{Pair}

abbrev pub pair_at : List ℕ → ℕ → Pair
pair_at ns k = pair (get_or ns (2 * k) 0) (get_or ns (2 * k + 1) 0)

-- What the loop has written after k turns.
unfoldable pub pairs_into : List ℕ → List Pair → ℕ → List Pair
pairs_into ns ps zero = ps
pairs_into ns ps (suc k) = set (pairs_into ns ps k) k (pair_at ns k)

pub into-length : (ns : List ℕ) (ps : List Pair) (k : ℕ) → length (pairs_into ns ps k) ≡ length ps
unfolding pairs_into
into-length ns ps zero = refl
into-length ns ps (suc k) = length-set (pairs_into ns ps k) k (pair_at ns k) ∙ into-length ns ps k

-- 2 * k, by cases.
abbrev twice : ℕ → ℕ
twice zero = zero
twice (suc k) = suc (suc (twice k))

twice-is : (k : ℕ) → twice k ≡ 2 * k
twice-is zero = refl
twice-is (suc k) = let e : suc (suc (2 * k)) ≡ 2 * suc k = omega arith in ap (λ (n : ℕ). suc (suc n)) (twice-is k) ∙ e

abbrev pair_here : List ℕ → ℕ → Pair
pair_here ns k = pair (get_or ns (twice k) 0) (get_or ns (suc (twice k)) 0)

here-is : (ns : List ℕ) (k : ℕ) → pair_at ns k ≡ pair_here ns k
here-is ns k =
    let e : 2 * k + 1 ≡ suc (2 * k) = omega arith in
    ap (λ (m : ℕ). pair (get_or ns (2 * k) 0) (get_or ns m 0)) e ∙ ap (λ (m : ℕ). pair (get_or ns m 0) (get_or ns (suc m) 0)) (sym (twice-is k))

pairs-count : (k : ℕ) (ns : List ℕ) → twice k ≤ length ns → length (pairs_of (take (twice k) ns)) ≡ k
unfolding pairs_of
pairs-count zero ns h = refl
pairs-count (suc k) [] h = absurd (not-suc-le-zero h)
pairs-count (suc k) (o ∷ []) h = absurd (not-suc-le-zero (le_of_suc-le-suc h))
pairs-count (suc k) (o ∷ l ∷ ns) h = ap suc (pairs-count k ns (le_of_suc-le-suc (le_of_suc-le-suc h)))

pairs-snoc : (k : ℕ) (ns : List ℕ) → twice (suc k) ≤ length ns → pairs_of (take (twice (suc k)) ns) ≡ pairs_of (take (twice k) ns) ++ pair_here ns k ∷ []
unfolding pairs_of
pairs-snoc k [] h = absurd (not-suc-le-zero h)
pairs-snoc k (o ∷ []) h = absurd (not-suc-le-zero (le_of_suc-le-suc h))
pairs-snoc zero (o ∷ l ∷ ns) h = refl
pairs-snoc (suc k) (o ∷ l ∷ ns) h = ap (pair o l ∷◌) (pairs-snoc k ns (le_of_suc-le-suc (le_of_suc-le-suc h)))

module _ {A : Type 0} where
  put-more : (xs old : List A) (v : A) → length xs < length old → set (put xs old) (length xs) v ≡ put (xs ++ v ∷ []) old
  unfolding put
  put-more [] [] v h = absurd (not-suc-le-zero h)
  put-more [] (y ∷ old) v h = refl
  put-more (x ∷ xs) [] v h = absurd (not-suc-le-zero h)
  put-more (x ∷ xs) (y ∷ old) v h = ap (x ∷◌) (put-more xs old v (le_of_suc-le-suc h))

into-here : (ns : List ℕ) (ps : List Pair) (k : ℕ) → twice k ≤ length ns → k ≤ length ps → pairs_into ns ps k ≡ put (pairs_of (take (twice k) ns)) ps
unfolding pairs_into pairs_of put
into-here ns ps zero h g = refl
into-here ns ps (suc k) h g =
    let front = pairs_of (take (twice k) ns) in
    let c = pairs-count k ns (omega arith) in
    ap (λ (l : List Pair). set l k (pair_at ns k)) (into-here ns ps k (omega arith) (omega arith))
    ∙ ap (set (put front ps) k) (here-is ns k)
    ∙ ap (λ (m : ℕ). set (put front ps) m (pair_here ns k)) (sym c)
    ∙ put-more front ps (pair_here ns k) (omega arith)
    ∙ ap (λ (l : List Pair). put l ps) (sym (pairs-snoc k ns h))

-- What it has written in all.
pub into-put : (ns : List ℕ) (ps : List Pair) (n : ℕ) → 2 * n ≤ length ns → n ≤ length ps → pairs_into ns ps n ≡ put (pairs_of (take (2 * n) ns)) ps
into-put ns ps n h g =
    into-here ns ps n (omega (arith, twice-is n)) g
    ∙ ap (λ (m : ℕ). put (pairs_of (take m ns)) ps) (twice-is n)

-- Pairs written as numbers, and read again.
pub pairs-again : (ps : List Pair) → pairs_of (numbers_of ps) ≡ ps
unfolding pairs_of numbers_of
pairs-again [] = refl
pairs-again (p ∷ ps) = ap (p ∷◌) (pairs-again ps)

pub length-numbers : (ps : List Pair) → length (numbers_of ps) ≡ 2 * length ps
unfolding numbers_of
length-numbers [] = refl
length-numbers (p ∷ ps) = let e : suc (suc (2 * length ps)) ≡ 2 * suc (length ps) = omega arith in ap (λ (n : ℕ). suc (suc n)) (length-numbers ps) ∙ e

put-here : (m : ℕ) (xs : List ℕ) (ps : List Pair) → length xs ≡ twice m → pairs_of (put xs (numbers_of ps)) ≡ put (pairs_of xs) ps
unfolding put pairs_of numbers_of
put-here m [] ps h = pairs-again ps
put-here zero (o ∷ xs) ps h = absurd (let z : suc (length xs) ≡ 0 = h in omega arith)
put-here (suc m) (o ∷ []) ps h = absurd (let z : 1 ≡ suc (suc (twice m)) = h in omega arith)
put-here (suc m) (o ∷ l ∷ xs) [] h =
    let e : length xs ≡ twice m = omega arith in
    ap (λ (t : List ℕ). pair o l ∷ pairs_of (xs ++ t)) (sym (drop-nil (length xs))) ∙ ap (pair o l ∷◌) (put-here m xs [] e) ∙ ap (λ (t : List Pair). pair o l ∷ (pairs_of xs ++ t)) (drop-nil (length (pairs_of xs)))
put-here (suc m) (o ∷ l ∷ xs) (p ∷ ps) h = let e : length xs ≡ twice m = omega arith in ap (pair o l ∷◌) (put-here m xs ps e)

-- Numbers put over those of pairs are pairs put over them.
pub pairs-put : (m : ℕ) (xs : List ℕ) (ps : List Pair) → length xs ≡ 2 * m → pairs_of (put xs (numbers_of ps)) ≡ put (pairs_of xs) ps
pairs-put m xs ps h = put-here m xs ps (h ∙ sym (twice-is m))

pairs-half : (m : ℕ) (xs : List ℕ) → length xs ≡ twice m → length (pairs_of xs) ≡ m
unfolding pairs_of
pairs-half zero [] h = refl
pairs-half (suc m) [] h = absurd (let z : 0 ≡ suc (suc (twice m)) = h in omega arith)
pairs-half zero (o ∷ xs) h = absurd (let z : suc (length xs) ≡ 0 = h in omega arith)
pairs-half (suc m) (o ∷ []) h = absurd (let z : 1 ≡ suc (suc (twice m)) = h in omega arith)
pairs-half (suc m) (o ∷ l ∷ xs) h = let e : length xs ≡ twice m = omega arith in ap suc (pairs-half m xs e)

pub length_pairs : (m : ℕ) (xs : List ℕ) → length xs ≡ 2 * m → length (pairs_of xs) ≡ m
length_pairs m xs h = pairs-half m xs (h ∙ sym (twice-is m))

numbers-here : (ps : List Pair) (old : List ℕ) (k : ℕ) (d : Pair) → k < length ps → twice (length ps) ≤ length old
    → set (set (put (numbers_of (take k ps)) old) (twice k) (get_or ps k d).offset) (suc (twice k)) (get_or ps k d).length ≡ put (numbers_of (take (suc k) ps)) old
unfolding put numbers_of
numbers-here [] old k d h g = absurd (not-suc-le-zero h)
numbers-here (p ∷ ps) [] k d h g = absurd (not-suc-le-zero g)
numbers-here (p ∷ ps) (y ∷ []) k d h g = absurd (not-suc-le-zero (le_of_suc-le-suc g))
numbers-here (p ∷ ps) (y ∷ z ∷ old) zero d h g = refl
numbers-here (p ∷ ps) (y ∷ z ∷ old) (suc k) d h g = ap (λ (l : List ℕ). p.offset ∷ p.length ∷ l) (numbers-here ps old k d (le_of_suc-le-suc h) (le_of_suc-le-suc (le_of_suc-le-suc g)))

-- A loop that writes the pairs as numbers: a turn, and what it has written in all.
module _ (ps : List Pair) (old ns : List ℕ) (k : ℕ) (so : ns ≡ put (numbers_of (take k ps)) old) (room : length old ≡ 2 * length ps) where
  pub numbers-turn : (d : Pair) → k < length ps → set (set ns (2 * k) (get_or ps k d).offset) (2 * k + 1) (get_or ps k d).length ≡ put (numbers_of (take (k + 1) ps)) old
  numbers-turn d h =
      let e : 2 * k + 1 ≡ suc (twice k) = omega (arith, twice-is k) in
      let f : k + 1 ≡ suc k = omega arith in
      ap (λ (l : List ℕ). set (set l (2 * k) (get_or ps k d).offset) (2 * k + 1) (get_or ps k d).length) so
      ∙ ap (λ (m : ℕ). set (set (put (numbers_of (take k ps)) old) m (get_or ps k d).offset) (2 * k + 1) (get_or ps k d).length) (sym (twice-is k))
      ∙ ap (λ (m : ℕ). set (set (put (numbers_of (take k ps)) old) (twice k) (get_or ps k d).offset) m (get_or ps k d).length) e
      ∙ numbers-here ps old k d h (omega (arith, twice-is (length ps)))
      ∙ ap (λ (m : ℕ). put (numbers_of (take m ps)) old) (sym f)

  pub numbers-all : length ps ≤ k → ns ≡ numbers_of ps
  unfolding put
  numbers-all h =
      so
      ∙ ap (λ (l : List Pair). put (numbers_of l) old) (take_all k ps h)
      ∙ ap (λ (m : ℕ). numbers_of ps ++ drop m old) (length-numbers ps ∙ sym room)
      ∙ ap (numbers_of ps ++◌) (drop-length old)
      ∙ append-nil (numbers_of ps)
