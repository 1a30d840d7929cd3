-- One pass over a tree, pair by pair: what is left to test says what the whole test says. Assumes nothing.
use mathlib.Core.Path.{◌≡◌, refl, sym, ap, subst, ◌∙◌}
use mathlib.Core.List.{List, [], ◌∷◌, ◌++◌}
use mathlib.Core.Bool.{Bool, true, false, not, cond, ◌&&◌}
use Prim.Native.Nat.{ℕ, zero, suc, ◌+◌, ◌-◌, ◌*◌, ◌≤◌, ◌<◌}
use native.Mathlib.Omega.{arith}
use native.Mathlib.Numerals.{add-one}
use lib.Dec.{leb, eqb}
use lib.ListN.{length, take, drop, get_or, length-drop}
use lib.Seq.{length-take-le}
use borrow.Author.Tests.{eqb-true, leb-true, ne_eqb, le-leb}
use Rattle.laws.specs.Order.{is_less, below}
use Rattle.laws.specs.Sorted.{all, ascending}
use Rattle.laws.proofs.Truth.{clash, refute, and-true, not-true, not-false}
use Rattle.layout.specs.Buffers.{all_zero}
use Rattle.layout.specs.Layout.{records, record_at, chained, ending, laid_out}
use Rattle.layout.proofs.LaidLaws.{laid, drop-pair}
use Rattle.data_model.specs.Path.{Figures, by_bytes}
use Rattle.tree.specs.Stored.{key_of, key_below, is_record}
use Rattle.tree.specs.Tree.{well_formed, InBounds}
use Rattle.tree.specs.declared.stored.KeyOrder.{KeyOrder}
use Rattle.tree.proofs.FormedLaws.{well-laid, record-long}

-- Pair k begins at `at`, and what it cuts out is within the tree and a record.
unfoldable pub stands_at : KeyOrder → Figures → List ℕ → List ℕ → ℕ → ℕ → Bool
stands_at o f dir tree k at = eqb (get_or dir (2 * k) 0) at && (leb (at + get_or dir (2 * k + 1) 0) (length tree) && is_record o f (record_at k dir tree))

-- The key of record k is above the one before it, if there is one.
unfoldable pub ascends_at : List ℕ → List ℕ → ℕ → Bool
ascends_at dir tree k = cond (eqb k 0) true (key_below (record_at (k - 1) dir tree) (record_at k dir tree))

-- The record before place i, if there is one.
abbrev pub previous : ℕ → List ℕ → List ℕ → List (List ℕ)
previous zero dir tree = []
previous (suc k) dir tree = record_at k dir tree ∷ []

-- What is left to test: n pairs, the first at `at`, and the record before them.
unfoldable pub left : KeyOrder → Figures → ℕ → ℕ → List (List ℕ) → List ℕ → List ℕ → Bool
left o f n at before dir tree =
    (chained n at dir && (leb (ending n at dir) (length tree) && (all_zero (drop (ending n at dir) tree) && all_zero (drop (2 * n) dir)))) &&
    (all (is_record o f) (records n dir tree) && ascending key_below (before ++ records n dir tree))

ending-grows : (n at : ℕ) (dir : List ℕ) → at ≤ ending n at dir
ending-grows zero at dir = omega arith
ending-grows (suc n) at [] = omega arith
ending-grows (suc n) at (o ∷ []) = omega arith
ending-grows (suc n) at (o ∷ l ∷ dir) = omega (arith, ending-grows n (at + l) dir)

and-false : (a : Bool) → (a && false) ≡ false
and-false true = refl
and-false false = refl

and-end : (a : Bool) → (a && true) ≡ a
and-end true = refl
and-end false = refl

-- The tests of one pair in front of the tests of the others.
shuffle : (a b i s c l z r t : Bool) → (l ≡ true → b ≡ true)
    → ((a && c) && (l && z)) && ((i && r) && (s && t)) ≡ ((a && (b && i)) && s) && ((c && (l && z)) && (r && t))
shuffle false b i s c l z r t h = refl
shuffle true false i s c true z r t h = clash (h refl) refl
shuffle true false i s true false z r t h = refl
shuffle true false i s false false z r t h = refl
shuffle true true false s c l z r t h = and-false (c && (l && z))
shuffle true true true false c l z true t h = and-false (c && (l && z))
shuffle true true true false c l z false t h = and-false (c && (l && z))
shuffle true true true true c l z r t h = refl

front : (i : ℕ) (dir tree r : List ℕ) (rs : List (List ℕ))
    → ascending key_below (previous i dir tree ++ r ∷ rs) ≡ cond (eqb i 0) true (key_below (record_at (i - 1) dir tree) r) && ascending key_below (r ∷ rs)
unfolding ascending
front zero dir tree r rs = refl
front (suc k) dir tree r rs =
    let e : suc k - 1 ≡ k = omega arith in
    rw (e, ne_eqb (suc k) 0 (λ q. omega arith))

left_end : (ord : KeyOrder) (f : Figures) (at i : ℕ) (dir tree d : List ℕ) → at ≤ length tree
    → left ord f 0 at (previous i dir tree) d tree ≡ all_zero (drop at tree) && all_zero d
unfolding left all ascending
left_end ord f at zero dir tree d h = rw (le-leb at (length tree) h) (and-end (all_zero (drop at tree) && all_zero d))
left_end ord f at (suc k) dir tree d h = rw (le-leb at (length tree) h) (and-end (all_zero (drop at tree) && all_zero d))

pair_turn : (ord : KeyOrder) (f : Figures) (n at i o l : ℕ) (d dir tree : List ℕ)
    → left ord f (suc n) at (previous i dir tree) (o ∷ l ∷ d) tree
    ≡ ((eqb o at && (leb (at + l) (length tree) && is_record ord f (take l (drop o tree)))) && cond (eqb i 0) true (key_below (record_at (i - 1) dir tree) (take l (drop o tree))))
    && left ord f n (at + l) (take l (drop o tree) ∷ []) d tree
unfolding left all
pair_turn ord f n at i o l d dir tree =
    let e : 2 * suc n ≡ suc (suc (2 * n)) = omega arith in
    rw (e, front i dir tree (take l (drop o tree)) (records n d tree))
    (shuffle (eqb o at) (leb (at + l) (length tree)) (is_record ord f (take l (drop o tree)))
    (cond (eqb i 0) true (key_below (record_at (i - 1) dir tree) (take l (drop o tree))))
    (chained n (at + l) d) (leb (ending n (at + l) d) (length tree))
    (all_zero (drop (ending n (at + l) d) tree) && all_zero (drop (2 * n) d))
    (all (is_record ord f) (records n d tree)) (ascending key_below (take l (drop o tree) ∷ records n d tree))
    (λ q. le-leb (at + l) (length tree) (omega (arith, leb-true (ending n (at + l) d) (length tree) q, ending-grows n (at + l) d))))

-- The pass stands before pair i, and the record before begins in a tree that has room for it.
pub record Passing (o : KeyOrder) (f : Figures) (count : ℕ) (dir tree : List ℕ) (i at : ℕ) : Type 0 where
  pub few : 2 * count ≤ length dir
  pub within : i ≤ count
  pub reached : at ≤ length tree
  pub same : well_formed o f count dir tree ≡ left o f (count - i) at (previous i dir tree) (drop (2 * i) dir) tree
  pub last : 0 < i → InBounds (i - 1) dir tree

module _ (o : KeyOrder) (f : Figures) (count : ℕ) (dir tree : List ℕ) where
  -- A directory that is too short.
  pub pass-short : length dir < 2 * count → false ≡ well_formed o f count dir tree
  pass-short h = sym (refute (well_formed o f count dir tree) λ w. let k = (laid count dir tree (well-laid o f count dir tree w)).few in omega arith)

  pub pass-start : 2 * count ≤ length dir → Passing o f count dir tree 0 0
  unfolding well_formed laid_out left
  pass-start h =
      let e : count - 0 ≡ count = omega arith in
      record { few = h; within = omega arith; reached = omega arith; same = rw e refl; last = λ z. absurd (omega arith) }

  module _ (i at : ℕ) (p : Passing o f count dir tree i at) where
    -- Pair i and the record that it cuts out, in front of what is left after it.
    module _ (h : i < count) where
      pass-turn : well_formed o f count dir tree
          ≡ (stands_at o f dir tree i at && ascends_at dir tree i) && left o f (count - (i + 1)) (at + get_or dir (2 * i + 1) 0) (previous (i + 1) dir tree) (drop (2 * (i + 1)) dir) tree
      unfolding stands_at ascends_at
      pass-turn =
          let w = p.few in
          let e : count - i ≡ suc (count - (i + 1)) = omega arith in
          p.same
          ∙ ap (λ (n : ℕ). left o f n at (previous i dir tree) (drop (2 * i) dir) tree) e
          ∙ ap (λ (d : List ℕ). left o f (suc (count - (i + 1))) at (previous i dir tree) d tree) (drop-pair dir i (omega arith))
          ∙ pair_turn o f (count - (i + 1)) at i (get_or dir (2 * i) 0) (get_or dir (2 * i + 1) 0) (drop (2 * (i + 1)) dir) dir tree
          ∙ ap (λ (b : List (List ℕ)). (stands_at o f dir tree i at && ascends_at dir tree i) && left o f (count - (i + 1)) (at + get_or dir (2 * i + 1) 0) b (drop (2 * (i + 1)) dir) tree)
          (ap (λ (n : ℕ). previous n dir tree) (sym (add-one i)))

      -- As the test of the pair was answered.
      module _ (t : Bool) (e : t ≡ stands_at o f dir tree i at) where
        pub pass-misplaced : not t ≡ true → false ≡ well_formed o f count dir tree
        pass-misplaced n =
            sym (pass-turn ∙ ap (λ (b : Bool). (b && ascends_at dir tree i) && left o f (count - (i + 1)) (at + get_or dir (2 * i + 1) 0) (previous (i + 1) dir tree) (drop (2 * (i + 1)) dir) tree) (sym e ∙ not-true t n))

        module _ (y : not t ≡ false) where
          q : stands_at o f dir tree i at ≡ true
          q = sym e ∙ not-false t y

          stands : (eqb (get_or dir (2 * i) 0) at ≡ true) × (leb (at + get_or dir (2 * i + 1) 0) (length tree) && is_record o f (record_at i dir tree) ≡ true)
          unfolding stands_at
          stands = and-true (eqb (get_or dir (2 * i) 0) at) _ q

          pub pass-begins : get_or dir (2 * i) 0 ≡ at
          pass-begins = eqb-true (get_or dir (2 * i) 0) at stands.0

          pub pass-room : at + get_or dir (2 * i + 1) 0 ≤ length tree
          pass-room = leb-true (at + get_or dir (2 * i + 1) 0) (length tree) (and-true (leb (at + get_or dir (2 * i + 1) 0) (length tree)) (is_record o f (record_at i dir tree)) stands.1).0

          pub pass-bounds : InBounds i dir tree
          pass-bounds =
              let w = p.few in
              let b = pass-begins in
              let m = pass-room in
              let v = record-long o f (record_at i dir tree) (and-true (leb (at + get_or dir (2 * i + 1) 0) (length tree)) (is_record o f (record_at i dir tree)) stands.1).1 in
              let n = length-take-le (get_or dir (2 * i + 1) 0) (drop (get_or dir (2 * i) 0) tree) (omega (arith, length-drop (get_or dir (2 * i) 0) tree)) in
              record { pair = omega arith; least = omega arith; inside = omega arith }

          turned : (s : Bool) → ascends_at dir tree i ≡ s
              → well_formed o f count dir tree ≡ s && left o f (count - (i + 1)) (at + get_or dir (2 * i + 1) 0) (previous (i + 1) dir tree) (drop (2 * (i + 1)) dir) tree
          turned s r =
              pass-turn
              ∙ ap (λ (b : Bool). (b && ascends_at dir tree i) && left o f (count - (i + 1)) (at + get_or dir (2 * i + 1) 0) (previous (i + 1) dir tree) (drop (2 * (i + 1)) dir) tree) q
              ∙ ap (λ (b : Bool). b && left o f (count - (i + 1)) (at + get_or dir (2 * i + 1) 0) (previous (i + 1) dir tree) (drop (2 * (i + 1)) dir) tree) r

          -- As the comparison with the record before was answered.
          module _ (u : Bool) (r : u ≡ ascends_at dir tree i) where
            pub pass-unordered : not u ≡ true → false ≡ well_formed o f count dir tree
            pass-unordered n = sym (turned false (sym r ∙ not-true u n))

            pub pass_on : not u ≡ false → (l : ℕ) → l ≡ get_or dir (2 * i + 1) 0 → Passing o f count dir tree (i + 1) (at + l)
            pass_on n l g =
                let k : i ≡ i + 1 - 1 = omega arith in
                rw g
                record {
                  few = p.few;
                  within = omega arith;
                  reached = pass-room;
                  same = turned true (sym r ∙ not-false u n);
                  last = λ z. subst (λ (k : ℕ). InBounds k dir tree) k pass-bounds;
                }

    -- The end of the pass: zeros behind the last record and behind the last pair.
    module _ (h : count ≤ i) where
      pass-end : well_formed o f count dir tree ≡ all_zero (drop at tree) && all_zero (drop (2 * count) dir)
      pass-end =
          let w = p.within in
          let z : count - i ≡ 0 = omega arith in
          let e : i ≡ count = omega arith in
          p.same
          ∙ ap (λ (n : ℕ). left o f n at (previous i dir tree) (drop (2 * i) dir) tree) z
          ∙ left_end o f at i dir tree (drop (2 * i) dir) p.reached
          ∙ ap (λ (n : ℕ). all_zero (drop at tree) && all_zero (drop (2 * n) dir)) e

      module _ (t : Bool) (e : t ≡ all_zero (drop at tree)) where
        pub pass-remains : not t ≡ true → false ≡ well_formed o f count dir tree
        pass-remains n = sym (pass-end ∙ ap (λ (b : Bool). b && all_zero (drop (2 * count) dir)) (sym e ∙ not-true t n))

        pub pass-ends : not t ≡ false → all_zero (drop (2 * count) dir) ≡ well_formed o f count dir tree
        pass-ends y = sym (pass-end ∙ ap (λ (b : Bool). b && all_zero (drop (2 * count) dir)) (sym e ∙ not-false t y))

-- The comparison with the record before.
module _ (dir tree : List ℕ) (k : ℕ) where
  pub ascends-next : (a b : List ℕ) → 0 < k → a ≡ key_of (record_at (k - 1) dir tree) → b ≡ key_of (record_at k dir tree) → is_less (by_bytes a b) ≡ ascends_at dir tree k
  unfolding ascends_at below
  ascends-next a b h e f = rw (ne_eqb k 0 (λ q. omega arith), e, f)
