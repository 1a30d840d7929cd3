-- Where an area of interest starts: which sums break a limit, and the walk over the matches from the last.
-- Assumes nothing.
use Prim.Native.Nat.{ℕ, zero, suc, ◌+◌, ◌-◌, ◌≤◌, ◌<◌}
use mathlib.Core.Path.{◌≡◌, refl, sym, ap, ap₂, ◌∙◌}
use mathlib.Core.List.{List, [], ◌∷◌, ◌++◌, reverse, reverse-append}
use mathlib.Core.Bool.{Bool, true, false, cond, ◌||◌}
use native.Mathlib.Omega.{arith}
use lib.Dec.{ltb, eqb}
use lib.ListN.{length, take, drop, get_or}
use lib.Seq.{take_all}
use borrow.Author.Tests.{eq-eqb, ne_eqb, lt-ltb, ltb-true, ltb-false}
use Rattle.laws.specs.Prefix.{same_number}
use Rattle.laws.proofs.Truth.{clash, alike}
use Rattle.layout.specs.Layout.{records, record_at}
use Rattle.layout.specs.Marks.{selected}
use Rattle.data_model.specs.Path.{field}
use Rattle.tree.specs.Stored.{Stored, stored, contents}
use Rattle.tree.specs.Tree.{Formed}
use Rattle.tree.specs.Interest.{no_limit, breaks, add_size, interest_from}
use Rattle.tree.specs.declared.stored.KeyOrder.{KeyOrder}
use Rattle.tree.proofs.FormedContents.{formed-many, formed-next}

or-last : (a b : Bool) → (a || b) ≡ false → b ≡ false
or-last true b e = clash refl e
or-last false b e = e

module _ {A : Type 0} where
  empty-not : (x : A) (rest : List A) → [] ≡ x ∷ rest → ⊥
  empty-not x rest e = let z : ◌≡◌ {A = ℕ} 0 1 = cc in omega arith

  heads : (a : A) (l : List A) (x : A) (rest : List A) → a ∷ l ≡ x ∷ rest → a ≡ x
  heads a l x rest e = cc

  move : (b : Bool) (a : A) (s t : List A) → cond b (a ∷ (s ++ t)) (s ++ t) ≡ cond b (a ∷ s) s ++ t
  move true a s t = refl
  move false a s t = refl

pub breaks-none : (limit n : ℕ) → limit ≡ no_limit → false ≡ breaks limit n
unfolding breaks same_number
breaks-none limit n e = rw (eq-eqb limit no_limit e)

-- With a limit, so much breaks it that is greater.
breaks-limit : (limit n : ℕ) → (limit ≡ no_limit → ⊥) → breaks limit n ≡ ltb limit n
unfolding breaks same_number
breaks-limit limit n h = rw (ne_eqb limit no_limit h)

pub breaks-more : (limit n more : ℕ) → (limit ≡ no_limit → ⊥) → limit < more → true ≡ breaks limit (n + more)
breaks-more limit n more h k = sym (breaks-limit limit (n + more) h ∙ lt-ltb limit (n + more) (omega arith))

pub breaks-rest : (limit n more : ℕ) → (limit ≡ no_limit → ⊥) → more ≤ limit → ltb (limit - more) n ≡ breaks limit (n + more)
breaks-rest limit n more h k =
    alike (ltb (limit - more) n) (ltb limit (n + more))
    (λ e. lt-ltb limit (n + more) (omega (arith, ltb-true (limit - more) n e)))
    (λ e. lt-ltb (limit - more) n (omega (arith, ltb-true limit (n + more) e)))
    ∙ sym (breaks-limit limit (n + more) h)

-- The sizes so far.
module _ (max_size size length : ℕ) where
  pub adds_none : max_size ≡ no_limit → 0 ≡ add_size max_size size length
  unfolding add_size same_number
  adds_none e = rw (eq-eqb max_size no_limit e)

  module _ (h : max_size ≡ no_limit → ⊥) where
    pub adds-size : size + length ≡ add_size max_size size length
    unfolding add_size same_number
    adds-size = rw (ne_eqb max_size no_limit h)

    pub fits-size : breaks max_size (size + length) ≡ false → size + length ≤ max_size
    fits-size f = ltb-false max_size (size + length) (sym (breaks-limit max_size (size + length) h) ∙ f)

-- The last of the first j + 1 elements is met first, if it is marked.
module _ {A : Type 0} where
  selected-last : (marks : List ℕ) (l : List A) (j : ℕ) (x : A) (rest : List A) → j < length marks → drop j l ≡ x ∷ rest
      → selected (take (suc j) marks) (take (suc j) l) ≡ selected (take j marks) (take j l) ++ cond (eqb (get_or marks j 0) 1) (x ∷ []) []
  selected-last [] l j x rest h e = absurd (omega arith)
  selected-last (m ∷ ms) [] zero x rest h e = absurd (empty-not x rest e)
  selected-last (m ∷ ms) [] (suc j) x rest h e = absurd (empty-not x rest e)
  selected-last (m ∷ ms) (a ∷ l) zero x rest h e = ap (λ (b : A). cond (eqb m 1) (b ∷ []) []) (heads a l x rest e)
  selected-last (m ∷ ms) (a ∷ l) (suc j) x rest h e =
      ap (λ (s : List A). cond (eqb m 1) (a ∷ s) s) (selected-last ms l j x rest (omega arith) e)
      ∙ move (eqb m 1) a (selected (take j ms) (take j l)) (cond (eqb (get_or ms j 0) 1) (x ∷ []) [])

  walk-last : (marks : List ℕ) (l : List A) (j : ℕ) (x : A) (rest : List A) → j < length marks → drop j l ≡ x ∷ rest
      → reverse (selected (take (suc j) marks) (take (suc j) l))
      ≡ cond (eqb (get_or marks j 0) 1) (x ∷ reverse (selected (take j marks) (take j l))) (reverse (selected (take j marks) (take j l)))
  walk-last marks l j x rest h e =
      ap reverse (selected-last marks l j x rest h e)
      ∙ reverse-append (selected (take j marks) (take j l)) (cond (eqb (get_or marks j 0) 1) (x ∷ []) [])
      ∙ go (eqb (get_or marks j 0) 1)
    where
      go : (b : Bool) → reverse (cond b (x ∷ []) []) ++ reverse (selected (take j marks) (take j l))
          ≡ cond b (x ∷ reverse (selected (take j marks) (take j l))) (reverse (selected (take j marks) (take j l)))
      go true = refl
      go false = refl

-- The walk over the marked records of a tree, of which k are left.
module _ {o : KeyOrder} {count : ℕ} {dir tree : List ℕ} (v : Formed o count dir tree) (ns marks : List ℕ) (many : length marks ≡ count) where
  abbrev rest_of : ℕ → List Stored
  rest_of k = reverse (selected (take k marks) (take k (contents o field ns (records count dir tree))))

  pub interest-starts : (max_count max_size time : ℕ)
      → interest_from max_count max_size 0 0 time (reverse (selected marks (contents o field ns (records count dir tree)))) ≡ interest_from max_count max_size 0 0 time (rest_of count)
  interest-starts max_count max_size time =
      sym (ap₂ (λ (m : List ℕ) (r : List Stored). interest_from max_count max_size 0 0 time (reverse (selected m r)))
      (take_all count marks (omega arith))
      (take_all count (contents o field ns (records count dir tree)) (omega (arith, formed-many v ns))))

  module _ (k : ℕ) (max_count max_size n size time whole : ℕ) (w : whole ≡ interest_from max_count max_size n size time (rest_of k)) where
    pub interest-ends : k ≤ 0 → time ≡ whole
    unfolding interest_from
    interest-ends h = let z : k ≡ 0 = omega arith in sym (w ∙ ap (λ (i : ℕ). interest_from max_count max_size n size time (rest_of i)) z)

    module _ (pos : 0 < k) (few : k ≤ count) where
      next-met : rest_of k ≡ cond (eqb (get_or marks (k - 1) 0) 1) (stored o field ns (record_at (k - 1) dir tree) ∷ rest_of (k - 1)) (rest_of (k - 1))
      next-met =
          let s : k ≡ suc (k - 1) = omega arith in
          ap rest_of s
          ∙ walk-last marks (contents o field ns (records count dir tree)) (k - 1) (stored o field ns (record_at (k - 1) dir tree)) _ (omega arith) (formed-next v ns (k - 1) (omega arith))

      pub interest-skips : (get_or marks (k - 1) 0 ≡ 1 → ⊥) → whole ≡ interest_from max_count max_size n size time (rest_of (k - 1))
      interest-skips h =
          w
          ∙ ap (interest_from max_count max_size n size time) (next-met
          ∙ ap (λ (b : Bool). cond b (stored o field ns (record_at (k - 1) dir tree) ∷ rest_of (k - 1)) (rest_of (k - 1))) (ne_eqb (get_or marks (k - 1) 0) 1 h))

      module _ (h : get_or marks (k - 1) 0 ≡ 1)
          (at : ℕ) (q : at ≡ (stored o field ns (record_at (k - 1) dir tree)).entry.rank.timestamp)
          (more : ℕ) (l : more ≡ (stored o field ns (record_at (k - 1) dir tree)).entry.rank.payload_length)
          (r : Bool) (b : r ≡ (breaks max_count (n + 1) || breaks max_size (size + more))) where
        interest-met : whole ≡ cond r at (interest_from max_count max_size (n + 1) (add_size max_size size more) at (rest_of (k - 1)))
        unfolding interest_from
        interest-met =
            w
            ∙ ap (interest_from max_count max_size n size time) (next-met
            ∙ ap (λ (b : Bool). cond b (stored o field ns (record_at (k - 1) dir tree) ∷ rest_of (k - 1)) (rest_of (k - 1))) (eq-eqb (get_or marks (k - 1) 0) 1 h))
            ∙ ap₂ (λ (t m : ℕ). cond (breaks max_count (n + 1) || breaks max_size (size + m)) t (interest_from max_count max_size (n + 1) (add_size max_size size m) t (rest_of (k - 1)))) (sym q) (sym l)
            ∙ ap (λ (c : Bool). cond c at (interest_from max_count max_size (n + 1) (add_size max_size size more) at (rest_of (k - 1)))) (sym b)

        pub interest-stops : r ≡ true → at ≡ whole
        interest-stops t = sym (interest-met ∙ rw t)

        pub interest-fits : r ≡ false → breaks max_size (size + more) ≡ false
        interest-fits f = or-last (breaks max_count (n + 1)) (breaks max_size (size + more)) (sym b ∙ f)

        pub interest-goes : r ≡ false → (sum : ℕ) → sum ≡ add_size max_size size more → whole ≡ interest_from max_count max_size (n + 1) sum at (rest_of (k - 1))
        interest-goes f sum m = interest-met ∙ rw (f, m)
