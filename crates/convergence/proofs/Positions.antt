-- Two sound stores that are the same but for the last bytes of each record, within its value, differ inside these alone, index by index. Assumes nothing.
use Prim.Native.Nat.{ℕ, zero, suc, ◌+◌, ◌-◌, ◌≤◌, ◌<◌}
use mathlib.Core.Path.{◌≡◌, refl, sym, ap, ap₂, ◌∙◌}
use mathlib.Core.Logic.{◌⊎◌, inl, inr, ⊎_elim}
use mathlib.Core.List.Memᴰ.{head as here}
use mathlib.Core.List.Memᴰ.{tail as there}
use mathlib.Core.List.{List, [], ◌∷◌, ◌++◌, map, append_assoc}
use native.Mathlib.Omega.{arith}
use lib.ListN.{length, take, drop, get_or, replicate, length-append, get_or-append}
use lib.Seq.{get_or-take, length-take-le, take-append_seam, drop-append_seam}
use lib.Dec.{ltb}
use borrow.Author.Tests.{ltb-true, ltb-false}
use Rattle.laws.specs.Sorted.{◌∈◌}
use Rattle.laws.proofs.Truth.{split}
use Rattle.layout.specs.Buffers.{filled}
use Rattle.layout.specs.Layout.{records, joined, pairs, tree_bytes, dir_numbers, end_at}
use Rattle.layout.proofs.BufferLaws.{get_or-past}
use Rattle.layout.proofs.LaidLaws.{end_is}
use Rattle.data_model.specs.Path.{Figures}
use Rattle.tree.specs.Value.{value_length}
use Rattle.tree.proofs.FormedLaws.{record-long}
use Rattle.store.specs.Store.{tree_of, dir_of, Tallied}
use Rattle.call_laws.specs.Outcomes.{Sound}
use Rattle.convergence.specs.Demand.{blank, but, Same}
use Rattle.convergence.specs.Differ.{DifferInside}

-- Two lists that begin with lists of one length.
same-front : (a b c d : List ℕ) → length a ≡ length b → a ++ c ≡ b ++ d → (a ≡ b) × (c ≡ d)
same-front a b c d l e = (sym (take-append_seam a c) ∙ ap₂ take l e ∙ take-append_seam b d, sym (drop-append_seam a c) ∙ ap₂ drop l e ∙ drop-append_seam b d)

no_lengths : {A : Type 0} {m : ℕ} {l : List ℕ} → [] ≡ m ∷ l → A
no_lengths e = absurd (let z : ◌≡◌ {A = ℕ} 0 (suc _) = ap length e in omega arith)

-- Records of the same lengths, told apart again; and the lengths, by their pairs.
unjoined : (R Q : List (List ℕ)) (y z : List ℕ) → map length R ≡ map length Q → joined R ++ y ≡ joined Q ++ z → R ≡ Q
unjoined [] [] y z l e = refl
unjoined [] (q ∷ Q) y z l e = no_lengths l
unjoined (r ∷ R) [] y z l e = no_lengths (sym l)
unjoined (r ∷ R) (q ∷ Q) y z l e =
    let k = same-front r q (joined R ++ y) (joined Q ++ z) (ap (λ (m : List ℕ). get_or m 0 0) l) (sym (append_assoc r (joined R) y) ∙ e ∙ append_assoc q (joined Q) z) in
    ap₂ ◌∷◌ k.0 (unjoined R Q y z (ap (drop 1) l) k.1)

pair-lengths : (R Q : List (List ℕ)) (a : ℕ) (y z : List ℕ) → length R ≡ length Q → pairs a R ++ y ≡ pairs a Q ++ z → map length R ≡ map length Q
pair-lengths [] [] a y z l e = refl
pair-lengths [] (q ∷ Q) a y z l e = absurd (omega (arith, l))
pair-lengths (r ∷ R) [] a y z l e = absurd (omega (arith, l))
pair-lengths (r ∷ R) (q ∷ Q) a y z l e =
    let h : length r ≡ length q = ap (λ (m : List ℕ). get_or m 1 0) e in
    let t : pairs (a + length r) R ++ y ≡ pairs (a + length r) Q ++ z = ap (drop 2) e ∙ ap (λ (n : ℕ). pairs (a + n) Q ++ z) (sym h) in
    ap₂ ◌∷◌ h (pair-lengths R Q (a + length r) y z (omega (arith, l)) t)

no_byte : (m i : ℕ) → get_or (replicate {A = ℕ} m 0) i 0 ≡ 0
no_byte zero i = refl
no_byte (suc m) zero = refl
no_byte (suc m) (suc i) = no_byte m i

module _ (n : ℕ) where
  blank-length : (r : List ℕ) → n ≤ length r → length (blank n r) ≡ length r
  blank-length r h = length-append (take (length r - n) r) (replicate n 0) ∙ omega (arith, length-take-le (length r - n) r (omega arith), length-zeros n)
    where
      length-zeros : (m : ℕ) → length (replicate {A = ℕ} m 0) ≡ m
      length-zeros zero = refl
      length-zeros (suc m) = ap suc (length-zeros m)

  blank-lengths : (R : List (List ℕ)) → ((r : List ℕ) → r ∈ R → n ≤ length r) → map length (map (blank n) R) ≡ map length R
  blank-lengths [] h = refl
  blank-lengths (r ∷ R) h = ap₂ ◌∷◌ (blank-length r (h r (here refl))) (blank-lengths R λ q m. h q (there m))

  -- An index lies in the last n bytes of a record.
  abbrev Inside : List (List ℕ) → ℕ → Type 0
  Inside R i = (j : ℕ) × (j < length R) × (length (joined (take (suc j) R)) ≤ i + n) × (i < length (joined (take (suc j) R)))

  same-or-inside : (R Q : List (List ℕ)) (a b i : ℕ) → map length R ≡ map length Q → map (blank n) R ≡ map (blank n) Q
      → (get_or (joined R ++ replicate a 0) i 0 ≡ get_or (joined Q ++ replicate b 0) i 0) ⊎ Inside R i
  same-or-inside [] [] a b i l e = inl (no_byte a i ∙ sym (no_byte b i))
  same-or-inside [] (q ∷ Q) a b i l e = no_lengths l
  same-or-inside (r ∷ R) [] a b i l e = no_lengths (sym l)
  same-or-inside (r ∷ R) (q ∷ Q) a b i l e =
      let h : length r ≡ length q = ap (λ (m : List ℕ). get_or m 0 0) l in
      let f : blank n r ≡ blank n q = ap (λ (m : List (List ℕ)). get_or m 0 []) e in
      let left : (s : List ℕ) (S : List (List ℕ)) (c : ℕ) → i < length s → get_or (joined (s ∷ S) ++ replicate c 0) i 0 ≡ get_or s i 0 = λ s S c w.
      ap (λ (m : List ℕ). get_or m i 0) (append_assoc s (joined S) (replicate c 0)) ∙ get_or-append s (joined S ++ replicate c 0) 0 i w in
      let right : (s : List ℕ) (S : List (List ℕ)) (c : ℕ) → length s ≤ i → get_or (joined (s ∷ S) ++ replicate c 0) i 0 ≡ get_or (joined S ++ replicate c 0) (i - length s) 0 = λ s S c w.
      ap (λ (m : List ℕ). get_or m i 0) (append_assoc s (joined S) (replicate c 0)) ∙ get_or-past s (joined S ++ replicate c 0) (length s) i 0 refl w in
      split (ltb i (length r))
      (λ x.
      let w = ltb-true i (length r) x in
      split (ltb i (length r - n))
      (λ y.
      let v = ltb-true i (length r - n) y in
      let m : length (take (length r - n) r) ≡ length (take (length q - n) q) = length-take-le (length r - n) r (omega arith) ∙ ap (◌- n) h ∙ sym (length-take-le (length q - n) q (omega arith)) in
      let g = (same-front (take (length r - n) r) (take (length q - n) q) (replicate n 0) (replicate n 0) m f).0 in
      inl (left r R a w ∙ sym (get_or-take (length r - n) r i 0 v) ∙ ap (λ (m : List ℕ). get_or m i 0) g ∙ get_or-take (length q - n) q i 0 (omega (arith, h)) ∙ sym (left q Q b (omega (arith, h)))))
      (λ y.
      let v = ltb-false i (length r - n) y in
      inr (0, omega arith, omega (arith, length-append r [], v), omega (arith, length-append r [], w))))
      (λ x.
      let w = ltb-false i (length r) x in
      ⊎_elim
      (λ k. inl (right r R a w ∙ k ∙ ap (λ (m : ℕ). get_or (joined Q ++ replicate b 0) (i - m) 0) h ∙ sym (right q Q b (omega (arith, h)))))
      (λ k.
      let c = k.2 in
      let d = k.3 in
      inr (suc k.0, omega (arith, k.1), omega (arith, length-append r (joined (take (suc k.0) R)), c), omega (arith, length-append r (joined (take (suc k.0) R)), d)))
      (same-or-inside R Q a b (i - length r) (ap (drop 1) l) (ap (drop 1) e)))

pub differ-inside : (n : ℕ) → n ≤ value_length → (f : Figures) (w v : Tallied) → Sound f w → Sound f v → Same (but (blank n)) f w v → DifferInside f n w v
unfolding but tree_bytes dir_numbers filled
differ-inside n few f w v x y same k i =
    let s = w.store in
    let t = v.store in
    let a = x.well-formed.each k in
    let b = y.well-formed.each k in
    let R = records s.state.count (dir_of k s) (tree_of f k s) in
    let Q = records t.state.count (dir_of k t) (tree_of f k t) in
    let zr = length (dir_of k s) - length (pairs 0 R) in
    let zq = length (dir_of k t) - length (pairs 0 Q) in
    let many : length R ≡ length Q = a.many ∙ same.count ∙ sym b.many in
    let l : map length R ≡ map length Q = pair-lengths R Q 0 (replicate zr 0) (replicate zq 0) many (sym a.numbers ∙ same.directories k ∙ b.numbers) in
    let long : (r : List ℕ) → r ∈ R → n ≤ length r = λ r m. let o = record-long k f r (a.each r m) in omega (arith, o) in
    let long' : (r : List ℕ) → r ∈ Q → n ≤ length r = λ r m. let o = record-long k f r (b.each r m) in omega (arith, o) in
    let lb : map length (map (blank n) R) ≡ map length (map (blank n) Q) = blank-lengths n R long ∙ l ∙ sym (blank-lengths n Q long') in
    let e : map (blank n) R ≡ map (blank n) Q = unjoined _ _ _ _ lb (same.trees k) in
    ⊎_elim
    (λ h. inl (ap (λ (m : List ℕ). get_or m i 0) a.bytes ∙ h ∙ ap (λ (m : List ℕ). get_or m i 0) (sym b.bytes)))
    (λ h.
    let q : end_at (suc h.0) (dir_of k s) ≡ length (joined (take (suc h.0) R)) = end_is R (dir_of k s) (replicate zr 0) (suc h.0) a.numbers (omega (arith, h.1)) in
    inr (record { number = h.0; among = omega (arith, h.1, a.many); begins = omega (arith, q, h.2); ends = omega (arith, q, h.3) }))
    (same-or-inside n R Q (length (tree_of f k s) - length (joined R)) (length (tree_of f k t) - length (joined Q)) i l e)
