-- Bytes of one record written over, in a tree of records: the tree is that of the records with this one changed, and its directory stays. Assumes nothing.
use Prim.Native.Nat.{ℕ, suc, ◌+◌, ◌-◌, ◌≤◌, ◌<◌}
use mathlib.Core.Path.{◌≡◌, sym, ap, ap₂, ◌∙◌}
use mathlib.Core.List.{List, [], ◌∷◌, ◌++◌, append_assoc}
use native.Mathlib.Omega.{arith}
use native.Mathlib.Numerals.{add-one}
use lib.ListN.{length, take, drop, set, replicate, length-append, length-drop, take-append-drop}
use lib.Seq.{take-suc, take-append-le, drop-append-le, take-append-add, drop-append-add, length-take-le, set_split}
use Rattle.layout.specs.Buffers.{filled, written}
use Rattle.layout.specs.Layout.{records, record_at, offset_at, joined, tree_bytes, end_at}
use Rattle.layout.proofs.LaidLaws.{Laid, records-get, records-at, joined-append, laid_end, laid-length}

-- Written over in the second of three parts.
over : (a r y s : List ℕ) (i : ℕ) → i + length s ≤ length r → written (length a + i) s (a ++ (r ++ y)) ≡ a ++ (written i s r ++ y)
unfolding written
over a r y s i h =
    let e : length a + i + length s ≡ length a + (i + length s) = omega arith in
    let front : take (length a + i) (a ++ (r ++ y)) ≡ a ++ take i r = take-append-add a (r ++ y) i ∙ ap (a ++◌) (take-append-le i r y (omega arith)) in
    let back : drop (length a + i + length s) (a ++ (r ++ y)) ≡ drop (i + length s) r ++ y
    = ap (λ (m : ℕ). drop m (a ++ (r ++ y))) e ∙ drop-append-add a (r ++ y) (i + length s) ∙ drop-append-le (i + length s) r y h in
    ap₂ (λ (p q : List ℕ). p ++ s ++ q) front back ∙ simp append_assoc

-- What is written over stays as long.
pub length_over : (r s : List ℕ) (i : ℕ) → i + length s ≤ length r → length (written i s r) ≡ length r
unfolding written
length_over r s i h = simp (length-append, length-drop, length-take-le i r (omega arith)) (omega arith)

module _ {n : ℕ} {dir tree : List ℕ} (v : Laid n dir tree) (k : ℕ) (h : k < n) where
  abbrev recs : List (List ℕ)
  recs = records n dir tree

  begins : offset_at k dir ≡ length (joined (take k recs))
  begins =
      let r = record_at k dir tree in
      let e : end_at (suc k) dir ≡ length (joined (take (suc k) recs)) = laid_end v (suc k) h in
      let t : take (suc k) recs ≡ take k recs ++ (r ∷ []) = take-suc recs k [] (omega (arith, v.many)) ∙ ap (λ (x : List ℕ). take k recs ++ (x ∷ [])) (records-get n k dir tree v.few h) in
      let j : length (joined (take (suc k) recs)) ≡ length (joined (take k recs)) + length (r ++ [])
      = ap (λ (l : List (List ℕ)). length (joined l)) t ∙ ap length (joined-append (take k recs) (r ∷ [])) ∙ length-append (joined (take k recs)) (r ++ []) in
      omega (arith, length-append r [], laid-length v k h)

  pub overwritten : (i : ℕ) (s : List ℕ) → i + length s ≤ length (record_at k dir tree)
      → written (offset_at k dir + i) s tree ≡ tree_bytes (length tree) (set recs k (written i s (record_at k dir tree)))
  unfolding tree_bytes filled
  overwritten i s w =
      let r = record_at k dir tree in
      let r' = written i s r in
      let A = joined (take k recs) in
      let B = joined (drop (suc k) recs) in
      let z : List ℕ = replicate (length tree - length (joined recs)) 0 in
      let cut : recs ≡ take k recs ++ (r ∷ drop (suc k) recs) = sym (take-append-drop k recs) ∙ ap (take k recs ++◌) (records-at n k dir tree v.few h ∙ ap (λ (m : ℕ). r ∷ drop m recs) (add-one k)) in
      let j : joined recs ≡ A ++ (r ++ B) = ap joined cut ∙ joined-append (take k recs) (r ∷ drop (suc k) recs) in
      let j' : joined (set recs k r') ≡ A ++ (r' ++ B) = ap joined (set_split recs k r' (omega (arith, v.many))) ∙ joined-append (take k recs) (r' ∷ drop (suc k) recs) in
      let t : tree ≡ A ++ (r ++ (B ++ z)) = v.bytes ∙ ap (◌++ z) j ∙ append_assoc A (r ++ B) z ∙ ap (A ++◌) (append_assoc r B z) in
      let t' : (A ++ (r' ++ B)) ++ z ≡ A ++ (r' ++ (B ++ z)) = append_assoc A (r' ++ B) z ∙ ap (A ++◌) (append_assoc r' B z) in
      let l : length tree - length (joined recs) ≡ length tree - length (joined (set recs k r'))
      = ap (length tree -◌) (ap length j ∙ length-append A (r ++ B) ∙ ap (length A +◌) (length-append r B ∙ ap (◌+ length B) (sym (length_over r s i w)) ∙ sym (length-append r' B)) ∙ sym (length-append A (r' ++ B)) ∙ ap length (sym j')) in
      ap₂ (λ (m : ℕ) (x : List ℕ). written m s x) (ap (◌+ i) begins) t
      ∙ over A r (B ++ z) s i w
      ∙ sym t'
      ∙ ap (◌++ z) (sym j')
      ∙ ap (λ (m : ℕ). joined (set recs k r') ++ replicate m 0) l
