-- A record put in: the bytes are moved on and the record is written, and the pairs are opened one by one. Assumes nothing.
use mathlib.Core.Path.{◌≡◌, refl, sym, ap, ◌∙◌}
use mathlib.Core.List.{List, [], ◌∷◌, ◌++◌, append_assoc}
use Prim.Native.Nat.{ℕ, zero, suc, ◌+◌, ◌-◌, ◌*◌, ◌≤◌, ◌<◌}
use native.Mathlib.Omega.{arith}
use native.Mathlib.Nat.{zero-add}
use lib.ListN.{length, take, drop, get_or, set, replicate, length-append, length-drop, length-replicate, take-append-drop}
use lib.Seq.{take_all, take-take, drop-append-add, length-take-le, drop-drop, take_at, drop_at, get_or-drop, take-append-le}
use Rattle.layout.specs.Buffers.{moved, written, filled}
use Rattle.layout.specs.Layout.{records, joined, pairs, tree_bytes, dir_numbers, inserted, end_at, sizes, pairs_of, end_of, opened}
use Rattle.layout.proofs.LaidLaws.{Laid, length_pairs, laid_end, joined-append, pairs-append, joined-split, drop-pair}
use Rattle.layout.proofs.RetainLaws.{pair-front, pair-back, pair-length}

-- How much a record adds.
pub length_inserted : (at : ℕ) (r : List ℕ) (recs : List (List ℕ)) → length (inserted at r recs) ≡ suc (length recs)
length_inserted zero r recs = refl
length_inserted (suc at) r [] = refl
length_inserted (suc at) r (x ∷ xs) = ap suc (length_inserted at r xs)

pub joined-inserted : (at : ℕ) (r : List ℕ) (recs : List (List ℕ)) → length (joined (inserted at r recs)) ≡ length r + length (joined recs)
joined-inserted at r recs =
    let a : List ℕ = joined (take at recs) in
    let b : List ℕ = joined (drop at recs) in
    omega (arith, ap length (joined-append (take at recs) (r ∷ drop at recs)), length-append a (r ++ b), length-append r b, joined-split recs at)

-- The directory, opened pair by pair: what is written, and what is still to be.
pub end-least : (ls : List ℕ) (a : ℕ) → a ≤ end_of a ls
end-least [] a = omega arith
end-least (l ∷ ls) a = omega (arith, end-least ls (a + l))

pub record Opening (count at o l : ℕ) (dir₀ dir : List ℕ) (k pos len : ℕ) : Type 0 where
  pub low : at ≤ k
  pub high : k ≤ count
  pub room : 2 * (count + 1) ≤ length dir₀
  pub same : length dir ≡ length dir₀
  pub done : take (2 * k) dir ++ pairs_of pos (len ∷ sizes (count - k) (drop (2 * k) dir₀)) ≡ take (2 * at) dir₀ ++ pairs_of o (l ∷ sizes (count - at) (drop (2 * at) dir₀))
  pub left : drop (2 * k) dir ≡ drop (2 * k) dir₀
  pub ends : end_of pos (len ∷ sizes (count - k) (drop (2 * k) dir₀)) ≡ end_of o (l ∷ sizes (count - at) (drop (2 * at) dir₀))
  pub small : pos + len ≤ end_of o (l ∷ sizes (count - at) (drop (2 * at) dir₀))

pub opening-start : (count at o l : ℕ) (dir : List ℕ) → at ≤ count → 2 * (count + 1) ≤ length dir → Opening count at o l dir dir at o l
opening-start count at o l dir h k = record {
  low = omega arith;
  high = h;
  room = k;
  same = refl;
  done = refl;
  left = refl;
  ends = refl;
  small = end-least (sizes (count - at) (drop (2 * at) dir)) (o + l);
}

module _ {count at o l : ℕ} {dir₀ dir : List ℕ} {k pos len : ℕ} (v : Opening count at o l dir₀ dir k pos len)
    (dir' : List ℕ) (e : dir' ≡ set (set dir (2 * k) pos) (2 * k + 1) len) where
  within : 2 * k + 1 < length dir
  within = omega arith

  back : drop (2 * (k + 1)) dir' ≡ drop (2 * (k + 1)) dir₀
  back =
      let q : 2 * (k + 1) ≡ 2 * k + 2 = omega arith in
      pair-back dir dir' k pos len within e (k + 1) (omega arith)
      ∙ ap (λ (x : ℕ). drop x dir) q
      ∙ sym (drop-drop 2 (2 * k) dir)
      ∙ ap (λ (x : List ℕ). drop 2 x) v.left
      ∙ drop-drop 2 (2 * k) dir₀
      ∙ ap (λ (x : ℕ). drop x dir₀) (sym q)

  pub opening-turn : k < count → (n : ℕ) → n ≡ get_or dir (2 * k + 1) 0 → Opening count at o l dir₀ dir' (k + 1) (pos + len) n
  opening-turn h n en =
      let a = v.low in
      let b = v.room in
      let c : count - k ≡ suc (count - (k + 1)) = omega arith in
      let g : n ≡ get_or dir₀ (2 * k + 1) 0 = en ∙ sym (get_or-drop (2 * k) dir 1 0) ∙ ap (λ (x : List ℕ). get_or x 1 0) v.left ∙ get_or-drop (2 * k) dir₀ 1 0 in
      let s : sizes (count - k) (drop (2 * k) dir₀) ≡ n ∷ sizes (count - (k + 1)) (drop (2 * (k + 1)) dir₀) =
      ap (λ (x : ℕ). sizes x (drop (2 * k) dir₀)) c
      ∙ ap (λ (x : List ℕ). sizes (suc (count - (k + 1))) x) (drop-pair dir₀ k (omega arith))
      ∙ ap (λ (x : ℕ). x ∷ sizes (count - (k + 1)) (drop (2 * (k + 1)) dir₀)) (sym g) in
      let t : end_of (pos + len) (n ∷ sizes (count - (k + 1)) (drop (2 * (k + 1)) dir₀)) ≡ end_of o (l ∷ sizes (count - at) (drop (2 * at) dir₀)) = rw s at v.ends in
      record {
        low = omega arith;
        high = omega arith;
        room = b;
        same = pair-length dir dir' k pos len within e ∙ v.same;
        done =
            ap (λ (x : List ℕ). x ++ pairs_of (pos + len) (n ∷ sizes (count - (k + 1)) (drop (2 * (k + 1)) dir₀))) (pair-front dir dir' k pos len within e)
            ∙ append_assoc (take (2 * k) dir) (pos ∷ len ∷ []) (pairs_of (pos + len) (n ∷ sizes (count - (k + 1)) (drop (2 * (k + 1)) dir₀)))
            ∙ (rw s at v.done);
        left = back;
        ends = t;
        small = omega (arith, end-least (sizes (count - (k + 1)) (drop (2 * (k + 1)) dir₀)) (pos + len + n));
      }

  pub opening-end : k ≡ count → dir' ≡ opened count at o l dir₀
  unfolding opened
  opening-end q =
      let z : count - k ≡ 0 = omega arith in
      let f : take (2 * (k + 1)) dir' ≡ take (2 * at) dir₀ ++ pairs_of o (l ∷ sizes (count - at) (drop (2 * at) dir₀)) =
      pair-front dir dir' k pos len within e ∙ (rw z at v.done) in
      sym (take-append-drop (2 * (k + 1)) dir')
      ∙ ap (λ (x : List ℕ). x ++ drop (2 * (k + 1)) dir') f
      ∙ ap (λ (x : List ℕ). take (2 * at) dir₀ ++ pairs_of o (l ∷ sizes (count - at) (drop (2 * at) dir₀)) ++ x) back
      ∙ ap (λ (x : ℕ). take (2 * at) dir₀ ++ pairs_of o (l ∷ sizes (count - at) (drop (2 * at) dir₀)) ++ drop (2 * (x + 1)) dir₀) q

-- The lengths in the pairs of records.
sizes-pairs : (rs : List (List ℕ)) (a b : ℕ) (z : List ℕ) → pairs_of b (sizes (length rs) (pairs a rs ++ z)) ≡ pairs b rs
sizes-pairs [] a b z = refl
sizes-pairs (r ∷ rs) a b z = ap (λ (l : List ℕ). b ∷ length r ∷ l) (sizes-pairs rs (a + length r) (b + length r) z)

sizes-end : (rs : List (List ℕ)) (a b : ℕ) (z : List ℕ) → end_of b (sizes (length rs) (pairs a rs ++ z)) ≡ b + length (joined rs)
sizes-end [] a b z = omega arith
sizes-end (r ∷ rs) a b z = omega (arith, sizes-end rs (a + length r) (b + length r) z, length-append r (joined rs))

-- Zeros from a place on.
drop-replicate : (k n : ℕ) → drop k (replicate {A = ℕ} n 0) ≡ replicate (n - k) 0
drop-replicate zero n = ap (λ (m : ℕ). replicate m 0) (let e : n ≡ n - 0 = omega arith in e)
drop-replicate (suc k) zero = ap (λ (m : ℕ). replicate {A = ℕ} m 0) (let e : 0 ≡ 0 - suc k = omega arith in e)
drop-replicate (suc k) (suc n) = drop-replicate k n ∙ ap (λ (m : ℕ). replicate m 0) (let e : n - k ≡ suc n - suc k = omega arith in e)

-- A gap opened behind a, and r written into it.
gap : (a b z r t t₁ t₂ : List ℕ) → t ≡ a ++ (b ++ z) → length r ≤ length z → t₁ ≡ moved (length a) (length a + length r) (length b) t → t₂ ≡ written (length a) r t₁
    → t₂ ≡ a ++ (r ++ (b ++ drop (length r) z))
unfolding moved written
gap a b z r t t₁ t₂ e h e₁ e₂ =
    let o : ℕ = length a in
    let n : ℕ = length b in
    let m : ℕ = length r in
    let lt : length t ≡ o + (n + length z) = ap length e ∙ length-append a (b ++ z) ∙ ap (λ (x : ℕ). o + x) (length-append b z) in
    let x : List ℕ = take (o + m) t in
    let lx : length x ≡ o + m = length-take-le (o + m) t (omega arith) in
    let back : drop o t ≡ b ++ z = ap (λ (y : List ℕ). drop o y) e ∙ drop_at a (b ++ z) o refl in
    let mid : take n (drop o t) ≡ b = ap (λ (y : List ℕ). take n y) back ∙ take_at b z n refl in
    let q : o + m + n ≡ o + (n + m) = omega arith in
    let end : drop (o + m + n) t ≡ drop m z = ap (λ (y : ℕ). drop y t) q ∙ sym (drop-drop (n + m) o t) ∙ ap (λ (y : List ℕ). drop (n + m) y) back ∙ drop-append-add b z m in
    let s : t₁ ≡ x ++ (b ++ drop m z) =
    e₁ ∙ append_assoc x (take n (drop o t)) (drop (o + m + n) t) ∙ ap (λ (y : List ℕ). x ++ (y ++ drop (o + m + n) t)) mid ∙ ap (λ (y : List ℕ). x ++ (b ++ y)) end in
    let om : o ≤ o + m = omega arith in
    let ox : o ≤ length x = omega arith in
    let front : take o t₁ ≡ a =
    ap (λ (y : List ℕ). take o y) s ∙ take-append-le o x (b ++ drop m z) ox ∙ take-take o (o + m) t om ∙ ap (λ (y : List ℕ). take o y) e ∙ take_at a (b ++ z) o refl in
    let rest : drop (o + m) t₁ ≡ b ++ drop m z = ap (λ (y : List ℕ). drop (o + m) y) s ∙ drop_at x (b ++ drop m z) (o + m) lx in
    e₂
    ∙ ap (λ (y : List ℕ). y ++ r ++ drop (o + m) t₁) front
    ∙ ap (λ (y : List ℕ). a ++ r ++ y) rest
    ∙ append_assoc a r (b ++ drop m z)

-- The numbers that the code computes with.
pub record Spans (count at : ℕ) (dir tree : List ℕ) (o e : ℕ) : Type 0 where
  pub start : o ≡ length (joined (take at (records count dir tree)))
  pub split : e ≡ o + length (joined (drop at (records count dir tree)))
  pub whole : e ≡ length (joined (records count dir tree))
  pub inside : e ≤ length tree

pub spans : {count : ℕ} {dir tree : List ℕ} → Laid count dir tree → (at : ℕ) → at ≤ count → (o e : ℕ) → o ≡ end_at at dir → e ≡ end_at count dir → Spans count at dir tree o e
spans {count} {dir} {tree} v at h o e eo ee =
    let m = v.many in
    let w = v.room in
    let recs : List (List ℕ) = records count dir tree in
    let a : o ≡ length (joined (take at recs)) = eo ∙ laid_end v at h in
    let b : e ≡ length (joined recs) = ee ∙ laid_end v count (omega arith) ∙ ap (λ (x : List (List ℕ)). length (joined x)) (take_all count recs (omega arith)) in
    record { start = a; split = omega (arith, joined-split recs at); whole = b; inside = omega arith }

module _ {count at : ℕ} {dir tree : List ℕ} {o e : ℕ} (v : Laid count dir tree) (x : Spans count at dir tree o e) (r : List ℕ) where
  pub insert-tree : (t₁ t₂ : List ℕ) → e + length r ≤ length tree → t₁ ≡ moved o (o + length r) (e - o) tree → t₂ ≡ written o r t₁
      → t₂ ≡ tree_bytes (length tree) (inserted at r (records count dir tree))
  unfolding tree_bytes filled
  insert-tree t₁ t₂ w e₁ e₂ =
      let recs : List (List ℕ) = records count dir tree in
      let a : List ℕ = joined (take at recs) in
      let b : List ℕ = joined (drop at recs) in
      let oa = x.start in
      let sp = x.split in
      let wh = x.whole in
      let eb : e - o ≡ length b = omega arith in
      let n : ℕ = length tree - length (joined recs) in
      let z : List ℕ = replicate n 0 in
      let t : tree ≡ a ++ (b ++ z) =
      v.bytes ∙ ap (λ (y : List ℕ). y ++ z) (ap (λ (y : List (List ℕ)). joined y) (sym (take-append-drop at recs)) ∙ joined-append (take at recs) (drop at recs)) ∙ append_assoc a b z in
      let lz : length r ≤ length z = omega (arith, length-replicate {A = ℕ} n 0) in
      let j : joined (inserted at r recs) ≡ a ++ (r ++ b) = joined-append (take at recs) (r ∷ drop at recs) in
      let lj : n - length r ≡ length tree - length (joined (inserted at r recs)) = omega (arith, joined-inserted at r recs) in
      gap a b z r tree t₁ t₂ t lz (rw (eb, oa) at e₁) (rw oa at e₂) ∙ rw (drop-replicate, lj, j) (simp append_assoc)

  -- The pairs before and behind the place.
  module _ (h : at ≤ count) where
    pairs-cut : dir ≡ pairs 0 (take at (records count dir tree))
        ++ (pairs (0 + length (joined (take at (records count dir tree)))) (drop at (records count dir tree)) ++ replicate (length dir - length (pairs 0 (records count dir tree))) 0)
    unfolding dir_numbers filled
    pairs-cut =
        let rs : List (List ℕ) = records count dir tree in
        let p₁ : List ℕ = pairs 0 (take at rs) in
        let p₂ : List ℕ = pairs (0 + length (joined (take at rs))) (drop at rs) in
        let z : List ℕ = replicate (length dir - length (pairs 0 rs)) 0 in
        let p : pairs 0 rs ≡ p₁ ++ p₂ = ap (λ (y : List (List ℕ)). pairs 0 y) (sym (take-append-drop at rs)) ∙ pairs-append (take at rs) (drop at rs) 0 in
        v.numbers ∙ ap (λ (y : List ℕ). y ++ z) p ∙ append_assoc p₁ p₂ z

    front_length : length (pairs 0 (take at (records count dir tree))) ≡ 2 * at
    front_length =
        let m = v.many in
        length_pairs (take at (records count dir tree)) 0 ∙ ap (λ (y : ℕ). 2 * y) (length-take-le at (records count dir tree) (omega arith))

    pairs-front : take (2 * at) dir ≡ pairs 0 (take at (records count dir tree))
    pairs-front = ap (take (2 * at)) pairs-cut ∙ take_at (pairs 0 (take at (records count dir tree))) _ (2 * at) front_length

    pairs-behind : drop (2 * at) dir
        ≡ pairs (0 + length (joined (take at (records count dir tree)))) (drop at (records count dir tree)) ++ replicate (length dir - length (pairs 0 (records count dir tree))) 0
    pairs-behind = ap (drop (2 * at)) pairs-cut ∙ drop_at (pairs 0 (take at (records count dir tree))) _ (2 * at) front_length

    count-behind : count - at ≡ length (drop at (records count dir tree))
    count-behind = let m = v.many in omega (arith, length-drop at (records count dir tree))

    -- Where the opened pairs end.
    pub insert-end : end_of o (length r ∷ sizes (count - at) (drop (2 * at) dir)) ≡ e + length r
    insert-end =
        let rs : List (List ℕ) = records count dir tree in
        let s = x.split in
        let t = sizes-end (drop at rs) (0 + length (joined (take at rs))) (o + length r) (replicate (length dir - length (pairs 0 rs)) 0) in
        rw (pairs-behind, count-behind) (omega arith)

    pub insert-dir : (d : List ℕ) → 2 * (count + 1) ≤ length dir → d ≡ opened count at o (length r) dir → d ≡ dir_numbers (length dir) (inserted at r (records count dir tree))
    unfolding opened dir_numbers filled
    insert-dir d w q =
        let rs : List (List ℕ) = records count dir tree in
        let m = v.many in
        let p₁ : List ℕ = pairs 0 (take at rs) in
        let dz : List ℕ = replicate (length dir - length (pairs 0 rs)) 0 in
        let oa : o ≡ 0 + length (joined (take at rs)) = x.start ∙ sym (zero-add (length (joined (take at rs)))) in
        let sz : pairs_of (o + length r) (sizes (count - at) (drop (2 * at) dir)) ≡ pairs (o + length r) (drop at rs) =
        rw (pairs-behind, count-behind) (sizes-pairs (drop at rs) (0 + length (joined (take at rs))) (o + length r) dz) in
        let ins : List ℕ = pairs 0 (inserted at r rs) in
        let li : length ins ≡ 2 * (count + 1) = omega (arith, length_pairs (inserted at r rs) 0, length_inserted at r rs) in
        let l₀ : length (pairs 0 rs) ≡ 2 * count = length_pairs rs 0 ∙ ap (λ (y : ℕ). 2 * y) m in
        let two : 2 * (count + 1) ≡ 2 * count + 2 = omega arith in
        let n₂ : length dir - length (pairs 0 rs) - 2 ≡ length dir - length ins = omega arith in
        let en : drop (2 * (count + 1)) dir ≡ replicate (length dir - length ins) 0 =
        ap (λ (y : ℕ). drop y dir) two
        ∙ sym (drop-drop 2 (2 * count) dir)
        ∙ ap (λ (y : List ℕ). drop 2 (drop (2 * count) y)) v.numbers
        ∙ ap (λ (y : List ℕ). drop 2 y) (drop_at (pairs 0 rs) dz (2 * count) l₀)
        ∙ drop-replicate 2 (length dir - length (pairs 0 rs))
        ∙ ap (λ (y : ℕ). replicate y 0) n₂ in
        let j : ins ≡ p₁ ++ (o ∷ length r ∷ pairs (o + length r) (drop at rs)) =
        pairs-append (take at rs) (r ∷ drop at rs) 0 ∙ ap (λ (y : ℕ). p₁ ++ pairs y (r ∷ drop at rs)) (sym oa) in
        q
        ∙ ap (λ (y : List ℕ). y ++ pairs_of o (length r ∷ sizes (count - at) (drop (2 * at) dir)) ++ drop (2 * (count + 1)) dir) pairs-front
        ∙ ap (λ (y : List ℕ). p₁ ++ (o ∷ length r ∷ y) ++ drop (2 * (count + 1)) dir) sz
        ∙ ap (λ (y : List ℕ). p₁ ++ (o ∷ length r ∷ pairs (o + length r) (drop at rs)) ++ y) en
        ∙ ap (λ (y : List ℕ). y ++ replicate (length dir - length ins) 0) (sym j)
