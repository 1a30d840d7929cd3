-- From the test of a layout to the equations that it stands for, and back; a tree of records that were laid out holds these records.
-- Assumes nothing.
use mathlib.Core.Path.{◌≡◌, refl, sym, ap, ◌∙◌}
use mathlib.Core.List.Memᴰ.{head as here}
use mathlib.Core.List.Memᴰ.{tail as there}
use mathlib.Core.List.{List, [], ◌∷◌, ◌++◌, append_assoc, append-nil}
use mathlib.Core.Bool.{true}
use Prim.Native.Nat.{ℕ, zero, suc, ◌+◌, ◌-◌, ◌*◌, ◌≤◌, ◌<◌}
use native.Mathlib.Omega.{arith}
use native.Mathlib.Nat.{add-zero, zero-add}
use lib.Dec.{leb, eqb}
use lib.ListN.{length, take, drop, get_or, replicate, length-append, length-drop, length-replicate, take-append-drop}
use lib.Seq.{length-take-le, drop-drop, take_at, drop_at, drop-cons, get_or-drop}
use borrow.Author.Tests.{eqb-true, leb-true, eq-eqb, le-leb}
use Rattle.laws.specs.Sorted.{◌∈◌}
use Rattle.laws.proofs.Truth.{clash, and-true}
use Rattle.layout.specs.Buffers.{filled, all_zero}
use Rattle.layout.specs.Layout.{records, record_at, joined, pairs, tree_bytes, dir_numbers, chained, ending, laid_out, end_at}

-- The records lie in the two buffers.
pub record Laid (n : ℕ) (dir tree : List ℕ) : Type 0 where
  pub many : length (records n dir tree) ≡ n
  pub few : 2 * n ≤ length dir
  pub room : length (joined (records n dir tree)) ≤ length tree
  pub numbers : dir ≡ dir_numbers (length dir) (records n dir tree)
  pub bytes : tree ≡ tree_bytes (length tree) (records n dir tree)

-- Lengths.
pub length-filled : (n : ℕ) (xs : List ℕ) → length xs ≤ n → length (filled n xs) ≡ n
unfolding filled
length-filled n xs h = simp (length-append, length-replicate) (omega arith)

pub length_pairs : (recs : List (List ℕ)) (a : ℕ) → length (pairs a recs) ≡ 2 * length recs
length_pairs [] a = refl
length_pairs (r ∷ rs) a = omega (arith, length_pairs rs (a + length r))

pub length-tree : (n : ℕ) (recs : List (List ℕ)) → length (joined recs) ≤ n → length (tree_bytes n recs) ≡ n
unfolding tree_bytes
length-tree n recs h = length-filled n (joined recs) h

pub length-dir : (n : ℕ) (recs : List (List ℕ)) → 2 * length recs ≤ n → length (dir_numbers n recs) ≡ n
unfolding dir_numbers
length-dir n recs h = length-filled n (pairs 0 recs) (omega (arith, length_pairs recs 0))

-- Zeros.
pub zeros-are : (l : List ℕ) → all_zero l ≡ true → l ≡ replicate (length l) 0
unfolding all_zero
zeros-are [] h = refl
zeros-are (x ∷ xs) h =
    let b = and-true (eqb x 0) (all_zero xs) h in
    ap (λ (y : ℕ). y ∷ xs) (eqb-true x 0 b.0) ∙ ap (λ (ys : List ℕ). 0 ∷ ys) (zeros-are xs b.1)

pub zeros-true : (n : ℕ) → all_zero (replicate n 0) ≡ true
unfolding all_zero
zeros-true zero = refl
zeros-true (suc n) = zeros-true n

-- What a chain of n pairs from `at` on cuts out of the bytes.
pub record Followed (n at : ℕ) (dir tree : List ℕ) : Type 0 where
  pub many : length (records n dir tree) ≡ n
  pub few : 2 * n ≤ length dir
  pub ends : at + length (joined (records n dir tree)) ≡ ending n at dir
  pub numbers : dir ≡ pairs at (records n dir tree) ++ drop (2 * n) dir
  pub bytes : drop at tree ≡ joined (records n dir tree) ++ drop (ending n at dir) tree

-- One pair more in front.
followed : (n at l : ℕ) (dir tree : List ℕ) → ending n (at + l) dir ≤ length tree → Followed n (at + l) dir tree
    → Followed (suc n) at (at ∷ l ∷ dir) tree
followed n at l dir tree k g =
    let rs : List (List ℕ) = records n dir tree in
    let r : List ℕ = take l (drop at tree) in
    let ge = g.ends in
    let gf = g.few in
    let w : l ≤ length (drop at tree) = omega (arith, length-drop at tree) in
    let s : length r ≡ l = length-take-le l (drop at tree) w in
    let d : 2 * suc n ≡ suc (suc (2 * n)) = omega arith in
    record {
      many = ap suc g.many;
      few = omega arith;
      ends = omega (arith, length-append r (joined rs));
      numbers = ap (λ (x : List ℕ). at ∷ l ∷ x) g.numbers ∙ rw (s, d) refl;
      bytes =
          sym (take-append-drop l (drop at tree))
          ∙ ap (λ (x : List ℕ). r ++ x) (drop-drop l at tree ∙ g.bytes)
          ∙ sym (append_assoc r (joined rs) (drop (ending n (at + l) dir) tree));
    }

pub follow : (n at : ℕ) (dir tree : List ℕ) → chained n at dir ≡ true → ending n at dir ≤ length tree → Followed n at dir tree
follow zero at dir tree h k = record { many = refl; few = omega arith; ends = add-zero at; numbers = refl; bytes = refl }
follow (suc n) at [] tree h k = clash h refl
follow (suc n) at (o ∷ []) tree h k = clash h refl
follow (suc n) at (o ∷ l ∷ dir) tree h k =
    let b = and-true (eqb o at) (chained n (at + l) dir) h in
    rw (eqb-true o at b.0) (followed n at l dir tree k (follow n (at + l) dir tree b.1 k))

-- A front and zeros behind it fill a buffer.
filled-front : (l xs : List ℕ) (e : ℕ) → length xs ≡ e → l ≡ xs ++ drop e l → all_zero (drop e l) ≡ true → l ≡ filled (length l) xs
unfolding filled
filled-front l xs e h q z =
    q ∙ ap (xs ++◌) (zeros-are (drop e l) z ∙ ap (λ (n : ℕ). replicate n 0) (length-drop e l ∙ ap (λ (n : ℕ). length l - n) (sym h)))

-- From the test to the equations.
pub laid : (n : ℕ) (dir tree : List ℕ) → laid_out n dir tree ≡ true → Laid n dir tree
unfolding laid_out tree_bytes dir_numbers
laid n dir tree h =
    let a = and-true (chained n 0 dir) _ h in
    let b = and-true (leb (ending n 0 dir) (length tree)) _ a.1 in
    let c = and-true (all_zero (drop (ending n 0 dir) tree)) _ b.1 in
    let k : ending n 0 dir ≤ length tree = leb-true (ending n 0 dir) (length tree) b.0 in
    let f = follow n 0 dir tree a.0 k in
    let recs : List (List ℕ) = records n dir tree in
    let e : length (joined recs) ≡ ending n 0 dir = sym (zero-add (length (joined recs))) ∙ f.ends in
    let m : length (pairs 0 recs) ≡ 2 * n = length_pairs recs 0 ∙ ap (λ (x : ℕ). 2 * x) f.many in
    record {
      many = f.many;
      few = f.few;
      room = omega arith;
      numbers = filled-front dir (pairs 0 recs) (2 * n) m f.numbers c.1;
      bytes = filled-front tree (joined recs) (ending n 0 dir) e f.bytes c.0;
    }

-- Pairs of records chain, end where the records do, and cut these out of the bytes.
pub chained-pairs : (recs : List (List ℕ)) (a : ℕ) (z : List ℕ) → chained (length recs) a (pairs a recs ++ z) ≡ true
chained-pairs [] a z = refl
chained-pairs (r ∷ rs) a z = rw (eq-eqb a a refl) (chained-pairs rs (a + length r) z)

pub ending-pairs : (recs : List (List ℕ)) (a : ℕ) (z : List ℕ) → ending (length recs) a (pairs a recs ++ z) ≡ a + length (joined recs)
ending-pairs [] a z = sym (add-zero a)
ending-pairs (r ∷ rs) a z =
    let e : a + length r + length (joined rs) ≡ a + length (r ++ joined rs) = omega (arith, length-append r (joined rs)) in
    ending-pairs rs (a + length r) z ∙ e

pub records-pairs : (recs : List (List ℕ)) (a : ℕ) (z tree y : List ℕ) → drop a tree ≡ joined recs ++ y → records (length recs) (pairs a recs ++ z) tree ≡ recs
records-pairs [] a z tree y e = refl
records-pairs (r ∷ rs) a z tree y e =
    let q : drop a tree ≡ r ++ (joined rs ++ y) = e ∙ append_assoc r (joined rs) y in
    let h : take (length r) (drop a tree) ≡ r = ap (take (length r)) q ∙ take_at r (joined rs ++ y) (length r) refl in
    let t : drop (a + length r) tree ≡ joined rs ++ y = sym (drop-drop (length r) a tree) ∙ ap (drop (length r)) q ∙ drop_at r (joined rs ++ y) (length r) refl in
    ap (λ (x : List ℕ). x ∷ records (length rs) (pairs (a + length r) rs ++ z) tree) h ∙ ap (λ (x : List (List ℕ)). r ∷ x) (records-pairs rs (a + length r) z tree y t)

-- Buffers that hold the records of a list: for a second change, which speaks of the buffers after the first.
module _ (recs : List (List ℕ)) (dir tree : List ℕ) (few : 2 * length recs ≤ length dir) (room : length (joined recs) ≤ length tree)
    (dir' tree' : List ℕ) (ed : dir' ≡ dir_numbers (length dir) recs) (et : tree' ≡ tree_bytes (length tree) recs) where
  pub after-dir : length dir' ≡ length dir
  after-dir = ap length ed ∙ length-dir (length dir) recs few

  pub after-tree : length tree' ≡ length tree
  after-tree = ap length et ∙ length-tree (length tree) recs room

  pub after-records : records (length recs) dir' tree' ≡ recs
  unfolding tree_bytes dir_numbers filled
  after-records =
      ap (λ (x : List ℕ). records (length recs) x tree') ed
      ∙ records-pairs recs 0 (replicate (length dir - length (pairs 0 recs)) 0) tree' (replicate (length tree - length (joined recs)) 0) et

  pub after-laid : Laid (length recs) dir' tree'
  after-laid =
      let a = after-dir in
      let b = after-tree in
      record {
        many = ap length after-records;
        few = omega arith;
        room = rw after-records (omega arith);
        numbers = rw after-records (ed ∙ ap (λ (n : ℕ). dir_numbers n recs) (sym a));
        bytes = rw after-records (et ∙ ap (λ (n : ℕ). tree_bytes n recs) (sym b));
      }

  pub after_test : laid_out (length recs) dir' tree' ≡ true
  unfolding laid_out tree_bytes dir_numbers filled
  after_test =
      let zd : List ℕ = replicate (length dir - length (pairs 0 recs)) 0 in
      let zt : List ℕ = replicate (length tree - length (joined recs)) 0 in
      let c : chained (length recs) 0 dir' ≡ true = ap (chained (length recs) 0) ed ∙ chained-pairs recs 0 zd in
      let e : ending (length recs) 0 dir' ≡ length (joined recs) = ap (ending (length recs) 0) ed ∙ ending-pairs recs 0 zd ∙ zero-add (length (joined recs)) in
      let l : leb (length (joined recs)) (length tree') ≡ true = le-leb (length (joined recs)) (length tree') (omega (arith, after-tree)) in
      let t : all_zero (drop (length (joined recs)) tree') ≡ true =
      ap (λ (x : List ℕ). all_zero (drop (length (joined recs)) x)) et ∙ ap all_zero (drop_at (joined recs) zt (length (joined recs)) refl) ∙ zeros-true (length tree - length (joined recs)) in
      let d : all_zero (drop (2 * length recs) dir') ≡ true =
      ap (λ (x : List ℕ). all_zero (drop (2 * length recs) x)) ed ∙ ap all_zero (drop_at (pairs 0 recs) zd (2 * length recs) (length_pairs recs 0)) ∙ zeros-true (length dir - length (pairs 0 recs)) in
      rw (c, e, l, t, d)

-- From the equations back to the test.
pub laid_out_lem : {n : ℕ} {dir tree : List ℕ} → Laid n dir tree → laid_out n dir tree ≡ true
laid_out_lem {n} {dir} {tree} v =
    let m = v.many in
    let f = v.few in
    ap (λ (x : ℕ). laid_out x dir tree) (sym m)
    ∙ after_test (records n dir tree) dir tree (omega arith) v.room dir tree v.numbers v.bytes

-- The next pair of a directory.
pub drop-pair : (l : List ℕ) (i : ℕ) → 2 * i + 1 < length l → drop (2 * i) l ≡ get_or l (2 * i) 0 ∷ get_or l (2 * i + 1) 0 ∷ drop (2 * (i + 1)) l
drop-pair l i h =
    let a : 2 * i < length l = omega arith in
    let b : suc (2 * i) < length l = omega arith in
    let e : suc (2 * i) ≡ 2 * i + 1 = omega arith in
    let f : suc (suc (2 * i)) ≡ 2 * (i + 1) = omega arith in
    drop-cons l (2 * i) 0 a
    ∙ ap (λ (x : List ℕ). get_or l (2 * i) 0 ∷ x) (drop-cons l (suc (2 * i)) 0 b)
    ∙ ap (λ (x : ℕ). get_or l (2 * i) 0 ∷ get_or l x 0 ∷ drop (suc (suc (2 * i))) l) e
    ∙ ap (λ (x : ℕ). get_or l (2 * i) 0 ∷ get_or l (2 * i + 1) 0 ∷ drop x l) f

-- As many records as pairs.
pub records-many : (n : ℕ) (dir tree : List ℕ) → 2 * n ≤ length dir → length (records n dir tree) ≡ n
records-many zero dir tree h = refl
records-many (suc n) [] tree h = absurd (omega arith)
records-many (suc n) (o ∷ []) tree h = absurd (omega arith)
records-many (suc n) (o ∷ l ∷ dir) tree h = ap suc (records-many n dir tree (omega arith))

in-drop : {A : Type 0} {a : A} {l : List A} (k : ℕ) (m : List A) → drop k m ≡ a ∷ l → a ∈ m
in-drop {a = a} {l = l} zero m e = rw e (here refl)
in-drop (suc k) [] e = let z : ◌≡◌ {A = ℕ} 0 1 = cc in absurd (omega arith)
in-drop (suc k) (b ∷ m) e = there (in-drop k m e)

-- The records from k on are what the pairs from k on cut out.
pub records-drop : (n k : ℕ) (dir tree : List ℕ) → 2 * n ≤ length dir → k ≤ n → drop k (records n dir tree) ≡ records (n - k) (drop (2 * k) dir) tree
records-drop n zero dir tree h w = let e : n ≡ n - 0 = omega arith in ap (λ (m : ℕ). records m dir tree) e
records-drop zero (suc k) dir tree h w = absurd (omega arith)
records-drop (suc n) (suc k) [] tree h w = absurd (omega arith)
records-drop (suc n) (suc k) (o ∷ []) tree h w = absurd (omega arith)
records-drop (suc n) (suc k) (o ∷ l ∷ dir) tree h w =
    let e : n - k ≡ suc n - suc k = omega arith in
    let d : suc (suc (2 * k)) ≡ 2 * suc k = omega arith in
    records-drop n k dir tree (omega arith) (omega arith)
    ∙ ap (λ (m : ℕ). records m (drop (2 * k) dir) tree) e
    ∙ ap (λ (m : ℕ). records (suc n - suc k) (drop m (o ∷ l ∷ dir)) tree) d

module _ (n k : ℕ) (dir tree : List ℕ) (few : 2 * n ≤ length dir) (w : k < n) where
  pub records-at : drop k (records n dir tree) ≡ record_at k dir tree ∷ drop (k + 1) (records n dir tree)
  records-at =
      let e : n - k ≡ suc (n - (k + 1)) = omega arith in
      records-drop n k dir tree few (omega arith)
      ∙ ap (λ (m : ℕ). records m (drop (2 * k) dir) tree) e
      ∙ ap (λ (d : List ℕ). records (suc (n - (k + 1))) d tree) (drop-pair dir k (omega arith))
      ∙ ap (λ (rs : List (List ℕ)). record_at k dir tree ∷ rs) (sym (records-drop n (k + 1) dir tree few (omega arith)))

  pub records-get : get_or (records n dir tree) k [] ≡ record_at k dir tree
  records-get =
      ap (λ (j : ℕ). get_or (records n dir tree) j []) (sym (add-zero k))
      ∙ sym (get_or-drop k (records n dir tree) 0 [])
      ∙ ap (λ (rs : List (List ℕ)). get_or rs 0 []) records-at

  pub record-in : record_at k dir tree ∈ records n dir tree
  record-in = in-drop k (records n dir tree) records-at

-- Lists of records that are joined.
pub joined-append : (xs ys : List (List ℕ)) → joined (xs ++ ys) ≡ joined xs ++ joined ys
joined-append [] ys = refl
joined-append (x ∷ xs) ys = ap (λ (l : List ℕ). x ++ l) (joined-append xs ys) ∙ sym (append_assoc x (joined xs) (joined ys))

pub pairs-append : (xs ys : List (List ℕ)) (a : ℕ) → pairs a (xs ++ ys) ≡ pairs a xs ++ pairs (a + length (joined xs)) ys
pairs-append [] ys a = ap (λ (n : ℕ). pairs n ys) (sym (add-zero a))
pairs-append (x ∷ xs) ys a =
    let e : a + length x + length (joined xs) ≡ a + length (x ++ joined xs) = omega (arith, length-append x (joined xs)) in
    ap (λ (l : List ℕ). a ∷ length x ∷ l) (pairs-append xs ys (a + length x) ∙ ap (λ (n : ℕ). pairs (a + length x) xs ++ pairs n ys) e)

-- How long the first k records are, and the others.
pub joined-split : (recs : List (List ℕ)) (k : ℕ) → length (joined recs) ≡ length (joined (take k recs)) + length (joined (drop k recs))
joined-split recs k =
    ap (λ (x : List (List ℕ)). length (joined x)) (sym (take-append-drop k recs))
    ∙ ap length (joined-append (take k recs) (drop k recs))
    ∙ length-append (joined (take k recs)) (joined (drop k recs))

-- Where the first k records end.
end-suc : (k a l : ℕ) (d : List ℕ) → end_at (suc (suc k)) (a ∷ l ∷ d) ≡ end_at (suc k) d
end-suc k a l d =
    let e : 2 * suc k ≡ suc (suc (2 * k)) = omega arith in
    let f : 2 * suc k + 1 ≡ suc (suc (2 * k + 1)) = omega arith in
    rw (f, e)

end-pairs : (recs : List (List ℕ)) (a k : ℕ) (z : List ℕ) → k < length recs → end_at (suc k) (pairs a recs ++ z) ≡ a + length (joined (take (suc k) recs))
end-pairs [] a k z h = absurd (omega arith)
end-pairs (r ∷ rs) a zero z h = ap (λ (l : List ℕ). a + length l) (sym (append-nil r))
end-pairs (r ∷ rs) a (suc k) z h =
    end-suc k a (length r) (pairs (a + length r) rs ++ z)
    ∙ end-pairs rs (a + length r) k z (omega arith)
    ∙ (let e : a + length r + length (joined (take (suc k) rs)) ≡ a + length (r ++ joined (take (suc k) rs)) = omega (arith, length-append r (joined (take (suc k) rs))) in e)

pub end_is : (recs : List (List ℕ)) (dir z : List ℕ) (k : ℕ) → dir ≡ pairs 0 recs ++ z → k ≤ length recs → end_at k dir ≡ length (joined (take k recs))
end_is recs dir z zero e h = refl
end_is recs dir z (suc k) e h = ap (λ (d : List ℕ). end_at (suc k) d) e ∙ end-pairs recs 0 k z h ∙ zero-add (length (joined (take (suc k) recs)))

-- What the equations say of one pair and its record.
pub laid_end : {n : ℕ} {dir tree : List ℕ} → Laid n dir tree → (k : ℕ) → k ≤ n → end_at k dir ≡ length (joined (take k (records n dir tree)))
unfolding dir_numbers filled
laid_end {n} {dir} {tree} v k h =
    let m = v.many in
    let recs : List (List ℕ) = records n dir tree in
    end_is recs dir (replicate (length dir - length (pairs 0 recs)) 0) k v.numbers (omega arith)

module _ {n : ℕ} {dir tree : List ℕ} (v : Laid n dir tree) (k : ℕ) (h : k < n) where
  pub laid-pair : (2 * k + 1 < length dir) × (get_or dir (2 * k) 0 + get_or dir (2 * k + 1) 0 ≤ length tree)
  laid-pair =
      let f = v.few in
      let r = v.room in
      let e : end_at (suc k) dir ≡ length (joined (take (suc k) (records n dir tree))) = laid_end v (suc k) h in
      (omega arith, omega (arith, joined-split (records n dir tree) (suc k)))

  pub laid-length : length (record_at k dir tree) ≡ get_or dir (2 * k + 1) 0
  laid-length =
      let p = laid-pair.1 in
      length-take-le (get_or dir (2 * k + 1) 0) (drop (get_or dir (2 * k) 0) tree) (omega (arith, length-drop (get_or dir (2 * k) 0) tree))
