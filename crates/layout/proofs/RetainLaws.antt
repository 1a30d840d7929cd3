-- The one pass that takes records out: what is finished, what is still to come, and nothing of what lies between.
-- Assumes nothing.
use mathlib.Core.Path.{◌≡◌, refl, sym, ap, ◌∙◌}
use mathlib.Core.List.{List, [], ◌∷◌, ◌++◌, append_assoc, append-nil}
use Prim.Native.Nat.{ℕ, suc, ◌+◌, ◌-◌, ◌*◌, ◌≤◌, ◌<◌}
use native.Mathlib.Omega.{arith}
use native.Mathlib.Numerals.{add-one}
use native.Mathlib.Nat.{add-zero, zero-add, sub-zero}
use lib.ListN.{length, take, drop, get_or, set, replicate, length-append, length-drop, length-set, drop_of_length-le, replicate-append-replicate}
use lib.Seq.{paste, take-paste, drop-paste, length-paste, length-take-le, drop-drop, take_at, drop_at, drop-cons, get_or-drop, take-suc-set, drop-set-lt}
use borrow.Author.Tests.{eq-eqb, ne_eqb}
use Rattle.layout.specs.Buffers.{moved, cleared, filled}
use Rattle.layout.specs.Layout.{records, joined, pairs, tree_bytes, dir_numbers}
use Rattle.layout.specs.Marks.{kept}
use Rattle.layout.proofs.LaidLaws.{Laid, length_pairs}

-- Two elements stored at j and behind it.
pub take-two : (d : List ℕ) (j a b : ℕ) → suc j < length d → take (suc (suc j)) (set (set d j a) (suc j) b) ≡ take j d ++ (a ∷ b ∷ [])
take-two d j a b h =
    let w : suc j < length (set d j a) = omega (arith, length-set d j a) in
    let v : j < length d = omega arith in
    take-suc-set (set d j a) (suc j) b w
    ∙ ap (λ (x : List ℕ). x ++ (b ∷ [])) (take-suc-set d j a v)
    ∙ append_assoc (take j d) (a ∷ []) (b ∷ [])

-- A pair stored at place k of a directory.
module _ (dir dir' : List ℕ) (k o l : ℕ) (h : 2 * k + 1 < length dir) (e : dir' ≡ set (set dir (2 * k) o) (2 * k + 1) l) where
  pub pair-front : take (2 * (k + 1)) dir' ≡ take (2 * k) dir ++ (o ∷ l ∷ [])
  pair-front =
      let one : 2 * k + 1 ≡ suc (2 * k) = omega arith in
      let two : 2 * (k + 1) ≡ suc (suc (2 * k)) = omega arith in
      ap (λ (x : List ℕ). take (2 * (k + 1)) x) e
      ∙ ap (λ (x : ℕ). take (2 * (k + 1)) (set (set dir (2 * k) o) x l)) one
      ∙ ap (λ (x : ℕ). take x (set (set dir (2 * k) o) (suc (2 * k)) l)) two
      ∙ take-two dir (2 * k) o l (omega arith)

  pub pair-back : (j : ℕ) → k < j → drop (2 * j) dir' ≡ drop (2 * j) dir
  pair-back j w =
      ap (λ (x : List ℕ). drop (2 * j) x) e
      ∙ drop-set-lt (2 * j) (set dir (2 * k) o) (2 * k + 1) l (omega arith)
      ∙ drop-set-lt (2 * j) dir (2 * k) o (omega arith)

  pub pair-length : length dir' ≡ length dir
  pair-length = ap length e ∙ length-set (set dir (2 * k) o) (2 * k + 1) l ∙ length-set dir (2 * k) o

-- A move down: what is behind its place is as it was, and what was moved stands at its place.
module _ (from to l : ℕ) (d : List ℕ) (h : to ≤ from) (k : from + l ≤ length d) where
  pub drop-moved : drop (from + l) (moved from to l d) ≡ drop (from + l) d
  unfolding moved
  drop-moved =
      let a : to ≤ length d = omega arith in
      let b : l ≤ length (drop from d) = omega (arith, length-drop from d) in
      let e : to + l + (from - to) ≡ from + l = omega arith in
      let m : List ℕ = paste d to (drop from d) l in
      ap (λ (x : ℕ). drop x m) (sym e)
      ∙ sym (drop-drop (from - to) (to + l) m)
      ∙ ap (λ (x : List ℕ). drop (from - to) x) (drop-paste d to (drop from d) l a b)
      ∙ drop-drop (from - to) (to + l) d
      ∙ ap (λ (x : ℕ). drop x d) e

  pub take-moved : take (to + l) (moved from to l d) ≡ take to d ++ take l (drop from d)
  unfolding moved
  take-moved =
      let a : to ≤ length d = omega arith in
      let b : l ≤ length (drop from d) = omega (arith, length-drop from d) in
      take-paste d to (drop from d) l a b

  pub length_moved : length (moved from to l d) ≡ length d
  unfolding moved
  length_moved =
      let a : to + l ≤ length d = omega arith in
      let b : l ≤ length (drop from d) = omega (arith, length-drop from d) in
      length-paste d to (drop from d) l a b

-- A front, cleared behind up to where zeros follow already.
pub clear_filled : (k l : List ℕ) (t f top : ℕ) → t ≤ f → f ≤ top → length k ≡ t → take t l ≡ k → drop f l ≡ replicate (top - f) 0 → cleared t f l ≡ filled top k
unfolding cleared filled
clear_filled k l t f top h w n e g =
    let s : f - t + (top - f) ≡ top - length k = omega arith in
    rw (e, g, append_assoc, replicate-append-replicate, s)

-- A whole buffer of zeros holds no records.
pub open-tree : (l s : List ℕ) → s ≡ replicate (length l) 0 → s ≡ tree_bytes (length l) []
unfolding tree_bytes filled
open-tree l s e = e ∙ ap (λ (n : ℕ). replicate n 0) (sym (sub-zero (length l)))

pub open-dir : (l s : List ℕ) → s ≡ replicate (length l) 0 → s ≡ dir_numbers (length l) []
unfolding dir_numbers filled
open-dir l s e = e ∙ ap (λ (n : ℕ). replicate n 0) (sym (sub-zero (length l)))

-- The pass: ms and rs are the marks and the records still to come, dz and tz what stands behind the pairs and behind the records.
pub record Moving (kb kn : List ℕ) (kc whole : ℕ) (dz tz ms : List ℕ) (rs : List (List ℕ)) (dir tree : List ℕ) (i n from to : ℕ) : Type 0 where
  pub behind : to ≤ from
  pub fewer : n ≤ i
  pub in_tree : from ≤ length tree
  pub in_dir : 2 * i ≤ length dir
  pub numbers : drop (2 * i) dir ≡ pairs from rs ++ dz
  pub bytes : drop from tree ≡ joined rs ++ tz
  pub sum : from + length (joined rs) ≡ whole
  pub kept_bytes : take to tree ++ joined (kept ms rs) ≡ kb
  pub kept_numbers : take (2 * n) dir ++ pairs to (kept ms rs) ≡ kn
  pub kept_count : n + length (kept ms rs) ≡ kc

-- The record that is met.
pub record Next (r dir tree : List ℕ) (i from : ℕ) : Type 0 where
  pub pair : 2 * i + 1 < length dir
  pub size : get_or dir (2 * i + 1) 0 ≡ length r
  pub room : from + length r ≤ length tree

module _ {kb kn : List ℕ} {kc whole : ℕ} {dz tz ms r : List ℕ} {rs : List (List ℕ)} {dir tree : List ℕ} {m i n from to : ℕ}
    (v : Moving kb kn kc whole dz tz (m ∷ ms) (r ∷ rs) dir tree i n from to) where
  next : Next r dir tree i from
  next =
      let a = ap length v.numbers in
      let b = length-drop (2 * i) dir in
      let c = ap length v.bytes in
      let d = length-drop from tree in
      let e = length-append (r ++ joined rs) tz in
      let f = length-append r (joined rs) in
      let u = v.in_tree in
      let w = v.in_dir in
      record {
        pair = omega arith;
        size = sym (get_or-drop (2 * i) dir 1 0) ∙ ap (λ (x : List ℕ). get_or x 1 0) v.numbers;
        room = omega arith;
      }

  -- What is behind it.
  rest-numbers : drop (2 * (i + 1)) dir ≡ pairs (from + length r) rs ++ dz
  rest-numbers =
      let e : 2 * (i + 1) ≡ 2 * i + 2 = omega arith in
      ap (λ (x : ℕ). drop x dir) e ∙ sym (drop-drop 2 (2 * i) dir) ∙ ap (λ (x : List ℕ). drop 2 x) v.numbers

  rest-bytes : drop (from + length r) tree ≡ joined rs ++ tz
  rest-bytes =
      sym (drop-drop (length r) from tree)
      ∙ ap (λ (x : List ℕ). drop (length r) x) (v.bytes ∙ append_assoc r (joined rs) tz)
      ∙ drop_at r (joined rs ++ tz) (length r) refl

  rest_sum : from + length r + length (joined rs) ≡ whole
  rest_sum = omega (arith, v.sum, length-append r (joined rs))

  passed : m ≡ 1 → Moving kb kn kc whole dz tz ms rs dir tree (i + 1) n (from + length r) to
  passed h =
      let q = eq-eqb m 1 h in
      let x = next in
      let b = v.behind in
      let f = v.fewer in
      record {
        behind = omega arith;
        fewer = omega arith;
        in_tree = x.room;
        in_dir = omega arith;
        numbers = rest-numbers;
        bytes = rest-bytes;
        sum = rest_sum;
        kept_bytes = rw q at v.kept_bytes;
        kept_numbers = rw q at v.kept_numbers;
        kept_count = rw q at v.kept_count;
      }

  held : (m ≡ 1 → ⊥) → (dir' tree' : List ℕ) → dir' ≡ set (set dir (2 * n) to) (2 * n + 1) (length r) → tree' ≡ moved from to (length r) tree
      → Moving kb kn kc whole dz tz ms rs dir' tree' (i + 1) (n + 1) (from + length r) (to + length r)
  held h dir' tree' ed et =
      let q = ne_eqb m 1 h in
      let x = next in
      let b = v.behind in
      let f = v.fewer in
      let o = x.room in
      let dw : 2 * n + 1 < length dir = omega arith in
      let ld : length dir' ≡ length dir = pair-length dir dir' n to (length r) dw ed in
      let lt : length tree' ≡ length tree = ap length et ∙ length_moved from to (length r) tree b o in
      record {
        behind = omega arith;
        fewer = omega arith;
        in_tree = omega arith;
        in_dir = omega arith;
        numbers = pair-back dir dir' n to (length r) dw ed (i + 1) (omega arith) ∙ rest-numbers;
        bytes = ap (λ (y : List ℕ). drop (from + length r) y) et ∙ drop-moved from to (length r) tree b o ∙ rest-bytes;
        sum = rest_sum;
        kept_bytes =
            ap (λ (y : List ℕ). y ++ joined (kept ms rs))
            (ap (λ (y : List ℕ). take (to + length r) y) et
            ∙ take-moved from to (length r) tree b o
            ∙ ap (λ (y : List ℕ). take to tree ++ y)
            (ap (λ (y : List ℕ). take (length r) y) (v.bytes ∙ append_assoc r (joined rs) tz) ∙ take_at r (joined rs ++ tz) (length r) refl))
            ∙ append_assoc (take to tree) r (joined (kept ms rs))
            ∙ (rw q at v.kept_bytes);
        kept_numbers =
            ap (λ (y : List ℕ). y ++ pairs (to + length r) (kept ms rs)) (pair-front dir dir' n to (length r) dw ed)
            ∙ append_assoc (take (2 * n) dir) (to ∷ length r ∷ []) (pairs (to + length r) (kept ms rs))
            ∙ (rw q at v.kept_numbers);
        kept_count = (let g : n + suc (length (kept ms rs)) ≡ kc = rw q at v.kept_count in omega arith);
      }

-- The pass over a tree, at record i.
abbrev zeros_dir : List (List ℕ) → List ℕ → List ℕ
zeros_dir recs dir = replicate (length dir - length (pairs 0 recs)) 0

abbrev zeros_tree : List (List ℕ) → List ℕ → List ℕ
zeros_tree recs tree = replicate (length tree - length (joined recs)) 0

abbrev At : ℕ → List ℕ → List (List ℕ) → (dir₀ tree₀ ms : List ℕ) → List (List ℕ) → (dir tree : List ℕ) → (i n from to : ℕ) → Type 0
At count marks recs dir₀ tree₀ ms rs dir tree i n from to =
    Moving (joined (kept marks recs)) (pairs 0 (kept marks recs)) (length (kept marks recs)) (length (joined recs)) (zeros_dir recs dir₀) (zeros_tree recs tree₀) ms rs dir tree i n from to

pub record Pass (count : ℕ) (marks dir₀ tree₀ dir tree : List ℕ) (i n from to : ℕ) : Type 0 where
  pub within : i ≤ count
  pub marked : count ≤ length marks
  pub same_dir : length dir ≡ length dir₀
  pub same_tree : length tree ≡ length tree₀
  pub first : Laid count dir₀ tree₀
  pub moving : At count marks (records count dir₀ tree₀) dir₀ tree₀ (drop i marks) (drop i (records count dir₀ tree₀)) dir tree i n from to

pub pass-start : {count : ℕ} {dir tree : List ℕ} (marks : List ℕ) → count ≤ length marks → Laid count dir tree → Pass count marks dir tree dir tree 0 0 0 0
unfolding dir_numbers tree_bytes filled
pass-start {count} {dir} {tree} marks h a = record {
  within = omega arith;
  marked = h;
  same_dir = refl;
  same_tree = refl;
  first = a;
  moving = record {
    behind = omega arith;
    fewer = omega arith;
    in_tree = omega arith;
    in_dir = omega arith;
    numbers = a.numbers;
    bytes = a.bytes;
    sum = zero-add (length (joined (records count dir tree)));
    kept_bytes = refl;
    kept_numbers = refl;
    kept_count = zero-add (length (kept marks (records count dir tree)));
  };
}

module _ {count : ℕ} {marks dir₀ tree₀ dir tree : List ℕ} {i n from to : ℕ} (v : Pass count marks dir₀ tree₀ dir tree i n from to) where
  module _ (h : i < count) where
    opened : At count marks (records count dir₀ tree₀) dir₀ tree₀ (get_or marks i 0 ∷ drop (i + 1) marks) (get_or (records count dir₀ tree₀) i [] ∷ drop (i + 1) (records count dir₀ tree₀)) dir tree i n from to
    opened =
        let a = v.marked in
        let b = v.first.many in
        let k : i < length marks = omega arith in
        let j : i < length (records count dir₀ tree₀) = omega arith in
        rw (add-one i) (rw (drop-cons marks i 0 k, drop-cons (records count dir₀ tree₀) i [] j) at v.moving)

    pub pass-next : Next (get_or (records count dir₀ tree₀) i []) dir tree i from
    pass-next = next opened

    module _ (l : ℕ) (el : l ≡ get_or dir (2 * i + 1) 0) where
      size_is : l ≡ length (get_or (records count dir₀ tree₀) i [])
      size_is = el ∙ pass-next.size

      pub pass-room : from + l ≤ length tree
      pass-room = let r = pass-next.room in omega (arith, size_is)

      pub pass-out : get_or marks i 0 ≡ 1 → Pass count marks dir₀ tree₀ dir tree (i + 1) n (from + l) to
      pass-out e = record {
        within = omega arith;
        marked = v.marked;
        same_dir = v.same_dir;
        same_tree = v.same_tree;
        first = v.first;
        moving = rw size_is (passed opened e);
      }

      pub pass-in : (get_or marks i 0 ≡ 1 → ⊥) → (dir' tree' : List ℕ) → dir' ≡ set (set dir (2 * n) to) (2 * n + 1) l → tree' ≡ moved from to l tree
          → Pass count marks dir₀ tree₀ dir' tree' (i + 1) (n + 1) (from + l) (to + l)
      pass-in e dir' tree' ed et =
          let b = v.moving.behind in
          let f = v.moving.fewer in
          let p = pass-next.pair in
          record {
            within = omega arith;
            marked = v.marked;
            same_dir = pair-length dir dir' n to l (omega arith) ed ∙ v.same_dir;
            same_tree = ap length et ∙ length_moved from to l tree b pass-room ∙ v.same_tree;
            first = v.first;
            moving = rw size_is (held opened e dir' tree' (rw size_is at ed) (rw size_is at et));
          }

  pub pass-fewer : 2 * n ≤ 2 * i
  pass-fewer = let b = v.moving.fewer in omega arith

  module _ (h : i ≡ count) where
    ended : At count marks (records count dir₀ tree₀) dir₀ tree₀ (drop i marks) [] dir tree i n from to
    ended = let m = v.first.many in rw (drop_of_length-le (records count dir₀ tree₀) {i = i} (omega arith)) at v.moving

    pub pass-count : n ≡ length (kept marks (records count dir₀ tree₀))
    pass-count = sym (add-zero n) ∙ ended.kept_count

    from_is : from ≡ length (joined (records count dir₀ tree₀))
    from_is = sym (add-zero from) ∙ ended.sum

    pub pass-tree : cleared to from tree ≡ tree_bytes (length tree₀) (kept marks (records count dir₀ tree₀))
    unfolding tree_bytes
    pass-tree =
        let b = v.moving.behind in
        let c = v.moving.in_tree in
        let s = v.same_tree in
        let k : List ℕ = joined (kept marks (records count dir₀ tree₀)) in
        let e : take to tree ≡ k = sym (append-nil (take to tree)) ∙ ended.kept_bytes in
        let f : length k ≡ to = sym (ap length e) ∙ length-take-le to tree (omega arith) in
        clear_filled k tree to from (length tree₀) b (omega arith) f e (ended.bytes ∙ ap (λ (x : ℕ). replicate (length tree₀ - x) 0) (sym from_is))

    pub pass-dir : cleared (2 * n) (2 * count) dir ≡ dir_numbers (length dir₀) (kept marks (records count dir₀ tree₀))
    unfolding dir_numbers
    pass-dir =
        let b = v.moving.fewer in
        let c = v.moving.in_dir in
        let s = v.same_dir in
        let k : List ℕ = pairs 0 (kept marks (records count dir₀ tree₀)) in
        let e : take (2 * n) dir ≡ k = sym (append-nil (take (2 * n) dir)) ∙ ended.kept_numbers in
        let f : length k ≡ 2 * n = sym (ap length e) ∙ length-take-le (2 * n) dir (omega arith) in
        let g : length (pairs 0 (records count dir₀ tree₀)) ≡ 2 * count = length_pairs (records count dir₀ tree₀) 0 ∙ ap (λ (x : ℕ). 2 * x) v.first.many in
        clear_filled k dir (2 * n) (2 * count) (length dir₀) (omega arith) (omega arith) f e
        (ap (λ (x : ℕ). drop (2 * x) dir) (sym h) ∙ ended.numbers ∙ ap (λ (x : ℕ). replicate (length dir₀ - x) 0) g)
