-- What the library's moves, fills and copies leave of a buffer, and the test of all its elements, over plain lists. Assumes nothing.
use mathlib.Core.Path.{◌≡◌, refl, sym, ap, ◌∙◌}
use mathlib.Core.List.{List, [], ◌∷◌, ◌++◌, append_assoc}
use mathlib.Core.Bool.{◌&&◌}
use Prim.Native.Nat.{ℕ, ◌+◌, ◌-◌, ◌≤◌}
use native.Mathlib.Omega.{arith}
use lib.Dec.{eqb}
use lib.ListN.{length, take, drop, get_or, replicate, length-drop, take-append-drop}
use lib.Seq.{paste, length-take-le, take_all, get_or-append-add, drop-drop}
use borrow.Rule.Slice.PartMut.{put_mid}
use Rattle.std.specs.List.{list_all, copy_within}
use Rattle.layout.specs.Buffers.{moved, cleared, written, all_zero}

-- A load past a seam.
pub get_or-past : (p q : List ℕ) (n i d : ℕ) → length p ≡ n → n ≤ i → get_or (p ++ q) i d ≡ get_or q (i - n) d
get_or-past p q n i d e h =
    let k : i ≡ length p + (i - n) = omega arith in
    ap (λ (j : ℕ). get_or (p ++ q) j d) k ∙ get_or-append-add p q (i - n) d

-- A part put back in the place of what stood there.
put_back : (from to : ℕ) (l s : List ℕ) → from ≤ to → put_mid from (to - from) l s ≡ take from l ++ s ++ drop to l
put_back from to l s h =
    let e : from + (to - from) ≡ to = omega arith in
    ap (λ (x : List ℕ). take from l ++ (s ++ x)) (drop-drop (to - from) from l ∙ ap (λ (j : ℕ). drop j l) e) ∙ sym (append_assoc (take from l) s (drop to l))

pub cleared-is : (from to : ℕ) (l s : List ℕ) → from ≤ to → to ≤ length l → s ≡ replicate (length (take (to - from) (drop from l))) 0 → put_mid from (to - from) l s ≡ cleared from to l
unfolding cleared
cleared-is from to l s h k e =
    let w : to - from ≤ length (drop from l) = omega (arith, length-drop from l) in
    put_back from to l s h ∙ ap (λ (x : List ℕ). take from l ++ x ++ drop to l) (e ∙ ap (λ (n : ℕ). replicate n 0) (length-take-le (to - from) (drop from l) w))

pub written-is : (at : ℕ) (src l s : List ℕ) → s ≡ src → put_mid at (at + length src - at) l s ≡ written at src l
unfolding written
written-is at src l s e = put_back at (at + length src) l s (omega arith) ∙ ap (λ (x : List ℕ). take at l ++ x ++ drop (at + length src) l) e

pub moved-is : (from to n : ℕ) (l : List ℕ) → copy_within l from (from + n) to ≡ moved from to n l
unfolding moved
moved-is from to n l =
    let e : from + n - from ≡ n = omega arith in
    ap (paste l to (drop from l)) e

zeros-are : (l : List ℕ) → list_all (λ (x : ℕ). eqb x 0) l ≡ all_zero l
unfolding all_zero
zeros-are [] = refl
zeros-are (x ∷ l) = ap (eqb x 0 &&◌) (zeros-are l)

pub zeros-from : (from : ℕ) (l : List ℕ) → list_all (λ (x : ℕ). eqb x 0) (take (length l - from) (drop from l)) ≡ all_zero (drop from l)
zeros-from from l =
    let w : length (drop from l) ≤ length l - from = omega (arith, length-drop from l) in
    ap (list_all λ (x : ℕ). eqb x 0) (take_all (length l - from) (drop from l) w) ∙ zeros-are (drop from l)

-- What is moved to where it stands.
pub moved-there : (from to n : ℕ) (l : List ℕ) → from ≡ to → l ≡ moved from to n l
unfolding moved
moved-there from to n l e =
    let p : take to l ++ (take n (drop to l) ++ drop (to + n) l) ≡ l
    = ap (λ (x : List ℕ). take to l ++ (take n (drop to l) ++ x)) (sym (drop-drop n to l))
    ∙ ap (take to l ++◌) (take-append-drop n (drop to l))
    ∙ take-append-drop to l in
    let q : moved to to n l ≡ l = append_assoc (take to l) (take n (drop to l)) (drop (to + n) l) ∙ p in
    sym (ap (λ (f : ℕ). moved f to n l) e ∙ q)
