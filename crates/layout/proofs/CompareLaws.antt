-- How the library's tests of slices say what the comparison of lists of numbers does. Assumes nothing.
use mathlib.Core.Path.{◌≡◌, refl, ap}
use mathlib.Core.List.{List, [], ◌∷◌}
use mathlib.Core.Bool.{◌&&◌}
use Prim.Native.Nat.{ℕ}
use native.Mathlib.Omega.{arith}
use lib.Dec.{eqb}
use lib.Pointwise.{pointwise}
use borrow.Author.Tests.{lt-ltb, le-ltb, eq-eqb}
use Rattle.std.proofs.lemmas.Bool.{ne_eqb}
use Rattle.std.specs.Bool.{nat_eq}
use Rattle.std.specs.Cmp.Lexicographic.{slice_cmp}
use Rattle.std.specs.Ordering.{is_lt, nat_cmp, ordering_then}
use Rattle.laws.specs.Order.{◌then◌, is_less, by_number, by_elements}
use Rattle.laws.specs.Prefix.{same_number, same_list}
use Rattle.laws.proofs.Order.{Tri, under, equal, over, tri, number-less, number_same, number-greater}

pub same-is : (a b : List ℕ) → pointwise nat_eq a b ≡ same_list same_number a b
unfolding same_list same_number
same-is [] [] = refl
same-is [] (y ∷ b) = refl
same-is (x ∷ a) [] = refl
same-is (x ∷ a) (y ∷ b) = ap (eqb x y &&◌) (same-is a b)

pub less-is : (a b : List ℕ) → is_lt (slice_cmp nat_cmp a b) ≡ is_less (by_elements by_number a b)
unfolding is_less by_elements
less-is [] [] = refl
less-is [] (y ∷ b) = refl
less-is (x ∷ a) [] = refl
less-is (x ∷ a) (y ∷ b) = first (tri x y) (less-is a b)
  where
    first : Tri x y → is_lt (slice_cmp nat_cmp a b) ≡ is_less (by_elements by_number a b) → is_lt (ordering_then (nat_cmp x y) (slice_cmp nat_cmp a b)) ≡ is_less (by_number x y then by_elements by_number a b)
    first (under h) r = rw (lt-ltb x y h, number-less x y h)
    first (equal e) r = rw (le-ltb x y (omega arith), eq-eqb x y e, number_same x y e) r
    first (over h) r = rw (le-ltb x y (omega arith), ne_eqb x y (omega arith), number-greater x y h)
