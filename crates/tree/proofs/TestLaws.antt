-- What the tests by value answer, a law for each answer. The facts are what the callees ensure and what the branches say.
-- Assumes nothing.
use Prim.Native.Nat.{ℕ, ◌≤◌}
use mathlib.Core.Path.{◌≡◌, refl, ap, ◌∙◌}
use mathlib.Core.Bool.{Bool, true, false, not, ◌&&◌}
use native.Mathlib.Omega.{arith}
use lib.Dec.{eqb, ltb}
use borrow.Author.Tests.{ltb-true}
use Rattle.laws.specs.Prefix.{same_number}
use Rattle.laws.proofs.Truth.{not-true, not-false, refute}
use Rattle.data_model.specs.declared.area.Area.{Area}
use Rattle.data_model.specs.declared.range_3d.Range3d.{Range3d}
use Rattle.data_model.specs.Ignore.{no_flags}
use Rattle.tree.specs.Stored.{Stored}
use Rattle.tree.specs.Matching.{in_area, in_range, let_through, listed_in_area, listed_in_range}
use Rattle.data_model.specs.declared.query_ignore_params.QueryIgnoreParams.{QueryIgnoreParams}

-- Let through: with no flag set; and of a payload that is there as far as the first flag asks, by the second. The two lengths may be read in any way.
module _ (g : QueryIgnoreParams) (x : Stored) where
  pub through-free : not g.ignore_incomplete_payloads ≡ true → not g.ignore_empty_payloads ≡ true → true ≡ let_through g x
  unfolding let_through
  through-free a b = rw (not-true g.ignore_incomplete_payloads a, not-true g.ignore_empty_payloads b)

  pub through-kept : (m n : ℕ) → m ≡ x.available → n ≡ x.entry.rank.payload_length → (g.ignore_incomplete_payloads ≡ true → n ≤ m) → not g.ignore_empty_payloads ≡ false
      → not (eqb n 0) ≡ let_through g x
  unfolding let_through same_number
  through-kept m n a l f e = rw (← a, ← l, first g.ignore_incomplete_payloads f, not-false g.ignore_empty_payloads e)
    where
      first : (b : Bool) → (b ≡ true → n ≤ m) → (b && ltb m n) ≡ false
      first true h = refute (ltb m n) λ t. omega (arith, h refl, ltb-true m n t)
      first false h = refl

-- With no flag set nothing is ignored.
and-all : (b : Bool) → (b && true) ≡ b
and-all true = refl
and-all false = refl

module _ (g : QueryIgnoreParams) (e : g ≡ no_flags) where
  pub unflagged-area : (area : Area) (x : Stored) → listed_in_area area g x ≡ in_area area x
  unfolding listed_in_area let_through
  unflagged-area area x = ap (λ (h : QueryIgnoreParams). listed_in_area area h x) e ∙ and-all (in_area area x)

  pub unflagged-range : (range : Range3d) (x : Stored) → listed_in_range range g x ≡ in_range range x
  unfolding listed_in_range let_through
  unflagged-range range x = ap (λ (h : QueryIgnoreParams). listed_in_range range h x) e ∙ and-all (in_range range x)
