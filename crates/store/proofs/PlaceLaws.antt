-- The place of the first of a list that a test holds of: it is there, or none is. Assumes nothing.
use Prim.Native.Nat.{ℕ, ◌<◌}
use mathlib.Core.Path.{◌≡◌}
use mathlib.Core.Bool.{Bool, false}
use native.Mathlib.Omega.{arith}
use lib.ListN.{length}
use lib.Dec.{ltb}
use mathlib.Core.List.{List}
use borrow.Author.Tests.{ltb-true, ltb-false}
use Rattle.std.proofs.Common.{Some, None}
use Rattle.laws.specs.Sorted.{any}
use Rattle.laws.proofs.Truth.{split}
use Rattle.layout.specs.Marks.{marks_of, first_mark}
use Rattle.layout.proofs.MarkLaws.{first-none}
use Rattle.tree.specs.Stored.{Stored}
use Rattle.store.specs.Change.{first_place}

module _ (p : Stored → Bool) (l : List Stored) where
  abbrev at : ℕ
  at = first_mark (marks_of p l)

  pub place-none : None ≡ first_place p l → any p l ≡ false
  place-none e = split (ltb at (length l))
      (λ q. absurd (let w : None ≡ Some at = rw q at e in let z : ◌≡◌ {A = ℕ} 0 1 = cc in omega arith))
      (λ q. first-none p l (ltb-false at (length l) q))

  pub place-some : (k : ℕ) → Some k ≡ first_place p l → (k < length l) × (k ≡ at)
  place-some k e = split (ltb at (length l))
      (λ q.
      let w : Some k ≡ Some at = rw q at e in
      let g : k ≡ at = cc in
      let h = ltb-true at (length l) q in
      (omega arith, g))
      (λ q. absurd (let w : Some k ≡ None = rw q at e in let z : ◌≡◌ {A = ℕ} 0 1 = cc in omega arith))
