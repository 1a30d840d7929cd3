-- A record put in at the place that a test counts is an insertion by the test. Assumes nothing.
use mathlib.Core.Path.{◌≡◌, refl, ap}
use mathlib.Core.List.Memᴰ.{head as here}
use mathlib.Core.List.Memᴰ.{tail as there}
use mathlib.Core.List.{List, [], ◌∷◌}
use mathlib.Core.Bool.{Bool, true, false}
use Prim.Native.Nat.{ℕ}
use lib.ListN.{length}
use Rattle.laws.specs.Sorted.{◌∈◌, keep, insert, Ascends}
use Rattle.laws.proofs.Truth.{split, clash, refute}
use Rattle.layout.specs.Layout.{inserted}

pub keep-none : {A : Type 0} (p : A → Bool) (l : List A) → ((x : A) → x ∈ l → p x ≡ false) → keep p l ≡ []
unfolding keep
keep-none p [] h = refl
keep-none p (a ∷ l) h = rw (h a (here refl)) (keep-none p l λ x m. h x (there m))

module _ (test : List ℕ → List ℕ → Bool) (trans : (a b c : List ℕ) → test a b ≡ true → test b c ≡ true → test a c ≡ true)
    (irrefl : (a : List ℕ) → test a a ≡ false) (r : List ℕ) where
  -- What is not below it is above it.
  pub inserted-insert : (l : List (List ℕ)) → Ascends test l → ((x : List ℕ) → x ∈ l → test x r ≡ false → test r x ≡ true)
      → inserted (length (keep (λ (x : List ℕ). test x r) l)) r l ≡ insert test r l
  unfolding Ascends keep insert
  inserted-insert [] s apart = refl
  inserted-insert (a ∷ l) s apart =
      let ih : inserted (length (keep (λ (x : List ℕ). test x r) l)) r l ≡ insert test r l = inserted-insert l s.1 λ x m. apart x (there m) in
      split (test a r)
      (λ q.
      let f : test r a ≡ false = refute (test r a) (λ e. clash (trans a r a q e) (irrefl a)) in
      rw (q, f) (ap (a ∷◌) ih))
      (λ q.
      let t : test r a ≡ true = apart a (here refl) q in
      let n : keep (λ (x : List ℕ). test x r) l ≡ [] = keep-none (λ (x : List ℕ). test x r) l (λ x m. refute (test x r) (λ e. clash (trans a x r (s.0 x m) e) q)) in
      rw (q, t, n) refl)
