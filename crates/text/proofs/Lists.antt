-- Laws of tests of each element, of a store into what is written from the front, and of the part of a slice from a place on.
-- Assumes nothing.
use Prim.Native.Nat.{ℕ, zero, suc, ◌+◌, ◌-◌, ◌≤◌, ◌<◌}
use mathlib.Core.Path.{◌≡◌, refl, sym, ap, ◌∙◌}
use mathlib.Core.List.{List, [], ◌∷◌, ◌++◌}
use mathlib.Core.Bool.{Bool, true, ◌&&◌}
use Rattle.std.specs.List.{list_all}
use Rattle.std.specs.Prelude.{Option, Some, None, unwrap_or, option_map}
use native.Mathlib.Omega.{arith}
use lib.ListN.{length, take, drop, get_or, set, length-append, length-drop}
use lib.Seq.{drop-cons, set_split, take_all}
use Rattle.laws.specs.Lists.{put}
use Rattle.laws.specs.Sorted.{all}
use Rattle.laws.proofs.Truth.{and-true}
use Rattle.laws.proofs.Lists.{Wrote, wrote-more}

pub all-at : (p : ℕ → Bool) (s : List ℕ) (i : ℕ) → all p s ≡ true → i < length s → p (get_or s i 0) ≡ true
unfolding all
all-at p [] i e h = absurd (omega arith)
all-at p (b ∷ s) zero e h = (and-true (p b) (all p s) e).0
all-at p (b ∷ s) (suc i) e h = all-at p s i (and-true (p b) (all p s) e).1 (omega arith)

-- A byte is stored where the last piece ended.
pub wrote-store : (w rest old out : List ℕ) (at v : ℕ) → Wrote w (v ∷ rest) old out at → at < length out → Wrote w rest old (set out at v) (at + 1)
unfolding put
wrote-store w rest old out at v h f =
    let d : drop at out ≡ get_or out at 0 ∷ drop (suc at) out = drop-cons out at 0 f in
    let e : set out at v ≡ take at out ++ put (v ∷ []) (drop at out) = set_split out at v f ∙ ap (λ (l : List ℕ). take at out ++ v ∷ l) (sym (ap (drop 1) d)) in
    rw e (wrote-more w (v ∷ []) rest old out at h (omega arith))

-- The part of a slice from a place on.
pub rest_of : (s : List ℕ) (at : ℕ) → take (length s - at) (drop at s) ≡ drop at s
rest_of s at = take_all (length s - at) (drop at s) (simp length-drop (omega arith))

-- What a call put into a part that it was lent fits the part.
pub put-fits : (xs old new : List ℕ) → new ≡ put xs old → length new ≡ length old → length xs ≤ length old
unfolding put
put-fits xs old new e h = omega (arith, h, simp (length-append, length-drop) at (ap length e))

-- A default given before what v reads, or after it.
pub unwrap-map : {A B : Type 0} (v : A → B) (r : Option A) (d : A) → v (unwrap_or r d) ≡ unwrap_or (option_map v r) (v d)
unwrap-map v (Some x) d = refl
unwrap-map v None d = refl

-- The library's word for a test of each element.
pub all-list : {X : Type 0} (p : X → Bool) (s : List X) → list_all p s ≡ all p s
unfolding all
all-list p [] = refl
all-list p (x ∷ s) = ap (p x &&◌) (all-list p s)
