-- Laws of the bytes of components, paths, numbers and subspaces, and of the ways in which encoding a key ends.
-- Assumes nothing.
use Prim.Native.Nat.{ℕ, zero, suc, ◌+◌, ◌-◌, ◌*◌, ◌≤◌, ◌<◌, ◌/◌, ◌%◌}
use mathlib.Core.Path.{◌≡◌, refl, ap}
use mathlib.Core.List.{List, [], ◌∷◌, ◌++◌}
use mathlib.Core.Bool.{Bool, true, false, ◌&&◌}
use native.Mathlib.Omega.{arith}
use native.Mathlib.Nat.{div-one}
use native.Mathlib.Numerals.{add-one}
use lib.Dec.{leb}
use borrow.Author.Tests.{le-leb, lt-leb, leb-true}
use lib.ListN.{length, take, drop, get_or, drop_of_length-le, length-append, length-take}
use lib.Seq.{drop-cons}
use Rattle.laws.specs.Lists.{piece, put}
use Rattle.laws.proofs.Truth.{and-true}
use Rattle.data_model.specs.Path.{Figures, cut, components, legal, legal_ends}
use Rattle.data_model.specs.Said.{refuses, says}
use Rattle.keys.specs.Encode.{escaped, component_key, path_key, component_end, path_end, be, subspace_key, path_key_most, key_most, roomy, writable, encoded, encoded_in}
use Rattle.data_model.specs.Refusal.{short_buffer}
use Rattle.data_model.specs.declared.path.Path.{Path}
use Rattle.data_model.specs.declared.parameters.Subspace.{Subspace}
use Rattle.data_model.proofs.Values.{cut_at, cut-done, legal-count, legal-these}

-- A byte takes one byte or two.
pub escaped-zero : (b : ℕ) → b ≡ 0 → escaped b ≡ 0 ∷ 2 ∷ []
unfolding escaped
escaped-zero b e = rw e

pub escaped-other : (b : ℕ) → (b ≡ 0 → ⊥) → escaped b ≡ b ∷ []
unfolding escaped
escaped-other zero h = absurd (h refl)
escaped-other (suc b) h = refl

pub escaped-most : (b : ℕ) → length (escaped b) ≤ 2
unfolding escaped
escaped-most zero = omega arith
escaped-most (suc b) = omega arith

pub escaped-some : (b : ℕ) → 0 < length (escaped b)
unfolding escaped
escaped-some zero = omega arith
escaped-some (suc b) = omega arith

-- Bytes left to write: the next, and those after it; or the end.
pub component-at : (c : List ℕ) (i : ℕ) → i < length c → component_key (drop i c) ≡ escaped (get_or c i 0) ++ component_key (drop (i + 1) c)
unfolding component_key
component-at c i h = rw (drop-cons c i 0 h, add-one)

pub component-done : (c : List ℕ) (i : ℕ) → length c ≤ i → component_key (drop i c) ≡ component_end
unfolding component_key
component-done c i h = rw (drop_of_length-le c h)

pub component-most : (c : List ℕ) → length (component_key c) ≤ 2 * length c + 2
unfolding component_key
component-most [] = omega arith
component-most (b ∷ c) = simp length-append (omega (arith, component-most c, escaped-most b))

-- Components left to write: the next, and those after it; or the end.
pub path-at : (bytes : List ℕ) (from i : ℕ) (es : List ℕ) → i < length es
    → path_key (cut bytes from (drop i es)) ≡ component_key (piece from (get_or es i 0) bytes) ++ path_key (cut bytes (get_or es i 0) (drop (i + 1) es))
unfolding path_key
path-at bytes from i es h = rw (cut_at bytes from i es h)

pub path-done : (bytes : List ℕ) (from i : ℕ) (es : List ℕ) → length es ≤ i → path_key (cut bytes from (drop i es)) ≡ path_end
unfolding path_key
path-done bytes from i es h = rw (cut-done bytes from i es h)

-- A path's bytes: twice the bytes, a mark for each component and one for the path.
pub path-most : (bytes : List ℕ) (mcl mpl from : ℕ) (es : List ℕ) → legal_ends mcl mpl from es ≡ true → length (path_key (cut bytes from es)) + 2 * from ≤ 2 * mpl + 2 * length es + 2
unfolding legal_ends cut path_key
path-most bytes mcl mpl from [] h = omega (arith, leb-true from mpl h)
path-most bytes mcl mpl from (e ∷ es) h =
    let a = and-true (leb from e) (leb (e - from) mcl && legal_ends mcl mpl e es) h in
    let b = and-true (leb (e - from) mcl) (legal_ends mcl mpl e es) a.1 in
    simp length-append
    (omega (
      arith,
      leb-true from e a.0,
      path-most bytes mcl mpl e es b.1,
      component-most (piece from e bytes),
      length-take (e - from) (drop from bytes),
    ))

pub legal-most : (f : Figures) (p : Path) → legal f p ≡ true → length (path_key (components p)) ≤ path_key_most f
unfolding components
legal-most f p h =
    omega (
      arith,
      path-most p.bytes f.mcl f.mpl 0 (take p.count p.ends) (legal-these f p h),
      legal-count f p h,
      length-take p.count p.ends,
    )

-- Numbers and subspaces.
abbrev pub eight_bytes : ℕ → List ℕ
eight_bytes x = x / 0x100_0000_0000_0000 % 256 ∷ x / 0x1_0000_0000_0000 % 256 ∷ x / 0x100_0000_0000 % 256 ∷ x / 0x1_0000_0000 % 256 ∷ x / 0x100_0000 % 256 ∷ x / 0x1_0000 % 256 ∷ x / 0x100 % 256 ∷ x % 256 ∷ []

pub be-8 : (x : ℕ) → be 8 x ≡ eight_bytes x
unfolding be
be-8 x = simp (div-one x)

pub be-length : (n x : ℕ) → length (be n x) ≡ n
unfolding be
be-length zero x = refl
be-length (suc n) x = ap suc (be-length n x)

pub subspace-length : (s : Subspace) → length (subspace_key s) ≡ 16
unfolding subspace_key
subspace-length s = simp (length-append, be-length)

-- What a test before encoding says of the answer and the buffer, where it refuses; and what it says where it doesn't.
pub writable-not : (room legal : Bool) (n : ℕ) (key old : List ℕ) → refuses n ≡ writable room legal
    → (refuses n ≡ encoded room legal key) × (old ≡ encoded_in room legal key old)
unfolding writable encoded encoded_in
writable-not false legal n key old e = (cc, refl)
writable-not true false n key old e = (cc, refl)
writable-not true true n key old e = absurd (let z : ◌≡◌ {A = ℕ} 0 1 = cc in omega arith)

pub writable-so : (room legal : Bool) → says tt ≡ writable room legal → (room ≡ true) × (legal ≡ true)
unfolding writable
writable-so false legal e = absurd (let z : ◌≡◌ {A = ℕ} 0 1 = cc in omega arith)
writable-so true false e = absurd (let z : ◌≡◌ {A = ℕ} 0 1 = cc in omega arith)
writable-so true true e = (refl, refl)

module _ (f : Figures) (l : Bool) (old : List ℕ) where
  pub writable-short : length old < key_most f → refuses short_buffer ≡ writable (roomy f old) l
  unfolding roomy writable
  writable-short h = simp (lt-leb (key_most f) (length old) h) refl

  pub writable_is : key_most f ≤ length old → writable true l ≡ writable (roomy f old) l
  unfolding roomy
  writable_is h = simp (le-leb (key_most f) (length old) h) refl

pub roomy-most : (f : Figures) (old : List ℕ) → roomy f old ≡ true → key_most f ≤ length old
unfolding roomy
roomy-most f old e = leb-true (key_most f) (length old) e

-- What is written where nothing refuses.
pub encode-done : (room legal : Bool) (key old out : List ℕ) (n : ℕ) → says tt ≡ writable room legal → n ≡ length key → out ≡ put key old
    → (says n ≡ encoded room legal key) × (out ≡ encoded_in room legal key old)
unfolding encoded encoded_in
encode-done room legal key old out n e k o = let w = writable-so room legal e in simp (w.0, w.1) (ap says k, o)
