-- Components that make a path: the components of a legal path value do, and the value of components that do is legal and has them.
-- Assumes nothing.
use Prim.Native.Nat.{ℕ, zero, suc, ◌+◌, ◌-◌, ◌≤◌, min}
use mathlib.Core.Path.{◌≡◌, refl, sym, ap, ◌∙◌}
use mathlib.Core.List.{List, [], ◌∷◌, ◌++◌, append_assoc}
use mathlib.Core.Bool.{Bool, true, false, ◌&&◌}
use native.Mathlib.Omega.{arith}
use native.Mathlib.Nat.{sub-zero}
use lib.Dec.{leb, ltb}
use borrow.Author.Tests.{le-leb, leb-true, lt-ltb, ltb-true}
use lib.ListN.{length, take, drop, replicate, length-append, length-take, length-replicate}
use lib.Seq.{take_at, drop_at, get_or-drop}
use Rattle.laws.specs.Lists.{piece}
use Rattle.laws.specs.Sorted.{all}
use Rattle.laws.proofs.Truth.{clash, and-true}
use Rattle.data_model.specs.Path.{Figures, field, capacity, Component, Components, cut, components, joined, ends_from, legal_ends, legal, is_component, is_path, value_of, path_of}
use Rattle.data_model.specs.declared.path.Path.{Path}
use Rattle.data_model.proofs.Values.{ends-top, length-piece, legal-count, legal-these, ends-length}
use Rattle.key_laws.specs.Bytes.{Bytes}
use Rattle.key_laws.specs.WrittenKeys.{PathIsValue}

abbrev pub is_byte : ℕ → Bool
is_byte b = ltb b 256

pub bytes-all : (k : List ℕ) → Bytes k → all is_byte k ≡ true
unfolding all
bytes-all [] h = refl
bytes-all (b ∷ k) h = rw (lt-ltb b 256 (h 0)) (bytes-all k λ i. h (suc i))

pub bytes_take : (n : ℕ) (k : List ℕ) → Bytes k → Bytes (take n k)
bytes_take zero k h i = omega arith
bytes_take (suc n) [] h i = omega arith
bytes_take (suc n) (b ∷ k) h zero = h 0
bytes_take (suc n) (b ∷ k) h (suc i) = bytes_take n k (λ j. h (suc j)) i

pub bytes_drop : (n : ℕ) (k : List ℕ) → Bytes k → Bytes (drop n k)
bytes_drop n k h i = rw (get_or-drop n k i 0) (h (n + i))

-- At most n components, each of at most mcl bytes, room bytes in all: as reading counts down.
unfoldable pub fitting : ℕ → ℕ → ℕ → Components → Bool
fitting mcl room n [] = true
fitting mcl room zero (c ∷ cs) = false
fitting mcl room (suc n) (c ∷ cs) = leb (length c) (min mcl room) && fitting mcl (room - length c) n cs

abbrev is_short : ℕ → Component → Bool
is_short mcl c = leb (length c) mcl

-- The same as `is_path` has it.
record Fits (mcl room n : ℕ) (cs : Components) : Type 0 where
  few : length cs ≤ n
  short : all (is_short mcl) cs ≡ true
  total : length (joined cs) ≤ room

fitting-view : (mcl room n : ℕ) (cs : Components) → fitting mcl room n cs ≡ true → Fits mcl room n cs
unfolding fitting all joined
fitting-view mcl room n [] h = record { few = omega arith; short = refl; total = omega arith }
fitting-view mcl room zero (c ∷ cs) h = clash h refl
fitting-view mcl room (suc n) (c ∷ cs) h =
    let k = and-true (leb (length c) (min mcl room)) (fitting mcl (room - length c) n cs) h in
    let l : length c ≤ min mcl room = leb-true (length c) (min mcl room) k.0 in
    let r = fitting-view mcl (room - length c) n cs k.1 in
    record {
      few = omega (arith, r.few);
      short = rw (le-leb (length c) mcl (omega arith)) r.short;
      total = simp length-append (omega (arith, r.total));
    }

fitting-make : (mcl room n : ℕ) (cs : Components) → Fits mcl room n cs → fitting mcl room n cs ≡ true
unfolding fitting all joined
fitting-make mcl room n [] h = refl
fitting-make mcl room zero (c ∷ cs) h = absurd (omega (arith, h.few))
fitting-make mcl room (suc n) (c ∷ cs) h =
    let k = and-true (leb (length c) mcl) (all (is_short mcl) cs) h.short in
    let l : length c ≤ mcl = leb-true (length c) mcl k.0 in
    let t : length c + length (joined cs) ≤ room = rw length-append at h.total in
    rw (le-leb (length c) (min mcl room) (omega arith))
    (fitting-make mcl (room - length c) n cs (record { few = omega (arith, h.few); short = k.1; total = omega arith }))

-- Two tests of each element.
module _ {A : Type 0} (p q : A → Bool) where
  all-view : (l : List A) → all (λ a. p a && q a) l ≡ true → (all p l ≡ true) × (all q l ≡ true)
  unfolding all
  all-view [] e = (refl, refl)
  all-view (a ∷ l) e =
      let k = and-true (p a && q a) (all (λ a. p a && q a) l) e in
      let m = and-true (p a) (q a) k.0 in
      let r = all-view l k.1 in
      (rw m.0 r.0, rw m.1 r.1)

  all-make : (l : List A) → all p l ≡ true → all q l ≡ true → all (λ a. p a && q a) l ≡ true
  unfolding all
  all-make [] e g = refl
  all-make (a ∷ l) e g =
      let k = and-true (p a) (all p l) e in
      let m = and-true (q a) (all q l) g in
      rw (k.0, m.0) (all-make l k.1 m.1)

module _ (f : Figures) (cs : Components) where
  pub path-fits : is_path f cs ≡ true → fitting f.mcl f.mpl f.mcc cs ≡ true
  unfolding is_path is_component
  path-fits h =
      let k = and-true (leb (length cs) f.mcc) (all (is_component f) cs && leb (length (joined cs)) f.mpl) h in
      let m = and-true (all (is_component f) cs) (leb (length (joined cs)) f.mpl) k.1 in
      fitting-make f.mcl f.mpl f.mcc cs (record {
        few = leb-true (length cs) f.mcc k.0;
        short = (all-view (is_short f.mcl) (all is_byte) cs m.0).0;
        total = leb-true (length (joined cs)) f.mpl m.1;
      })

  pub fits-path : fitting f.mcl f.mpl f.mcc cs ≡ true → all (all is_byte) cs ≡ true → is_path f cs ≡ true
  unfolding is_path is_component
  fits-path h b =
      let k = fitting-view f.mcl f.mpl f.mcc cs h in
      rw (
        le-leb (length cs) f.mcc k.few,
        all-make (is_short f.mcl) (all is_byte) cs k.short b,
        le-leb (length (joined cs)) f.mpl k.total,
      )

-- Ends that are legal cut the bytes into components that fit.
cut_fits : (bytes : List ℕ) (mcl mpl : ℕ) → mpl ≤ length bytes → (from n : ℕ) (es : List ℕ) → legal_ends mcl mpl from es ≡ true → length es ≤ n
    → fitting mcl (mpl - from) n (cut bytes from es) ≡ true
unfolding legal_ends cut fitting
cut_fits bytes mcl mpl b from n [] h l = refl
cut_fits bytes mcl mpl b from zero (e ∷ es) h l = absurd (omega arith)
cut_fits bytes mcl mpl b from (suc n) (e ∷ es) h l =
    let x = and-true (leb from e) (leb (e - from) mcl && legal_ends mcl mpl e es) h in
    let y = and-true (leb (e - from) mcl) (legal_ends mcl mpl e es) x.1 in
    let top : e ≤ mpl = ends-top mcl mpl e es y.1 in
    let m : length (piece from e bytes) ≡ e - from = length-piece from e bytes (omega arith) in
    let up : from ≤ e = leb-true from e x.0 in
    let short : e - from ≤ mcl = leb-true (e - from) mcl y.0 in
    let g : leb (length (piece from e bytes)) (min mcl (mpl - from)) ≡ true = le-leb (length (piece from e bytes)) (min mcl (mpl - from)) (omega arith) in
    let r : mpl - from - length (piece from e bytes) ≡ mpl - e = omega arith in
    simp (g, r) (cut_fits bytes mcl mpl b e n es y.1 (omega arith))

cut-bytes : (bytes : List ℕ) → Bytes bytes → (from : ℕ) (es : List ℕ) → all (all is_byte) (cut bytes from es) ≡ true
unfolding cut all
cut-bytes bytes b from [] = refl
cut-bytes bytes b from (e ∷ es) =
    rw (bytes-all (piece from e bytes) (bytes_take (e - from) (drop from bytes) (bytes_drop from bytes b))) (cut-bytes bytes b e es)

legal-fitting : (f : Figures) (p : Path) → f.mpl ≤ length p.bytes → legal f p ≡ true → fitting f.mcl f.mpl f.mcc (components p) ≡ true
unfolding components
legal-fitting f p l h =
    let c = legal-count f p h in
    let es = take p.count p.ends in
    let k : length es ≤ f.mcc = omega (arith, length-take p.count p.ends) in
    rw sub-zero at (cut_fits p.bytes f.mcl f.mpl l 0 f.mcc es (legal-these f p h) k)

-- A legal path whose components are bytes is one.
pub legal-bytes : (f : Figures) (p : Path) → f.mpl ≤ length p.bytes → legal f p ≡ true → all (all is_byte) (components p) ≡ true → is_path f (components p) ≡ true
legal-bytes f p l h b = fits-path f (components p) (legal-fitting f p l h) b

pub legal-fits : (f : Figures) (p : Path) → f.mpl ≤ length p.bytes → Bytes p.bytes → legal f p ≡ true → is_path f (components p) ≡ true
unfolding components
legal-fits f p l b h = legal-bytes f p l h (cut-bytes p.bytes b 0 (take p.count p.ends))

-- The ends of components cut their bytes into them again.
cut-joined : (before after : List ℕ) (cs : Components) → cut (before ++ (joined cs ++ after)) (length before) (ends_from (length before) cs) ≡ cs
unfolding cut joined ends_from
cut-joined before after [] = refl
cut-joined before after (c ∷ cs) =
    let a : before ++ ((c ++ joined cs) ++ after) ≡ (before ++ c) ++ (joined cs ++ after)
    = ap (before ++◌) (append_assoc c (joined cs) after) ∙ sym (append_assoc before c (joined cs ++ after)) in
    let p : piece (length before) (length before + length c) (before ++ ((c ++ joined cs) ++ after)) ≡ c
    = ap (λ (x : List ℕ). take (length before + length c - length before) x)
    (drop_at before ((c ++ joined cs) ++ after) (length before) refl ∙ append_assoc c (joined cs) after)
    ∙ take_at c (joined cs ++ after) (length before + length c - length before) (omega arith) in
    let n : length (before ++ c) ≡ length before + length c = length-append before c in
    rw p
    (ap (c ∷◌)
    (ap (λ (x : List ℕ). cut x (length before + length c) (ends_from (length before + length c) cs)) a
    ∙ ap (λ (m : ℕ). cut ((before ++ c) ++ (joined cs ++ after)) m (ends_from m cs)) (sym n)
    ∙ cut-joined (before ++ c) after cs))

pub components-of : (cs : Components) → components (path_of cs) ≡ cs
unfolding components value_of path_of
components-of cs =
    ap (cut (joined cs ++ replicate (capacity.mpl - length (joined cs)) 0) 0)
    (take_at (ends_from 0 cs) (replicate (capacity.mcc - length (ends_from 0 cs)) 0) (length cs) (ends-length 0 cs))
    ∙ cut-joined [] (replicate (capacity.mpl - length (joined cs)) 0) cs

-- Components that fit have legal ends.
ends-legal : (mcl mpl from n : ℕ) (cs : Components) → from ≤ mpl → fitting mcl (mpl - from) n cs ≡ true → (legal_ends mcl mpl from (ends_from from cs) ≡ true) × (length cs ≤ n)
unfolding fitting ends_from legal_ends
ends-legal mcl mpl from n [] l h = (le-leb from mpl l, omega arith)
ends-legal mcl mpl from zero (c ∷ cs) l h = clash h refl
ends-legal mcl mpl from (suc n) (c ∷ cs) l h =
    let x = and-true (leb (length c) (min mcl (mpl - from))) (fitting mcl (mpl - from - length c) n cs) h in
    let s : length c ≤ min mcl (mpl - from) = leb-true (length c) (min mcl (mpl - from)) x.0 in
    let r : mpl - from - length c ≡ mpl - (from + length c) = omega arith in
    let y = ends-legal mcl mpl (from + length c) n cs (omega arith) (rw r at x.1) in
    let a : leb from (from + length c) ≡ true = le-leb from (from + length c) (omega arith) in
    let b : leb (from + length c - from) mcl ≡ true = le-leb (from + length c - from) mcl (omega arith) in
    (simp (a, b) y.0, omega arith)

pub legal-of : (f : Figures) (cs : Components) → is_path f cs ≡ true → legal f (path_of cs) ≡ true
unfolding legal value_of path_of
legal-of f cs h =
    let y = ends-legal f.mcl f.mpl 0 f.mcc cs (omega arith) (rw sub-zero (path-fits f cs h)) in
    rw (le-leb (length cs) f.mcc y.1, take_at (ends_from 0 cs) (replicate (capacity.mcc - length (ends_from 0 cs)) 0) (length cs) (ends-length 0 cs)) y.0

-- The value of components that make a path is one of the language.
pub all-bytes : (k : List ℕ) → all is_byte k ≡ true → Bytes k
unfolding all
all-bytes [] h i = omega arith
all-bytes (b ∷ k) h zero = ltb-true b 256 (and-true (is_byte b) (all is_byte k) h).0
all-bytes (b ∷ k) h (suc i) = all-bytes k (and-true (is_byte b) (all is_byte k) h).1 i

bytes-join : (x y : List ℕ) → all is_byte x ≡ true → all is_byte y ≡ true → all is_byte (x ++ y) ≡ true
unfolding all
bytes-join [] y a b = b
bytes-join (c ∷ x) y a b = let k = and-true (is_byte c) (all is_byte x) a in rw k.0 (bytes-join x y k.1 b)

joined_bytes : (cs : Components) → all (all is_byte) cs ≡ true → all is_byte (joined cs) ≡ true
unfolding all joined
joined_bytes [] h = refl
joined_bytes (c ∷ cs) h = let k = and-true (all is_byte c) (all (all is_byte) cs) h in bytes-join c (joined cs) k.0 (joined_bytes cs k.1)

zero-bytes : (n : ℕ) → all is_byte (replicate n 0) ≡ true
unfolding all
zero-bytes zero = refl
zero-bytes (suc n) = zero-bytes n

pub path-is-value : (cs : Components) → is_path field cs ≡ true → PathIsValue (path_of cs)
unfolding is_path is_component path_of value_of
path-is-value cs h =
    let k = and-true (leb (length cs) field.mcc) (all (is_component field) cs && leb (length (joined cs)) field.mpl) h in
    let m = and-true (all (is_component field) cs) (leb (length (joined cs)) field.mpl) k.1 in
    let n : length (joined cs) ≤ field.mpl = leb-true (length (joined cs)) field.mpl m.1 in
    let c : length cs ≤ field.mcc = leb-true (length cs) field.mcc k.0 in
    let z : List ℕ = replicate (capacity.mpl - length (joined cs)) 0 in
    record {
      room = simp (length-append, length-replicate) (omega arith);
      bytes = all-bytes (joined cs ++ z) (bytes-join (joined cs) z (joined_bytes cs (all-view (is_short field.mcl) (all is_byte) cs m.0).1) (zero-bytes (capacity.mpl - length (joined cs))));
      ends = simp (length-append, length-replicate, ends-length) (omega arith);
    }
