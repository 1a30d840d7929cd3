-- Key bytes compare as the triples do. Each part of a key is an ordered code: where two codes differ, they differ before either ends.
-- Assumes nothing.
use Prim.Native.Nat.{ℕ, zero, suc, ◌+◌, ◌*◌, ◌/◌, ◌%◌, ◌^◌, ◌<◌}
use mathlib.Core.Path.{◌≡◌, refl, sym, ap, ap₂, ◌∙◌}
use mathlib.Core.List.{List, [], ◌∷◌, ◌++◌, append_assoc, append-nil}
use native.Mathlib.Omega.{arith}
use native.Mathlib.Nat.{mul-le-mul_right, mod-eq_of_lt, mod-lt, one-le-pow, pow-succ', pow-zero, mod-one}
use lib.Arith.{mod-mul}
use Rattle.laws.specs.Order.{Order, less, same, greater, ◌then◌, by_number, by_elements}
use Rattle.laws.proofs.Order.{then-assoc, then-end, then_less, then_same, then-greater, then-same-view, number-less, number_same, number-greater, Tri, under, equal, over, tri, number-linear, list-linear}
use Rattle.data_model.specs.Path.{Component, Components, by_bytes, by_components}
use Rattle.data_model.specs.Subspace.{by_subspace}
use Rattle.keys.specs.Encode.{escaped, component_key, path_key, be, subspace_key, Triple, spt_key, tsp_key}
use Rattle.key_laws.specs.KeyOrder.{Sized, spt_order, tsp_order}

-- A code is ordered if comparing two codes, whatever follows each, compares what they stand for and then what follows.
abbrev pub Ordered : {A : Type 0} → (A → List ℕ) → (A → A → Order) → A → A → Type 0
Ordered code o a b = (r s : List ℕ) → by_bytes (code a ++ r) (code b ++ s) ≡ o a b then by_bytes r s

-- With nothing behind them ordered codes compare as what they stand for.
ordered_end : {A : Type 0} (code : A → List ℕ) (o : A → A → Order) (a b : A) → Ordered code o a b → by_bytes (code a) (code b) ≡ o a b
unfolding by_elements
ordered_end code o a b h = ap₂ by_bytes (sym (append-nil (code a))) (sym (append-nil (code b))) ∙ h [] [] ∙ then-end (o a b)

-- One ordered code behind another.
ordered-pair : {A B : Type 0} (code : A → List ℕ) (o : A → A → Order) (code' : B → List ℕ) (p : B → B → Order) (a b : A) (x y : B) → Ordered code o a b → Ordered code' p x y
    → (r s : List ℕ) → by_bytes ((code a ++ code' x) ++ r) ((code b ++ code' y) ++ s) ≡ (o a b then p x y) then by_bytes r s
ordered-pair code o code' p a b x y h k r s =
    ap₂ by_bytes (append_assoc (code a) (code' x) r) (append_assoc (code b) (code' y) s)
    ∙ h (code' x ++ r) (code' y ++ s)
    ∙ ap (o a b then◌) (k r s)
    ∙ sym (then-assoc (o a b) (p x y) (by_bytes r s))

-- Components: an escaped byte 00 is above the component's end and below all other bytes.
zero-less : (b : ℕ) (o : Order) → by_number 0 (suc b) then o ≡ less
zero-less b o = then_less (by_number 0 (suc b)) o (number-less 0 (suc b) (omega arith))

zero-greater : (a : ℕ) (o : Order) → by_number (suc a) 0 then o ≡ greater
zero-greater a o = then-greater (by_number (suc a) 0) o (number-greater (suc a) 0 (omega arith))

pub component-ordered : (c d : Component) → Ordered component_key by_bytes c d
unfolding component_key escaped by_elements by_number
component-ordered [] [] r s = refl
component-ordered [] (zero ∷ d) r s = refl
component-ordered [] (suc b ∷ d) r s = zero-less b _
component-ordered (zero ∷ c) [] r s = refl
component-ordered (suc a ∷ c) [] r s = zero-greater a _
component-ordered (zero ∷ c) (zero ∷ d) r s = component-ordered c d r s
component-ordered (zero ∷ c) (suc b ∷ d) r s = zero-less b _ ∙ sym (ap (λ (o : Order). o then by_bytes r s) (zero-less b (by_bytes c d)))
component-ordered (suc a ∷ c) (zero ∷ d) r s = zero-greater a _ ∙ sym (ap (λ (o : Order). o then by_bytes r s) (zero-greater a (by_bytes c d)))
component-ordered (suc a ∷ c) (suc b ∷ d) r s = ap (by_number (suc a) (suc b) then◌) (component-ordered c d r s) ∙ sym (then-assoc (by_number (suc a) (suc b)) (by_bytes c d) (by_bytes r s))

-- Paths: the end of a path is below the beginning of any component.
end-less : (c r s : List ℕ) → by_bytes (0 ∷ 0 ∷ r) (component_key c ++ s) ≡ less
unfolding component_key escaped by_elements by_number
end-less [] r s = refl
end-less (zero ∷ c) r s = refl
end-less (suc b ∷ c) r s = zero-less b _

end-greater : (c r s : List ℕ) → by_bytes (component_key c ++ r) (0 ∷ 0 ∷ s) ≡ greater
unfolding component_key escaped by_elements by_number
end-greater [] r s = refl
end-greater (zero ∷ c) r s = refl
end-greater (suc b ∷ c) r s = zero-greater b _

pub path-ordered : (cs ds : Components) → Ordered path_key by_components cs ds
unfolding path_key by_elements
path-ordered [] [] r s = ap (λ (o : Order). o then o then by_bytes r s) (number_same 0 0 refl)
path-ordered [] (d ∷ ds) r s = ap (by_bytes (0 ∷ 0 ∷ r)) (append_assoc (component_key d) (path_key ds) s) ∙ end-less d r (path_key ds ++ s)
path-ordered (c ∷ cs) [] r s = ap (λ (k : List ℕ). by_bytes k (0 ∷ 0 ∷ s)) (append_assoc (component_key c) (path_key cs) r) ∙ end-greater c (path_key cs ++ r) s
path-ordered (c ∷ cs) (d ∷ ds) r s = ordered-pair component_key by_bytes path_key by_components c d cs ds (component-ordered c d) (path-ordered cs ds) r s

-- Numbers: by the greatest byte, then by the others.
digits-order : (p h k x y : ℕ) → x < p → y < p → by_number (h * p + x) (k * p + y) ≡ by_number h k then by_number x y
digits-order p h k x y a b = go (tri h k) (tri x y)
  where
    go : Tri h k → Tri x y → by_number (h * p + x) (k * p + y) ≡ by_number h k then by_number x y
    go (under l) t = number-less (h * p + x) (k * p + y) (omega (arith, mul-le-mul_right p l)) ∙ sym (then_less (by_number h k) (by_number x y) (number-less h k l))
    go (over l) t = number-greater (h * p + x) (k * p + y) (omega (arith, mul-le-mul_right p l)) ∙ sym (then-greater (by_number h k) (by_number x y) (number-greater h k l))
    go (equal e) (under l) = number-less (h * p + x) (k * p + y) (rw e (omega arith)) ∙ sym (then_same (by_number h k) (by_number x y) (number_same h k e) ∙ number-less x y l)
    go (equal e) (equal f) = number_same (h * p + x) (k * p + y) (rw (e, f)) ∙ sym (then_same (by_number h k) (by_number x y) (number_same h k e) ∙ number_same x y f)
    go (equal e) (over l) = number-greater (h * p + x) (k * p + y) (rw e (omega arith)) ∙ sym (then_same (by_number h k) (by_number x y) (number_same h k e) ∙ number-greater x y l)

be-order : (n x y : ℕ) (r s : List ℕ) → by_bytes (be n x ++ r) (be n y ++ s) ≡ by_number (x % 256 ^ n) (y % 256 ^ n) then by_bytes r s
unfolding be by_elements
be-order zero x y r s = sym (then_same (by_number (x % 256 ^ 0) (y % 256 ^ 0)) (by_bytes r s) (number_same (x % 256 ^ 0) (y % 256 ^ 0) (rw (pow-zero, mod-one, mod-one))))
be-order (suc n) x y r s =
    let p = 256 ^ n in
    let pos : 0 < p = one-le-pow n 256 (omega arith) in
    let split : (z : ℕ) → z % 256 ^ suc n ≡ (z / p % 256) * p + z % p = λ z. ap (z %◌) (pow-succ' 256 n) ∙ mod-mul z (omega arith) pos in
    ap (by_number (x / p % 256) (y / p % 256) then◌) (be-order n x y r s)
    ∙ sym (then-assoc (by_number (x / p % 256) (y / p % 256)) (by_number (x % p) (y % p)) (by_bytes r s))
    ∙ sym (ap (λ (o : Order). o then by_bytes r s)
    (ap₂ by_number (split x) (split y)
    ∙ digits-order p (x / p % 256) (y / p % 256) (x % p) (y % p) (mod-lt x pos) (mod-lt y pos)))

pub number-ordered : (x y : ℕ) → x < 2 ^ 64 → y < 2 ^ 64 → Ordered (be 8) by_number x y
number-ordered x y h k r s =
    be-order 8 x y r s
    ∙ ap (λ (o : Order). o then by_bytes r s) (ap₂ by_number (mod-eq_of_lt {m = 256 ^ 8} h) (mod-eq_of_lt {m = 256 ^ 8} k))

-- Key bytes compare as the triples do.
module _ (a b : Triple) (h : Sized a) (k : Sized b) where
  subspace-ordered : Ordered subspace_key by_subspace a.subspace b.subspace
  unfolding subspace_key by_subspace
  subspace-ordered = ordered-pair (be 8) by_number (be 8) by_number a.subspace.high b.subspace.high a.subspace.low b.subspace.low
      (number-ordered a.subspace.high b.subspace.high h.high k.high)
      (number-ordered a.subspace.low b.subspace.low h.low k.low)

  time-ordered : Ordered (be 8) by_number a.timestamp b.timestamp
  time-ordered = number-ordered a.timestamp b.timestamp h.time k.time

  pub spt-ordered : by_bytes (spt_key a) (spt_key b) ≡ spt_order a b
  unfolding spt_key spt_order
  spt-ordered =
      subspace-ordered (path_key a.path ++ be 8 a.timestamp) (path_key b.path ++ be 8 b.timestamp)
      ∙ ap (by_subspace a.subspace b.subspace then◌)
      (path-ordered a.path b.path (be 8 a.timestamp) (be 8 b.timestamp)
      ∙ ap (by_components a.path b.path then◌) (ordered_end (be 8) by_number a.timestamp b.timestamp time-ordered))

  pub tsp-ordered : by_bytes (tsp_key a) (tsp_key b) ≡ tsp_order a b
  unfolding tsp_key tsp_order
  tsp-ordered =
      time-ordered (subspace_key a.subspace ++ path_key a.path) (subspace_key b.subspace ++ path_key b.path)
      ∙ ap (by_number a.timestamp b.timestamp then◌)
      (subspace-ordered (path_key a.path) (path_key b.path)
      ∙ ap (by_subspace a.subspace b.subspace then◌) (ordered_end path_key by_components a.path b.path (path-ordered a.path b.path)))

  -- Equal keys are keys of equal triples.
  same_parts : by_subspace a.subspace b.subspace ≡ same → by_components a.path b.path ≡ same → by_number a.timestamp b.timestamp ≡ same → a ≡ b
  unfolding by_subspace
  same_parts s p t =
      let n = then-same-view (by_number a.subspace.high b.subspace.high) (by_number a.subspace.low b.subspace.low) s in
      let hi : a.subspace.high ≡ b.subspace.high = number-linear.equal a.subspace.high b.subspace.high n.0 in
      let lo : a.subspace.low ≡ b.subspace.low = number-linear.equal a.subspace.low b.subspace.low n.1 in
      let pa : a.path ≡ b.path = (list-linear by_bytes (list-linear by_number number-linear)).equal a.path b.path p in
      let ti : a.timestamp ≡ b.timestamp = number-linear.equal a.timestamp b.timestamp t in
      λ i. record { subspace = record { high = hi i; low = lo i }; path = pa i; timestamp = ti i }

  pub spt-apart : spt_key a ≡ spt_key b → a ≡ b
  unfolding spt_order
  spt-apart e =
      let o : spt_order a b ≡ same = sym spt-ordered ∙ ap (λ (x : List ℕ). by_bytes x (spt_key b)) e ∙ (list-linear by_number number-linear).self (spt_key b) in
      let x = then-same-view (by_subspace a.subspace b.subspace) (by_components a.path b.path then by_number a.timestamp b.timestamp) o in
      let y = then-same-view (by_components a.path b.path) (by_number a.timestamp b.timestamp) x.1 in
      same_parts x.0 y.0 y.1

  pub tsp-apart : tsp_key a ≡ tsp_key b → a ≡ b
  unfolding tsp_order
  tsp-apart e =
      let o : tsp_order a b ≡ same = sym tsp-ordered ∙ ap (λ (x : List ℕ). by_bytes x (tsp_key b)) e ∙ (list-linear by_number number-linear).self (tsp_key b) in
      let x = then-same-view (by_number a.timestamp b.timestamp) (by_subspace a.subspace b.subspace then by_components a.path b.path) o in
      let y = then-same-view (by_subspace a.subspace b.subspace) (by_components a.path b.path) x.1 in
      same_parts y.0 y.1 x.0
