-- Laws of a path's text: what is left to write, and how long it is. Assumes nothing.
use Prim.Native.Nat.{ℕ, zero, suc, ◌+◌, ◌-◌, ◌*◌, ◌≤◌, ◌<◌}
use mathlib.Core.Path.{◌≡◌, refl, sym, ap}
use mathlib.Core.List.{List, [], ◌∷◌, ◌++◌}
use mathlib.Core.Bool.{true}
use native.Mathlib.Omega.{arith}
use native.Mathlib.Nat.{sub-zero}
use lib.ListN.{length, take, drop, get_or, length-take}
use Rattle.laws.specs.Lists.{piece}
use Rattle.data_model.specs.Path.{field, cut, components, legal, legal_ends}
use Rattle.data_model.specs.declared.path.Path.{Path}
use Rattle.data_model.proofs.Values.{cut_at, cut-done, legal-count, legal-these, ends-wider, NextEnd, next-end}
use Rattle.text.specs.Hex.{hex_text}
use Rattle.text.specs.PathField.{dash, dot, slash}
use Rattle.text.specs.PathText.{component_text, behind_text, path_text}
use Rattle.text.proofs.HexLaws.{text-length}

pub component-most : (c : List ℕ) → length (component_text c) ≤ 2 * length c + 1
unfolding component_text
component-most [] = omega arith
component-most (b ∷ c) = omega (arith, text-length (b ∷ c))

pub component-none : (c : List ℕ) → length c ≡ 0 → component_text c ≡ dot ∷ []
unfolding component_text
component-none [] h = refl
component-none (b ∷ c) h = absurd (omega arith)

pub component-some : (c : List ℕ) → (length c ≡ 0 → ⊥) → component_text c ≡ hex_text c
unfolding component_text
component-some [] h = absurd (h refl)
component-some (b ∷ c) h = refl

-- Components left to write: the next, and those after it; or none.
pub behind-at : (bytes : List ℕ) (from i : ℕ) (es : List ℕ) → i < length es
    → behind_text (cut bytes from (drop i es)) ≡ slash ∷ (component_text (piece from (get_or es i 0) bytes) ++ behind_text (cut bytes (get_or es i 0) (drop (i + 1) es)))
unfolding behind_text
behind-at bytes from i es h = rw (cut_at bytes from i es h)

pub behind-done : (bytes : List ℕ) (from i : ℕ) (es : List ℕ) → length es ≤ i → behind_text (cut bytes from (drop i es)) ≡ []
unfolding behind_text
behind-done bytes from i es h = rw (cut-done bytes from i es h)

-- The first component, and those behind it.
pub path-none : (p : Path) → p.count ≡ 0 → path_text (components p) ≡ dash ∷ []
unfolding path_text components cut
path-none p h = rw h

front_at : (es : List ℕ) (n : ℕ) → 0 < n → 0 < length es → take n es ≡ get_or es 0 0 ∷ piece 1 n es
front_at [] n h l = absurd (omega arith)
front_at (e ∷ es) zero h l = absurd (omega arith)
front_at (e ∷ es) (suc n) h l = let k : suc n - 1 ≡ n = omega arith in ap (λ (m : ℕ). e ∷ take m es) (sym k)

module _ (p : Path) (h : legal field p ≡ true) (n : 0 < p.count) (l : length p.ends ≡ 8) where
  ends-front : take p.count p.ends ≡ get_or p.ends 0 0 ∷ piece 1 p.count p.ends
  ends-front = front_at p.ends p.count n (omega arith)

  pub path-some : path_text (components p) ≡ component_text (take (get_or p.ends 0 0) p.bytes) ++ behind_text (cut p.bytes (get_or p.ends 0 0) (piece 1 p.count p.ends))
  unfolding path_text components cut
  path-some = rw (ends-front, sub-zero)

  first-end : NextEnd field.mcl field.mpl 0 0 (take p.count p.ends)
  first-end = next-end field.mcl field.mpl 0 0 (take p.count p.ends) (simp length-take (omega (arith, legal-count field p h))) (legal-these field p h)

  pub first-low : get_or p.ends 0 0 ≤ 128
  first-low = omega (arith, first-end.low, ap (λ (es : List ℕ). get_or es 0 0) ends-front)

  first_more : legal_ends 64 128 (get_or (take p.count p.ends) 0 0) (drop 1 (take p.count p.ends)) ≡ true
  first_more = first-end.more

  pub behind-legal : length p.bytes ≡ 128 → legal_ends (length p.bytes) (length p.bytes) (get_or p.ends 0 0) (piece 1 p.count p.ends) ≡ true
  behind-legal b = rw b (ends-wider 64 128 128 128 (get_or p.ends 0 0) (piece 1 p.count p.ends) (omega arith) (omega arith) (rw ends-front at first_more))
