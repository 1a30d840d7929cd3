-- Path values and their components: what legal ends cut, and the value that is handed out for components. Assumes nothing.
use Prim.Native.Nat.{ℕ, zero, suc, ◌+◌, ◌-◌, ◌≤◌, ◌<◌}
use mathlib.Core.Path.{◌≡◌, refl, sym, ap, ◌∙◌}
use mathlib.Core.List.{List, [], ◌∷◌, ◌++◌, append_assoc, append-nil}
use mathlib.Core.Bool.{true, false, ◌&&◌}
use native.Mathlib.Omega.{arith}
use native.Mathlib.Nat.{le_trans}
use native.Mathlib.Numerals.{add-one}
use lib.Dec.{leb}
use borrow.Author.Tests.{le-leb, lt-leb, leb-true}
use lib.ListN.{length, take, drop, get_or, drop_of_length-le, length-append, length-drop}
use lib.Seq.{drop-cons, length-take-le, take-take}
use Rattle.laws.specs.Lists.{piece}
use Rattle.laws.proofs.Truth.{and-true}
use Rattle.data_model.specs.Path.{Figures, cut, components, joined, ends_from, legal_ends, legal, last_end}
use Rattle.data_model.specs.declared.path.Path.{Path}

-- Of ends read one by one: what the end at i says of those from i on.
module _ (mcl mpl from i : ℕ) (es : List ℕ) (h : i < length es) where
  pub ends_low : get_or es i 0 < from → legal_ends mcl mpl from (drop i es) ≡ false
  unfolding legal_ends
  ends_low l = rw (drop-cons es i 0 h) (simp (lt-leb _ _ l))

  pub ends-long : from ≤ get_or es i 0 → mcl < get_or es i 0 - from → legal_ends mcl mpl from (drop i es) ≡ false
  unfolding legal_ends
  ends-long l g = rw (drop-cons es i 0 h) (simp (le-leb _ _ l, lt-leb _ _ g))

  pub ends-step : from ≤ get_or es i 0 → get_or es i 0 - from ≤ mcl → legal_ends mcl mpl from (drop i es) ≡ legal_ends mcl mpl (get_or es i 0) (drop (i + 1) es)
  unfolding legal_ends
  ends-step l g = rw (drop-cons es i 0 h, add-one) (simp (le-leb _ _ l, le-leb _ _ g))

pub ends-done : (mcl mpl from i : ℕ) (es : List ℕ) → length es ≤ i → legal_ends mcl mpl from (drop i es) ≡ leb from mpl
unfolding legal_ends
ends-done mcl mpl from i es h = rw (drop_of_length-le es h)

pub ends-top : (mcl mpl from : ℕ) (es : List ℕ) → legal_ends mcl mpl from es ≡ true → from ≤ mpl
unfolding legal_ends
ends-top mcl mpl from [] h = leb-true from mpl h
ends-top mcl mpl from (e ∷ es) h =
    let a = and-true (leb from e) (leb (e - from) mcl && legal_ends mcl mpl e es) h in
    le_trans (leb-true from e a.0) (ends-top mcl mpl e es (and-true (leb (e - from) mcl) (legal_ends mcl mpl e es) a.1).1)

-- Legal by some figures, legal by greater ones.
pub ends-wider : (mcl mpl mcl' mpl' from : ℕ) (es : List ℕ) → mcl ≤ mcl' → mpl ≤ mpl' → legal_ends mcl mpl from es ≡ true → legal_ends mcl' mpl' from es ≡ true
unfolding legal_ends
ends-wider mcl mpl mcl' mpl' from [] g k h = le-leb from mpl' (le_trans (leb-true from mpl h) k)
ends-wider mcl mpl mcl' mpl' from (e ∷ es) g k h =
    let a = and-true (leb from e) (leb (e - from) mcl && legal_ends mcl mpl e es) h in
    let b = and-true (leb (e - from) mcl) (legal_ends mcl mpl e es) a.1 in
    simp (a.0, le-leb (e - from) mcl' (le_trans (leb-true (e - from) mcl b.0) g)) (ends-wider mcl mpl mcl' mpl' e es g k b.1)

-- What legality of the ends from i on says of the end at i.
pub record NextEnd (mcl mpl from i : ℕ) (es : List ℕ) : Type 0 where
  pub up : from ≤ get_or es i 0
  pub short : get_or es i 0 - from ≤ mcl
  pub low : get_or es i 0 ≤ mpl
  pub more : legal_ends mcl mpl (get_or es i 0) (drop (i + 1) es) ≡ true

pub next-end : (mcl mpl from i : ℕ) (es : List ℕ) → i < length es → legal_ends mcl mpl from (drop i es) ≡ true → NextEnd mcl mpl from i es
unfolding legal_ends
next-end mcl mpl from i es h l =
    let e = get_or es i 0 in
    let r = drop (suc i) es in
    let a = and-true (leb from e) (leb (e - from) mcl && legal_ends mcl mpl e r) (rw (drop-cons es i 0 h) at l) in
    let b = and-true (leb (e - from) mcl) (legal_ends mcl mpl e r) a.1 in
    record {
      up = leb-true from e a.0;
      short = leb-true (e - from) mcl b.0;
      low = ends-top mcl mpl e r b.1;
      more = rw add-one b.1;
    }

pub cut_at : (bytes : List ℕ) (from i : ℕ) (es : List ℕ) → i < length es → cut bytes from (drop i es) ≡ piece from (get_or es i 0) bytes ∷ cut bytes (get_or es i 0) (drop (i + 1) es)
unfolding cut
cut_at bytes from i es h = rw (drop-cons es i 0 h, add-one)

pub cut-done : (bytes : List ℕ) (from i : ℕ) (es : List ℕ) → length es ≤ i → cut bytes from (drop i es) ≡ []
unfolding cut
cut-done bytes from i es h = rw (drop_of_length-le es h)

pub length-piece : (from to : ℕ) (bytes : List ℕ) → to ≤ length bytes → length (piece from to bytes) ≡ to - from
length-piece from to bytes h = length-take-le (to - from) (drop from bytes) (simp length-drop (omega arith))

module _ (f : Figures) (p : Path) (h : legal f p ≡ true) where
  pub legal-count : p.count ≤ f.mcc
  unfolding legal
  legal-count = leb-true _ _ (and-true _ _ h).0

  pub legal-these : legal_ends f.mcl f.mpl 0 (take p.count p.ends) ≡ true
  unfolding legal
  legal-these = (and-true (leb p.count f.mcc) _ h).1

-- One more component.
pub joined-more : (cs : List (List ℕ)) (c : List ℕ) → joined (cs ++ c ∷ []) ≡ joined cs ++ c
unfolding joined
joined-more [] c = append-nil c
joined-more (d ∷ cs) c = ap (d ++◌) (joined-more cs c) ∙ sym (append_assoc d (joined cs) c)

pub ends_more : (from : ℕ) (cs : List (List ℕ)) (c : List ℕ) → ends_from from (cs ++ c ∷ []) ≡ ends_from from cs ++ (from + length (joined cs) + length c) ∷ []
unfolding joined ends_from
ends_more from [] c = ap (λ (n : ℕ). n ∷ []) (omega arith)
ends_more from (d ∷ cs) c =
    ap ((from + length d) ∷◌)
    (ends_more (from + length d) cs c
    ∙ ap (λ (n : ℕ). ends_from (from + length d) cs ++ n ∷ []) (omega (arith, length-append d (joined cs))))

pub ends-length : (from : ℕ) (cs : List (List ℕ)) → length (ends_from from cs) ≡ length cs
unfolding ends_from
ends-length from [] = refl
ends-length from (c ∷ cs) = ap suc (ends-length (from + length c) cs)

pub cut-length : (bytes : List ℕ) (from : ℕ) (es : List ℕ) → length (cut bytes from es) ≡ length es
unfolding cut
cut-length bytes from [] = refl
cut-length bytes from (e ∷ es) = ap suc (cut-length bytes e es)

pub cut-take : (n : ℕ) (bytes : List ℕ) (from : ℕ) (es : List ℕ) → take n (cut bytes from es) ≡ cut bytes from (take n es)
unfolding cut
cut-take zero bytes from es = refl
cut-take (suc n) bytes from [] = refl
cut-take (suc n) bytes from (e ∷ es) = ap (piece from e bytes ∷◌) (cut-take n bytes e es)

pub components-length : (p : Path) → p.count ≤ length p.ends → length (components p) ≡ p.count
unfolding components
components-length p n = cut-length p.bytes 0 (take p.count p.ends) ∙ length-take-le p.count p.ends n

-- The ends of a legal path cut its bytes within them.
pub legal-within : (f : Figures) (p : Path) → legal f p ≡ true → f.mcl ≤ length p.bytes → f.mpl ≤ length p.bytes
    → legal_ends (length p.bytes) (length p.bytes) 0 (take p.count p.ends) ≡ true
legal-within f p h c b = ends-wider f.mcl f.mpl (length p.bytes) (length p.bytes) 0 (take p.count p.ends) c b (legal-these f p h)

-- Fewer ends are legal too.
pub ends-fewer : (mcl mpl from n : ℕ) (es : List ℕ) → legal_ends mcl mpl from es ≡ true → legal_ends mcl mpl from (take n es) ≡ true
unfolding legal_ends
ends-fewer mcl mpl from zero es h = le-leb from mpl (ends-top mcl mpl from es h)
ends-fewer mcl mpl from (suc n) [] h = h
ends-fewer mcl mpl from (suc n) (e ∷ es) h =
    let a = and-true (leb from e) (leb (e - from) mcl && legal_ends mcl mpl e es) h in
    let b = and-true (leb (e - from) mcl) (legal_ends mcl mpl e es) a.1 in
    simp (a.0, b.0) (ends-fewer mcl mpl e n es b.1)

pub ends-take : (mcl mpl from m n : ℕ) (es : List ℕ) → m ≤ n → legal_ends mcl mpl from (take n es) ≡ true → legal_ends mcl mpl from (take m es) ≡ true
ends-take mcl mpl from m n es l h = rw (take-take m n es l) at (ends-fewer mcl mpl from m (take n es) h)

-- The last of legal ends is neither below where they begin nor above the total.
pub last_within : (mcl mpl from : ℕ) (es : List ℕ) → legal_ends mcl mpl from es ≡ true → (from ≤ last_end from es) × (last_end from es ≤ mpl)
unfolding legal_ends last_end
last_within mcl mpl from [] h = (omega arith, leb-true from mpl h)
last_within mcl mpl from (e ∷ es) h =
    let a = and-true (leb from e) (leb (e - from) mcl && legal_ends mcl mpl e es) h in
    let b = and-true (leb (e - from) mcl) (legal_ends mcl mpl e es) a.1 in
    let r = last_within mcl mpl e es b.1 in
    (omega (arith, leb-true from e a.0, r.0), r.1)
