-- A path's bytes, one at a time: reading a path comes to the same as this walk, which judges the figures of the whole path at its end.
-- Assumes nothing.
use Prim.Native.Nat.{ℕ, zero, suc, ◌+◌, ◌-◌, ◌≤◌, ◌<◌, min}
use mathlib.Core.Path.{◌≡◌, refl, sym, ap, ap₂, ◌∙◌}
use mathlib.Core.List.{List, [], ◌∷◌}
use mathlib.Core.Bool.{Bool, true, false, ◌&&◌}
use native.Mathlib.Omega.{arith}
use lib.Dec.{eqb, leb}
use borrow.Author.Tests.{ne_eqb, le-leb, lt-leb}
use lib.ListN.{length, drop}
use Rattle.laws.proofs.Truth.{split, clash}
use Rattle.keys.specs.Encode.{escaped}
use Rattle.keys.specs.Decode.{Taken, refused, took, more, bind, mark, token_of, ends_path, read_component, read_components}
use Rattle.keys.specs.Judge.{takes}
use Rattle.keys.proofs.Reading.{step_component, component-step}
use Rattle.keys.proofs.Walking.{path-ends, path-stops}

pub none_after : (a : Bool) {b : Bool} → b ≡ false → (a && b) ≡ false
none_after true e = e
none_after false e = refl

module _ (mcl room most end : ℕ) where
  -- Whether a path that is read on from here ends at `end`, within the figures. `cut`: the byte before is a 00 that begins a mark. So far there are
  -- m bytes of a component, t bytes of all components, and e components that ended.
  abbrev pub runs : (cut : Bool) (at m t e : ℕ) → List ℕ → Bool
  runs cut at m t e [] = false
  runs false at m t e (suc b ∷ k) = leb (m + 1) mcl && runs false (at + 1) (m + 1) (t + 1) e k
  runs false at m t e (zero ∷ k) = runs true (at + 1) m t e k
  runs true at m t e (zero ∷ k) = eqb m 0 && (eqb (at + 1) end && (leb t room && leb e most))
  runs true at m t e (suc zero ∷ k) = runs false (at + 1) 0 t (e + 1) k
  runs true at m t e (suc (suc zero) ∷ k) = leb (m + 1) mcl && runs false (at + 1) (m + 1) (t + 1) e k
  runs true at m t e (suc (suc (suc b)) ∷ k) = false

  -- Too many bytes, or too many components, of which one has begun.
  data Over (m t e : ℕ) : Type 0 where
    bytes_over : room < t → Over m t e
    components_over : most < e → Over m t e
    begun_over : most ≤ e → 0 < m → Over m t e

  over-byte : (m t e : ℕ) → Over m t e → Over (m + 1) (t + 1) e
  over-byte m t e (bytes_over h) = bytes_over (omega arith)
  over-byte m t e (components_over h) = components_over h
  over-byte m t e (begun_over h g) = begun_over h (omega arith)

  over-end : (m t e : ℕ) → Over m t e → Over 0 t (e + 1)
  over-end m t e (bytes_over h) = bytes_over h
  over-end m t e (components_over h) = components_over (omega arith)
  over-end m t e (begun_over h g) = components_over (omega arith)

  over-close : (at m t e : ℕ) → Over m t e → (eqb m 0 && (eqb (at + 1) end && (leb t room && leb e most))) ≡ false
  over-close at m t e (bytes_over h) = rw (lt-leb t room h) (none_after (eqb m 0) (none_after (eqb (at + 1) end) refl))
  over-close at m t e (components_over h) = none_after (eqb m 0) (none_after (eqb (at + 1) end) (none_after (leb t room) (lt-leb e most h)))
  over-close at m t e (begun_over h g) = rw (ne_eqb m 0 (λ z. omega arith))

  over : (cut : Bool) (at m t e : ℕ) (k : List ℕ) → Over m t e → runs cut at m t e k ≡ false
  over true at m t e [] o = refl
  over false at m t e [] o = refl
  over false at m t e (suc b ∷ k) o = none_after (leb (m + 1) mcl) (over false (at + 1) (m + 1) (t + 1) e k (over-byte m t e o))
  over false at m t e (zero ∷ k) o = over true (at + 1) m t e k o
  over true at m t e (zero ∷ k) o = over-close at m t e o
  over true at m t e (suc zero ∷ k) o = over false (at + 1) 0 t (e + 1) k (over-end m t e o)
  over true at m t e (suc (suc zero) ∷ k) o = none_after (leb (m + 1) mcl) (over false (at + 1) (m + 1) (t + 1) e k (over-byte m t e o))
  over true at m t e (suc (suc (suc b)) ∷ k) o = refl

  -- A path takes two bytes at least.
  abbrev width : Bool → ℕ
  width true = 1
  width false = 2

  pub short : (cut : Bool) (at m t e : ℕ) (k : List ℕ) → end < at + width cut → runs cut at m t e k ≡ false
  short true at m t e [] g = refl
  short false at m t e [] g = refl
  short false at m t e (suc b ∷ k) g = none_after (leb (m + 1) mcl) (short false (at + 1) (m + 1) (t + 1) e k (omega arith))
  short false at m t e (zero ∷ k) g = short true (at + 1) m t e k (omega arith)
  short true at m t e (zero ∷ k) g = rw (ne_eqb (at + 1) end (λ z. omega arith)) (none_after (eqb m 0) refl)
  short true at m t e (suc zero ∷ k) g = short false (at + 1) 0 t (e + 1) k (omega arith)
  short true at m t e (suc (suc zero) ∷ k) g = none_after (leb (m + 1) mcl) (short false (at + 1) (m + 1) (t + 1) e k (omega arith))
  short true at m t e (suc (suc (suc b)) ∷ k) g = refl

  -- Whether what is read from a place on ends at `end`.
  abbrev lands : {A : Type 0} → ℕ → Taken A → Bool
  lands at refused = false
  lands at (took a u) = eqb (at + u) end

  lands-more : {A : Type 0} (f : A → A) (n at : ℕ) (t : Taken A) → lands at (more f n t) ≡ lands (at + n) t
  unfolding more
  lands-more f n at refused = refl
  lands-more f n at (took a u) = ap (λ (i : ℕ). eqb i end) (omega arith)

  -- The same of a component and the p components at most that follow, with r bytes at most in all.
  abbrev onward : (p at r : ℕ) → Taken (List ℕ) → List ℕ → Bool
  onward p at r refused k = false
  onward p at r (took c u) k = lands (at + u) (read_components mcl (r - length c) p (drop u k))

  onward-is : (p at r : ℕ) (t : Taken (List ℕ)) (k : List ℕ)
      → onward p at r t k ≡ lands at (bind t (λ c u. more (c ∷◌) u (read_components mcl (r - length c) p (drop u k))))
  unfolding bind
  onward-is p at r refused k = refl
  onward-is p at r (took c u) k = sym (lands-more (c ∷◌) u at (read_components mcl (r - length c) p (drop u k)))

  onward-1 : (p at r b x : ℕ) (t : Taken (List ℕ)) (k : List ℕ) → onward p (at + 1) (r - 1) t k ≡ onward p at r (more (b ∷◌) 1 t) (x ∷ k)
  unfolding more
  onward-1 p at r b x refused k = refl
  onward-1 p at r b x (took c u) k =
      let i : at + 1 + u ≡ at + (1 + u) = omega arith in
      let j : r - 1 - length c ≡ r - suc (length c) = omega arith in
      let n : suc u ≡ 1 + u = omega arith in
      ap₂ (λ (i : ℕ) (r : ℕ). lands i (read_components mcl r p (drop u k))) i j
      ∙ ap (λ (n : ℕ). lands (at + (1 + u)) (read_components mcl (r - suc (length c)) p (drop n (x ∷ k)))) n

  onward-2 : (p at r b x y : ℕ) (t : Taken (List ℕ)) (k : List ℕ) → onward p (at + 1 + 1) (r - 1) t k ≡ onward p at r (more (b ∷◌) 2 t) (x ∷ y ∷ k)
  unfolding more
  onward-2 p at r b x y refused k = refl
  onward-2 p at r b x y (took c u) k =
      let i : at + 1 + 1 + u ≡ at + (2 + u) = omega arith in
      let j : r - 1 - length c ≡ r - suc (length c) = omega arith in
      let n : suc (suc u) ≡ 2 + u = omega arith in
      ap₂ (λ (i : ℕ) (r : ℕ). lands i (read_components mcl r p (drop u k))) i j
      ∙ ap (λ (n : ℕ). lands (at + (2 + u)) (read_components mcl (r - suc (length c)) p (drop n (x ∷ y ∷ k)))) n

  -- A byte more than a component or the path may have.
  full : (at m t e r : ℕ) (k : List ℕ) → 0 ≡ min (mcl - m) r → t + r ≡ room → (leb (m + 1) mcl && runs false at (m + 1) (t + 1) e k) ≡ false
  full at m t e zero k l h = none_after (leb (m + 1) mcl) (over false at (m + 1) (t + 1) e k (bytes_over (omega arith)))
  full at m t e (suc r) k l h = rw (lt-leb (m + 1) mcl (omega arith))

  module _ (p e : ℕ) (later : (at t r : ℕ) (k : List ℕ) → t + r ≡ room → runs false at 0 t (e + 1) k ≡ lands at (read_components mcl r p k)) where
    -- Within a component: m bytes of it were read.
    inside : (lim at m t r : ℕ) (k : List ℕ) → (eqb m 0 && ends_path (token_of k)) ≡ false → lim ≡ min (mcl - m) r → t + r ≡ room
        → runs false at m t e k ≡ onward p at r (step_component lim k (token_of k)) k
    unfolding token_of mark ends_path escaped
    inside lim at m t r [] f l h = refl
    inside zero at m t r (suc b ∷ k) f l h = full (at + 1) m t e r k l h
    inside (suc lim) at m t r (suc b ∷ k) f l h =
        ap (◌&& runs false (at + 1) (m + 1) (t + 1) e k) (le-leb (m + 1) mcl (omega arith))
        ∙ inside lim (at + 1) (m + 1) (t + 1) (r - 1) k (rw (ne_eqb (m + 1) 0 (λ z. omega arith))) (omega arith) (omega arith)
        ∙ ap (λ (x : Taken (List ℕ)). onward p (at + 1) (r - 1) x k) (sym (component-step lim k))
        ∙ onward-1 p at r (suc b) (suc b) (read_component lim k) k
    inside lim at m t r (zero ∷ []) f l h = refl
    inside lim at m t r (zero ∷ zero ∷ k) f l h = rw (all_here (eqb m 0) ∙ f)
      where
        all_here : (b : Bool) → b ≡ (b && true)
        all_here true = refl
        all_here false = refl
    inside lim at m t r (zero ∷ suc zero ∷ k) f l h =
        let i : at + 1 + 1 ≡ at + 2 = omega arith in
        let j : r ≡ r - 0 = omega arith in
        later (at + 1 + 1) t r k h ∙ ap₂ (λ (i : ℕ) (r : ℕ). lands i (read_components mcl r p k)) i j
    inside zero at m t r (zero ∷ suc (suc zero) ∷ k) f l h = full (at + 1 + 1) m t e r k l h
    inside (suc lim) at m t r (zero ∷ suc (suc zero) ∷ k) f l h =
        ap (◌&& runs false (at + 1 + 1) (m + 1) (t + 1) e k) (le-leb (m + 1) mcl (omega arith))
        ∙ inside lim (at + 1 + 1) (m + 1) (t + 1) (r - 1) k (rw (ne_eqb (m + 1) 0 (λ z. omega arith))) (omega arith) (omega arith)
        ∙ ap (λ (x : Taken (List ℕ)). onward p (at + 1 + 1) (r - 1) x k) (sym (component-step lim k))
        ∙ onward-2 p at r 0 0 2 (read_component lim k) k
    inside lim at m t r (zero ∷ suc (suc (suc b)) ∷ k) f l h = refl

  -- Where the path ends, and where no further component may begin.
  closing : (at t e r : ℕ) → t + r ≡ room → e ≤ most → (eqb (at + 1 + 1) end && (leb t room && leb e most)) ≡ eqb (at + 2) end
  closing at t e r h g =
      let i : at + 1 + 1 ≡ at + 2 = omega arith in
      and-all (eqb (at + 1 + 1) end) (leb t room) (leb e most) (le-leb t room (omega arith)) (le-leb e most g) ∙ ap (λ (i : ℕ). eqb i end) i
    where
      and-all : (a b c : Bool) → b ≡ true → c ≡ true → (a && (b && c)) ≡ a
      and-all true b c x y = ap₂ ◌&&◌ x y
      and-all false b c x y = refl

  ends-here : (at t e r : ℕ) (k : List ℕ) → ends_path (token_of k) ≡ true → t + r ≡ room → e ≤ most → runs false at 0 t e k ≡ eqb (at + 2) end
  unfolding token_of mark ends_path
  ends-here at t e r [] q h g = clash q refl
  ends-here at t e r (suc b ∷ k) q h g = clash q refl
  ends-here at t e r (zero ∷ []) q h g = clash q refl
  ends-here at t e r (zero ∷ zero ∷ k) q h g = closing at t e r h g
  ends-here at t e r (zero ∷ suc zero ∷ k) q h g = clash q refl
  ends-here at t e r (zero ∷ suc (suc zero) ∷ k) q h g = clash q refl
  ends-here at t e r (zero ∷ suc (suc (suc b)) ∷ k) q h g = clash q refl

  no_more : (at t e : ℕ) (k : List ℕ) → ends_path (token_of k) ≡ false → e ≡ most → runs false at 0 t e k ≡ false
  unfolding token_of mark ends_path
  no_more at t e [] q g = refl
  no_more at t e (suc b ∷ k) q g = none_after (leb 1 mcl) (over false (at + 1) 1 (t + 1) e k (begun_over (omega arith) (omega arith)))
  no_more at t e (zero ∷ []) q g = refl
  no_more at t e (zero ∷ zero ∷ k) q g = clash refl q
  no_more at t e (zero ∷ suc zero ∷ k) q g = over false (at + 1 + 1) 0 t (e + 1) k (components_over (omega arith))
  no_more at t e (zero ∷ suc (suc zero) ∷ k) q g = none_after (leb 1 mcl) (over false (at + 1 + 1) 1 (t + 1) e k (begun_over (omega arith) (omega arith)))
  no_more at t e (zero ∷ suc (suc (suc b)) ∷ k) q g = refl

  begins : (p at r : ℕ) (k : List ℕ) → ends_path (token_of k) ≡ false → onward p at r (read_component (min mcl r) k) k ≡ lands at (read_components mcl r (suc p) k)
  unfolding read_components
  begins p at r k q = rw q (onward-is p at r (read_component (min mcl r) k) k)

  between : (p at t e r : ℕ) (k : List ℕ) → e + p ≡ most → t + r ≡ room → runs false at 0 t e k ≡ lands at (read_components mcl r p k)
  between zero at t e r k g h =
      split (ends_path (token_of k))
      (λ q. ends-here at t e r k q h (omega arith) ∙ sym (ap (lands at) (path-ends mcl r zero k q)))
      (λ q. no_more at t e k q (omega arith) ∙ sym (ap (lands at) (path-stops mcl r k q)))
  between (suc p) at t e r k g h =
      split (ends_path (token_of k))
      (λ q. ends-here at t e r k q h (omega arith) ∙ sym (ap (lands at) (path-ends mcl r (suc p) k q)))
      (λ q.
      inside p e (λ at t r k h. between p at t (e + 1) r k (omega arith) h) (min mcl r) at 0 t r k q (omega arith) h
      ∙ ap (λ (x : Taken (List ℕ)). onward p at r x k) (sym (component-step (min mcl r) k))
      ∙ begins p at r k q)

  takes-lands : {A : Type 0} (t : Taken A) → takes end t ≡ lands 0 t
  unfolding takes
  takes-lands refused = refl
  takes-lands (took a u) = ap (λ (i : ℕ). eqb i end) (omega arith)

  -- Reading a path comes to this walk.
  pub read-runs : (k : List ℕ) → takes end (read_components mcl room most k) ≡ runs false 0 0 0 0 k
  read-runs k = takes-lands (read_components mcl room most k) ∙ sym (between most 0 0 0 room k (omega arith) (omega arith))

-- No path takes less than two bytes.
pub takes-short : (mcl room most n : ℕ) (k : List ℕ) → n < 2 → takes n (read_components mcl room most k) ≡ false
takes-short mcl room most n k h = read-runs mcl room most n k ∙ short mcl room most n false 0 0 0 0 k (omega arith)
