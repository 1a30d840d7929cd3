-- A path taken component by component is the path that the decoder reads: `taken-path`.
-- Assumes nothing.
use Prim.Native.Nat.{ℕ, zero, suc, ◌+◌, ◌-◌, min}
use mathlib.Core.Path.{◌≡◌, refl, sym, ap, subst, ◌∙◌}
use mathlib.Core.Bool.{Bool, true, false, cond}
use mathlib.Core.List.{List, [], ◌∷◌}
use native.Mathlib.Omega.{arith}
use native.Mathlib.Nat.{min-zero, zero-min, suc-min-suc}
use lib.Dec.{leb, leb-zero, leb-suc-zero, leb-suc-suc}
use lib.ListN.{length, drop, replicate}
use lib.Seq.{drop-drop, take-append_seam}
use Rattle.laws.proofs.Truth.{split}
use Rattle.data_model.specs.Path.{field, Component, Components}
use Rattle.data_model.specs.Said.{Said, refuses, says}
use Rattle.keys.specs.Encode.{escaped}
use Rattle.keys.specs.Decode.{Symbol, byte, component_mark, path_mark, Taken, refused, took, more, token_of, ends_path, read_component, read_components, read_path, next_component, component_read}
use Rattle.keys.proofs.Reading.{step_component, component-step}
use Rattle.keys.proofs.Walking.{path-ends, path-stops, path-goes, path-fails}
use Rattle.key_reader.specs.Reader.{behind, stepped, take_on, take_path}

-- A component that has room.
abbrev within : ℕ → Taken Component → Taken Component
within room refused = refused
within room (took c u) = cond (leb (length c) room) (took c u) refused

within_none : (b n : ℕ) (t : Taken Component) → within 0 (more (b ∷◌) n t) ≡ refused
unfolding more
within_none b n refused = refl
within_none b n (took c u) = rw (leb-suc-zero (length c))

within_more : (b n room : ℕ) (t : Taken Component) → within (suc room) (more (b ∷◌) n t) ≡ more (b ∷◌) n (within room t)
unfolding more
within_more b n room refused = refl
within_more b n room (took c u) = rw (leb-suc-suc (length c) room) (split (leb (length c) room) (λ e. rw e) (λ e. rw e))

within-empty : (room : ℕ) → within room (took [] 2) ≡ took [] 2
within-empty room = rw (leb-zero room)

-- A component's length and the room that is left are judged one after the other, or both at once.
limited-step : (mcl room : ℕ) (k : List ℕ) (t : Said Symbol) → ((room : ℕ) (n : ℕ) → suc n ≡ mcl → (k : List ℕ) → within room (read_component n k) ≡ read_component (min n room) k)
    → within room (step_component mcl k t) ≡ step_component (min mcl room) k t
limited-step mcl room k (says component_mark) ih = within-empty room
limited-step mcl room k (says path_mark) ih = refl
limited-step mcl room k (refuses n) ih = refl
limited-step zero room k (says (byte b)) ih = rw (zero-min room)
limited-step (suc mcl) zero k (says (byte b)) ih = rw (min-zero (suc mcl)) (within_none b (length (escaped b)) (read_component mcl (drop (length (escaped b)) k)))
limited-step (suc mcl) (suc room) k (says (byte b)) ih =
    let x = drop (length (escaped b)) k in
    rw (suc-min-suc mcl room) (within_more b (length (escaped b)) room (read_component mcl x) ∙ ap (more (b ∷◌) (length (escaped b))) (ih room mcl refl x))

limited : (mcl room : ℕ) (k : List ℕ) → within room (read_component mcl k) ≡ read_component (min mcl room) k
limited zero room k = ap (within room) (component-step zero k) ∙ limited-step zero room k (token_of k) (λ r n e l. absurd (omega arith)) ∙ sym (component-step (min zero room) k)
limited (suc mcl) room k =
    ap (within room) (component-step (suc mcl) k)
    ∙ limited-step (suc mcl) room k (token_of k) (λ r n e l. let d : mcl ≡ n = omega arith in subst (λ (n : ℕ). within r (read_component n l) ≡ read_component (min n r) l) d (limited mcl r l))
    ∙ sym (component-step (min (suc mcl) room) k)

module _ (room at : ℕ) (k : List ℕ) (on : ℕ → ℕ → Taken Components) where
  -- What a step gives, by what stands there.
  take-end : ends_path (token_of (drop at k)) ≡ true → take_on room at (stepped at k) on ≡ took [] 2
  unfolding take_on stepped behind component_read
  take-end e = let d : at + 2 - at ≡ 2 = omega arith in rw e (ap (took []) d)

  take-refused : ends_path (token_of (drop at k)) ≡ false → read_component field.mcl (drop at k) ≡ refused → take_on room at (stepped at k) on ≡ refused
  unfolding take_on stepped behind component_read next_component
  take-refused e d = rw (e, d)

  module _ (c : List ℕ) (u : ℕ) (e : ends_path (token_of (drop at k)) ≡ false) (d : read_component field.mcl (drop at k) ≡ took c u) where
    take_long : leb (length c) room ≡ false → take_on room at (stepped at k) on ≡ refused
    unfolding take_on stepped behind component_read next_component
    take_long l = rw (e, d) (rw l)

    take-one : leb (length c) room ≡ true → take_on room at (stepped at k) on ≡ more (c ∷◌) u (on (room - length c) (at + u))
    unfolding take_on stepped behind component_read next_component
    take-one l =
        let n : at + u - at ≡ u = omega arith in
        rw (e, d) (rw l (rw (take-append_seam c (replicate (64 - length c) 0), n)))

-- What came next, after a component that has room, or none.
takes : (room at : ℕ) (k : List ℕ) (n : ℕ) (on : ℕ → ℕ → Taken Components)
    → ((c : List ℕ) (u : ℕ) → read_component (min field.mcl room) (drop at k) ≡ took c u → more (c ∷◌) u (on (room - length c) (at + u)) ≡ read_components field.mcl room n (drop at k))
    → (read_component (min field.mcl room) (drop at k) ≡ refused → refused ≡ read_components field.mcl room n (drop at k))
    → (t : Taken Component) → read_component field.mcl (drop at k) ≡ t → ends_path (token_of (drop at k)) ≡ false
    → take_on room at (stepped at k) on ≡ read_components field.mcl room n (drop at k)
takes room at k n on goes fails refused d e =
    take-refused room at k on e d ∙ fails (sym (limited field.mcl room (drop at k)) ∙ ap (within room) d)
takes room at k n on goes fails (took c u) d e =
    split (leb (length c) room)
    (λ l. take-one room at k on c u e d l ∙ goes c u (sym (limited field.mcl room (drop at k)) ∙ ap (within room) d ∙ ap (λ (b : Bool). cond b (took c u) refused) l))
    (λ l. take_long room at k on c u e d l ∙ fails (sym (limited field.mcl room (drop at k)) ∙ ap (within room) d ∙ ap (λ (b : Bool). cond b (took c u) refused) l))

more-refused : (c : List ℕ) (u : ℕ) → more {A = Components} (c ∷◌) u refused ≡ refused
unfolding more
more-refused c u = refl

taken-components : (n room at : ℕ) (k : List ℕ) → take_path n room at k ≡ read_components field.mcl room n (drop at k)
unfolding take_path
taken-components zero room at k =
    split (ends_path (token_of (drop at k)))
    (λ e. take-end room at k (λ r a. refused) e ∙ sym (path-ends field.mcl room 0 (drop at k) e))
    (λ e. takes room at k 0 (λ r a. refused) (λ c u d. more-refused c u ∙ sym (path-stops field.mcl room (drop at k) e)) (λ d. sym (path-stops field.mcl room (drop at k) e)) (read_component field.mcl (drop at k)) refl e)
taken-components (suc n) room at k =
    split (ends_path (token_of (drop at k)))
    (λ e. take-end room at k (λ r a. take_path n r a k) e ∙ sym (path-ends field.mcl room (suc n) (drop at k) e))
    (λ e. takes room at k (suc n) (λ r a. take_path n r a k)
    (λ c u d. ap (more (c ∷◌) u) (taken-components n (room - length c) (at + u) k ∙ ap (read_components field.mcl (room - length c) n) (sym (drop-drop u at k))) ∙ sym (path-goes field.mcl room n (drop at k) c u e d))
    (λ d. sym (path-fails field.mcl room n (drop at k) e d)) (read_component field.mcl (drop at k)) refl e)

-- A path taken component by component is the decoder's.
pub taken-path : (at : ℕ) (k : List ℕ) → take_path field.mcc field.mpl at k ≡ read_path field (drop at k)
unfolding read_path
taken-path at k = taken-components field.mcc field.mpl at k
