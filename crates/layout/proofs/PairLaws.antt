-- The pairs of the marked records, written one after the other: what is written and what is still to be. Assumes nothing.
use mathlib.Core.Path.{◌≡◌, refl, sym, ap, ◌∙◌}
use mathlib.Core.List.{List, [], ◌∷◌, ◌++◌, append_assoc}
use Prim.Native.Nat.{ℕ, ◌+◌, ◌*◌, ◌≤◌, ◌<◌}
use native.Mathlib.Omega.{arith}
use native.Mathlib.Nat.{zero-add}
use lib.ListN.{length, take, drop, get_or, set}
use lib.Seq.{drop-drop}
use Rattle.laws.specs.Lists.{put}
use Rattle.laws.proofs.Lists.{Wrote, wrote_none, wrote-all}
use Rattle.layout.specs.Marks.{count_marks, marked_pairs}
use Rattle.layout.proofs.RetainLaws.{pair-front, pair-back, pair-length}
use Rattle.layout.proofs.MarkLaws.{count-one, count_none, count-end, marked-one, marked-none, marked-end}

-- A pair stored right behind what was written.
wrote-pair : (w rest old out out' : List ℕ) (n a b : ℕ) → Wrote w (a ∷ b ∷ rest) old out (2 * n) → 2 * n + 1 < length out
    → out' ≡ set (set out (2 * n) a) (2 * n + 1) b → Wrote w rest old out' (2 * (n + 1))
wrote-pair w rest old out out' n a b v h e =
    let q : 2 * (n + 1) ≡ 2 * n + 2 = omega arith in
    let l : length out' ≡ length out = pair-length out out' n a b h e in
    record {
      done =
          ap (◌++ rest) (pair-front out out' n a b h e)
          ∙ append_assoc (take (2 * n) out) (a ∷ b ∷ []) rest
          ∙ v.done;
      kept =
          pair-back out out' n a b h e (n + 1) (omega arith)
          ∙ ap (λ (x : ℕ). drop x out) q
          ∙ sym (drop-drop 2 (2 * n) out)
          ∙ ap (drop 2) v.kept
          ∙ drop-drop 2 (2 * n) old
          ∙ ap (λ (x : ℕ). drop x old) (sym q);
      room = omega arith;
      size = l ∙ v.size;
    }

-- n pairs are written, and the marks from k on are still to be met.
pub record Marking (marks dir old out : List ℕ) (k n : ℕ) : Type 0 where
  pub within : k ≤ length marks
  pub same : length out ≡ length old
  pub some : n + count_marks (drop k marks) ≡ count_marks marks
  pub wrote : Wrote (marked_pairs marks dir) (marked_pairs (drop k marks) (drop (2 * k) dir)) old out (2 * n)

pub marking-start : (marks dir out : List ℕ) → Marking marks dir out out 0 0
marking-start marks dir out = record { within = omega arith; same = refl; some = zero-add (count_marks marks); wrote = wrote_none (marked_pairs marks dir) out }

module _ {marks dir old out : List ℕ} {k n : ℕ} (v : Marking marks dir old out k n) where
  module _ (h : k < length marks) (w : 2 * k + 1 < length dir) where
    pub marking-fits : get_or marks k 0 ≡ 1 → n < count_marks marks
    marking-fits e = let s = v.some in omega (arith, count-one marks k h e)

    pub marking-one : (o l : ℕ) (out' : List ℕ) → get_or marks k 0 ≡ 1 → 2 * n + 1 < length out → o ≡ get_or dir (2 * k) 0 → l ≡ get_or dir (2 * k + 1) 0
        → out' ≡ set (set out (2 * n) o) (2 * n + 1) l → Marking marks dir old out' (k + 1) (n + 1)
    marking-one o l out' e f eo el eu =
        let s = v.some in
        let c = count-one marks k h e in
        let rest : List ℕ = marked_pairs (drop (k + 1) marks) (drop (2 * (k + 1)) dir) in
        let p : marked_pairs (drop k marks) (drop (2 * k) dir) ≡ o ∷ l ∷ rest = rw (eo, el) (marked-one marks k h dir w e) in
        record {
          within = omega arith;
          same = pair-length out out' n o l f eu ∙ v.same;
          some = omega arith;
          wrote = wrote-pair (marked_pairs marks dir) rest old out out' n o l (rw p at v.wrote) f eu;
        }

    pub marking-none : (get_or marks k 0 ≡ 1 → ⊥) → Marking marks dir old out (k + 1) n
    marking-none e = record {
      within = omega arith;
      same = v.same;
      some = let s = v.some in omega (arith, count_none marks k h e);
      wrote = rw (marked-none marks k h dir w e) at v.wrote;
    }

  module _ (h : length marks ≤ k) where
    pub marking-count : n ≡ count_marks marks
    marking-count = let s = v.some in omega (arith, count-end marks k h)

    pub marking-all : out ≡ put (marked_pairs marks dir) old
    marking-all = wrote-all (marked_pairs marks dir) old out (2 * n) (rw (marked-end marks k h dir) at v.wrote)
