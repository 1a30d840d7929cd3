-- Laws of `put`, and of a buffer that is written from the front in pieces. Assumes nothing.
use Prim.Native.Nat.{ℕ, zero, suc, ◌+◌, ◌-◌, ◌≤◌, ◌<◌}
use mathlib.Core.Path.{◌≡◌, refl, sym, ap, subst, ◌∙◌}
use mathlib.Core.List.{List, [], ◌∷◌, ◌++◌, append_assoc, append-nil}
use native.Mathlib.Omega.{arith}
use native.Mathlib.Nat.{zero-add}
use native.Mathlib.Numerals.{add-one}
use lib.ListN.{length, get_or, set, replicate, drop_of_length-le, take, drop, length-append, length-drop, take-append-drop}
use lib.Seq.{take_all, take-suc, drop-cons, set-append_seam, sets, sets-eq, take_at, drop_at, length-take-le, drop-drop}
use borrow.Rule.Slice.PartMut.{put_mid, mid_of}
use Rattle.laws.specs.Lists.{put}

-- Stores one after the other from the front on.
pub put-sets : (vs l : List ℕ) → length vs ≤ length l → sets l 0 vs ≡ put vs l
unfolding put
put-sets vs l h = sets-eq vs l 0 (rw zero-add h) ∙ rw zero-add

pub length-put : (xs l : List ℕ) → length xs ≤ length l → length (put xs l) ≡ length l
unfolding put
length-put xs l h = simp (length-append, length-drop) (omega arith)

-- The whole that is to be written, what of it is still to come, the buffer at first and now, and how far it is written.
pub record Wrote (whole rest old out : List ℕ) (at : ℕ) : Type 0 where
  pub done : take at out ++ rest ≡ whole
  pub kept : drop at out ≡ drop at old
  pub room : at ≤ length out
  pub size : length out ≡ length old

pub wrote_none : (w old : List ℕ) → Wrote w w old old 0
wrote_none w old = record { done = refl; kept = refl; room = omega arith; size = refl }

-- A piece is written into the part that begins where the last piece ended.
pub wrote-more : (w xs rest old out : List ℕ) (at : ℕ) → Wrote w (xs ++ rest) old out at → at + length xs ≤ length out
    → Wrote w rest old (take at out ++ put xs (drop at out)) (at + length xs)
unfolding put
wrote-more w xs rest old out at h fits =
    let n : length (take at out) ≡ at = length-take-le at out h.room in
    let r : (take at out ++ (xs ++ drop (length xs) (drop at out))) ≡ (take at out ++ xs) ++ drop (length xs) (drop at out)
    = sym (append_assoc (take at out) xs (drop (length xs) (drop at out))) in
    let m : length (take at out ++ xs) ≡ at + length xs = simp length-append (ap (◌+ length xs) n) in
    record {
      done =
          rw r
          (rw (take_at (take at out ++ xs) (drop (length xs) (drop at out)) (at + length xs) m)
          (rw append_assoc h.done));
      kept =
          rw r
          (rw (drop_at (take at out ++ xs) (drop (length xs) (drop at out)) (at + length xs) m)
          (drop-drop (length xs) at out
          ∙ sym (drop-drop (length xs) at out)
          ∙ ap (drop (length xs)) h.kept
          ∙ drop-drop (length xs) at old));
      room = simp (length-append, length-drop, n) (omega arith);
      size = simp (length-append, length-drop, n) (omega arith);
    }

-- The same, as a call leaves it that was lent the part from `at` on and wrote n bytes.
pub wrote-lent : (w xs rest old out last : List ℕ) (at n : ℕ) → Wrote w (xs ++ rest) old out at → at + n ≤ length out
    → n ≡ length xs → last ≡ put xs (mid_of at (length out - at) out)
    → Wrote w rest old (put_mid at (length out - at) out last) (at + n)
unfolding put
wrote-lent w xs rest old out last at n h fits e l =
    let t : take (length out - at) (drop at out) ≡ drop at out = take_all (length out - at) (drop at out) (simp length-drop (omega arith)) in
    let z : drop (length out - at) (drop at out) ≡ [] = drop_of_length-le (drop at out) {i = length out - at} (simp length-drop (omega arith)) in
    let q : last ≡ xs ++ drop (length xs) (drop at out) = l ∙ simp t in
    rw (z, q, append-nil, e) (wrote-more w xs rest old out at h (rw (← e) fits))

-- The first piece, as a call leaves it that was lent the whole buffer.
pub wrote-first : (xs rest old out : List ℕ) (n : ℕ) → n ≤ length old → n ≡ length xs → out ≡ put xs old → Wrote (xs ++ rest) rest old out n
unfolding put
wrote-first xs rest old out n h e o =
    let k : length xs ≤ length old = rw (← e) h in
    rw (o, e)
    record {
      done = ap (◌++ rest) (take_at xs (drop (length xs) old) (length xs) refl);
      kept = drop_at xs (drop (length xs) old) (length xs) refl;
      room = simp (length-append, length-drop) (omega arith);
      size = simp (length-append, length-drop) (omega arith);
    }

pub wrote-length : (w old out : List ℕ) (at : ℕ) → Wrote w [] old out at → at ≡ length w
wrote-length w old out at h =
    sym (length-take-le at out h.room) ∙ ap length (sym (append-nil (take at out)) ∙ h.done)

pub wrote-all : (w old out : List ℕ) (at : ℕ) → Wrote w [] old out at → out ≡ put w old
unfolding put
wrote-all w old out at h =
    sym (take-append-drop at out)
    ∙ ap (◌++ drop at out) (sym (append-nil (take at out)) ∙ h.done)
    ∙ ap (w ++◌) (h.kept ∙ ap (λ (n : ℕ). drop n old) (wrote-length w old out at h))

-- The last piece: what the function then answers, and what the buffer holds.
pub wrote-last : (w xs old out last : List ℕ) (at n : ℕ) → Wrote w xs old out at → at + n ≤ length out
    → n ≡ length xs → last ≡ put xs (mid_of at (length out - at) out)
    → (at + n ≡ length w) × (put_mid at (length out - at) out last ≡ put w old)
wrote-last w xs old out last at n h fits e l =
    let d = wrote-lent w xs [] old out last at n (subst (λ (r : List ℕ). Wrote w r old out at) (sym (append-nil xs)) h) fits e l in
    (wrote-length w old (put_mid at (length out - at) out last) (at + n) d, wrote-all w old (put_mid at (length out - at) out last) (at + n) d)

-- A store right after what was put at the front.
pub put-snoc : (xs old : List ℕ) (n v : ℕ) → n ≡ length xs → n < length old → set (put xs old) n v ≡ put (xs ++ v ∷ []) old
unfolding put
put-snoc xs old n v e h =
    rw (e, drop-cons old (length xs) 0 (rw (← e) h), set-append_seam, append_assoc, length-append, add-one)

-- A loop that copies from the front: i of the elements are copied.
module _ (from old out : List ℕ) (i : ℕ) (inv : out ≡ put (take i from) old) where
  pub copy-turn : i < length from → length from ≤ length old → set out i (get_or from i 0) ≡ put (take (i + 1) from) old
  copy-turn h k =
      ap (λ (l : List ℕ). set l i (get_or from i 0)) inv
      ∙ put-snoc (take i from) old i (get_or from i 0) (sym (length-take-le i from (omega arith))) (omega arith)
      ∙ ap (λ (l : List ℕ). put l old) (sym (take-suc from i 0 h) ∙ ap (λ (n : ℕ). take n from) (sym (add-one i)))

  pub copy-end : length from ≤ i → out ≡ put from old
  copy-end h = inv ∙ ap (λ (l : List ℕ). put l old) (take_all i from h)

drop-zeros : (m n : ℕ) → drop {A = ℕ} m (replicate n 0) ≡ replicate (n - m) 0
drop-zeros zero n = let e : n ≡ n - 0 = omega arith in ap (λ (k : ℕ). replicate {A = ℕ} k 0) e
drop-zeros (suc m) zero = let e : 0 ≡ 0 - suc m = omega arith in ap (λ (k : ℕ). replicate {A = ℕ} k 0) e
drop-zeros (suc m) (suc n) = let e : n - m ≡ suc n - suc m = omega arith in drop-zeros m n ∙ ap (λ (k : ℕ). replicate {A = ℕ} k 0) e

-- What is put at the front of zeros has zeros behind.
pub put-zeros : (xs : List ℕ) (n : ℕ) → put xs (replicate n 0) ≡ xs ++ replicate (n - length xs) 0
unfolding put
put-zeros xs n = ap (xs ++◌) (drop-zeros (length xs) n)
