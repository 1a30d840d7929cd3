-- A line's buffer as bytes are added to it; lines taken off the front of bytes; the lines of two pieces joined; lines that are cut. Assumes nothing.
use Prim.Native.Nat.{min, ℕ, zero, suc, ◌+◌, ◌-◌, ◌≤◌, ◌<◌}
use mathlib.Core.Path.{◌≡◌, refl, sym, ap, ◌∙◌}
use mathlib.Core.List.{List, [], ◌∷◌, ◌++◌, map, append_assoc, append-nil}
use native.Mathlib.Omega.{arith}
use lib.ListN.{length, take, drop, length-append, length-take}
use lib.Seq.{take_all, take_at, length-take-le, take-append-add}
use lib.Dec.{eqb, leb}
use borrow.Author.Tests.{leb-true, leb-false}
use borrow.Rule.Slice.PartMut.{put_mid, mid_of}
use Rattle.laws.specs.Lists.{put}
use Rattle.laws.proofs.Truth.{split}
use Rattle.laws.proofs.Lists.{Wrote, wrote-last}
use Rattle.text.specs.Fields.{front}
use Rattle.listing.specs.Input.{newline, ended_lines, begun_line, last_line}

-- What a writer leaves that was lent the buffer from n on.
added : (line xs last : List ℕ) (n m : ℕ) → n ≤ length line → m ≡ length xs → n + m ≤ length line → last ≡ put xs (mid_of n (length line - n) line)
    → take (n + m) (put_mid n (length line - n) line last) ≡ take n line ++ xs
unfolding put
added line xs last n m h e f l =
    let w : Wrote (take n line ++ xs) xs line line n = record { done = refl; kept = refl; room = h; size = refl } in
    let r = wrote-last (take n line ++ xs) xs line line last n m w f e l in
    ap (take (n + m)) r.1 ∙ take_at (take n line ++ xs) (drop (length (take n line ++ xs)) line) (n + m) (sym r.0)

module _ (line bytes last : List ℕ) (n m : ℕ) (h : n ≤ length line) where
  pub added-all : length bytes ≤ length line - n → m ≡ length bytes → last ≡ put bytes (mid_of n (length line - n) line)
      → take (n + m) (put_mid n (length line - n) line last) ≡ take (length line) (take n line ++ bytes)
  added-all f e l =
      added line bytes last n m h e (omega arith) l
      ∙ sym (take_all (length line) (take n line ++ bytes) (simp length-append (omega (arith, length-take n line))))

  pub added-front : length line - n < length bytes → m ≡ length (take (length line - n) bytes) → last ≡ put (take (length line - n) bytes) (mid_of n (length line - n) line)
      → take (n + m) (put_mid n (length line - n) line last) ≡ take (length line) (take n line ++ bytes)
  added-front f e l =
      let k : length line ≡ length (take n line) + (length line - n) = omega (arith, length-take-le n line h) in
      added line (take (length line - n) bytes) last n m h e (omega (arith, e, length-take (length line - n) bytes)) l
      ∙ sym (ap (λ (i : ℕ). take i (take n line ++ bytes)) k ∙ take-append-add (take n line) bytes (length line - n))

  -- As many of the bytes as there is room for.
  pub added-most : (k : ℕ) → k ≡ min (length bytes) (length line - n) → m ≡ length (take k bytes) → last ≡ put (take k bytes) (mid_of n (length line - n) line)
      → take (n + m) (put_mid n (length line - n) line last) ≡ take (length line) (take n line ++ bytes)
  added-most k q e l =
      split (leb (length bytes) (length line - n))
      (λ b.
      let f : length bytes ≤ length line - n = leb-true (length bytes) (length line - n) b in
      let all : take k bytes ≡ bytes = take_all k bytes (omega arith) in
      added-all f (e ∙ ap length all) (l ∙ ap (λ (x : List ℕ). put x (mid_of n (length line - n) line)) all))
      (λ b.
      let f : length line - n < length bytes = leb-false (length bytes) (length line - n) b in
      let some : k ≡ length line - n = omega arith in
      added-front f (e ∙ ap (λ (i : ℕ). length (take i bytes)) some) (l ∙ ap (λ (i : ℕ). put (take i bytes) (mid_of n (length line - n) line)) some))

-- The bytes have a newline: the first line ends there, and the rest stands behind it.
pub ended-more : (line s : List ℕ) → length (front newline s) < length s → ended_lines line s ≡ (line ++ front newline s) ∷ ended_lines [] (drop (suc (length (front newline s))) s)
unfolding ended_lines front
ended-more line [] h = absurd (omega arith)
ended-more line (b ∷ s) h =
    split (eqb b newline)
    (λ e. rw (e, append-nil))
    (λ e. let k : suc (length (front newline s)) < suc (length s) = rw e at h in rw (e, ← append_assoc line (b ∷ []) (front newline s)) (ended-more (line ++ b ∷ []) s (omega arith)))

pub begun_more : (line s : List ℕ) → length (front newline s) < length s → begun_line line s ≡ begun_line [] (drop (suc (length (front newline s))) s)
unfolding begun_line front
begun_more line [] h = absurd (omega arith)
begun_more line (b ∷ s) h =
    split (eqb b newline)
    (λ e. rw e)
    (λ e. let k : suc (length (front newline s)) < suc (length s) = rw e at h in rw e (begun_more (line ++ b ∷ []) s (omega arith)))

-- They have none: no line ends, and all of them go on with the line.
pub ended-none : (line s : List ℕ) → length s ≤ length (front newline s) → ended_lines line s ≡ []
unfolding ended_lines front
ended-none line [] h = refl
ended-none line (b ∷ s) h =
    split (eqb b newline)
    (λ e. let k : suc (length s) ≤ 0 = rw e at h in absurd (omega arith))
    (λ e. let k : suc (length s) ≤ suc (length (front newline s)) = rw e at h in rw e (ended-none (line ++ b ∷ []) s (omega arith)))

pub begun-none : (line s : List ℕ) → length s ≤ length (front newline s) → begun_line line s ≡ line ++ s
unfolding begun_line front
begun-none line [] h = sym (append-nil line)
begun-none line (b ∷ s) h =
    split (eqb b newline)
    (λ e. let k : suc (length s) ≤ 0 = rw e at h in absurd (omega arith))
    (λ e. let k : suc (length s) ≤ suc (length (front newline s)) = rw e at h in rw (e, ← append_assoc line (b ∷ []) s) (begun-none (line ++ b ∷ []) s (omega arith)))

-- Two pieces joined.
pub ended-append : (line s t : List ℕ) → ended_lines line (s ++ t) ≡ ended_lines line s ++ ended_lines (begun_line line s) t
unfolding ended_lines begun_line
ended-append line [] t = refl
ended-append line (b ∷ s) t = split (eqb b newline) (λ e. rw e (ap (line ∷◌) (ended-append [] s t))) (λ e. rw e (ended-append (line ++ b ∷ []) s t))

pub begun-append : (line s t : List ℕ) → begun_line line (s ++ t) ≡ begun_line (begun_line line s) t
unfolding begun_line
begun-append line [] t = refl
begun-append line (b ∷ s) t = split (eqb b newline) (λ e. rw e (begun-append [] s t)) (λ e. rw e (begun-append (line ++ b ∷ []) s t))

-- Lines with the same first n bytes stay so.
take_more : (n : ℕ) (l m : List ℕ) → take n (take n l ++ m) ≡ take n (l ++ m)
take_more zero l m = refl
take_more (suc n) [] m = refl
take_more (suc n) (x ∷ l) m = ap (x ∷◌) (take_more n l m)

module _ (n : ℕ) where
  alike-more : (l k m : List ℕ) → take n l ≡ take n k → take n (l ++ m) ≡ take n (k ++ m)
  alike-more l k m e = sym (take_more n l m) ∙ ap (λ (x : List ℕ). take n (x ++ m)) e ∙ take_more n k m

  pub ended-alike : (l k s : List ℕ) → take n l ≡ take n k → map (take n) (ended_lines l s) ≡ map (take n) (ended_lines k s)
  unfolding ended_lines
  ended-alike l k [] h = refl
  ended-alike l k (b ∷ s) h =
      split (eqb b newline)
      (λ e. rw e (ap (λ (x : List ℕ). x ∷ map (take n) (ended_lines [] s)) h))
      (λ e. rw e (ended-alike (l ++ b ∷ []) (k ++ b ∷ []) s (alike-more l k (b ∷ []) h)))

  pub begun-alike : (l k s : List ℕ) → take n l ≡ take n k → take n (begun_line l s) ≡ take n (begun_line k s)
  unfolding begun_line
  begun-alike l k [] h = h
  begun-alike l k (b ∷ s) h = split (eqb b newline) (λ e. rw e) (λ e. rw e (begun-alike (l ++ b ∷ []) (k ++ b ∷ []) s (alike-more l k (b ∷ []) h)))

pub last-alike : (n : ℕ) (l k : List ℕ) → take (suc n) l ≡ take (suc n) k → map (take (suc n)) (last_line l) ≡ map (take (suc n)) (last_line k)
unfolding last_line
last-alike n [] [] h = refl
last-alike n [] (b ∷ k) h = let z : ◌≡◌ {A = ℕ} 0 (suc (length (take n k))) = ap length h in absurd (omega arith)
last-alike n (a ∷ l) [] h = let z : ◌≡◌ {A = ℕ} (suc (length (take n l))) 0 = ap length h in absurd (omega arith)
last-alike n (a ∷ l) (b ∷ k) h = ap (λ (x : List ℕ). x ∷ []) h
