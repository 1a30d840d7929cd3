-- Laws of a loop that reads a component: what was read so far, in front of what reading on gives.
-- Assumes nothing.
use Prim.Native.Nat.{ℕ, zero, suc, ◌+◌, ◌-◌, ◌≤◌, ◌<◌}
use mathlib.Core.Path.{◌≡◌, refl, sym, ap, subst, ◌∙◌}
use mathlib.Core.List.{List, [], ◌∷◌, ◌++◌, append-nil}
use native.Mathlib.Omega.{arith}
use native.Mathlib.Nat.{zero-add}
use native.Mathlib.Numerals.{add-one}
use lib.ListN.{length, take, drop, set, length-drop, length-set, take-append-drop}
use lib.Seq.{take_all, take-suc-set, drop-set-lt, drop-drop, length-take-le, append_snoc}
use Rattle.laws.specs.Lists.{put}
use Rattle.keys.specs.Encode.{escaped}
use Rattle.data_model.specs.Said.{Said, refuses, says}
use Rattle.data_model.specs.Refusal.{no_key}
use Rattle.keys.specs.Decode.{Symbol, byte, component_mark, path_mark, Taken, refused, took, more, mark, token_of, by_token, read_component}
use Rattle.keys.specs.Inner.{part_of, Filled}

-- What a component's reading does, by the token that it meets.
abbrev pub step_component : ℕ → List ℕ → Said Symbol → Taken (List ℕ)
step_component lim k (says component_mark) = took [] 2
step_component lim k (says path_mark) = refused
step_component lim k (refuses n) = refused
step_component zero k (says (byte b)) = refused
step_component (suc lim) k (says (byte b)) = more (b ∷◌) (length (escaped b)) (read_component lim (drop (length (escaped b)) k))

step-none : (k : List ℕ) (t : Said Symbol) → by_token t (λ b. refused) ≡ step_component zero k t
unfolding by_token
step-none k (says (byte b)) = refl
step-none k (says component_mark) = refl
step-none k (says path_mark) = refl
step-none k (refuses n) = refl

step-some : (lim : ℕ) (k : List ℕ) (t : Said Symbol)
    → by_token t (λ b. more (b ∷◌) (length (escaped b)) (read_component lim (drop (length (escaped b)) k))) ≡ step_component (suc lim) k t
unfolding by_token
step-some lim k (says (byte b)) = refl
step-some lim k (says component_mark) = refl
step-some lim k (says path_mark) = refl
step-some lim k (refuses n) = refl

pub component-step : (lim : ℕ) (k : List ℕ) → read_component lim k ≡ step_component lim k (token_of k)
unfolding read_component
component-step zero k = step-none k (token_of k)
component-step (suc lim) k = step-some lim k (token_of k)

-- How many bytes a token takes.
abbrev pub token_size : Said Symbol → ℕ
token_size (says (byte b)) = length (escaped b)
token_size (says component_mark) = 2
token_size (says path_mark) = 2
token_size (refuses n) = 0

pub token-fits : (k : List ℕ) → token_size (token_of k) ≤ length k
unfolding token_of mark escaped
token-fits [] = omega arith
token-fits (suc b ∷ k) = omega arith
token-fits (zero ∷ []) = omega arith
token-fits (zero ∷ zero ∷ k) = omega arith
token-fits (zero ∷ suc zero ∷ k) = omega arith
token-fits (zero ∷ suc (suc zero) ∷ k) = omega arith
token-fits (zero ∷ suc (suc (suc m)) ∷ k) = omega arith

pub token-within : (k : List ℕ) (at : ℕ) (t : Said Symbol) → at ≤ length k → token_of (drop at k) ≡ t → at + token_size t ≤ length k
token-within k at t h e = omega (arith, subst (λ (x : Said Symbol). token_size x ≤ length (drop at k)) e (token-fits (drop at k)), length-drop at k)

-- The part of a slice from a place on.
pub rest : (k : List ℕ) (at : ℕ) → take (length k - at) (drop at k) ≡ drop at k
rest k at = take_all (length k - at) (drop at k) (simp length-drop (omega arith))

module _ {A : Type 0} where
  pub more-id : (f : A → A) → ((x : A) → f x ≡ x) → (t : Taken A) → more f 0 t ≡ t
  unfolding more
  more-id f h refused = refl
  more-id f h (took a u) = rw (h a, zero-add)

  pub more-more : (f g : A → A) (n m : ℕ) (t : Taken A) → more f n (more g m t) ≡ more (λ (x : A). f (g x)) (n + m) t
  unfolding more
  more-more f g n m refused = refl
  more-more f g n m (took a u) = ap (took (f (g a))) (omega arith)

  pub more_same : (f g : A → A) (n : ℕ) → ((x : A) → f x ≡ g x) → (t : Taken A) → more f n t ≡ more g n t
  unfolding more
  more_same f g n h refused = refl
  more_same f g n h (took a u) = rw (h a)

-- A loop that reads a component: what was read so far, in front of what reading on from `at` gives.
pub record Reading (lim : ℕ) (k old bytes : List ℕ) (at n : ℕ) : Type 0 where
  pub within : at ≤ length k
  pub below : n ≤ lim
  pub size : length bytes ≡ length old
  pub kept : drop n bytes ≡ drop n old
  pub so_far : read_component lim k ≡ more (take n bytes ++◌) at (read_component (lim - n) (drop at k))

pub reading-none : (lim : ℕ) (k old : List ℕ) → Reading lim k old old 0 0
reading-none lim k old = record {
  within = omega arith;
  below = omega arith;
  size = refl;
  kept = refl;
  so_far = sym (more-id (take 0 old ++◌) (λ x. refl) (read_component (lim - 0) k) ∙ ap (λ (l : ℕ). read_component l k) (omega arith));
}

module _ (lim : ℕ) (k old bytes : List ℕ) (at n : ℕ) (h : Reading lim k old bytes at n) where
  -- The token at the place settles how reading goes on.
  pub reading-token : (t : Said Symbol) → token_of (drop at k) ≡ t → read_component lim k ≡ more (take n bytes ++◌) at (step_component (lim - n) (drop at k) t)
  reading-token t e = h.so_far ∙ ap (more (take n bytes ++◌) at) (component-step (lim - n) (drop at k) ∙ ap (step_component (lim - n) (drop at k)) e)

  pub reading-full : (b : ℕ) → token_of (drop at k) ≡ says (byte b) → lim ≤ n → read_component lim k ≡ refused
  unfolding more
  reading-full b e g =
      let z : lim - n ≡ 0 = omega arith in
      reading-token (says (byte b)) e ∙ ap (λ (l : ℕ). more (take n bytes ++◌) at (step_component l (drop at k) (says (byte b)))) z

  pub reading-ends : token_of (drop at k) ≡ says component_mark → read_component lim k ≡ took (take n bytes) (at + 2)
  unfolding more
  reading-ends e = reading-token (says component_mark) e ∙ ap (λ (c : List ℕ). took c (at + 2)) (append-nil (take n bytes))

  pub reading-put : n ≤ length bytes → bytes ≡ put (take n bytes) old
  unfolding put
  reading-put g =
      sym (take-append-drop n bytes)
      ∙ ap (take n bytes ++◌) (h.kept ∙ ap (λ (m : ℕ). drop m old) (sym (length-take-le n bytes g)))

  pub reading-more : (b w : ℕ) → token_of (drop at k) ≡ says (byte b) → w ≡ length (escaped b) → n < lim → n < length bytes
      → Reading lim k old (set bytes n b) (at + w) (n + 1)
  reading-more b w e v l r = record {
    within = omega (arith, token-within k at (says (byte b)) h.within e);
    below = omega arith;
    size = length-set bytes n b ∙ h.size;
    kept =
        drop-set-lt (n + 1) bytes n b (omega arith)
        ∙ sym (drop-drop 1 n bytes)
        ∙ ap (drop 1) h.kept
        ∙ drop-drop 1 n old;
    so_far =
        reading-token (says (byte b)) e
        ∙ ap (λ (m : ℕ). more (take n bytes ++◌) at (step_component m (drop at k) (says (byte b)))) left
        ∙ more-more (take n bytes ++◌) (b ∷◌) at (length (escaped b)) (read_component (lim - (n + 1)) (drop (length (escaped b)) (drop at k)))
        ∙ more_same (λ (x : List ℕ). take n bytes ++ b ∷ x) (take (n + 1) (set bytes n b) ++◌) (at + length (escaped b)) same
        (read_component (lim - (n + 1)) (drop (length (escaped b)) (drop at k)))
        ∙ rw (drop-drop, v);
  }
    where
      left : lim - n ≡ suc (lim - (n + 1))
      left = omega arith

      same : (x : List ℕ) → take n bytes ++ b ∷ x ≡ take (n + 1) (set bytes n b) ++ x
      same x = rw (add-one, take-suc-set bytes n b r) (sym (append_snoc (take n bytes) b x))

-- What two answers of a count and a size have in common.
abbrev pair_of : Said (ℕ × ℕ) → ℕ × ℕ
pair_of (says p) = p
pair_of (refuses n) = (0, 0)

pub same-pair : (n u m v : ℕ) → ◌≡◌ {A = Said (ℕ × ℕ)} (says (n, u)) (says (m, v)) → (n ≡ m) × (u ≡ v)
same-pair n u m v e = (ap (λ (s : Said (ℕ × ℕ)). (pair_of s).0) e, ap (λ (s : Said (ℕ × ℕ)). (pair_of s).1) e)

-- Whatever refuses a token is 5.
pub token-refusal : (k : List ℕ) (n : ℕ) → refuses n ≡ token_of k → n ≡ no_key
unfolding token_of mark
token-refusal [] n e = cc
token-refusal (suc b ∷ k) n e = absurd (let z : ◌≡◌ {A = ℕ} 0 1 = cc in omega arith)
token-refusal (zero ∷ []) n e = cc
token-refusal (zero ∷ zero ∷ k) n e = absurd (let z : ◌≡◌ {A = ℕ} 0 1 = cc in omega arith)
token-refusal (zero ∷ suc zero ∷ k) n e = absurd (let z : ◌≡◌ {A = ℕ} 0 1 = cc in omega arith)
token-refusal (zero ∷ suc (suc zero) ∷ k) n e = absurd (let z : ◌≡◌ {A = ℕ} 0 1 = cc in omega arith)
token-refusal (zero ∷ suc (suc (suc m)) ∷ k) n e = cc

pub part-refused : (t : Taken (List ℕ)) (old new : List ℕ) → t ≡ refused → (refuses no_key ≡ part_of t) × Filled (λ c. c) t old new
unfolding part_of
part-refused t old new e = subst (λ (t : Taken (List ℕ)). (refuses no_key ≡ part_of t) × Filled (λ c. c) t old new) (sym e) (refl, tt)

pub part-took : (t : Taken (List ℕ)) (old new c : List ℕ) (n u : ℕ) → t ≡ took c u → n ≡ length c → new ≡ put c old → (says (n, u) ≡ part_of t) × Filled (λ c. c) t old new
unfolding part_of
part-took t old new c n u e l p =
    subst (λ (t : Taken (List ℕ)). (says (n, u) ≡ part_of t) × Filled (λ c. c) t old new) (sym e) (ap (λ (m : ℕ). says (m, u)) l, p)

-- What a component takes is within the bytes, and within its limit.
abbrev pub Fit : ℕ → ℕ → Taken (List ℕ) → Type 0
Fit lim len refused = Unit
Fit lim len (took c u) = (u ≤ len) × (length c ≤ lim)

fit-more : (lim len n b : ℕ) (t : Taken (List ℕ)) → n ≤ len → Fit lim (len - n) t → Fit (suc lim) len (more (b ∷◌) n t)
unfolding more
fit-more lim len n b refused g h = tt
fit-more lim len n b (took c u) g h = (omega arith, omega arith)

fit_none : (k : List ℕ) (t : Said Symbol) → token_size t ≤ length k → Fit zero (length k) (step_component zero k t)
fit_none k (says (byte b)) g = tt
fit_none k (says component_mark) g = (g, omega arith)
fit_none k (says path_mark) g = tt
fit_none k (refuses n) g = tt

fit-some : (lim : ℕ) (k : List ℕ) (t : Said Symbol) → token_size t ≤ length k → ((k : List ℕ) → Fit lim (length k) (read_component lim k)) → Fit (suc lim) (length k) (step_component (suc lim) k t)
fit-some lim k (says (byte b)) g ih =
    let n = length (escaped b) in
    fit-more lim (length k) n b (read_component lim (drop n k)) g (subst (λ (m : ℕ). Fit lim m (read_component lim (drop n k))) (length-drop n k) (ih (drop n k)))
fit-some lim k (says component_mark) g ih = (g, omega arith)
fit-some lim k (says path_mark) g ih = tt
fit-some lim k (refuses n) g ih = tt

pub component-fit : (lim : ℕ) (k : List ℕ) → Fit lim (length k) (read_component lim k)
component-fit zero k = subst (Fit zero (length k)) (sym (component-step zero k)) (fit_none k (token_of k) (token-fits k))
component-fit (suc lim) k = subst (Fit (suc lim) (length k)) (sym (component-step (suc lim) k)) (fit-some lim k (token_of k) (token-fits k) (λ l. component-fit lim l))

pub component-fits : (lim : ℕ) (k c : List ℕ) (u : ℕ) → read_component lim k ≡ took c u → (u ≤ length k) × (length c ≤ lim)
component-fits lim k c u e = subst (Fit lim (length k)) e (component-fit lim k)

-- What a call answered and wrote, taken apart.
pub record TookIt (t : Taken (List ℕ)) (old new : List ℕ) (n u : ℕ) : Type 0 where
  pub c : List ℕ
  pub is : t ≡ took c u
  pub long : n ≡ length c
  pub new_is : new ≡ put c old

pub took_it : (t : Taken (List ℕ)) (old new : List ℕ) (n u : ℕ) → says (n, u) ≡ part_of t → Filled (λ c. c) t old new → TookIt t old new n u
unfolding part_of
took_it refused old new n u e f = absurd (let z : ◌≡◌ {A = ℕ} 0 1 = cc in omega arith)
took_it (took c v) old new n u e f =
    let p = same-pair n u (length c) v e in
    record { c = c; is = ap (took c) (sym p.1); long = p.0; new_is = f }

pub refused-it : (t : Taken (List ℕ)) (n : ℕ) → refuses n ≡ part_of t → (t ≡ refused) × (n ≡ no_key)
unfolding part_of
refused-it refused n e = (refl, cc)
refused-it (took c u) n e = absurd (let z : ◌≡◌ {A = ℕ} 0 1 = cc in omega arith)
