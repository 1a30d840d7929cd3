-- Laws of a loop that reads a path's components: those read so far, in front of what reading on gives.
-- Assumes nothing.
use Prim.Native.Nat.{ℕ, zero, suc, ◌+◌, ◌-◌, ◌≤◌, ◌<◌, min}
use mathlib.Core.Path.{◌≡◌, refl, sym, ap, subst, ◌∙◌}
use mathlib.Core.List.{List, [], ◌∷◌, ◌++◌, append_assoc, append-nil}
use mathlib.Core.Bool.{Bool, true, false, cond}
use native.Mathlib.Omega.{arith}
use native.Mathlib.Nat.{sub-zero}
use lib.ListN.{length, take, drop, set, length-append, length-drop, length-set}
use lib.Seq.{drop-drop}
use borrow.Rule.Slice.PartMut.{put_mid, mid_of}
use Rattle.laws.specs.Lists.{put}
use Rattle.laws.proofs.Lists.{put-snoc, length-put, wrote-first, wrote-last}
use Rattle.data_model.specs.Path.{joined, ends_from}
use Rattle.data_model.specs.Said.{Said, refuses, says}
use Rattle.data_model.specs.Refusal.{no_key}
use Rattle.keys.specs.Decode.{Symbol, byte, component_mark, path_mark, Taken, refused, took, more, bind, token_of, ends_path, read_component, read_components}
use Rattle.keys.specs.Inner.{part_of, Filled}
use Rattle.data_model.proofs.Values.{joined-more, ends_more, ends-length}
use Rattle.keys.proofs.Reading.{rest, component-step, Fit, component-fit, component-fits, TookIt, token_size, token-within, more-id, more-more, more_same}

-- A loop that reads components: those read so far, in front of what reading on from `at` gives.
pub record Walking (mcl : ℕ) (k old-bytes old-ends bytes ends : List ℕ) (at total n : ℕ) : Type 0 where
  pub cs : List (List ℕ)
  pub within : at ≤ length k
  pub low : total ≤ length old-bytes
  pub few : n ≤ length old-ends
  pub total_is : total ≡ length (joined cs)
  pub n_is : n ≡ length cs
  pub bytes_are : bytes ≡ put (joined cs) old-bytes
  pub ends_are : ends ≡ put (ends_from 0 cs) old-ends
  pub bytes_size : length bytes ≡ length old-bytes
  pub ends_size : length ends ≡ length old-ends
  pub so_far : read_components mcl (length old-bytes) (length old-ends) k ≡ more (cs ++◌) at (read_components mcl (length old-bytes - total) (length old-ends - n) (drop at k))

pub walking-none : (mcl : ℕ) (k old-bytes old-ends : List ℕ) → Walking mcl k old-bytes old-ends old-bytes old-ends 0 0 0
unfolding joined ends_from put
walking-none mcl k ob oe = record {
  cs = [];
  within = omega arith;
  low = omega arith;
  few = omega arith;
  total_is = refl;
  n_is = refl;
  bytes_are = refl;
  ends_are = refl;
  bytes_size = refl;
  ends_size = refl;
  so_far = sym (more-id ([] ++◌) (λ x. refl) (read_components mcl (length ob - 0) (length oe - 0) k) ∙ rw (sub-zero, sub-zero));
}

-- By the next token, and by the component that follows.
pub path-ends : (mcl room n : ℕ) (k : List ℕ) → ends_path (token_of k) ≡ true → read_components mcl room n k ≡ took [] 2
unfolding read_components
path-ends mcl room zero k e = rw e
path-ends mcl room (suc n) k e = rw e

pub path-stops : (mcl room : ℕ) (k : List ℕ) → ends_path (token_of k) ≡ false → read_components mcl room 0 k ≡ refused
unfolding read_components
path-stops mcl room k e = rw e

pub path-goes : (mcl room n : ℕ) (k c : List ℕ) (u : ℕ) → ends_path (token_of k) ≡ false → read_component (min mcl room) k ≡ took c u
    → read_components mcl room (suc n) k ≡ more (c ∷◌) u (read_components mcl (room - length c) n (drop u k))
unfolding read_components bind
path-goes mcl room n k c u e d = rw (e, d)

pub path-fails : (mcl room n : ℕ) (k : List ℕ) → ends_path (token_of k) ≡ false → read_component (min mcl room) k ≡ refused → read_components mcl room (suc n) k ≡ refused
unfolding read_components bind
path-fails mcl room n k e d = rw (e, d)

pub path_empty : (mcl room n : ℕ) → read_components mcl room n [] ≡ refused
unfolding token_of ends_path
path_empty mcl room zero = path-stops mcl room [] refl
path_empty mcl room (suc n) = path-fails mcl room n [] refl (component-step (min mcl room) [])

ends-path-size : (t : Said Symbol) → ends_path t ≡ true → 2 ≤ token_size t
unfolding ends_path
ends-path-size (says (byte b)) e = absurd (let z : ◌≡◌ {A = ℕ} 0 1 = cc in omega arith)
ends-path-size (says component_mark) e = absurd (let z : ◌≡◌ {A = ℕ} 0 1 = cc in omega arith)
ends-path-size (says path_mark) e = omega arith
ends-path-size (refuses n) e = absurd (let z : ◌≡◌ {A = ℕ} 0 1 = cc in omega arith)

pub ends-within : (k : List ℕ) (at : ℕ) → at ≤ length k → ends_path (token_of (drop at k)) ≡ true → at + 2 ≤ length k
ends-within k at h e = omega (arith, token-within k at (token_of (drop at k)) h refl, ends-path-size (token_of (drop at k)) e)

module _ (mcl : ℕ) (k ob oe bytes ends : List ℕ) (at total n : ℕ) (h : Walking mcl k ob oe bytes ends at total n) where
  pub walking-ends : ends_path (token_of (drop at k)) ≡ true → read_components mcl (length ob) (length oe) k ≡ took h.cs (at + 2)
  unfolding more
  walking-ends e =
      h.so_far
      ∙ ap (more (h.cs ++◌) at) (path-ends mcl (length ob - total) (length oe - n) (drop at k) e)
      ∙ ap (λ (x : List (List ℕ)). took x (at + 2)) (append-nil h.cs)

  pub walking-stops : length oe ≤ n → ends_path (token_of (drop at k)) ≡ false → read_components mcl (length ob) (length oe) k ≡ refused
  unfolding more
  walking-stops f e =
      let z : length oe - n ≡ 0 = omega arith in
      h.so_far ∙ ap (more (h.cs ++◌) at) (ap (λ (m : ℕ). read_components mcl (length ob - total) m (drop at k)) z ∙ path-stops mcl (length ob - total) (drop at k) e)

  pub walking-fails : n < length oe → ends_path (token_of (drop at k)) ≡ false → read_component (min mcl (length ob - total)) (drop at k) ≡ refused
      → read_components mcl (length ob) (length oe) k ≡ refused
  unfolding more
  walking-fails f e d =
      let z : length oe - n ≡ suc (length oe - (n + 1)) = omega arith in
      h.so_far ∙ ap (more (h.cs ++◌) at) (ap (λ (m : ℕ). read_components mcl (length ob - total) m (drop at k)) z ∙ path-fails mcl (length ob - total) (length oe - (n + 1)) (drop at k) e d)

  pub walking-more : (c last : List ℕ) (u : ℕ) → n < length oe → ends_path (token_of (drop at k)) ≡ false
      → read_component (min mcl (length ob - total)) (drop at k) ≡ took c u
      → last ≡ put c (mid_of total (length bytes - total) bytes)
      → Walking mcl k ob oe (put_mid total (length bytes - total) bytes last) (set ends n (total + length c)) (at + u) (total + length c) (n + 1)
  walking-more c last u f e d l = record {
    cs = h.cs ++ c ∷ [];
    within = omega (arith, fits.0, length-drop at k, h.within);
    low = omega (arith, fits.1, h.low);
    few = omega arith;
    total_is = total-now;
    n_is = rw (length-append, h.n_is);
    bytes_are = bytes-now;
    ends_are =
        rw (ends_more 0 h.cs c, h.ends_are)
        (put-snoc (ends_from 0 h.cs) oe n (total + length c) (h.n_is ∙ sym (ends-length 0 h.cs)) f
        ∙ ap (λ (m : ℕ). put (ends_from 0 h.cs ++ m ∷ []) oe) (omega (arith, h.total_is)));
    bytes_size = ap length bytes-now ∙ length-put (joined (h.cs ++ c ∷ [])) ob (omega (arith, total-now, fits.1, h.low));
    ends_size = length-set ends n (total + length c) ∙ h.ends_size;
    so_far =
        h.so_far
        ∙ ap (more (h.cs ++◌) at)
        (ap (λ (m : ℕ). read_components mcl (length ob - total) m (drop at k)) z
        ∙ path-goes mcl (length ob - total) (length oe - (n + 1)) (drop at k) c u e d)
        ∙ more-more (h.cs ++◌) (c ∷◌) at u (read_components mcl (length ob - total - length c) (length oe - (n + 1)) (drop u (drop at k)))
        ∙ more_same (λ (x : List (List ℕ)). h.cs ++ c ∷ x) ((h.cs ++ c ∷ []) ++◌) (at + u) (λ x. sym (append_assoc h.cs (c ∷ []) x))
        (read_components mcl (length ob - total - length c) (length oe - (n + 1)) (drop u (drop at k)))
        ∙ rw (drop-drop, y);
  }
    where
      fits : (u ≤ length (drop at k)) × (length c ≤ min mcl (length ob - total))
      fits = component-fits (min mcl (length ob - total)) (drop at k) c u d

      z : length oe - n ≡ suc (length oe - (n + 1))
      z = omega arith

      y : length ob - total - length c ≡ length ob - (total + length c)
      y = omega arith

      total-now : total + length c ≡ length (joined (h.cs ++ c ∷ []))
      total-now = rw (joined-more h.cs c, length-append) (ap (◌+ length c) h.total_is)

      bytes-now : put_mid total (length bytes - total) bytes last ≡ put (joined (h.cs ++ c ∷ [])) ob
      bytes-now =
          rw (joined-more h.cs c)
          (wrote-last (joined h.cs ++ c) c ob bytes last total (length c)
          (wrote-first (joined h.cs) c ob bytes total h.low h.total_is h.bytes_are)
          (omega (arith, fits.1, h.low, h.bytes_size))
          refl l).1

-- What a call that is lent the rest of the bytes reads is what the definition reads.
pub asked : (mcl lim total at : ℕ) (k ob bytes : List ℕ) → lim ≡ min mcl (length bytes - total) → length bytes ≡ length ob
    → read_component lim (take (length k - at) (drop at k)) ≡ read_component (min mcl (length ob - total)) (drop at k)
asked mcl lim total at k ob bytes e s =
    ap (λ (x : List ℕ). read_component lim x) (rest k at)
    ∙ ap (λ (n : ℕ). read_component n (drop at k)) (e ∙ ap (λ (n : ℕ). min mcl (n - total)) s)

-- The same from what the call answered and wrote: m bytes from u.
pub walking-took : (mcl : ℕ) (k ob oe bytes ends : List ℕ) (at total n : ℕ) → Walking mcl k ob oe bytes ends at total n
    → (last : List ℕ) (m u : ℕ) → n < length oe → ends_path (token_of (drop at k)) ≡ false
    → TookIt (read_component (min mcl (length ob - total)) (drop at k)) (mid_of total (length bytes - total) bytes) last m u
    → Walking mcl k ob oe (put_mid total (length bytes - total) bytes last) (set ends n (total + m)) (at + u) (total + m) (n + 1)
walking-took mcl k ob oe bytes ends at total n h last m u f e t =
    subst (λ (m : ℕ). Walking mcl k ob oe (put_mid total (length bytes - total) bytes last) (set ends n (total + m)) (at + u) (total + m) (n + 1)) (sym t.long)
    (walking-more mcl k ob oe bytes ends at total n h t.c last u f e t.is t.new_is)

pub parts-refused : (t : Taken (List (List ℕ))) (ob bytes oe ends : List ℕ) → t ≡ refused
    → (refuses no_key ≡ part_of t) × (Filled joined t ob bytes × Filled (ends_from 0) t oe ends)
unfolding part_of
parts-refused t ob bytes oe ends e =
    subst (λ (t : Taken (List (List ℕ))). (refuses no_key ≡ part_of t) × (Filled joined t ob bytes × Filled (ends_from 0) t oe ends)) (sym e) (refl, (tt, tt))

pub parts-took : (t : Taken (List (List ℕ))) (ob bytes oe ends : List ℕ) (cs : List (List ℕ)) (n u : ℕ) → t ≡ took cs u → n ≡ length cs
    → bytes ≡ put (joined cs) ob → ends ≡ put (ends_from 0 cs) oe
    → (says (n, u) ≡ part_of t) × (Filled joined t ob bytes × Filled (ends_from 0) t oe ends)
unfolding part_of
parts-took t ob bytes oe ends cs n u e l p q =
    subst (λ (t : Taken (List (List ℕ))). (says (n, u) ≡ part_of t) × (Filled joined t ob bytes × Filled (ends_from 0) t oe ends)) (sym e)
    (ap (λ (m : ℕ). says (m, u)) l, (p, q))

-- What a path takes is within the bytes.
abbrev pub PathFit : ℕ → Taken (List (List ℕ)) → Type 0
PathFit len refused = Unit
PathFit len (took cs u) = (2 ≤ u) × (u ≤ len)

path-fit-more : (len u : ℕ) (c : List ℕ) (t : Taken (List (List ℕ))) → PathFit (len - u) t → u ≤ len → PathFit len (more (c ∷◌) u t)
unfolding more
path-fit-more len u c refused h g = tt
path-fit-more len u c (took cs v) h g = (omega arith, omega arith)

path-fit-end : (k : List ℕ) (b : Bool) (t : Taken (List (List ℕ))) → ends_path (token_of k) ≡ b → PathFit (length k) t → PathFit (length k) (cond b (took [] 2) t)
path-fit-end k true t e h = (omega arith, omega (arith, ends-within k 0 (omega arith) e))
path-fit-end k false t e h = h

path-fit-next : (mcl room n : ℕ) (k : List ℕ) (t : Taken (List ℕ)) → Fit (min mcl room) (length k) t
    → ((room : ℕ) (k : List ℕ) → PathFit (length k) (read_components mcl room n k))
    → PathFit (length k) (bind t (λ c u. more (c ∷◌) u (read_components mcl (room - length c) n (drop u k))))
unfolding bind
path-fit-next mcl room n k refused h ih = tt
path-fit-next mcl room n k (took c u) h ih =
    path-fit-more (length k) u c (read_components mcl (room - length c) n (drop u k))
    (subst (λ (m : ℕ). PathFit m (read_components mcl (room - length c) n (drop u k))) (length-drop u k) (ih (room - length c) (drop u k)))
    h.0

pub path-fit : (mcl n room : ℕ) (k : List ℕ) → PathFit (length k) (read_components mcl room n k)
unfolding read_components
path-fit mcl zero room k = path-fit-end k (ends_path (token_of k)) refused refl tt
path-fit mcl (suc n) room k =
    path-fit-end k (ends_path (token_of k)) _ refl
    (path-fit-next mcl room n k (read_component (min mcl room) k) (component-fit (min mcl room) k) (λ r l. path-fit mcl n r l))

pub path-fits : (mcl room n : ℕ) (k : List ℕ) (cs : List (List ℕ)) (u : ℕ) → read_components mcl room n k ≡ took cs u → (2 ≤ u) × (u ≤ length k)
path-fits mcl room n k cs u e = subst (PathFit (length k)) e (path-fit mcl n room k)
