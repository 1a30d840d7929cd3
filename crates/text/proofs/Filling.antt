-- Laws of a loop that fills a path's bytes and ends with components: those filled in so far, and those left. Assumes nothing.
use Prim.Native.Nat.{ℕ, zero, suc, ◌+◌, ◌-◌, ◌≤◌, ◌<◌, min}
use mathlib.Core.Path.{◌≡◌, refl, sym, ap, subst, ◌∙◌}
use mathlib.Core.List.{List, [], ◌∷◌, ◌++◌, append_assoc, append-nil}
use mathlib.Core.Bool.{Bool, true, false}
use native.Mathlib.Omega.{arith}
use native.Mathlib.Nat.{sub-zero}
use borrow.Author.Tests.{le-leb, lt-leb}
use lib.ListN.{length, set, replicate, length-append, length-set}
use borrow.Rule.Slice.PartMut.{put_mid, mid_of}
use Rattle.laws.specs.Lists.{put}
use Rattle.laws.proofs.Lists.{length-put, wrote-first, wrote-last, put-snoc, put-zeros}
use Rattle.data_model.specs.Path.{field, capacity, Components, joined, ends_from, value_of, path_of}
use Rattle.data_model.specs.declared.path.Path.{Path}
use Rattle.key_laws.proofs.Fits.{fitting}
use Rattle.data_model.proofs.Values.{joined-more, ends_more, ends-length}
use Rattle.text.specs.PathField.{counted, PutIf}
use Rattle.std.specs.Prelude.{Some, None}

pub record Filling (all left : Components) (old-bytes old-ends bytes ends : List ℕ) (total n : ℕ) : Type 0 where
  pub cs : Components
  pub low : total ≤ length old-bytes
  pub few : n ≤ length old-ends
  pub total_is : total ≡ length (joined cs)
  pub n_is : n ≡ length cs
  pub bytes_are : bytes ≡ put (joined cs) old-bytes
  pub ends_are : ends ≡ put (ends_from 0 cs) old-ends
  pub bytes_size : length bytes ≡ length old-bytes
  pub ends_size : length ends ≡ length old-ends
  pub these : all ≡ cs ++ left
  pub fits : fitting field.mcl (length old-bytes) (length old-ends) all ≡ fitting field.mcl (length old-bytes - total) (length old-ends - n) left

pub filling-none : (all : Components) (ob oe : List ℕ) → Filling all all ob oe ob oe 0 0
unfolding joined ends_from put
filling-none all ob oe = record {
  cs = [];
  low = omega arith;
  few = omega arith;
  total_is = refl;
  n_is = refl;
  bytes_are = refl;
  ends_are = refl;
  bytes_size = refl;
  ends_size = refl;
  these = refl;
  fits = sym (rw (sub-zero, sub-zero));
}

pub filling-to : (all left left' : Components) (ob oe bytes ends : List ℕ) (total n : ℕ) → left ≡ left' → Filling all left ob oe bytes ends total n → Filling all left' ob oe bytes ends total n
filling-to all left left' ob oe bytes ends total n e h = subst (λ (x : Components). Filling all x ob oe bytes ends total n) e h

-- A component that is too long, and one too many.
long-not : (mcl room n : ℕ) (c : List ℕ) (cs : Components) → min mcl room < length c → fitting mcl room n (c ∷ cs) ≡ false
unfolding fitting
long-not mcl room zero c cs h = refl
long-not mcl room (suc n) c cs h = rw (lt-leb (length c) (min mcl room) h)

none-not : (mcl room n : ℕ) (c : List ℕ) (cs : Components) → n ≡ 0 → fitting mcl room n (c ∷ cs) ≡ false
unfolding fitting
none-not mcl room n c cs h = rw h

fits-goes : (mcl room n m : ℕ) (c : List ℕ) (cs : Components) → n ≡ suc m → length c ≤ min mcl room → fitting mcl room n (c ∷ cs) ≡ fitting mcl (room - length c) m cs
unfolding fitting
fits-goes mcl room n m c cs e h = rw (e, le-leb (length c) (min mcl room) h)

module _ (all : Components) (c : List ℕ) (left : Components) (ob oe bytes ends : List ℕ) (total n : ℕ) (h : Filling all (c ∷ left) ob oe bytes ends total n) where
  pub filling-long : min field.mcl (length ob - total) < length c → fitting field.mcl (length ob) (length oe) all ≡ false
  filling-long l = h.fits ∙ long-not field.mcl (length ob - total) (length oe - n) c left l

  pub filling-full : length oe ≤ n → fitting field.mcl (length ob) (length oe) all ≡ false
  filling-full l = let z : length oe - n ≡ 0 = omega arith in h.fits ∙ none-not field.mcl (length ob - total) (length oe - n) c left z

  pub filling-goes : (last : List ℕ) (m : ℕ) → m ≡ length c → n < length oe → m ≤ field.mcl → m ≤ length ob - total
      → last ≡ put c (mid_of total (length bytes - total) bytes)
      → Filling all left ob oe (put_mid total (length bytes - total) bytes last) (set ends n (total + m)) (total + m) (n + 1)
  filling-goes last m em f g k l = record {
    cs = h.cs ++ c ∷ [];
    low = omega (arith, h.low);
    few = omega arith;
    total_is = total-now;
    n_is = rw (length-append, h.n_is);
    bytes_are = bytes-now;
    ends_are =
        rw (ends_more 0 h.cs c, h.ends_are)
        (put-snoc (ends_from 0 h.cs) oe n (total + m) (h.n_is ∙ sym (ends-length 0 h.cs)) f
        ∙ ap (λ (k : ℕ). put (ends_from 0 h.cs ++ k ∷ []) oe) (omega (arith, h.total_is)));
    bytes_size = ap length bytes-now ∙ length-put (joined (h.cs ++ c ∷ [])) ob (omega (arith, total-now, h.low));
    ends_size = length-set ends n (total + m) ∙ h.ends_size;
    these = h.these ∙ sym (append_assoc h.cs (c ∷ []) left);
    fits = h.fits ∙ fits-goes field.mcl (length ob - total) (length oe - n) (length oe - (n + 1)) c left z (omega arith) ∙ ap (λ (r : ℕ). fitting field.mcl r (length oe - (n + 1)) left) y;
  }
    where
      z : length oe - n ≡ suc (length oe - (n + 1))
      z = omega arith

      y : length ob - total - length c ≡ length ob - (total + m)
      y = omega arith

      total-now : total + m ≡ length (joined (h.cs ++ c ∷ []))
      total-now = rw (joined-more h.cs c, length-append) (omega (arith, h.total_is))

      bytes-now : put_mid total (length bytes - total) bytes last ≡ put (joined (h.cs ++ c ∷ [])) ob
      bytes-now =
          rw (joined-more h.cs c)
          (wrote-last (joined h.cs ++ c) c ob bytes last total m
          (wrote-first (joined h.cs) c ob bytes total h.low h.total_is h.bytes_are)
          (omega (arith, h.low, h.bytes_size))
          em l).1

-- The answers.
module _ (fit : Bool) (m : ℕ) (all : Components) (ob oe bytes ends : List ℕ) where
  pub over-is : fit ≡ false → (None ≡ counted fit m) × (PutIf fit (joined all) ob bytes × PutIf fit (ends_from 0 all) oe ends)
  unfolding counted
  over-is e = subst (λ (b : Bool). (None ≡ counted b m) × (PutIf b (joined all) ob bytes × PutIf b (ends_from 0 all) oe ends)) (sym e) (refl, (tt, tt))

  pub count-is : (n : ℕ) → fit ≡ true → n ≡ m → bytes ≡ put (joined all) ob → ends ≡ put (ends_from 0 all) oe
      → (Some n ≡ counted fit m) × (PutIf fit (joined all) ob bytes × PutIf fit (ends_from 0 all) oe ends)
  unfolding counted
  count-is n e l p q =
      subst (λ (b : Bool). (Some n ≡ counted b m) × (PutIf b (joined all) ob bytes × PutIf b (ends_from 0 all) oe ends)) (sym e) (ap Some l, (p, q))

pub filling-end : (all : Components) (ob oe bytes ends : List ℕ) (total n m : ℕ) → Filling all [] ob oe bytes ends total n → m ≡ length all
    → (Some n ≡ counted (fitting field.mcl (length ob) (length oe) all) m)
    × (PutIf (fitting field.mcl (length ob) (length oe) all) (joined all) ob bytes × PutIf (fitting field.mcl (length ob) (length oe) all) (ends_from 0 all) oe ends)
unfolding fitting
filling-end all ob oe bytes ends total n m h e =
    let a : all ≡ h.cs = h.these ∙ append-nil h.cs in
    count-is (fitting field.mcl (length ob) (length oe) all) m all ob oe bytes ends n h.fits (h.n_is ∙ ap length (sym a) ∙ sym e)
    (h.bytes_are ∙ ap (λ (x : Components). put (joined x) ob) (sym a))
    (h.ends_are ∙ ap (λ (x : Components). put (ends_from 0 x) oe) (sym a))

-- What a caller learns: the path that the two buffers make, filled from zeros.
pub record Counted (fit : Bool) (all : Components) (path : Path) : Type 0 where
  pub holds : fit ≡ true
  pub is : path ≡ path_of all

pub counted_is : (fit : Bool) (all : Components) (bytes ends : List ℕ) (n m : ℕ) → Some n ≡ counted fit m → m ≡ length all
    → PutIf fit (joined all) (replicate capacity.mpl 0) bytes → PutIf fit (ends_from 0 all) (replicate capacity.mcc 0) ends
    → Counted fit all (record { bytes = bytes; ends = ends; count = n })
unfolding counted value_of path_of
counted_is false all bytes ends n m e l p q = absurd (let z : ◌≡◌ {A = ℕ} 0 1 = cc in omega arith)
counted_is true all bytes ends n m e l p q =
    let en : n ≡ length all = cc in
    let pb : bytes ≡ joined all ++ replicate (capacity.mpl - length (joined all)) 0 = p ∙ put-zeros (joined all) capacity.mpl in
    let pm : ends ≡ ends_from 0 all ++ replicate (capacity.mcc - length (ends_from 0 all)) 0 = q ∙ put-zeros (ends_from 0 all) capacity.mcc in
    record { holds = refl; is = rw (en, pb, pm) }

pub counted-over : (fit : Bool) (m : ℕ) → None ≡ counted fit m → fit ≡ false
unfolding counted
counted-over false m e = refl
counted-over true m e = absurd (let z : ◌≡◌ {A = ℕ} 0 1 = cc in omega arith)
