-- Laws of the quick walk over a path's bytes in stretches: what stands before a place, whether or not a token ends there. Assumes nothing.
use Prim.Native.Nat.{ℕ, zero, suc, ◌+◌, ◌-◌, ◌≤◌, ◌<◌}
use mathlib.Core.Path.{◌≡◌, refl, sym, ap, subst, ◌∙◌}
use mathlib.Core.List.{List}
use mathlib.Core.Bool.{Bool, true, false, not, cond, ◌&&◌, ◌||◌}
use native.Mathlib.Omega.{arith}
use lib.Dec.{eqb, leb}
use borrow.Author.Tests.{eq-eqb, eqb-true, eqb-false, le-leb}
use lib.ListN.{length, get_or}
use Rattle.laws.proofs.Truth.{split, and-true}
use Rattle.keys.specs.Decode.{read_components}
use Rattle.keys.specs.Judge.{takes, bit, paired, sound, others, endings, kept, ended, closed}
use Rattle.keys.specs.declared.judge.Counts.{Counts}
use Rattle.keys.proofs.Automaton.{read-runs}
use Rattle.keys.proofs.Places.{Runs, step-byte, step-zero, step_end, step-escaped, step-close}
use Rattle.keys.proofs.Counting.{Counted, counts-few, kept-least}

module _ (mcl room most end : ℕ) (k : List ℕ) (T : Bool) where
  -- At any byte: between two tokens, or behind the 00 of a byte 00 or of an end, which count with the byte behind it. n bytes were not 00.
  pub data Walked (at m n e : ℕ) : Type 0 where
    whole : (t : ℕ) → n ≡ t + e → T ≡ Runs mcl room most end k false at m t e → Walked at m n e
    zero_cut : (t : ℕ) → n ≡ t + e → get_or k at 0 ≡ 2 → T ≡ Runs mcl room most end k true at m t e → Walked at m n e
    end_cut : (l t f : ℕ) → n ≡ t + f → e ≡ f + 1 → m ≡ 0 → get_or k at 0 ≡ 1 → T ≡ Runs mcl room most end k true at l t f → Walked at m n e

  moved : (at m n e i x y : ℕ) → at ≡ i → n ≡ x → e ≡ y → Walked at m n e → Walked i m x y
  moved at m n e i x y p q r w = subst (λ (y : ℕ). Walked i m x y) r (subst (λ (x : ℕ). Walked i m x e) q (subst (λ (i : ℕ). Walked i m n e) p w))

  -- After p bytes more that are not 00, and q ends more.
  pub record Stood (at m p q n e : ℕ) : Type 0 where
    pub now : ℕ
    pub walked : Walked at now n e
    pub low : now ≤ m + p
    pub lower : (q ≡ 0 → ⊥) → now ≤ p

  -- A byte that a component may have.
  byte_more : (at m t n e : ℕ) → n ≡ t + e → m + 1 ≤ mcl → T ≡ (leb (m + 1) mcl && Runs mcl room most end k false (at + 1) (m + 1) (t + 1) e) → Walked (at + 1) (m + 1) (n + 1) e
  byte_more at m t n e s f w = whole (t + 1) (omega arith) (w ∙ ap (◌&& Runs mcl room most end k false (at + 1) (m + 1) (t + 1) e) (le-leb (m + 1) mcl f))

  -- One byte.
  stand : (at m n e : ℕ) → at + 1 < length k → paired at k ≡ true
      → m + bit (not (eqb (get_or k at 0) 0)) ≤ mcl → Walked at m n e
      → Stood (at + 1) m (bit (not (eqb (get_or k at 0) 0))) (bit (ended at k)) (n + bit (not (eqb (get_or k at 0) 0))) (e + bit (ended at k))
  stand at m n e l x f (whole t s w) =
      let a = get_or k at 0 in
      let b = get_or k (at + 1) 0 in
      split (eqb a 0)
      (λ z.
      let p : bit (not (eqb a 0)) ≡ 0 = rw z in
      let v : T ≡ Runs mcl room most end k true (at + 1) m t e = w ∙ step-zero mcl room most end k at m t e (omega arith) (eqb-true a 0 z) in
      split (eqb b 1)
      (λ o.
      let q : bit (eqb a 0 && eqb b 1) ≡ 1 = rw (z, o) in
      record {
        now = 0;
        walked = moved (at + 1) 0 n (e + 1) _ _ _ refl (omega arith) (omega arith) (end_cut m t e s refl refl (eqb-true b 1 o) v);
        low = omega arith;
        lower = λ _. omega arith;
      })
      (λ o.
      let q : bit (eqb a 0 && eqb b 1) ≡ 0 = rw (z, o) in
      let y : eqb b 2 ≡ true = sym (ap (λ (t : Bool). not t || (eqb b 1 || eqb b 2)) z ∙ ap (λ (t : Bool). t || eqb b 2) o) ∙ x in
      record {
        now = m;
        walked = moved (at + 1) m n e _ _ _ refl (omega arith) (omega arith) (zero_cut t s (eqb-true b 2 y) v);
        low = omega arith;
        lower = λ d. absurd (d q);
      }))
      (λ z.
      let p : bit (not (eqb a 0)) ≡ 1 = rw z in
      let q : bit (eqb a 0 && eqb b 1) ≡ 0 = rw z in
      record {
        now = m + 1;
        walked = moved (at + 1) (m + 1) (n + 1) e _ _ _ refl (omega arith) (omega arith) (byte_more at m t n e s (omega arith) (w ∙ step-byte mcl room most end k at m t e (omega arith) (eqb-false a 0 z)));
        low = omega arith;
        lower = λ d. absurd (d q);
      })
  stand at m n e l x f (zero_cut t s v w) =
      let a = get_or k at 0 in
      let z : eqb a 0 ≡ false = ap (λ (t : ℕ). eqb t 0) v in
      let p : bit (not (eqb a 0)) ≡ 1 = rw z in
      let q : bit (eqb a 0 && eqb (get_or k (at + 1) 0) 1) ≡ 0 = rw z in
      record {
        now = m + 1;
        walked = moved (at + 1) (m + 1) (n + 1) e _ _ _ refl (omega arith) (omega arith) (byte_more at m t n e s (omega arith) (w ∙ step-escaped mcl room most end k at m t e (omega arith) v));
        low = omega arith;
        lower = λ d. absurd (d q);
      }
  stand at m n e l x f (end_cut j t d s r o v w) =
      let a = get_or k at 0 in
      let z : eqb a 0 ≡ false = ap (λ (t : ℕ). eqb t 0) v in
      let p : bit (not (eqb a 0)) ≡ 1 = rw z in
      let q : bit (eqb a 0 && eqb (get_or k (at + 1) 0) 1) ≡ 0 = rw z in
      record {
        now = 0;
        walked = moved (at + 1) 0 (n + 1) (d + 1) _ _ _ refl (omega arith) (omega arith) (whole t (omega arith) (w ∙ step_end mcl room most end k at j t d (omega arith) v));
        low = omega arith;
        lower = λ c. omega arith;
      }

  -- A stretch.
  pub stretch : (w at m n e : ℕ) → at + w < length k → sound w at k ≡ true → m + others w at k ≤ mcl → Walked at m n e
      → Stood (at + w) m (others w at k) (endings w at k) (n + others w at k) (e + endings w at k)
  stretch zero at m n e l x f h = record {
    now = m;
    walked = moved at m n e _ _ _ (omega arith) (omega arith) (omega arith) h;
    low = omega arith;
    lower = λ d. absurd (d refl);
  }
  stretch (suc w) at m n e l x f h =
      let p = bit (not (eqb (get_or k at 0) 0)) in
      let q = bit (ended at k) in
      let y = and-true (paired at k) (sound w (at + 1) k) x in
      let s = stand at m n e (omega arith) y.0 (omega arith) h in
      let r = stretch w (at + 1) s.now (n + p) (e + q) (omega arith) y.1 (omega (arith, s.low)) s.walked in
      record {
        now = r.now;
        walked = moved (at + 1 + w) r.now _ _ _ _ _ (omega arith) (omega arith) (omega arith) r.walked;
        low = omega (arith, r.low, s.low);
        lower = λ d.
            split (eqb (endings w (at + 1) k) 0)
            (λ z. let o = eqb-true (endings w (at + 1) k) 0 z in omega (arith, r.low, s.lower (λ c. d (omega arith))))
            (λ z. omega (arith, r.lower (eqb-false (endings w (at + 1) k) 0 z)));
      }

  -- A component that ends at any byte ends between two tokens.
  pub walked-ends : (at m n e : ℕ) → at + 1 < length k → ended at k ≡ true → Walked at m n e → Walked (at + 2) 0 (n + 1) (e + 1)
  walked-ends at m n e l x h =
      let y = and-true (eqb (get_or k at 0) 0) (eqb (get_or k (at + 1) 0) 1) x in
      ends h (eqb-true (get_or k at 0) 0 y.0) (eqb-true (get_or k (at + 1) 0) 1 y.1)
    where
      ends : Walked at m n e → get_or k at 0 ≡ 0 → get_or k (at + 1) 0 ≡ 1 → Walked (at + 2) 0 (n + 1) (e + 1)
      ends (whole t s w) a b =
          let i : at + 1 + 1 ≡ at + 2 = omega arith in
          subst (λ (i : ℕ). Walked i 0 (n + 1) (e + 1)) i
          (whole t (omega arith) (w ∙ step-zero mcl room most end k at m t e (omega arith) a ∙ step_end mcl room most end k (at + 1) m t e (omega arith) b))
      ends (zero_cut t s v w) a b = absurd (omega arith)
      ends (end_cut j t d s r o v w) a b = absurd (omega arith)

  walked-done : (at m n e : ℕ) → at + 2 ≤ length k → get_or k at 0 ≡ 0 → get_or k (at + 1) 0 ≡ 0 → at + 2 ≡ end → m ≡ 0 → n ≤ room + e → e ≤ most → Walked at m n e → T ≡ true
  walked-done at m n e l a b i z f g (whole t s w) =
      let j : at + 1 + 1 ≡ end = omega arith in
      w
      ∙ step-zero mcl room most end k at m t e (omega arith) a
      ∙ step-close mcl room most end k (at + 1) m t e (omega arith) b
      ∙ rw (eq-eqb m 0 z, eq-eqb (at + 1 + 1) end j, le-leb t room (omega arith), le-leb e most g)
  walked-done at m n e l a b i z f g (zero_cut t s v w) = absurd (omega arith)
  walked-done at m n e l a b i z f g (end_cut j t d s r o v w) = absurd (omega arith)

  -- A component and the path end.
  pub walked-closes : (at m n e : ℕ) → at + 4 ≤ length k → at + 4 ≡ end → closed at k ≡ true → n ≤ room + e → e < most → Walked at m n e → T ≡ true
  walked-closes at m n e l i x f g h =
      let y = and-true (ended at k) (eqb (get_or k (at + 2) 0) 0 && eqb (get_or k (at + 2 + 1) 0) 0) x in
      let u = and-true (eqb (get_or k (at + 2) 0) 0) (eqb (get_or k (at + 2 + 1) 0) 0) y.1 in
      walked-done (at + 2) 0 (n + 1) (e + 1) (omega arith) (eqb-true _ _ u.0) (eqb-true _ _ u.1) (omega arith) refl (omega arith) (omega arith)
      (walked-ends at m n e (omega arith) y.0 h)

-- The loop over the stretches.
pub record Showing (mcl room most : ℕ) (k : List ℕ) (T : Bool) (stop at left len n e : ℕ) : Type 0 where
  pub upto : at + left ≡ stop
  pub few_len : len ≤ at
  pub few_others : n ≤ at
  pub few_ends : e ≤ at
  pub m : ℕ
  pub walked : Walked mcl room most (stop + 4) k T at m n e
  pub long : m ≤ len

module _ (mcl room most : ℕ) (k : List ℕ) (T : Bool) (stop : ℕ) where
  pub showing-start : T ≡ takes (stop + 4) (read_components mcl room most k) → Showing mcl room most k T stop 0 stop 0 0 0
  showing-start q = record {
    upto = omega arith;
    few_len = omega arith;
    few_others = omega arith;
    few_ends = omega arith;
    m = 0;
    walked = whole 0 (omega arith) (q ∙ read-runs mcl room most (stop + 4) k);
    long = omega arith;
  }

  -- What a stretch more gives.
  more-stood : (at left len n e w : ℕ) (t : Counts) (h : Showing mcl room most k T stop at left len n e) → Counted w at k t → t.sound ≡ true → len + t.others ≤ mcl → at + w < length k
      → Stood mcl room most (stop + 4) k T (at + w) h.m t.others t.ends (n + t.others) (e + t.ends)
  more-stood at left len n e w t h q s f l =
      let a = ap (λ (t : Counts). t.others) q in
      let b = ap (λ (t : Counts). t.ends) q in
      rw (a, b) (stretch mcl room most (stop + 4) k T w at h.m n e l (sym (ap (λ (t : Counts). t.sound) q) ∙ s) (omega (arith, a, h.long)) h.walked)

  pub showing-turn : (at left len n e w x : ℕ) (t : Counts) → Showing mcl room most k T stop at left len n e → Counted w at k t → t.sound ≡ true → len + t.others ≤ mcl → w ≤ left
      → stop < length k → x ≡ kept len t.ends → Showing mcl room most k T stop (at + w) (left - w) (x + t.others) (n + t.others) (e + t.ends)
  showing-turn at left len n e w x t h q s f g l y =
      let r = more-stood at left len n e w t h q s f (omega (arith, h.upto)) in
      let d = counts-few w at k t q in
      record {
        upto = omega (arith, h.upto);
        few_len = omega (arith, h.few_len, kept-least len t.ends, d.0);
        few_others = omega (arith, h.few_others, d.0);
        few_ends = omega (arith, h.few_ends, d.1);
        m = r.now;
        walked = r.walked;
        long =
            split (eqb t.ends 0)
            (λ z. omega (arith, r.low, h.long, y ∙ ap (λ (b : Bool). cond b len 0) z))
            (λ z. omega (arith, r.lower (eqb-false t.ends 0 z)));
      }

  pub showing-ends : (at left len n e w : ℕ) (t : Counts) → Showing mcl room most k T stop at left len n e → Counted w at k t → t.sound ≡ true → len + t.others ≤ mcl
      → t.ends ≡ 0 → w + 2 ≤ left → stop < length k → ended (at + w) k ≡ true → Showing mcl room most k T stop (at + (w + 2)) (left - (w + 2)) 0 (n + (t.others + 1)) (e + 1)
  showing-ends at left len n e w t h q s f o g l z =
      let r = more-stood at left len n e w t h q s f (omega (arith, h.upto)) in
      let d = counts-few w at k t q in
      record {
        upto = omega (arith, h.upto);
        few_len = omega arith;
        few_others = omega (arith, h.few_others, d.0);
        few_ends = omega (arith, h.few_ends, d.1);
        m = 0;
        walked = moved mcl room most (stop + 4) k T (at + w + 2) 0 (n + t.others + 1) (e + t.ends + 1) _ _ _ (omega arith) (omega arith) (omega arith) (walked-ends mcl room most (stop + 4) k T (at + w) r.now (n + t.others) (e + t.ends) (omega (arith, h.upto)) z r.walked);
        long = omega arith;
      }

  pub showing-closes : (at left len n e : ℕ) (t : Counts) → Showing mcl room most k T stop at left len n e → Counted left at k t → t.sound ≡ true → len + t.others ≤ mcl
      → stop + 4 ≤ length k → e + t.ends < most → n + t.others ≤ room + (e + t.ends) → closed stop k ≡ true → T ≡ true
  showing-closes at left len n e t h q s f l c b z =
      let r = more-stood at left len n e left t h q s f (omega (arith, h.upto)) in
      walked-closes mcl room most (stop + 4) k T stop r.now (n + t.others) (e + t.ends) l refl z b c (subst (λ (i : ℕ). Walked mcl room most (stop + 4) k T i r.now (n + t.others) (e + t.ends)) h.upto r.walked)
