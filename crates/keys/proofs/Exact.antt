-- Laws of the loop that judges a path exactly, by stretches in which no component ends: what is left to walk decides, whether or not a
-- token ends there. Assumes nothing.
use Prim.Native.Nat.{ℕ, zero, suc, ◌+◌, ◌≤◌, ◌<◌}
use mathlib.Core.Path.{◌≡◌, refl, sym, ap, subst, ◌∙◌}
use mathlib.Core.List.{List}
use mathlib.Core.Bool.{Bool, true, false, not, ◌&&◌, ◌||◌}
use native.Mathlib.Omega.{arith}
use lib.Dec.{eqb, leb}
use borrow.Author.Tests.{eq-eqb, eqb-true, eqb-false, le-leb, lt-leb, leb-true, leb-false}
use lib.ListN.{length, get_or, drop}
use Rattle.laws.proofs.Truth.{split, clash, and-true}
use Rattle.keys.specs.Encode.{path_end}
use Rattle.keys.specs.Decode.{read_components}
use Rattle.keys.specs.Judge.{takes, bit, marked, ended, paired, sound, others, endings}
use Rattle.keys.specs.declared.judge.Counts.{Counts}
use Rattle.keys.proofs.Automaton.{none_after, read-runs, short}
use Rattle.keys.proofs.Places.{Runs, step-byte, step-zero, step_end, step-escaped, step-close, step-bad, last_byte, last-mark}
use Rattle.keys.proofs.Counting.{Counted, others-few}

module _ (mcl room most stop : ℕ) (k : List ℕ) (T : Bool) where
  -- At a byte: between two tokens, or behind the 00 of a byte 00.
  pub data Exact (at m t e : ℕ) : Type 0 where
    whole : T ≡ Runs mcl room most (stop + 2) k false at m t e → Exact at m t e
    cut : get_or k at 0 ≡ 2 → T ≡ Runs mcl room most (stop + 2) k true at m t e → Exact at m t e

  moved : (at m t e i x y : ℕ) → at ≡ i → m ≡ x → t ≡ y → Exact at m t e → Exact i x y e
  moved at m t e i x y p q r w = subst (λ (y : ℕ). Exact i x y e) r (subst (λ (x : ℕ). Exact i x t e) q (subst (λ (i : ℕ). Exact i m t e) p w))

  -- Behind bytes that pass a test or not: if not, there is no path.
  data Ran (good : Bool) (at m t e : ℕ) : Type 0 where
    on : good ≡ true → Exact at m t e → Ran good at m t e
    off : good ≡ false → T ≡ false → Ran good at m t e

  ran_on : (good : Bool) (at m t e : ℕ) → Ran good at m t e → good ≡ true → Exact at m t e
  ran_on good at m t e (on p x) g = x
  ran_on good at m t e (off p x) g = clash g p

  ran-off : (good : Bool) (at m t e : ℕ) → Ran good at m t e → good ≡ false → T ≡ false
  ran-off good at m t e (on p x) g = clash p g
  ran-off good at m t e (off p x) g = x

  -- A byte of a component.
  tread-byte : (at m t e : ℕ) → T ≡ (leb (m + 1) mcl && Runs mcl room most (stop + 2) k false (at + 1) (m + 1) (t + 1) e) → Ran (leb (m + 1) mcl) (at + 1) (m + 1) (t + 1) e
  tread-byte at m t e w =
      split (leb (m + 1) mcl)
      (λ z. on z (whole (w ∙ ap (◌&& Runs mcl room most (stop + 2) k false (at + 1) (m + 1) (t + 1) e) z)))
      (λ z. off z (w ∙ rw z))

  -- The 00 of a byte 00, or of no byte.
  tread-zero : (at m t e : ℕ) → stop + 2 ≤ length k → at < stop → (eqb (get_or k (at + 1) 0) 1 ≡ false) → T ≡ Runs mcl room most (stop + 2) k true (at + 1) m t e
      → Ran (eqb (get_or k (at + 1) 0) 2) (at + 1) m t e
  tread-zero at m t e d l o w =
      split (eqb (get_or k (at + 1) 0) 2)
      (λ z. on z (cut (eqb-true (get_or k (at + 1) 0) 2 z) w))
      (λ z. off z (w ∙ step-bad mcl room most (stop + 2) k (at + 1) m t e (omega arith) (eqb-false _ _ o) (eqb-false _ _ z) (omega arith)))

  ran-is : (good fine : Bool) (at m t e i x y : ℕ) → good ≡ fine → at ≡ i → m ≡ x → t ≡ y → Ran good at m t e → Ran fine i x y e
  ran-is good fine at m t e i x y g p q r (on h w) = on (sym g ∙ h) (moved at m t e i x y p q r w)
  ran-is good fine at m t e i x y g p q r (off h w) = off (sym g ∙ h) w

  zero-good : (m p : ℕ) (a b c : Bool) → a ≡ true → b ≡ false → m ≤ mcl → p ≡ 0 → c ≡ ((not a || (b || c)) && leb (m + p) mcl)
  zero-good m p a b c ea eb f z =
      let d : leb (m + p) mcl ≡ true = le-leb (m + p) mcl (omega arith) in
      rw (ea, eb, d) (last c)
    where
      last : (c : Bool) → c ≡ (c && true)
      last true = refl
      last false = refl

  byte-good : (m p : ℕ) (a b c : Bool) → a ≡ false → p ≡ 1 → leb (m + 1) mcl ≡ ((not a || (b || c)) && leb (m + p) mcl)
  byte-good m p a b c ea z = rw (ea, z)

  -- One byte, at which no component ends.
  tread : (at m t e : ℕ) → stop + 2 ≤ length k → at < stop → m ≤ mcl → ended at k ≡ false → Exact at m t e
      → Ran (paired at k && leb (m + bit (not (eqb (get_or k at 0) 0))) mcl) (at + 1) (m + bit (not (eqb (get_or k at 0) 0))) (t + bit (not (eqb (get_or k at 0) 0))) e
  tread at m t e d l f x (whole w) =
      let a = eqb (get_or k at 0) 0 in
      let b = eqb (get_or k (at + 1) 0) 1 in
      let c = eqb (get_or k (at + 1) 0) 2 in
      split a
      (λ z.
      let p : bit (not a) ≡ 0 = rw z in
      let o : b ≡ false = sym (ap (◌&& b) z) ∙ x in
      ran-is c _ (at + 1) m t e _ _ _ (zero-good m (bit (not a)) a b c z o f p) refl (omega arith) (omega arith)
      (tread-zero at m t e d l o (w ∙ step-zero mcl room most (stop + 2) k at m t e (omega arith) (eqb-true (get_or k at 0) 0 z))))
      (λ z.
      let p : bit (not a) ≡ 1 = rw z in
      ran-is (leb (m + 1) mcl) _ (at + 1) (m + 1) (t + 1) e _ _ _ (byte-good m (bit (not a)) a b c z p) refl (omega arith) (omega arith)
      (tread-byte at m t e (w ∙ step-byte mcl room most (stop + 2) k at m t e (omega arith) (eqb-false (get_or k at 0) 0 z))))
  tread at m t e d l f x (cut v w) =
      let a = eqb (get_or k at 0) 0 in
      let b = eqb (get_or k (at + 1) 0) 1 in
      let c = eqb (get_or k (at + 1) 0) 2 in
      let z : a ≡ false = ap (λ (y : ℕ). eqb y 0) v in
      let p : bit (not a) ≡ 1 = rw z in
      ran-is (leb (m + 1) mcl) _ (at + 1) (m + 1) (t + 1) e _ _ _ (byte-good m (bit (not a)) a b c z p) refl (omega arith) (omega arith)
      (tread-byte at m t e (w ∙ step-escaped mcl room most (stop + 2) k at m t e (omega arith) v))

  no_end : (b : Bool) (n : ℕ) → bit b + n ≡ 0 → b ≡ false
  no_end true n e = absurd (omega arith)
  no_end false n e = refl

  bad : (m n o : ℕ) (p s : Bool) → (p && leb (m + n) mcl) ≡ false → ((p && s) && leb (m + (n + o)) mcl) ≡ false
  bad m n o true true g = lt-leb (m + (n + o)) mcl (omega (arith, leb-false (m + n) mcl g))
  bad m n o true false g = refl
  bad m n o false s g = refl

  run_on : (w at m t e n o : ℕ) (p s : Bool) → Ran (p && leb (m + n) mcl) (at + 1) (m + n) (t + n) e
      → (m + n ≤ mcl → Exact (at + 1) (m + n) (t + n) e → Ran (s && leb (m + n + o) mcl) (at + 1 + w) (m + n + o) (t + n + o) e)
      → Ran ((p && s) && leb (m + (n + o)) mcl) (at + suc w) (m + (n + o)) (t + (n + o)) e
  run_on w at m t e n o p s (on g y) r =
      let q = and-true p (leb (m + n) mcl) g in
      let i : m + n + o ≡ m + (n + o) = omega arith in
      ran-is (s && leb (m + n + o) mcl) _ (at + 1 + w) (m + n + o) (t + n + o) e _ _ _ (rw (q.0, i)) (omega arith) i (omega arith) (r (leb-true (m + n) mcl q.1) y)
  run_on w at m t e n o p s (off g y) r = off (bad m n o p s g) y

  -- A stretch in which no component ends.
  run : (w at m t e : ℕ) → stop + 2 ≤ length k → at + w ≤ stop → m ≤ mcl → endings w at k ≡ 0 → Exact at m t e
      → Ran (sound w at k && leb (m + others w at k) mcl) (at + w) (m + others w at k) (t + others w at k) e
  run zero at m t e d l f x h = on (le-leb (m + 0) mcl (omega arith)) (moved at m t e _ _ _ (omega arith) (omega arith) (omega arith) h)
  run (suc w) at m t e d l f x h =
      run_on w at m t e (bit (not (eqb (get_or k at 0) 0))) (others w (at + 1) k) (paired at k) (sound w (at + 1) k)
      (tread at m t e d (omega arith) f (no_end (ended at k) (endings w (at + 1) k) x) h)
      (λ g y. run w (at + 1) (m + bit (not (eqb (get_or k at 0) 0))) (t + bit (not (eqb (get_or k at 0) 0))) e d (omega arith) g (omega (arith, x)) y)

  -- A component that ends at any byte ends between two tokens.
  behind-end : (at m t e : ℕ) → at + 2 ≤ length k → ended at k ≡ true → Exact at m t e → Exact (at + 2) 0 t (e + 1)
  behind-end at m t e l x h =
      let y = and-true (eqb (get_or k at 0) 0) (eqb (get_or k (at + 1) 0) 1) x in
      ends h (eqb-true (get_or k at 0) 0 y.0) (eqb-true (get_or k (at + 1) 0) 1 y.1)
    where
      ends : Exact at m t e → get_or k at 0 ≡ 0 → get_or k (at + 1) 0 ≡ 1 → Exact (at + 2) 0 t (e + 1)
      ends (whole w) a b =
          let i : at + 1 + 1 ≡ at + 2 = omega arith in
          subst (λ (i : ℕ). Exact i 0 t (e + 1)) i
          (whole (w ∙ step-zero mcl room most (stop + 2) k at m t e (omega arith) a ∙ step_end mcl room most (stop + 2) k (at + 1) m t e (omega arith) b))
      ends (cut v w) a b = absurd (omega arith)

  -- At the place where the path's own mark should stand.
  closing : (m t e : ℕ) → stop + 2 ≤ length k → Exact stop m t e → (((eqb m 0 && leb t room) && leb e most) && marked path_end stop k) ≡ T
  closing m t e d (whole w) =
      split (eqb (get_or k stop 0) 0)
      (λ z.
      let u : T ≡ Runs mcl room most (stop + 2) k true (stop + 1) m t e = w ∙ step-zero mcl room most (stop + 2) k stop m t e (omega arith) (eqb-true (get_or k stop 0) 0 z) in
      split (eqb (get_or k (stop + 1) 0) 0)
      (λ y.
      let i : stop + 1 + 1 ≡ stop + 2 = omega arith in
      rw (z, y)
      (all (eqb m 0) (leb t room) (leb e most)
      ∙ ap (λ (b : Bool). eqb m 0 && (b && (leb t room && leb e most))) (sym (eq-eqb (stop + 1 + 1) (stop + 2) i))
      ∙ sym (u ∙ step-close mcl room most (stop + 2) k (stop + 1) m t e (omega arith) (eqb-true (get_or k (stop + 1) 0) 0 y))))
      (λ y.
      rw (z, y) (none_after ((eqb m 0 && leb t room) && leb e most) refl ∙ sym (u ∙ last-mark mcl room most (stop + 2) k (stop + 1) m t e (omega arith) (eqb-false (get_or k (stop + 1) 0) 0 y) (omega arith)))))
      (λ z.
      rw z (none_after ((eqb m 0 && leb t room) && leb e most) refl ∙ sym (w ∙ last_byte mcl room most (stop + 2) k stop m t e (omega arith) (eqb-false (get_or k stop 0) 0 z) (omega arith))))
    where
      all : (a b c : Bool) → (((a && b) && c) && true) ≡ (a && (true && (b && c)))
      all true true true = refl
      all true true false = refl
      all true false c = refl
      all false b c = refl
  closing m t e d (cut v w) =
      let z : eqb (get_or k stop 0) 0 ≡ false = ap (λ (y : ℕ). eqb y 0) v in
      rw z
      (none_after ((eqb m 0 && leb t room) && leb e most) refl
      ∙ sym (w ∙ last-mark mcl room most (stop + 2) k stop m t e (omega arith) (λ y. omega arith) (omega arith)))

  -- The loop over the stretches. A component may end at the place where the path's own mark should stand.
  pub record Judged (at len total ends : ℕ) : Type 0 where
    pub fits : stop + 2 ≤ length k
    pub upto : at ≤ stop + 1
    pub few_bytes : total ≤ at
    pub few_ends : ends ≤ at
    pub low : len ≤ mcl
    pub exact : Exact at len total ends
    pub past : stop < at → get_or k stop 0 ≡ 1

  judged-stretch : (at len total ends w : ℕ) (c : Counts) → Judged at len total ends → Counted w at k c → c.ends ≡ 0 → at + w ≤ stop
      → Ran (c.sound && leb (len + c.others) mcl) (at + w) (len + c.others) (total + c.others) ends
  judged-stretch at len total ends w c h q z l =
      let a = ap (λ (c : Counts). c.sound) q in
      let b = ap (λ (c : Counts). c.others) q in
      rw (a, b) (run w at len total ends h.fits l h.low (sym (ap (λ (c : Counts). c.ends) q) ∙ z) h.exact)

  pub judged-off : (at len total ends w : ℕ) (c : Counts) → Judged at len total ends → Counted w at k c → c.ends ≡ 0 → at + w ≤ stop
      → (c.sound && leb (len + c.others) mcl) ≡ false → false ≡ T
  judged-off at len total ends w c h q z l g =
      sym (ran-off (c.sound && leb (len + c.others) mcl) (at + w) (len + c.others) (total + c.others) ends (judged-stretch at len total ends w c h q z l) g)

  pub judged-turn : (at len total ends w : ℕ) (c : Counts) → Judged at len total ends → Counted w at k c → c.ends ≡ 0 → at + w ≤ stop
      → (c.sound && leb (len + c.others) mcl) ≡ true → Judged (at + w) (len + c.others) (total + c.others) ends
  judged-turn at len total ends w c h q z l g =
      let b = ap (λ (c : Counts). c.others) q in
      record {
        fits = h.fits;
        upto = omega arith;
        few_bytes = omega (arith, h.few_bytes, others-few w at k);
        few_ends = omega (arith, h.few_ends);
        low = leb-true (len + c.others) mcl (and-true c.sound (leb (len + c.others) mcl) g).1;
        exact = ran_on (c.sound && leb (len + c.others) mcl) (at + w) (len + c.others) (total + c.others) ends (judged-stretch at len total ends w c h q z l) g;
        past = λ x. absurd (omega arith);
      }

  pub judged-end : (at len total ends w : ℕ) (c : Counts) → Judged at len total ends → Counted w at k c → c.ends ≡ 0 → at + w < stop
      → (c.sound && leb (len + c.others) mcl) ≡ true → ended (at + w) k ≡ true → Judged (at + (w + 2)) 0 (total + c.others) (ends + 1)
  judged-end at len total ends w c h q z l g x =
      let t = judged-turn at len total ends w c h q z (omega arith) g in
      let i : at + w + 2 ≡ at + (w + 2) = omega arith in
      let y = and-true (eqb (get_or k (at + w) 0) 0) (eqb (get_or k (at + w + 1) 0) 1) x in
      record {
        fits = h.fits;
        upto = omega arith;
        few_bytes = omega (arith, t.few_bytes);
        few_ends = omega (arith, t.few_ends);
        low = omega arith;
        exact = subst (λ (i : ℕ). Exact i 0 (total + c.others) (ends + 1)) i (behind-end (at + w) (len + c.others) (total + c.others) ends (omega (arith, h.fits)) x t.exact);
        past = λ s. let j : stop ≡ at + w + 1 = omega arith in ap (λ (j : ℕ). get_or k j 0) j ∙ eqb-true (get_or k (at + w + 1) 0) 1 y.1;
      }

  pub judged : (at len total ends : ℕ) → Judged at len total ends → stop ≤ at → (((eqb len 0 && leb total room) && leb ends most) && marked path_end stop k) ≡ T
  judged at len total ends h l =
      split (eqb at stop)
      (λ z. closing len total ends h.fits (subst (λ (i : ℕ). Exact i len total ends) (eqb-true at stop z) h.exact))
      (λ z.
      let n = eqb-false at stop z in
      let g : stop < at = omega (arith, n) in
      rw (h.past g) (none_after ((eqb len 0 && leb total room) && leb ends most) refl ∙ sym (beyond g h.fits h.upto h.exact)))
    where
      beyond : stop < at → stop + 2 ≤ length k → at ≤ stop + 1 → Exact at len total ends → T ≡ false
      beyond g d u (whole w) = w ∙ short mcl room most (stop + 2) false at len total ends (drop at k) (omega arith)
      beyond g d u (cut v w) = w ∙ last-mark mcl room most (stop + 2) k at len total ends (omega arith) (λ y. omega arith) (omega arith)

  pub judging-start : stop + 2 ≤ length k → T ≡ takes (stop + 2) (read_components mcl room most k) → Judged 0 0 0 0
  judging-start d e = record {
    fits = d;
    upto = omega arith;
    few_bytes = omega arith;
    few_ends = omega arith;
    low = omega arith;
    exact = whole (e ∙ read-runs mcl room most (stop + 2) k);
    past = λ x. absurd (omega arith);
  }
