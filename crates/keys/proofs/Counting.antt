-- Laws of the loops that count bytes: those of a stretch, and those up to the end of a component. Assumes nothing.
use Prim.Native.Nat.{ℕ, zero, suc, ◌+◌, ◌-◌, ◌≤◌, ◌<◌}
use mathlib.Core.Path.{◌≡◌, refl, sym, ap, ◌∙◌}
use mathlib.Core.List.{List}
use mathlib.Core.Bool.{Bool, true, false, not, ◌&&◌, ◌||◌}
use native.Mathlib.Omega.{arith}
use native.Mathlib.Numerals.{add-one}
use lib.Dec.{eqb}
use borrow.Author.Tests.{eq-eqb, ne_eqb, eqb-true, eqb-false}
use lib.ListN.{get_or}
use Rattle.laws.proofs.Truth.{split}
use Rattle.keys.specs.Judge.{bit, paired, sound, others, endings, kept, ended}
use Rattle.keys.specs.declared.judge.Counts.{Counts}

-- The loop that counts: what is counted so far, with what is left.
pub record Counting (w at : ℕ) (k : List ℕ) (j : ℕ) (ok : Bool) (n e : ℕ) : Type 0 where
  pub upto : j ≤ w
  pub few_others : n ≤ j
  pub few_ends : e ≤ j
  pub sound_left : (ok && sound (w - j) (at + j) k) ≡ sound w at k
  pub others_left : n + others (w - j) (at + j) k ≡ others w at k
  pub ends_left : e + endings (w - j) (at + j) k ≡ endings w at k

bit-few : (b : Bool) → bit b ≤ 1
bit-few true = omega arith
bit-few false = omega arith

and-end : (b : Bool) → b ≡ (b && true)
and-end true = refl
and-end false = refl

and_assoc : (a b c : Bool) → ((a && b) && c) ≡ (a && (b && c))
and_assoc true b c = refl
and_assoc false b c = refl

module _ (w at : ℕ) (k : List ℕ) (j : ℕ) (ok : Bool) (n e : ℕ) (h : Counting w at k j ok n e) where
  pub counting-turn : (p q : ℕ) → j < w → p ≡ bit (not (eqb (get_or k (at + j) 0) 0)) → q ≡ bit (eqb (get_or k (at + j) 0) 0 && eqb (get_or k (at + j + 1) 0) 1)
      → Counting w at k (j + 1) (ok && (not (eqb (get_or k (at + j) 0) 0) || (eqb (get_or k (at + j + 1) 0) 1 || eqb (get_or k (at + j + 1) 0) 2))) (n + p) (e + q)
  counting-turn p q l pe qe =
      let v = w - (j + 1) in
      let z : w - j ≡ suc (w - (j + 1)) = omega arith in
      let y : at + (j + 1) ≡ at + j + 1 = omega arith in
      let x = not (eqb (get_or k (at + j) 0) 0) || (eqb (get_or k (at + j + 1) 0) 1 || eqb (get_or k (at + j + 1) 0) 2) in
      let po : others (w - j) (at + j) k ≡ bit (not (eqb (get_or k (at + j) 0) 0)) + others v (at + (j + 1)) k = rw (z, y) in
      let qo : endings (w - j) (at + j) k ≡ bit (eqb (get_or k (at + j) 0) 0 && eqb (get_or k (at + j + 1) 0) 1) + endings v (at + (j + 1)) k = rw (z, y) in
      record {
        upto = omega arith;
        few_others = omega (arith, h.few_others, bit-few (not (eqb (get_or k (at + j) 0) 0)));
        few_ends = omega (arith, h.few_ends, bit-few (eqb (get_or k (at + j) 0) 0 && eqb (get_or k (at + j + 1) 0) 1));
        sound_left =
            ap (λ (i : ℕ). (ok && x) && sound v i k) y
            ∙ and_assoc ok x (sound v (at + j + 1) k)
            ∙ ap (λ (m : ℕ). ok && sound m (at + j) k) (sym z)
            ∙ h.sound_left;
        others_left = omega (arith, h.others_left, po);
        ends_left = omega (arith, h.ends_left, qo);
      }

pub others-few : (w at : ℕ) (k : List ℕ) → others w at k ≤ w
others-few zero at k = omega arith
others-few (suc w) at k = omega (arith, bit-few (not (eqb (get_or k at 0) 0)), others-few w (at + 1) k)

pub endings-few : (w at : ℕ) (k : List ℕ) → endings w at k ≤ w
endings-few zero at k = omega arith
endings-few (suc w) at k = omega (arith, bit-few (eqb (get_or k at 0) 0 && eqb (get_or k (at + 1) 0) 1), endings-few w (at + 1) k)

pub kept-all : (len ends : ℕ) → ends ≡ 0 → len ≡ kept len ends
kept-all len ends e = rw (eq-eqb ends 0 e)

pub kept-none : (len ends : ℕ) → (ends ≡ 0 → ⊥) → 0 ≡ kept len ends
kept-none len ends e = rw (ne_eqb ends 0 e)

pub kept-least : (len ends : ℕ) → kept len ends ≤ len
kept-least len ends = split (eqb ends 0) (λ z. rw z (omega arith)) (λ z. rw z (omega arith))

abbrev pub Counted : (w at : ℕ) → List ℕ → Counts → Type 0
Counted w at k t = t ≡ record { sound = sound w at k; others = others w at k; ends = endings w at k }

pub counts-few : (w at : ℕ) (k : List ℕ) (t : Counts) → Counted w at k t → (t.others ≤ w) × (t.ends ≤ w)
counts-few w at k t q = (omega (arith, others-few w at k, ap (λ (t : Counts). t.others) q), omega (arith, endings-few w at k, ap (λ (t : Counts). t.ends) q))

-- No end in a stretch, with one byte more at which no component ends.
pub endings-more : (w at : ℕ) (k : List ℕ) → endings w at k ≡ 0 → ended (at + w) k ≡ false → endings (suc w) at k ≡ 0
endings-more zero at k e f =
    let i : at ≡ at + 0 = omega arith in
    ap (λ (b : Bool). bit b + 0) (ap (λ (j : ℕ). ended j k) i ∙ f)
endings-more (suc w) at k e f =
    let i : at + 1 + w ≡ at + suc w = omega arith in
    omega (arith, e, endings-more w (at + 1) k (omega (arith, e)) (ap (λ (j : ℕ). ended j k) i ∙ f))

-- Some component ends in a stretch, and none before a place of it.
pub ends-before : (v w at : ℕ) (k : List ℕ) → v ≤ w → endings v at k ≡ 0 → (endings w at k ≡ 0 → ⊥) → v < w
ends-before v w at k l e n = split (eqb v w) (λ z. absurd (n (ap (λ (i : ℕ). endings i at k) (sym (eqb-true v w z)) ∙ e))) (λ z. let d = eqb-false v w z in omega (arith, d))

-- A stretch with one byte more.
sound_more : (w at : ℕ) (k : List ℕ) → sound (suc w) at k ≡ (sound w at k && paired (at + w) k)
sound_more zero at k = let i : at ≡ at + 0 = omega arith in sym (and-end (paired at k)) ∙ ap (λ (j : ℕ). paired j k) i
sound_more (suc w) at k =
    let i : at + 1 + w ≡ at + suc w = omega arith in
    ap (λ (b : Bool). paired at k && b) (sound_more w (at + 1) k ∙ ap (λ (j : ℕ). sound w (at + 1) k && paired j k) i)
    ∙ sym (and_assoc (paired at k) (sound w (at + 1) k) (paired (at + suc w) k))

others-more : (w at : ℕ) (k : List ℕ) → others (suc w) at k ≡ others w at k + bit (not (eqb (get_or k (at + w) 0) 0))
others-more zero at k = let i : at ≡ at + 0 = omega arith in omega (arith, ap (λ (j : ℕ). bit (not (eqb (get_or k j 0) 0))) i)
others-more (suc w) at k = let i : at + 1 + w ≡ at + suc w = omega arith in omega (arith, others-more w (at + 1) k, ap (λ (j : ℕ). bit (not (eqb (get_or k j 0) 0))) i)

-- The loop that counts up to the end of a component: what stands before a place of the stretch, where none has ended.
pub record Fronting (w at : ℕ) (k : List ℕ) (j : ℕ) (ok : Bool) (n : ℕ) : Type 0 where
  pub upto : j ≤ w
  pub few : n ≤ j
  pub none : endings j at k ≡ 0
  pub so_far : ok ≡ sound j at k
  pub many : n ≡ others j at k

module _ (w at : ℕ) (k : List ℕ) (j : ℕ) (ok : Bool) (n : ℕ) (h : Fronting w at k j ok n) where
  pub front-other : j < w → (get_or k (at + j) 0 ≡ 0 → ⊥) → Fronting w at k (j + 1) ok (n + 1)
  front-other l z =
      let e = ne_eqb (get_or k (at + j) 0) 0 z in
      let s : sound (suc j) at k ≡ ok = sound_more j at k ∙ rw e (sym (and-end (sound j at k)) ∙ sym h.so_far) in
      let o : others (suc j) at k ≡ others j at k + 1 = others-more j at k ∙ rw e in
      let f : ended (at + j) k ≡ false = rw e in
      rw (add-one j) (record {
        upto = omega arith;
        few = omega (arith, h.few);
        none = endings-more j at k h.none f;
        so_far = sym s;
        many = omega (arith, h.many, o);
      })

  pub front-escaped : j < w → get_or k (at + j) 0 ≡ 0 → (get_or k (at + j + 1) 0 ≡ 1 → ⊥) → Fronting w at k (j + 1) (ok && eqb (get_or k (at + j + 1) 0) 2) n
  front-escaped l z y =
      let e = eq-eqb (get_or k (at + j) 0) 0 z in
      let d = ne_eqb (get_or k (at + j + 1) 0) 1 y in
      let s : sound (suc j) at k ≡ (ok && eqb (get_or k (at + j + 1) 0) 2) = sound_more j at k ∙ rw (e, d) (ap (λ (b : Bool). b && eqb (get_or k (at + j + 1) 0) 2) (sym h.so_far)) in
      let o : others (suc j) at k ≡ others j at k + 0 = others-more j at k ∙ rw e in
      let f : ended (at + j) k ≡ false = rw (e, d) in
      rw (add-one j) (record {
        upto = omega arith;
        few = omega (arith, h.few);
        none = endings-more j at k h.none f;
        so_far = sym s;
        many = omega (arith, h.many, o);
      })
