-- A step of a listing: by the marks of what matches, from the first key above the remembered one on; and the place of the record that it gives. Assumes nothing.
use Prim.Native.Nat.{ℕ, suc, ◌+◌, ◌≤◌}
use mathlib.Core.Path.{◌≡◌, refl, sym, ap, ap₂, subst, ◌∙◌}
use mathlib.Core.Logic.{⊎_elim}
use mathlib.Core.List.Memᴰ.{append_right as in_right}
use mathlib.Core.List.Memᴰ.{cases_cons as uncons}
use mathlib.Core.List.Memᴰ.{head as here}
use mathlib.Core.List.Memᴰ.{not-nil as none_in}
use mathlib.Core.List.Memᴰ.{tail as there}
use mathlib.Core.List.{List, [], ◌∷◌, ◌++◌}
use mathlib.Core.Bool.{Bool, true, false, cond, not, ◌&&◌, ◌||◌}
use mathlib.Core.Option.{Option, some, none}
use native.Mathlib.Omega.{arith}
use lib.ListN.{length, take, drop}
use Rattle.laws.specs.Lists.{put}
use Rattle.laws.specs.Order.{flip, is_less, is_same, below}
use Rattle.laws.specs.Sorted.{◌∈◌, any, keep, Ascends}
use Rattle.laws.specs.First.{first_that}
use Rattle.laws.proofs.Truth.{split, clash, refute}
use Rattle.laws.proofs.Order.{three, is-less}
use Rattle.laws.proofs.Sorted.{keep-length}
use Rattle.laws.proofs.First.{Weak, on-weak, LeastIs, least-is, least_first}
use Rattle.layout.specs.Marks.{marks_of, first_mark}
use Rattle.layout.proofs.PlaceLaws.{keep-none}
use Rattle.data_model.specs.Path.{field, by_bytes}
use Rattle.data_model.proofs.Orders.{bytes-linear}
use Rattle.tree.specs.Stored.{Stored, stored, contents, key_of, key_below}
use Rattle.tree.specs.Tree.{keys_below, has_key}
use Rattle.tree.specs.declared.stored.KeyOrder.TheVariants.{Spt}
use Rattle.store.proofs.DecideLaws.{marks-front}
use Rattle.query.specs.Listing.{key_above, qualifies, step_in, not_above, place_among}

-- Records by their keys.
pub key-weak : Weak (List ℕ) key_below
key-weak = on-weak key_of by_bytes bytes-linear

-- Above a key are the keys above one that is above it.
pub above-next : (last a b : List ℕ) → key_above last a ≡ true → key_below a b ≡ true → key_above last b ≡ true
unfolding below is_less
above-next last a b e f = ap is_less (bytes-linear.trans last (key_of a) (key_of b) (is-less _ e) (is-less _ f))

pub above-self : (r : List ℕ) → key_above (key_of r) r ≡ false
unfolding is_less
above-self r = ap is_less (bytes-linear.self (key_of r))

-- Below by keys is above the other's key.
pub below-above : (a b : List ℕ) → key_below a b ≡ true → key_above (key_of a) b ≡ true
unfolding below
below-above a b e = e

pub above-below : (a b : List ℕ) → key_above (key_of a) b ≡ true → key_below a b ≡ true
unfolding below
above-below a b e = e

-- A record whose key is below another's is not above it.
pub not-above : (r x : List ℕ) → key_below r x ≡ true → key_above (key_of x) r ≡ false
unfolding below
not-above r x e = refute _ λ f. clash (key-weak.trans r x r e f) (key-weak.irrefl r)

-- Of a list that ascends, each element before one is below it, and it is below each behind.
pub ascends-around : {A : Type 0} (test : A → A → Bool) (pre : List A) (x : A) (l : List A) → Ascends test (pre ++ x ∷ l)
    → ((r : A) → r ∈ pre → test r x ≡ true) × ((r : A) → r ∈ l → test x r ≡ true)
unfolding Ascends
ascends-around test [] x l s = (λ r m. absurd (none_in m), s.0)
ascends-around test (a ∷ pre) x l s =
    let k = ascends-around test pre x l s.1 in
    (λ r m. ⊎_elim (λ e. subst (λ y. test y x ≡ true) (sym e) (s.0 x (in_right pre (here refl)))) (k.0 r) (uncons m), k.1)

-- How a record's key stands to a key, and so the key to it.
turned : (last r : List ℕ) → by_bytes last (key_of r) ≡ flip (by_bytes (key_of r) last)
turned last r = bytes-linear.flips (key_of r) last

module _ (last : List ℕ) where
  abbrev passed : List ℕ → Bool
  passed r = not (key_above last r)

  abbrev lower : List ℕ → Bool
  lower r = is_less (by_bytes (key_of r) last)

  abbrev equal : List ℕ → Bool
  equal r = is_same (by_bytes (key_of r) last)

  above-not-lower : (r : List ℕ) → key_above last r ≡ true → (lower r ≡ false) × (equal r ≡ false)
  unfolding is_less is_same flip
  above-not-lower r e = three (by_bytes (key_of r) last)
      (λ h. clash e (ap is_less (turned last r ∙ ap flip h)))
      (λ h. clash e (ap is_less (turned last r ∙ ap flip h)))
      (λ h. (ap is_less h, ap is_same h))

  any-none-of : (p : List ℕ → Bool) (l : List (List ℕ)) → ((x : List ℕ) → x ∈ l → p x ≡ false) → any p l ≡ false
  unfolding any
  any-none-of p [] h = refl
  any-none-of p (a ∷ l) h = ap₂ ◌||◌ (h a (here refl)) (any-none-of p l λ x m. h x (there m))

  -- All above: none is passed, below or the same.
  module _ (l : List (List ℕ)) (h : (r : List ℕ) → r ∈ l → key_above last r ≡ true) where
    none_passed : not_above last l ≡ 0
    unfolding not_above
    none_passed = ap length (keep-none passed l λ r m. ap not (h r m))

    none-lower : keys_below last l ≡ 0
    unfolding keys_below
    none-lower = ap length (keep-none lower l λ r m. (above-not-lower r (h r m)).0)

    none_equal : has_key last l ≡ false
    unfolding has_key
    none_equal = any-none-of equal l λ r m. (above-not-lower r (h r m)).1

  -- Those that are passed are the keys below and, if it is there, the key itself.
  passed-many : (l : List (List ℕ)) → Ascends key_below l → not_above last l ≡ keys_below last l + cond (has_key last l) 1 0
  unfolding Ascends not_above keys_below has_key keep any is_less is_same flip
  passed-many [] s = refl
  passed-many (a ∷ l) s = three (by_bytes (key_of a) last)
      (λ h.
      let i = passed-many l s.1 in
      let q : key_above last a ≡ false = ap is_less (turned last a ∙ ap flip h) in
      rw (q, h) (omega (arith, i)))
      (λ h.
      let q : key_above last a ≡ false = ap is_less (turned last a ∙ ap flip h) in
      let up : (r : List ℕ) → r ∈ l → key_above last r ≡ true = λ r m. from-self a r (bytes-linear.equal (key_of a) last h) (s.0 r m) in
      let x = none_passed l up in
      let y = none-lower l up in
      rw (q, h) (omega (arith, x, y)))
      (λ h.
      let q : key_above last a ≡ true = ap is_less (turned last a ∙ ap flip h) in
      let up : (r : List ℕ) → r ∈ l → key_above last r ≡ true = λ r m. above-next last a r q (s.0 r m) in
      let x = none_passed l up in
      let y = none-lower l up in
      let z = none_equal l up in
      rw (q, h, z) (omega (arith, x, y)))
    where
      from-self : (a r : List ℕ) → key_of a ≡ last → key_below a r ≡ true → key_above last r ≡ true
      from-self a r e b = subst (λ k. is_less (by_bytes k (key_of r)) ≡ true) e (unfold below in b)

  pub passed-few : (l : List (List ℕ)) → not_above last l ≤ length l
  unfolding not_above
  passed-few l = keep-length passed l

  -- By the search for the key.
  module _ (l : List (List ℕ)) (s : Ascends key_below l) (at : ℕ) (ea : at ≡ keys_below last l) (t : Bool) (et : t ≡ has_key last l) where
    pub above-found : t ≡ true → at + 1 ≡ not_above last l
    above-found q = let e = passed-many l s in let h : has_key last l ≡ true = sym et ∙ q in let g : not_above last l ≡ keys_below last l + 1 = rw h at e in omega arith

    pub above-absent : t ≡ false → at ≡ not_above last l
    above-absent q = let e = passed-many l s in let h : has_key last l ≡ false = sym et ∙ q in let g : not_above last l ≡ keys_below last l + 0 = rw h at e in omega arith

first-among : (q : List ℕ → Bool) (l : List (List ℕ)) → Ascends key_below l → (r : List ℕ) → first_that q l ≡ some r → r ∈ l
first-among q l s r g = (subst (λ o. LeastIs key_below q l o) (least_first key_below key-weak q l s ∙ g) (least-is key_below key-weak q l)).among

own-place : (a : List ℕ) (l : List (List ℕ)) → ((x : List ℕ) → x ∈ l → key_below a x ≡ true) → keys_below (key_of a) (a ∷ l) ≡ 0
unfolding keys_below keep below
own-place a l s =
    let z : is_less (by_bytes (key_of a) (key_of a)) ≡ false = above-self a in
    rw z (ap length (keep-none (lower (key_of a)) l λ r m. (above-not-lower (key_of a) r (s r m)).0))

later-place : (a : List ℕ) (l : List (List ℕ)) (o : Option (List ℕ)) (n : ℕ) → ((r : List ℕ) → o ≡ some r → key_below a r ≡ true) → place_among l o ≡ n → place_among (a ∷ l) o ≡ suc n
unfolding keys_below keep below place_among
later-place a l none n h i = ap suc i
later-place a l (some r) n h i = let b : is_less (by_bytes (key_of a) (key_of r)) ≡ true = h r refl in rw b (ap suc i)

-- The place of the first that a test holds of, by its mark.
pub first-place : (q : List ℕ → Bool) (l : List (List ℕ)) → Ascends key_below l → place_among l (first_that q l) ≡ first_mark (marks_of q l)
unfolding Ascends first_that
first-place q [] s = unfold place_among in refl
first-place q (a ∷ l) s =
    let i = first-place q l s.1 in
    split (q a)
    (λ e. rw e (own_at a l s.0))
    (λ e. rw e (later-place a l (first_that q l) (first_mark (marks_of q l)) (λ r g. s.0 r (first-among q l s.1 r g)) i))
  where
    own_at : (a : List ℕ) (l : List (List ℕ)) → ((x : List ℕ) → x ∈ l → key_below a x ≡ true) → place_among (a ∷ l) (some a) ≡ 0
    own_at a l s = unfold place_among in own-place a l s

-- Tests that answer the same of each element have the same marks.
marks-alike : {A : Type 0} (p q : A → Bool) (l : List A) → ((x : A) → x ∈ l → p x ≡ q x) → marks_of p l ≡ marks_of q l
marks-alike p q [] h = refl
marks-alike p q (a ∷ l) h = ap₂ (λ (b : Bool) (m : List ℕ). cond b 1 0 ∷ m) (h a (here refl)) (marks-alike p q l λ x m. h x (there m))

-- The first mark among those above a key, of records whose keys ascend: the first from those that are passed on.
pub first_above : (last : List ℕ) (test : List ℕ → Bool) (l : List (List ℕ)) → Ascends key_below l
    → first_mark (marks_of (λ (r : List ℕ). key_above last r && test r) l) ≡ not_above last l + first_mark (drop (not_above last l) (marks_of test l))
unfolding Ascends not_above keep
first_above last test [] s = refl
first_above last test (a ∷ l) s =
    let i = first_above last test l s.1 in
    split (key_above last a)
    (λ q.
    let up : (r : List ℕ) → r ∈ a ∷ l → key_above last r ≡ true = λ r m. ⊎_elim (λ e. subst (λ x. key_above last x ≡ true) (sym e) q) (λ n. above-next last a r q (s.0 r n)) (uncons m) in
    let z : not_above last (a ∷ l) ≡ 0 = none_passed last (a ∷ l) up in
    let e = marks-alike (λ (r : List ℕ). key_above last r && test r) test (a ∷ l) (λ r m. ap (◌&& test r) (up r m)) in
    let y : first_mark (marks_of test (a ∷ l)) ≡ 0 + first_mark (drop 0 (marks_of test (a ∷ l))) = omega arith in
    ap first_mark e ∙ y ∙ ap (λ (n : ℕ). n + first_mark (drop n (marks_of test (a ∷ l)))) (sym z))
    (λ q.
    let g : suc (not_above last l + first_mark (drop (not_above last l) (marks_of test l))) ≡ suc (not_above last l) + first_mark (drop (not_above last l) (marks_of test l)) = omega arith in
    rw q (ap suc i ∙ g))

-- What records say, and a test of an entry as one of its record.
pub marks-contents : (ns : List ℕ) (test : Stored → Bool) (recs : List (List ℕ)) → marks_of test (contents Spt field ns recs) ≡ marks_of (λ (r : List ℕ). test (stored Spt field ns r)) recs
marks-contents ns test [] = refl
marks-contents ns test (r ∷ rs) = ap (cond (test (stored Spt field ns r)) 1 0 ∷◌) (marks-contents ns test rs)

-- The place of the record that a step gives: the first mark from those that are passed on.
pub step-place : (ns : List ℕ) (test : Stored → Bool) (last : List ℕ) (recs : List (List ℕ)) → Ascends key_below recs → (count : ℕ) → length (contents Spt field ns recs) ≡ count
    → (marks old : List ℕ) → marks ≡ put (marks_of test (contents Spt field ns recs)) old → (from : ℕ) → from ≡ not_above last recs
    → (k : ℕ) → k ≡ from + first_mark (drop from (take count marks)) → k ≡ place_among recs (step_in field ns test last recs)
unfolding step_in
step-place ns test last recs s count many marks old em from ef k ek =
    let m = marks-front test (contents Spt field ns recs) count many marks old em ∙ marks-contents ns test recs in
    ek ∙ ap (λ (x : List ℕ). from + first_mark (drop from x)) m
    ∙ ap (λ (n : ℕ). n + first_mark (drop n (marks_of (λ (r : List ℕ). test (stored Spt field ns r)) recs))) ef
    ∙ sym (first_above last (λ (r : List ℕ). test (stored Spt field ns r)) recs s)
    ∙ sym (first-place (qualifies field ns test last) recs s)
    ∙ ap (place_among recs) (sym (least_first key_below key-weak (qualifies field ns test last) recs s))
