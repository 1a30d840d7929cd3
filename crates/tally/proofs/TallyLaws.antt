-- What the tally of a list of entries says, in words. Assumes nothing.
use Prim.Native.Nat.{ℕ, suc, ◌≤◌}
use mathlib.Core.Path.{◌≡◌, refl, sym, ap, subst, ◌∙◌}
use mathlib.Core.Logic.{◌⊎◌, inl, inr, ⊎_elim}
use mathlib.Core.Bool.{Bool, true, false, cond}
use mathlib.Core.List.Memᴰ.{cases_cons as uncons}
use mathlib.Core.List.Memᴰ.{head as here}
use mathlib.Core.List.Memᴰ.{not-nil as none_in}
use mathlib.Core.List.Memᴰ.{tail as there}
use mathlib.Core.List.{List, [], ◌∷◌}
use native.Mathlib.Omega.{arith}
use lib.ListN.{length}
use lib.Dec.{ltb}
use borrow.Author.Tests.{ltb-true, ltb-false}
use Rattle.laws.specs.Order.{less, same, greater, is_less, below}
use Rattle.laws.specs.Sorted.{◌∈◌, keep, Ascends}
use Rattle.laws.proofs.Truth.{split, clash, refute}
use Rattle.laws.proofs.Order.{three, is-less, less-same, same-greater, below-strict, greater-less}
use Rattle.data_model.specs.Subspace.{same_subspace, by_subspace}
use Rattle.data_model.specs.declared.parameters.Subspace.{Subspace}
use Rattle.data_model.proofs.Orders.{subspace-linear, subspace-equality}
use Rattle.tree.specs.Stored.{Stored}
use Rattle.tally.specs.Tally.{later_of, item_of, with_one, enter, tally_of, item_below, TallySaid}
use Rattle.tally.specs.declared.item.Item.{Item}

abbrev pub subspace_of : Stored → Subspace
subspace_of x = x.entry.subspace

abbrev time_of : Stored → ℕ
time_of x = x.entry.rank.timestamp

-- The later of two timestamps.
later-left : (a b : ℕ) → a ≤ later_of a b
unfolding later_of
later-left a b = split (ltb a b) (λ q. let h = ltb-true a b q in rw q (omega arith)) (λ q. rw q (omega arith))

later-right : (a b : ℕ) → b ≤ later_of a b
unfolding later_of
later-right a b = split (ltb a b) (λ q. rw q (omega arith)) (λ q. let h = ltb-false a b q in rw q (omega arith))

later-one : (a b : ℕ) → (later_of a b ≡ a) ⊎ (later_of a b ≡ b)
unfolding later_of
later-one a b = split (ltb a b) (λ q. inr (rw q)) (λ q. inl (rw q))

-- An item of the list with one entry more: one that was there and is of another subspace, the entry's own, or the old one of its subspace with it.
data Entered (x : Stored) (l : List Item) (i : Item) : Type 0 where
  other : i ∈ l → (by_subspace (subspace_of x) i.subspace ≡ same → ⊥) → Entered x l i
  first : i ≡ item_of x → ((j : Item) → j ∈ l → by_subspace (subspace_of x) j.subspace ≡ same → ⊥) → Entered x l i
  again : (j : Item) → j ∈ l → subspace_of x ≡ j.subspace → i ≡ with_one x j → Entered x l i

-- Below the first of ascending items is below all of them.
below_all : (s : Subspace) (i : Item) (l : List Item) → Ascends item_below (i ∷ l) → by_subspace s i.subspace ≡ less → (j : Item) → j ∈ i ∷ l → by_subspace s j.subspace ≡ less
unfolding Ascends below
below_all s i l a e j m = ⊎_elim
    (λ q. ap (λ (z : Item). by_subspace s z.subspace) q ∙ e)
    (λ n. subspace-linear.trans s i.subspace j.subspace e (is-less _ (a.0 j n))) (uncons m)

enter-view : (x : Stored) (l : List Item) → Ascends item_below l → (i : Item) → i ∈ enter x l → Entered x l i
unfolding enter Ascends
enter-view x [] a i m = first (⊎_elim (λ e. e) (λ n. absurd (none_in n)) (uncons m)) (λ j n. absurd (none_in n))
enter-view x (j ∷ l) a i m = three (by_subspace (subspace_of x) j.subspace)
    (λ e.
    let m' : i ∈ item_of x ∷ j ∷ l = rw e at m in
    ⊎_elim (λ q. first q (λ h n. less-same (below_all (subspace_of x) j l a e h n)))
    (λ n. other n (less-same (below_all (subspace_of x) j l a e i n))) (uncons m'))
    (λ e.
    let q : subspace_of x ≡ j.subspace = subspace-linear.equal (subspace_of x) j.subspace e in
    let m' : i ∈ with_one x j ∷ l = rw e at m in
    ⊎_elim (λ d. again j (here refl) q d)
    (λ n. other (there n) (λ f.
    let g : j.subspace ≡ i.subspace = sym q ∙ subspace-linear.equal (subspace_of x) i.subspace f in
    clash (a.0 i n) (ap (λ (z : Subspace). below by_subspace j.subspace z) (sym g) ∙ (below-strict by_subspace subspace-linear).irrefl j.subspace))) (uncons m'))
    (λ e.
    let m' : i ∈ j ∷ enter x l = rw e at m in
    ⊎_elim (λ d. other (here d) (λ f. same-greater (ap (λ (z : Item). by_subspace (subspace_of x) z.subspace) (sym d) ∙ f) e))
    (λ n. behind (enter-view x l a.1 i n) e) (uncons m'))
  where
    behind : Entered x l i → by_subspace (subspace_of x) j.subspace ≡ greater → Entered x (j ∷ l) i
    behind (other n h) e = other (there n) h
    behind (first q h) e = first q (λ z n. ⊎_elim (λ d f. same-greater (ap (λ (y : Item). by_subspace (subspace_of x) y.subspace) (sym d) ∙ f) e) (λ n f. h z n f) (uncons n))
    behind (again z n q d) e = again z (there n) q d

-- The item of the entry's subspace, and those that were there.
enter-own : (x : Stored) (l : List Item) → (i : Item) × i ∈ enter x l × (i.subspace ≡ subspace_of x)
unfolding enter
enter-own x [] = (item_of x, here refl, refl)
enter-own x (j ∷ l) = three (by_subspace (subspace_of x) j.subspace)
    (λ e. rw e (item_of x, here refl, refl))
    (λ e. rw e (with_one x j, here refl, sym (subspace-linear.equal (subspace_of x) j.subspace e)))
    (λ e. let r = enter-own x l in rw e (r.0, there r.1, r.2))

enter-old : (x : Stored) (l : List Item) (i : Item) → i ∈ l → (j : Item) × j ∈ enter x l × (j.subspace ≡ i.subspace)
unfolding enter
enter-old x [] i m = absurd (none_in m)
enter-old x (h ∷ l) i m = three (by_subspace (subspace_of x) h.subspace)
    (λ e. rw e (i, there m, refl))
    (λ e. rw e (⊎_elim (λ q. (with_one x h, here refl, ap (λ (z : Item). z.subspace) (sym q))) (λ n. (i, there n, refl)) (uncons m)))
    (λ e. rw e (⊎_elim (λ q. (h, here refl, ap (λ (z : Item). z.subspace) (sym q))) (λ n. let r = enter-old x l i n in (r.0, there r.1, r.2)) (uncons m)))

enter-ascends : (x : Stored) (l : List Item) → Ascends item_below l → Ascends item_below (enter x l)
unfolding enter Ascends below
enter-ascends x [] a = (λ i m. absurd (none_in m), tt)
enter-ascends x (j ∷ l) a = three (by_subspace (subspace_of x) j.subspace)
    (λ e. rw e (λ i m. ap is_less (below_all (subspace_of x) j l a e i m) ∙ less-yes, a))
    (λ e. rw e a)
    (λ e. rw e (λ i m. after i (enter-view x l a.1 i m) e, enter-ascends x l a.1))
  where
    less-yes : is_less less ≡ true
    less-yes = unfold is_less in refl

    after : (i : Item) → Entered x l i → by_subspace (subspace_of x) j.subspace ≡ greater → is_less (by_subspace j.subspace i.subspace) ≡ true
    after i (other n h) e = a.0 i n
    after i (first q h) e = ap (λ (z : Item). is_less (by_subspace j.subspace z.subspace)) q ∙ ap is_less (greater-less by_subspace subspace-linear (subspace_of x) j.subspace e) ∙ less-yes
    after i (again z n q d) e = ap (λ (y : Item). is_less (by_subspace j.subspace y.subspace)) d ∙ a.0 z n

none_kept : (p : Stored → Bool) (l : List Stored) → ((x : Stored) → x ∈ l → p x ≡ false) → keep p l ≡ []
unfolding keep
none_kept p [] h = refl
none_kept p (x ∷ l) h = rw (h x (here refl)) (none_kept p l λ y m. h y (there m))

-- Whether an entry is of a subspace.
abbrev pub is_of : Subspace → Stored → Bool
is_of s x = same_subspace (subspace_of x) s

-- What is said of a list, and of one with one entry more.
module _ (x : Stored) (l : List Stored) (v : TallySaid l) where
  -- No item of its subspace: no entry of it.
  fresh : ((j : Item) → j ∈ tally_of l → by_subspace (subspace_of x) j.subspace ≡ same → ⊥) → (y : Stored) → y ∈ l → subspace_of y ≡ subspace_of x → ⊥
  fresh h y m e =
      let i = (v.subspaces (subspace_of x)).1 (y, m, e) in
      h i.0 i.1 (ap (by_subspace (subspace_of x)) i.2 ∙ subspace-linear.self (subspace_of x))

  counts-more : (i : Item) → Entered x (tally_of l) i → i.count ≡ length (keep (is_of i.subspace) (x ∷ l))
  unfolding keep
  counts-more i (other n h) =
      let q : is_of i.subspace x ≡ false
      = refute _ (λ e. h (ap (by_subspace (subspace_of x)) (sym (subspace-equality.equal (subspace_of x) i.subspace e)) ∙ subspace-linear.self (subspace_of x))) in
      v.counts i n ∙ rw q refl
  counts-more i (first q h) =
      let none : keep (is_of (subspace_of x)) l ≡ [] = none_kept (is_of (subspace_of x)) l λ y m. refute _ λ e. fresh h y m (subspace-equality.equal (subspace_of y) (subspace_of x) e) in
      ap (λ (z : Item). z.count) q
      ∙ sym (ap (λ (z : Item). length (cond (is_of z.subspace x) (x ∷ keep (is_of z.subspace) l) (keep (is_of z.subspace) l))) q ∙ rw (subspace-equality.self (subspace_of x), none) refl)
  counts-more i (again j n q d) =
      let y : is_of j.subspace x ≡ true = ap (same_subspace (subspace_of x)) (sym q) ∙ subspace-equality.self (subspace_of x) in
      ap (λ (z : Item). z.count) d ∙ ap suc (v.counts j n)
      ∙ sym (ap (λ (z : Item). length (cond (is_of z.subspace x) (x ∷ keep (is_of z.subspace) l) (keep (is_of z.subspace) l))) d ∙ rw y refl)

  none-later-more : (i : Item) → Entered x (tally_of l) i → (y : Stored) → y ∈ x ∷ l → subspace_of y ≡ i.subspace → time_of y ≤ i.newest
  none-later-more i (other n h) y m e = ⊎_elim
      (λ q. absurd (h (ap (by_subspace (subspace_of x)) (sym e ∙ ap subspace_of q) ∙ subspace-linear.self (subspace_of x))))
      (λ j. v.none_later i n y j e) (uncons m)
  none-later-more i (first q h) y m e = ⊎_elim
      (λ d. subst (λ (z : Stored). time_of z ≤ i.newest) (sym d) (let z = ap (λ (y : Item). y.newest) q in omega arith))
      (λ j. absurd (fresh h y j (e ∙ ap (λ (z : Item). z.subspace) q))) (uncons m)
  none-later-more i (again j n q d) y m e =
      let z : i.newest ≡ later_of (time_of x) j.newest = ap (λ (y : Item). y.newest) d in
      ⊎_elim
      (λ c. subst (λ (y : Stored). time_of y ≤ i.newest) (sym c) (let g = later-left (time_of x) j.newest in omega arith))
      (λ c. let h = v.none_later j n y c (e ∙ ap (λ (y : Item). y.subspace) d) in let g = later-right (time_of x) j.newest in omega arith) (uncons m)

  newest-more : (i : Item) → Entered x (tally_of l) i → (y : Stored) × y ∈ x ∷ l × (subspace_of y ≡ i.subspace) × (time_of y ≡ i.newest)
  newest-more i (other n h) = let r = v.newest i n in (r.0, there r.1, r.2, r.3)
  newest-more i (first q h) = (x, here refl, sym (ap (λ (y : Item). y.subspace) q), sym (ap (λ (y : Item). y.newest) q))
  newest-more i (again j n q d) = ⊎_elim
      (λ c. (x, here refl, q ∙ sym (ap (λ (y : Item). y.subspace) d), sym (ap (λ (y : Item). y.newest) d ∙ c)))
      (λ c. let r = v.newest j n in (r.0, there r.1, r.2 ∙ sym (ap (λ (y : Item). y.subspace) d), r.3 ∙ sym (ap (λ (y : Item). y.newest) d ∙ c)))
      (later-one (time_of x) j.newest)

  item-more : (s : Subspace) (y : Stored) → y ∈ x ∷ l → subspace_of y ≡ s → (i : Item) × i ∈ enter x (tally_of l) × (i.subspace ≡ s)
  item-more s y m e = ⊎_elim
      (λ q. let r = enter-own x (tally_of l) in (r.0, r.1, r.2 ∙ ap subspace_of (sym q) ∙ e))
      (λ n.
      let i = (v.subspaces s).1 (y, n, e) in
      let r = enter-old x (tally_of l) i.0 i.1 in
      (r.0, r.1, r.2 ∙ i.2)) (uncons m)

  said_more : TallySaid (x ∷ l)
  unfolding tally_of
  said_more =
      let view : (i : Item) → i ∈ enter x (tally_of l) → Entered x (tally_of l) i = enter-view x (tally_of l) v.ascends in
      record {
        ascends = enter-ascends x (tally_of l) v.ascends;
        subspaces = λ s. (
          λ i. let r = newest-more i.0 (view i.0 i.1) in (r.0, r.1, r.2 ∙ i.2),
          λ y. item-more s y.0 y.1 y.2,
        );
        counts = λ i m. counts-more i (view i m);
        newest = λ i m. newest-more i (view i m);
        none_later = λ i m. none-later-more i (view i m);
      }

pub tally-said : (l : List Stored) → TallySaid l
unfolding tally_of Ascends
tally-said [] = record {
  ascends = tt;
  subspaces = λ s. (λ i. absurd (none_in i.1), λ y. absurd (none_in y.1));
  counts = λ i m. absurd (none_in m);
  newest = λ i m. absurd (none_in m);
  none_later = λ i m. absurd (none_in m);
}
tally-said (x ∷ l) = said_more x l (tally-said l)
