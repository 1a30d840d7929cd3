-- The walk over a subspace-first tree: the entries of a subspace stand together, and a run of them is the first item of the tally from there on. Assumes nothing.
use Prim.Native.Nat.{ℕ, zero, suc, ◌+◌, ◌-◌, ◌≤◌, ◌<◌}
use mathlib.Core.Path.{◌≡◌, refl, sym, ap, ap₂, subst, ◌∙◌}
use Rattle.std.specs.Prelude.{max}
use mathlib.Core.Logic.{⊎_elim}
use mathlib.Core.Bool.{Bool, true, false, not, cond}
use mathlib.Core.List.Memᴰ.{cases_cons as uncons}
use mathlib.Core.List.Memᴰ.{head as here}
use mathlib.Core.List.Memᴰ.{not-nil as none_in}
use mathlib.Core.List.Memᴰ.{tail as there}
use mathlib.Core.List.{List, [], ◌∷◌}
use native.Mathlib.Omega.{arith}
use lib.ListN.{drop}
use lib.Seq.{drop-drop}
use lib.Dec.{ltb}
use borrow.Author.Tests.{ltb-true, ltb-false, lt-ltb, le-ltb}
use Rattle.laws.specs.Order.{greater, below, ◌then◌, by_number}
use Rattle.laws.specs.Sorted.{◌∈◌, Ascends}
use Rattle.laws.proofs.Truth.{split, refute, clash, not-true, not-false}
use Rattle.laws.proofs.Order.{three, is-less, less-same, less-greater, then-greater, less-is-greater}
use Rattle.layout.specs.Layout.{records, record_at}
use Rattle.data_model.specs.Path.{field, by_components}
use Rattle.data_model.specs.Subspace.{same_subspace, by_subspace}
use Rattle.data_model.specs.declared.parameters.Subspace.{Subspace}
use Rattle.data_model.proofs.Orders.{subspace-linear, subspace-equality}
use Rattle.key_laws.specs.Bytes.{Bytes}
use Rattle.key_laws.specs.KeyOrder.{spt_order}
use Rattle.tree.specs.Stored.{order_in, Stored, stored_from, stored, contents, triple_of}
use Rattle.tree.specs.Tree.{Ordered}
use Rattle.tree.specs.Address.{triple_at}
use Rattle.tree.specs.declared.stored.KeyOrder.TheVariants.{Spt}
use Rattle.tree.proofs.AgreeLaws.{contents-ascends}
use Rattle.tree.proofs.FormedContents.{formed-next, formed-done}
use Rattle.tree.proofs.WalkLaws.{entry_below}
use Rattle.tree.proofs.WithinLaws.{formed-recorded}
use Rattle.tally.specs.Tally.{later_of, item_of, enter, tally_of}
use Rattle.tally.specs.declared.item.Item.{Item}
use Rattle.tally.proofs.TallyLaws.{subspace_of, tally-said}

-- The later of two is the greater.
pub later_max : (a b : ℕ) → max a b ≡ later_of a b
unfolding later_of
later_max a b = split (ltb a b)
    (λ p. rw p (omega (arith, ltb-true a b p)))
    (λ p. rw p (omega (arith, ltb-false a b p)))

later-assoc : (a b c : ℕ) → later_of a (later_of b c) ≡ later_of (later_of a b) c
unfolding later_of
later-assoc a b c = split (ltb a b)
    (λ p. split (ltb b c)
    (λ q. rw (p, q, lt-ltb a c (omega (arith, ltb-true a b p, ltb-true b c q))))
    (λ q. rw (p, q, p)))
    (λ p. split (ltb b c)
    (λ q. rw (p, q))
    (λ q. rw (p, q, p, le-ltb a c (omega (arith, ltb-false a b p, ltb-false b c q)))))

-- Two items of a subspace as one. An item in front of others: as one with the first if that is of its subspace.
abbrev merged : Item → Item → Item
merged i j = record { subspace = i.subspace; count = i.count + j.count; newest = later_of i.newest j.newest }

unfoldable pub front : Item → List Item → List Item
front i [] = i ∷ []
front i (j ∷ l) = cond (same_subspace i.subspace j.subspace) (merged i j ∷ l) (i ∷ j ∷ l)

front-merged : (i j : Item) (l : List Item) → i.subspace ≡ j.subspace → front i (front j l) ≡ front (merged i j) l
unfolding front
front-merged i j l e = go l
  where
    is : same_subspace i.subspace j.subspace ≡ true
    is = ap (same_subspace i.subspace) (sym e) ∙ subspace-equality.self i.subspace

    assoc : (h : Item) → merged i (merged j h) ≡ merged (merged i j) h
    assoc h =
        let n : i.count + (j.count + h.count) ≡ i.count + j.count + h.count = omega arith in
        λ d. record { subspace = i.subspace; count = n d; newest = later-assoc i.newest j.newest h.newest d }

    go : (l : List Item) → front i (front j l) ≡ front (merged i j) l
    go [] = rw is
    go (h ∷ l) =
        let f : same_subspace i.subspace h.subspace ≡ same_subspace j.subspace h.subspace = ap (λ (s : Subspace). same_subspace s h.subspace) e in
        split (same_subspace j.subspace h.subspace)
        (λ q. rw (q, is, f, q) (ap (◌∷ l) (assoc h)))
        (λ q. rw (q, is, f, q))

front-apart : (i : Item) (l : List Item) → ((j : Item) → j ∈ l → i.subspace ≡ j.subspace → ⊥) → front i l ≡ i ∷ l
unfolding front
front-apart i [] h = refl
front-apart i (j ∷ l) h = rw (refute (same_subspace i.subspace j.subspace) λ e. h j (here refl) (subspace-equality.equal i.subspace j.subspace e))

-- An entry that is entered where no item is of a subspace below its own is the item in front.
enter-front : (x : Stored) (l : List Item) → ((j : Item) → j ∈ l → by_subspace (subspace_of x) j.subspace ≡ greater → ⊥) → enter x l ≡ front (item_of x) l
unfolding enter front
enter-front x [] h = refl
enter-front x (j ∷ l) h = three (by_subspace (subspace_of x) j.subspace)
    (λ e.
    let q : same_subspace (subspace_of x) j.subspace ≡ false
    = refute _ λ f. less-same e (ap (by_subspace (subspace_of x)) (sym (subspace-equality.equal (subspace_of x) j.subspace f)) ∙ subspace-linear.self (subspace_of x)) in
    rw (e, q))
    (λ e.
    let s : subspace_of x ≡ j.subspace = subspace-linear.equal (subspace_of x) j.subspace e in
    let q : same_subspace (subspace_of x) j.subspace ≡ true = ap (same_subspace (subspace_of x)) (sym s) ∙ subspace-equality.self (subspace_of x) in
    let n : suc j.count ≡ 1 + j.count = omega arith in
    rw (e, q) (ap (◌∷ l) λ d. record { subspace = sym s d; count = n d; newest = later_of x.entry.rank.timestamp j.newest }))
    (λ e. absurd (h j (here refl) e))

-- In key order no later entry is of a subspace below.
subspaces-ascend : (x y : Stored) → entry_below x y ≡ true → by_subspace (subspace_of x) (subspace_of y) ≡ greater → ⊥
unfolding below spt_order triple_of
subspaces-ascend x y e g =
    less-greater (is-less _ e) (then-greater (by_subspace (subspace_of x) (subspace_of y)) (by_components x.entry.path y.entry.path then by_number x.entry.rank.timestamp y.entry.rank.timestamp) g)

-- The subspace of an item is that of an entry.
item-entry : (l : List Stored) (j : Item) → j ∈ tally_of l → (y : Stored) × y ∈ l × (subspace_of y ≡ j.subspace)
item-entry l j m = ((tally-said l).subspaces j.subspace).0 (j, m, refl)

tally-next : (x : Stored) (l : List Stored) → Ascends entry_below (x ∷ l) → tally_of (x ∷ l) ≡ front (item_of x) (tally_of l)
unfolding tally_of Ascends
tally-next x l a = enter-front x (tally_of l) λ j m g.
    let y = item-entry l j m in
    subspaces-ascend x y.0 (a.0 y.0 y.1) (ap (by_subspace (subspace_of x)) y.2 ∙ g)

-- What is left of a list.
module _ {A : Type 0} where
  in_left : (k : ℕ) (l : List A) {x : A} → x ∈ drop k l → x ∈ l
  in_left zero l m = m
  in_left (suc k) [] m = m
  in_left (suc k) (a ∷ l) m = there (in_left k l m)

  ascends-left : (test : A → A → Bool) (k : ℕ) (l : List A) → Ascends test l → Ascends test (drop k l)
  unfolding Ascends
  ascends-left test zero l a = a
  ascends-left test (suc k) [] a = a
  ascends-left test (suc k) (x ∷ l) a = ascends-left test k l a.1

-- Of two entries in key order, both behind a third: if the nearer is of another subspace, so is the farther.
apart-behind : (x y z : Stored) → entry_below x y ≡ true → entry_below y z ≡ true → same_subspace (subspace_of y) (subspace_of x) ≡ false → subspace_of x ≡ subspace_of z → ⊥
apart-behind x y z e f n q = three (by_subspace (subspace_of x) (subspace_of y))
    (λ g. subspaces-ascend y z f (ap (by_subspace (subspace_of y)) (sym q) ∙ less-is-greater by_subspace subspace-linear (subspace_of x) (subspace_of y) g))
    (λ g. clash (ap (λ (s : Subspace). same_subspace s (subspace_of x)) (sym (subspace-linear.equal (subspace_of x) (subspace_of y) g)) ∙ subspace-equality.self (subspace_of x)) n)
    (λ g. subspaces-ascend x y e g)

-- A run of entries from record k on, up to `end`: their subspace, how many, and their newest timestamp.
abbrev pub run_item : Subspace → (k end newest : ℕ) → Item
run_item s k end newest = record { subspace = s; count = end - k; newest = newest }

-- The tally from record k on is that run in front of what is left, whatever the namespace.
abbrev pub Runs : (count : ℕ) (dir tree : List ℕ) → Subspace → (k end newest : ℕ) → Type 0
Runs count dir tree s k end newest = (ns : List ℕ)
    → tally_of (drop k (contents Spt field ns (records count dir tree))) ≡ front (run_item s k end newest) (tally_of (drop end (contents Spt field ns (records count dir tree))))

module _ {count : ℕ} {dir tree : List ℕ} (v : Ordered Spt count dir tree) (b : Bytes tree) (ns : List ℕ) where
  abbrev entries : List Stored
  entries = contents Spt field ns (records count dir tree)

  abbrev entry_at : ℕ → Stored
  entry_at k = stored Spt field ns (record_at k dir tree)

  left-ascends : (k : ℕ) → Ascends entry_below (drop k entries)
  unfolding order_in
  left-ascends k = ascends-left entry_below k entries (contents-ascends Spt field ns (records count dir tree) (formed-recorded v.formed b) v.ascends)

  next-ascends : (k : ℕ) → k < count → Ascends entry_below (entry_at k ∷ drop (k + 1) entries)
  next-ascends k h = subst (Ascends entry_below) (formed-next v.formed ns k h) (left-ascends k)

  next-tally : (k : ℕ) → k < count → tally_of (drop k entries) ≡ front (item_of (entry_at k)) (tally_of (drop (k + 1) entries))
  next-tally k h = ap tally_of (formed-next v.formed ns k h) ∙ tally-next (entry_at k) (drop (k + 1) entries) (next-ascends k h)

  module _ (k : ℕ) (h : k < count) (s : Subspace) (e : s ≡ (triple_at Spt (record_at k dir tree)).subspace) where
    pub run-start : (t : ℕ) → t ≡ (triple_at Spt (record_at k dir tree)).timestamp → tally_of (drop k entries) ≡ front (run_item s k (k + 1) t) (tally_of (drop (k + 1) entries))
    unfolding stored stored_from
    run-start t q =
        let n : 1 ≡ k + 1 - k = omega arith in
        let i : item_of (entry_at k) ≡ run_item s k (k + 1) t = λ d. record { subspace = sym e d; count = n d; newest = sym q d } in
        next-tally k h ∙ ap (λ (i : Item). front i (tally_of (drop (k + 1) entries))) i

    module _ (end t : ℕ) (far : k < end) (inv : tally_of (drop k entries) ≡ front (run_item s k end t) (tally_of (drop end entries))) where
      -- Nothing is left, or nothing of this subspace.
      run-apart : ((j : Item) → j ∈ tally_of (drop end entries) → s ≡ j.subspace → ⊥) → tally_of (drop k entries) ≡ run_item s k end t ∷ tally_of (drop (k + (end - k)) entries)
      run-apart n =
          let q : end ≡ k + (end - k) = omega arith in
          inv ∙ front-apart (run_item s k end t) (tally_of (drop end entries)) n ∙ ap (λ (m : ℕ). run_item s k end t ∷ tally_of (drop m entries)) q

      pub run-done : count ≤ end → tally_of (drop k entries) ≡ run_item s k end t ∷ tally_of (drop (k + (end - k)) entries)
      run-done d = run-apart λ j m q.
          let y = item-entry (drop end entries) j m in
          absurd (none_in (subst (y.0 ∈◌) (formed-done v.formed ns end d) y.1))

      module _ (more : end < count) (next : Subspace) (f : next ≡ (triple_at Spt (record_at end dir tree)).subspace) where
        pub run_ends : not (same_subspace next s) ≡ true → tally_of (drop k entries) ≡ run_item s k end t ∷ tally_of (drop (k + (end - k)) entries)
        unfolding stored stored_from Ascends
        run_ends n = run-apart λ j m q.
            let o : same_subspace next s ≡ false = not-true (same_subspace next s) n in
            let y = item-entry (drop end entries) j m in
            let w : k + 1 + (end - (k + 1)) ≡ end = omega arith in
            let z : entry_at end ∈ drop (k + 1) entries
            = in_left (end - (k + 1)) (drop (k + 1) entries)
            (subst (entry_at end ∈◌) (sym (drop-drop (end - (k + 1)) (k + 1) entries ∙ ap (λ (m : ℕ). drop m entries) w ∙ formed-next v.formed ns end more)) (here refl)) in
            ⊎_elim
            (λ d. clash (ap₂ same_subspace (f ∙ sym (ap subspace_of d) ∙ y.2) q ∙ subspace-equality.self j.subspace) o)
            (λ d. apart-behind (entry_at k) (entry_at end) y.0 ((next-ascends k h).0 (entry_at end) z) ((next-ascends end more).0 y.0 d)
            (ap₂ same_subspace (sym f) (sym e) ∙ o) (sym e ∙ q ∙ sym y.2))
            (uncons (subst (y.0 ∈◌) (formed-next v.formed ns end more) y.1))

        pub run-turn : not (same_subspace next s) ≡ false → (time u : ℕ) → time ≡ (triple_at Spt (record_at end dir tree)).timestamp → u ≡ later_of t time
            → tally_of (drop k entries) ≡ front (run_item s k (end + 1) u) (tally_of (drop (end + 1) entries))
        unfolding stored stored_from
        run-turn n time u g l =
            let o : s ≡ next = sym (subspace-equality.equal next s (not-false (same_subspace next s) n)) in
            let m : end - k + 1 ≡ end + 1 - k = omega arith in
            let i : merged (run_item s k end t) (item_of (entry_at end)) ≡ run_item s k (end + 1) u
            = λ d. record { subspace = s; count = m d; newest = (ap (later_of t) (sym g) ∙ sym l) d } in
            inv
            ∙ ap (front (run_item s k end t)) (next-tally end more)
            ∙ front-merged (run_item s k end t) (item_of (entry_at end)) (tally_of (drop (end + 1) entries)) (o ∙ f)
            ∙ ap (λ (i : Item). front i (tally_of (drop (end + 1) entries))) i
