-- The walk of `apart`: each record is compared with the nearest one that covers it. Those that cover a record are a chain, in which each covers
-- the next, stands elsewhere and is not newer; so what holds of the nearest holds of all. Assumes nothing.
use Prim.Native.Nat.{ℕ, zero, suc, ◌+◌, ◌-◌, ◌≤◌, ◌<◌}
use mathlib.Core.Path.{◌≡◌, refl, sym, ap, ap₂, ◌∙◌}
use mathlib.Core.List.{List, [], ◌∷◌}
use mathlib.Core.Bool.{Bool, true, false, not, cond, ◌&&◌}
use native.Mathlib.Omega.{arith}
use native.Mathlib.Numerals.{add-one}
use lib.Dec.{leb}
use borrow.Author.Tests.{leb-true, leb-false}
use lib.ListN.{length, set, get_or}
use lib.Seq.{get_or-set_same, get_or-set_other}
use Rattle.laws.specs.Prefix.{prefix_of}
use Rattle.laws.proofs.Truth.{split, clash, refute, and-true, not-true}
use Rattle.laws.proofs.Prefix.{prefix-antisym, prefix-tail}
use Rattle.data_model.specs.Path.{Components, same_component, is_prefix}
use Rattle.data_model.specs.Entry.{Entry, newer, covers}
use Rattle.data_model.proofs.Orders.{component-equality}
use Rattle.key_laws.proofs.EntryLaws.{covers_view, covers-trans, newer-weak}
use Rattle.tree.specs.Stored.{Stored}
use Rattle.tree.specs.Apart.{same_address}
use Rattle.tree.proofs.WalkLaws.{fine, clear_behind, all_clear, place_view, place-make}

-- An entry and one that it covers: elsewhere, and not older.
pub record Link (a b : Entry) : Type 0 where
  pub over : covers a b ≡ true
  pub place : same_address a b ≡ false
  pub older : newer a b ≡ false

link-make : (a b : Entry) → covers a b ≡ true → fine a b ≡ true → Link a b
unfolding fine
link-make a b c f = let k = and-true (not (same_address a b)) (not (newer a b)) f in record { over = c; place = not-true _ k.0; older = not-true _ k.1 }

link-fine : (a b : Entry) → Link a b → fine a b ≡ true
unfolding fine
link-fine a b k = rw (k.place, k.older)

link-trans : (a b c : Entry) → Link a b → Link b c → Link a c
link-trans a b c h k = record {
  over = covers-trans a b c h.over k.over;
  place = refute (same_address a c) λ e.
      let p = place_view a c e in
      let x = covers_view a b h.over in
      let y = covers_view b c k.over in
      let q : a.path ≡ b.path = prefix-antisym same_component component-equality a.path b.path x.path (ap (is_prefix b.path) p.1 ∙ y.path) in
      clash (place-make a b x.subspace q) h.place;
  older = refute (newer a c) λ e. clash (newer-weak b a c h.older e) k.older;
}

-- A path that another extends is shorter.
prefix-shorter : (p q : Components) → is_prefix p q ≡ true → (p ≡ q → ⊥) → length p < length q
unfolding prefix_of
prefix-shorter [] [] e f = absurd (f refl)
prefix-shorter [] (d ∷ q) e f = omega arith
prefix-shorter (c ∷ p) [] e f = clash e refl
prefix-shorter (c ∷ p) (d ∷ q) e f =
    let t = prefix-tail same_component component-equality c d p q e in
    let h = prefix-shorter p q t.1 (λ g. f (ap₂ ◌∷◌ t.0 g)) in
    omega arith

link-longer : (a b : Entry) → Link a b → length a.path < length b.path
link-longer a b k =
    let v = covers_view a b k.over in
    prefix-shorter a.path b.path v.path λ e. clash (place-make a b v.subspace e) k.place

-- The chain, the nearest first.
unfoldable pub Chain : List Entry → Type 0
Chain [] = Unit {0}
Chain (a ∷ []) = Unit {0}
Chain (a ∷ b ∷ l) = Link b a × Chain (b ∷ l)

chain-tail : (a : Entry) (l : List Entry) → Chain (a ∷ l) → Chain l
unfolding Chain
chain-tail a [] h = tt
chain-tail a (b ∷ l) h = h.1

chain-skip : (a b : Entry) (l : List Entry) → Chain (a ∷ b ∷ l) → Chain (a ∷ l)
unfolding Chain
chain-skip a b [] h = tt
chain-skip a b (c ∷ l) h = (link-trans c b a h.1.0 h.0, h.1.1)

-- Its entries are as many as the nearest path has components, and one more, at most.
pub chain-short : (a : Entry) (l : List Entry) → Chain (a ∷ l) → length l ≤ length a.path
unfolding Chain
chain-short a [] h = omega arith
chain-short a (b ∷ l) h = omega (arith, chain-short b l h.1, link-longer b a h.0)

-- Without those that do not cover an entry, and whether the nearest that is left may stand before it.
unfoldable pub popped : Entry → List Entry → List Entry
popped b [] = []
popped b (a ∷ l) = cond (covers a b) (a ∷ l) (popped b l)

unfoldable pub nearest_fine : List Entry → Entry → Bool
nearest_fine [] b = true
nearest_fine (a ∷ l) b = fine a b

unfoldable pub walk_by : List Entry → List Stored → Bool
walk_by s [] = true
walk_by s (b ∷ l) = nearest_fine (popped b.entry s) b.entry && walk_by (b.entry ∷ popped b.entry s) l

unfoldable pub Covered : List Entry → Entry → Type 0
Covered [] b = Unit {0}
Covered (a ∷ l) b = covers a b ≡ true

pub popped-chain : (b : Entry) (s : List Entry) → Chain s → Chain (popped b s) × Covered (popped b s) b
unfolding popped Covered
popped-chain b [] h = (h, tt)
popped-chain b (a ∷ s) h = split (covers a b)
    (λ f. rw f (h, f))
    (λ f. rw f (popped-chain b s (chain-tail a s h)))

pub chain_more : (b : Entry) (s : List Entry) → Chain s → Covered s b → nearest_fine s b ≡ true → Chain (b ∷ s)
unfolding Chain Covered nearest_fine
chain_more b [] h c f = tt
chain_more b (a ∷ s) h c f = (link-make a b c f, h)

-- Each entry of a chain against those behind it.
unfoldable pub all_behind : List Entry → List Stored → Bool
all_behind [] l = true
all_behind (a ∷ s) l = clear_behind a l && all_behind s l

behind-none : (s : List Entry) → all_behind s [] ≡ true
unfolding all_behind clear_behind
behind-none [] = refl
behind-none (a ∷ s) = behind-none s

behind-popped : (b : Stored) (l : List Stored) (s : List Entry) → all_behind s (b ∷ l) ≡ all_behind (popped b.entry s) (b ∷ l)
unfolding all_behind popped clear_behind
behind-popped b l [] = refl
behind-popped b l (a ∷ s) = split (covers a b.entry)
    (λ f. sym (ap (λ (q : Bool). all_behind (cond q (a ∷ s) (popped b.entry s)) (b ∷ l)) f))
    (λ f. rw f (behind-popped b l s))

behind-next : (b : Stored) (l : List Stored) (s : List Entry) → Chain (b.entry ∷ s) → all_behind s (b ∷ l) ≡ all_behind s l
unfolding all_behind clear_behind Chain
behind-next b l [] h = refl
behind-next b l (a ∷ s) h =
    let k = h.0 in
    rw (k.over, link-fine a b.entry k) (ap (clear_behind a l &&◌) (behind-next b l s (chain-skip b.entry a s h)))

-- The walk by the nearest says what the walk from each entry does.
turn : (b : Stored) (l : List Stored) → ((s : List Entry) → Chain s → walk_by s l ≡ (all_behind s l && all_clear l)) → (s : List Entry) → Chain s → Covered s b.entry
    → (nearest_fine s b.entry && walk_by (b.entry ∷ s) l) ≡ (all_behind s (b ∷ l) && (clear_behind b.entry l && all_clear l))
unfolding nearest_fine all_behind clear_behind Covered Chain
turn b l next [] h c = next (b.entry ∷ []) tt ∙ drop-true (clear_behind b.entry l) (all_clear l)
  where
    drop-true : (x z : Bool) → ((x && true) && z) ≡ (x && z)
    drop-true true z = refl
    drop-true false z = refl
turn b l next (a ∷ s) h c = split (fine a b.entry)
    (λ f.
    let k = chain_more b.entry (a ∷ s) h c f in
    rw f (next (b.entry ∷ a ∷ s) k)
    ∙ swap (clear_behind b.entry l) (all_behind (a ∷ s) l) (all_clear l)
    ∙ ap (λ (q : Bool). q && (clear_behind b.entry l && all_clear l)) (sym (behind-next b l (a ∷ s) k)))
    (λ f. rw (c, f))
  where
    swap : (x y z : Bool) → ((x && y) && z) ≡ (y && (x && z))
    swap true true z = refl
    swap true false z = refl
    swap false true z = refl
    swap false false z = refl

pub walk-nearest : (s : List Entry) (l : List Stored) → Chain s → walk_by s l ≡ (all_behind s l && all_clear l)
unfolding walk_by all_clear
walk-nearest s [] h = sym (rw (behind-none s))
walk-nearest s (b ∷ l) h =
    let k = popped-chain b.entry s h in
    turn b l (λ t g. walk-nearest t l g) (popped b.entry s) k.0 k.1
    ∙ ap (λ (q : Bool). q && (clear_behind b.entry l && all_clear l)) (sym (behind-popped b l s))

-- The chain as numbers in an array, the nearest last.
module _ (at : ℕ → Entry) where
  unfoldable pub stack_of : List ℕ → ℕ → List Entry
  stack_of s zero = []
  stack_of s (suc d) = at (get_or s d 0) ∷ stack_of s d

  pub stack-length : (s : List ℕ) (d : ℕ) → length (stack_of s d) ≡ d
  unfolding stack_of
  stack-length s zero = refl
  stack-length s (suc d) = ap suc (stack-length s d)

  stack-kept : (s : List ℕ) (i x d : ℕ) → d ≤ i → stack_of (set s i x) d ≡ stack_of s d
  unfolding stack_of
  stack-kept s i x zero h = refl
  stack-kept s i x (suc d) h = ap₂ ◌∷◌ (ap at (get_or-set_other s i d x 0 (λ e. omega arith))) (stack-kept s i x d (omega arith))

  pub stack_push : (s : List ℕ) (d x : ℕ) → d < length s → stack_of (set s d x) (d + 1) ≡ at x ∷ stack_of s d
  unfolding stack_of
  stack_push s d x h = rw (add-one d) (ap₂ ◌∷◌ (ap at (get_or-set_same s d x 0 h)) (stack-kept s d x d (omega arith)))

  pub stack-popped : (b : Entry) (s : List ℕ) (d r : ℕ) → r ≤ d → ((i : ℕ) → r ≤ i → i < d → covers (at (get_or s i 0)) b ≡ false) → (0 < r → covers (at (get_or s (r - 1) 0)) b ≡ true)
      → popped b (stack_of s d) ≡ stack_of s r
  unfolding stack_of popped
  stack-popped b s zero zero h off on = refl
  stack-popped b s zero (suc r) h off on = absurd (omega arith)
  stack-popped b s (suc d) r h off on = split (leb r d)
      (λ e. let m = leb-true r d e in rw (off d m (omega arith)) (stack-popped b s d r m (λ i x y. off i x (omega arith)) on))
      (λ e.
      let m = leb-false r d e in
      let q : suc d ≡ r = omega arith in
      let i : d ≡ r - 1 = omega arith in
      let c : covers (at (get_or s d 0)) b ≡ true = ap (λ (j : ℕ). covers (at (get_or s j 0)) b) i ∙ on (omega arith) in
      rw c (ap (stack_of s) q))
