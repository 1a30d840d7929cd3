-- Two trees of as many entries agree exactly if what the one says is within what the other says: no tree says the same twice, so a part
-- that is no shorter is the whole. Assumes nothing.
use Prim.Native.Nat.{ℕ, ◌≤◌, ◌<◌}
use mathlib.Core.Path.{◌≡◌, refl, sym, ap, ap₂, ◌∙◌}
use mathlib.Core.Logic.{◌↔◌}
use mathlib.Core.List.Memᴰ.{head as here}
use mathlib.Core.List.Memᴰ.{tail as there}
use mathlib.Core.List.{List, [], ◌∷◌}
use mathlib.Core.Bool.{Bool, true, false, not}
use native.Mathlib.Omega.{arith}
use lib.ListN.{length}
use Rattle.laws.specs.Order.{below}
use Rattle.laws.specs.Prefix.{Equality}
use Rattle.laws.specs.Sorted.{◌∈◌, any, keep, Ascends}
use Rattle.laws.proofs.Truth.{split, clash, refute}
use Rattle.laws.proofs.Order.{below-strict}
use Rattle.laws.proofs.Sorted.{any-view, any-make, all-view, keep-make, keep-fewer}
use Rattle.layout.specs.Layout.{records}
use Rattle.laws.proofs.Sorted.{all-make}
use Rattle.data_model.specs.Path.{Figures, field, by_bytes}
use Rattle.data_model.proofs.Orders.{bytes-linear}
use Rattle.key_laws.specs.Bytes.{Bytes}
use Rattle.tree.specs.Stored.{order_in, key_of, key_below, Stored, stored, contents, triple_of, record_of, same_stored}
use Rattle.tree.specs.Tree.{Formed, Ordered, within}
use Rattle.tree.specs.declared.stored.KeyOrder.{KeyOrder}
use Rattle.tree.proofs.FormedLaws.{formed-count}
use Rattle.tree.proofs.RecordLaws.{record-forth, record-ordered, stored-equality, contents-length, contents-view}
use Rattle.tree.proofs.WithinLaws.{Recorded, formed-recorded}

-- No element stands twice.
abbrev pub Distinct : {A : Type 0} → List A → Type 0
Distinct [] = Unit {0}
Distinct (a ∷ l) = ((x : _) → x ∈ l → a ≡ x → ⊥) × Distinct l

module _ {A : Type 0} where
  -- A list that is part of another and no shorter has all of it.
  module _ (eq : A → A → Bool) (E : Equality A eq) where
    pub part-whole : (s t : List A) → Distinct s → ((x : A) → x ∈ s → x ∈ t) → length t ≤ length s → (x : A) → x ∈ t → x ∈ s
    part-whole [] [] d sub h x m = m
    part-whole [] (b ∷ t) d sub h x m = absurd (omega arith)
    part-whole (a ∷ s) t d sub h x m =
        let p : A → Bool = λ y. not (eq a y) in
        let differs : (y : A) → eq a y ≡ false → p y ≡ true = λ y e. ap not e in
        let fewer : length (keep p t) < length t = keep-fewer p t (sub a (here refl)) (ap not (E.self a)) in
        let left : (y : A) → y ∈ s → y ∈ keep p t
        = λ y n. keep-make p t (sub y (there n)) (differs y (refute (eq a y) λ e. d.0 y n (E.equal a y e))) in
        split (eq a x)
        (λ q. here (sym (E.equal a x q)))
        (λ q. there (part-whole s (keep p t) d.1 left (omega arith) x (keep-make p t m (differs x q))))

-- Within: each of the first is a member of the second.
pub within-view : (s t : List Stored) → within s t ≡ true → (x : Stored) → x ∈ s → x ∈ t
unfolding within
within-view s t e x m =
    let k = any-view (same_stored x) t (all-view (λ (a : Stored). any (same_stored a) t) s e m) in
    let q : x ≡ k.0 = stored-equality.equal x k.0 k.2 in
    rw q k.1

pub within-make : (s t : List Stored) → ((x : Stored) → x ∈ s → x ∈ t) → within s t ≡ true
unfolding within
within-make s t sub = all-make (λ (a : Stored). any (same_stored a) t) s λ x m. any-make (same_stored x) t (sub x m) (stored-equality.self x)

pub agree : (s t : List Stored) → Distinct s → length t ≤ length s → (within s t ≡ true) ↔ ((x : Stored) → x ∈ s ↔ x ∈ t)
agree s t d h = (
  λ e x. (within-view s t e x, part-whole same_stored stored-equality s t d (within-view s t e) h x),
  λ k. within-make s t λ x. (k x).0,
)

-- What ascending records say ascends by triples, so that none says the same as another.
module _ (o : KeyOrder) (f : Figures) (ns : List ℕ) where
  pub contents-distinct : (recs : List (List ℕ)) → Recorded o f recs → Ascends key_below recs → Distinct (contents o f ns recs)
  unfolding Ascends below
  contents-distinct [] each a = tt
  contents-distinct (r ∷ rs) each a = (
    λ x m e.
        let k = contents-view o f ns rs m in
        let w = each r (here refl) in
        let v = each k.0 (there k.1) in
        let g : r ≡ k.0
        = sym (record-forth o f ns r w.0 w.1).again ∙ ap (record_of o) (e ∙ k.2) ∙ (record-forth o f ns k.0 v.0 v.1).again in
        clash {b = key_below r r} (ap (key_below r) g ∙ a.0 k.0 k.1) ((below-strict by_bytes bytes-linear).irrefl (key_of r)),
    contents-distinct rs (λ q m. each q (there m)) a.1,
  )

  pub contents-ascends : (recs : List (List ℕ)) → Recorded o f recs → Ascends key_below recs
      → Ascends (λ (a b : Stored). below (order_in o) (triple_of a.entry) (triple_of b.entry)) (contents o f ns recs)
  unfolding Ascends
  contents-ascends [] each a = tt
  contents-ascends (r ∷ rs) each a = (
    λ x m.
        let k = contents-view o f ns rs m in
        let w = record-forth o f ns r (each r (here refl)).0 (each r (here refl)).1 in
        let v = record-forth o f ns k.0 (each k.0 (there k.1)).0 (each k.0 (there k.1)).1 in
        ap (λ (y : Stored). below (order_in o) (triple_of (stored o f ns r).entry) (triple_of y.entry)) k.2
        ∙ sym (record-ordered o f (stored o f ns r) (stored o f ns k.0) w.lawful v.lawful)
        ∙ ap₂ key_below w.again v.again
        ∙ a.0 k.0 k.1,
    contents-ascends rs (λ q m. each q (there m)) a.1,
  )

-- Two trees of one count that were tested.
pub trees-agree : {o q : KeyOrder} {count : ℕ} {dir tree dir' tree' : List ℕ} (ns : List ℕ) → Ordered o count dir tree → Formed q count dir' tree' → Bytes tree → Bytes tree'
    → (within (contents o field ns (records count dir tree)) (contents q field ns (records count dir' tree')) ≡ true)
    ↔ ((x : Stored) → x ∈ contents o field ns (records count dir tree) ↔ x ∈ contents q field ns (records count dir' tree'))
trees-agree {o} {q} {count} {dir} {tree} {dir'} {tree'} ns v w b b' =
    agree (contents o field ns (records count dir tree)) (contents q field ns (records count dir' tree'))
    (contents-distinct o field ns (records count dir tree) (formed-recorded v.formed b) v.ascends)
    (omega (
      arith,
      contents-length o field ns (records count dir tree),
      contents-length q field ns (records count dir' tree'),
      formed-count v.formed,
      formed-count w,
    ))
