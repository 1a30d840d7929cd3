-- The extensions of a path stand in one run in the order of the subspace-first keys, those that are no older behind it. Assumes nothing.
use mathlib.Core.Path.{◌≡◌, sym, ap, ◌∙◌}
use mathlib.Core.Bool.{true}
use Prim.Native.Nat.{◌<◌}
use mathlib.Core.Logic.{⊎_elim}
use Rattle.laws.specs.Order.{less, same, ◌then◌, by_number}
use Rattle.laws.proofs.Order.{three, then_less, then_same, then-less-view, number-is-less, greater-less}
use Rattle.data_model.specs.Path.{by_bytes, by_components, is_prefix}
use Rattle.data_model.specs.Subspace.{by_subspace}
use Rattle.keys.specs.Encode.{Triple, spt_key}
use Rattle.key_laws.specs.KeyOrder.{spt_order, Sized}
use Rattle.data_model.proofs.Orders.{subspace-linear, extensions-after, extensions-between}
use Rattle.key_laws.proofs.Ordered.{spt-ordered}

-- A triple of the subspace whose path is the first one's or prefixed by it.
pub record Extends (a x : Triple) : Type 0 where
  pub subspace : a.subspace ≡ x.subspace
  pub path : is_prefix a.path x.path ≡ true

-- What is not below a triple, and not above one that extends it, is of its subspace.
same-subspace-between : (a x b : Triple) → a.subspace ≡ b.subspace → (spt_order x a ≡ less → ⊥) → (spt_order b x ≡ less → ⊥) → by_subspace a.subspace x.subspace ≡ same
unfolding spt_order
same-subspace-between a x b e f g = three (by_subspace a.subspace x.subspace)
    (λ l. absurd (g (then_less _ _ (ap (λ s. by_subspace s x.subspace) (sym e) ∙ l))))
    (λ s. s)
    (λ h. absurd (f (then_less _ _ (greater-less by_subspace subspace-linear a.subspace x.subspace h))))

pub run-order : (a x b : Triple) → Extends a b → (spt_order x a ≡ less → ⊥) → (spt_order b x ≡ less → ⊥) → Extends a x
unfolding spt_order
run-order a x b e f g =
    let s = same-subspace-between a x b e.subspace f g in
    let q : a.subspace ≡ x.subspace = subspace-linear.equal a.subspace x.subspace s in
    let xa : by_subspace x.subspace a.subspace ≡ same = ap (by_subspace x.subspace) q ∙ subspace-linear.self x.subspace in
    let bx : by_subspace b.subspace x.subspace ≡ same = ap (λ y. by_subspace y x.subspace) (sym e.subspace) ∙ s in
    record {
      subspace = q;
      path = extensions-between a.path x.path b.path e.path (λ l. f (then_same _ _ xa ∙ then_less _ _ l)) (λ l. g (then_same _ _ bx ∙ then_less _ _ l));
    }

-- What extends a triple and is no older stands behind it.
pub extends-after : (a b : Triple) → Extends a b → (b.timestamp < a.timestamp → ⊥) → spt_order b a ≡ less → ⊥
unfolding spt_order
extends-after a b e n l =
    let ba : by_subspace b.subspace a.subspace ≡ same = ap (by_subspace b.subspace) e.subspace ∙ subspace-linear.self b.subspace in
    let r : by_components b.path a.path then by_number b.timestamp a.timestamp ≡ less = sym (then_same _ _ ba) ∙ l in
    ⊎_elim (λ p. extensions-after a.path b.path e.path p) (λ t. n (number-is-less b.timestamp a.timestamp t.1))
    (then-less-view (by_components b.path a.path) (by_number b.timestamp a.timestamp) r)

-- The same of the keys' bytes.
pub extends-keys : (a b : Triple) → Sized a → Sized b → Extends a b → (b.timestamp < a.timestamp → ⊥) → by_bytes (spt_key b) (spt_key a) ≡ less → ⊥
extends-keys a b sa sb e n l = extends-after a b e n (sym (spt-ordered b a sb sa) ∙ l)

pub run-keys : (a x b : Triple) → Sized a → Sized x → Sized b → Extends a b → (by_bytes (spt_key x) (spt_key a) ≡ less → ⊥) → (by_bytes (spt_key b) (spt_key x) ≡ less → ⊥) → Extends a x
run-keys a x b sa sx sb e f g = run-order a x b e (λ l. f (spt-ordered x a sx sa ∙ l)) (λ l. g (spt-ordered b x sb sx ∙ l))
