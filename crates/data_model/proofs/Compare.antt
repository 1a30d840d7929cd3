-- Comparing bytes, and components, from the front: what is left decides as the whole does. Assumes nothing.
use Prim.Native.Nat.{ℕ, ◌+◌, ◌≤◌, ◌<◌, min}
use mathlib.Core.Path.{◌≡◌, sym, ap, ◌∙◌}
use mathlib.Core.List.{List}
use native.Mathlib.Omega.{arith}
use lib.ListN.{length, take, drop, get_or}
use lib.Seq.{take-take}
use Rattle.laws.specs.Lists.{piece}
use Rattle.laws.specs.Order.{Order, less, same, greater, ◌then◌, by_number, by_elements}
use Rattle.laws.proofs.Order.{then_less, then_same, then-greater, number-less, number_same, number-greater, three, tri, Tri, under, equal, over}
use mathlib.Core.Bool.{Bool, true, false, ◌&&◌}
use borrow.Author.Tests.{le-leb, lt-leb}
use Rattle.laws.specs.Order.{is_same}
use Rattle.laws.specs.Prefix.{same_list}
use Rattle.laws.proofs.Prefix.{prefix-take}
use Rattle.data_model.specs.declared.path.Path.{Path}
use Rattle.data_model.specs.Path.{cut, components, by_bytes, by_components, legal_ends, same_component, same_path, is_prefix}
use Rattle.data_model.proofs.Values.{cut_at, cut-done, cut-take, components-length, NextEnd, next-end}
use Rattle.data_model.proofs.Orders.{same-path}

-- Components from the i-th on, which begin at af and bf.
module _ (a ae b be : List ℕ) (af bf i : ℕ) (w : Order) (inv : w ≡ by_components (cut a af (drop i ae)) (cut b bf (drop i be))) where
  pub components-greater : i < length ae → length be ≤ i → w ≡ greater
  unfolding by_elements
  components-greater h k = inv ∙ rw (cut_at a af i ae h, cut-done b bf i be k)

  pub components-less : length ae ≤ i → i < length be → w ≡ less
  unfolding by_elements
  components-less h k = inv ∙ rw (cut-done a af i ae h, cut_at b bf i be k)

  pub components-same : length ae ≤ i → length be ≤ i → w ≡ same
  unfolding by_elements
  components-same h k = inv ∙ rw (cut-done a af i ae h, cut-done b bf i be k)

  components-step : i < length ae → i < length be
      → w ≡ by_bytes (piece af (get_or ae i 0) a) (piece bf (get_or be i 0) b) then by_components (cut a (get_or ae i 0) (drop (i + 1) ae)) (cut b (get_or be i 0) (drop (i + 1) be))
  unfolding by_elements
  components-step h k = inv ∙ rw (cut_at a af i ae h, cut_at b bf i be k)

  module _ (h : i < length ae) (k : i < length be) where
    pub component-less : by_bytes (piece af (get_or ae i 0) a) (piece bf (get_or be i 0) b) ≡ less → w ≡ less
    component-less e = components-step h k ∙ then_less _ _ e

    pub component-greater : by_bytes (piece af (get_or ae i 0) a) (piece bf (get_or be i 0) b) ≡ greater → w ≡ greater
    component-greater e = components-step h k ∙ then-greater _ _ e

    pub component-same : by_bytes (piece af (get_or ae i 0) a) (piece bf (get_or be i 0) b) ≡ same
        → w ≡ by_components (cut a (get_or ae i 0) (drop (i + 1) ae)) (cut b (get_or be i 0) (drop (i + 1) be))
    component-same e = components-step h k ∙ then_same _ _ e

-- Components that differ decide; where none did and one path has no more, the counts do.
pub component-differs : (a ae b be : List ℕ) (af bf i : ℕ) (w : Order) → w ≡ by_components (cut a af (drop i ae)) (cut b bf (drop i be)) → i < length ae → i < length be
    → (o : Order) → o ≡ by_bytes (piece af (get_or ae i 0) a) (piece bf (get_or be i 0) b) → (o ≡ same → ⊥) → o ≡ w
component-differs a ae b be af bf i w inv h k o e n = three o
    (λ l. l ∙ sym (component-less a ae b be af bf i w inv h k (sym e ∙ l)))
    (λ s. absurd (n s))
    (λ g. g ∙ sym (component-greater a ae b be af bf i w inv h k (sym e ∙ g)))

pub components-ended : (a ae b be : List ℕ) (af bf i : ℕ) (w : Order) → w ≡ by_components (cut a af (drop i ae)) (cut b bf (drop i be)) → i ≤ length ae → i ≤ length be
    → min (length ae) (length be) ≤ i → by_number (length ae) (length be) ≡ w
components-ended a ae b be af bf i w inv h k n = go (tri (length ae) (length be))
  where
    go : Tri (length ae) (length be) → by_number (length ae) (length be) ≡ w
    go (under l) = number-less _ _ l ∙ sym (components-less a ae b be af bf i w inv (omega (arith, n)) (omega (arith, n)))
    go (equal l) = number_same _ _ l ∙ sym (components-same a ae b be af bf i w inv (omega (arith, n)) (omega (arith, n)))
    go (over l) = number-greater _ _ l ∙ sym (components-greater a ae b be af bf i w inv (omega (arith, n)) (omega (arith, n)))

-- A loop that compares components: what is left, in both, from the i-th on.
pub record Comparing (a ae b be : List ℕ) (i af bf : ℕ) : Type 0 where
  pub a_within : i ≤ length ae
  pub b_within : i ≤ length be
  pub a_legal : legal_ends (length a) (length a) af (drop i ae) ≡ true
  pub b_legal : legal_ends (length b) (length b) bf (drop i be) ≡ true
  pub left : by_components (cut a 0 ae) (cut b 0 be) ≡ by_components (cut a af (drop i ae)) (cut b bf (drop i be))

module _ (a ae b be : List ℕ) (i af bf : ℕ) (c : Comparing a ae b be i af bf) (h : i < length ae) (k : i < length be) where
  pub a-next : NextEnd (length a) (length a) af i ae
  a-next = next-end (length a) (length a) af i ae h c.a_legal

  pub b-next : NextEnd (length b) (length b) bf i be
  b-next = next-end (length b) (length b) bf i be k c.b_legal

  pub comparing-next : by_bytes (piece af (get_or ae i 0) a) (piece bf (get_or be i 0) b) ≡ same → Comparing a ae b be (i + 1) (get_or ae i 0) (get_or be i 0)
  comparing-next e = record {
    a_within = omega arith;
    b_within = omega arith;
    a_legal = a-next.more;
    b_legal = b-next.more;
    left = component-same a ae b be af bf i _ c.left h k e;
  }

-- A path prefixes another if it has no more components, and as many of the other's are the same.
module _ (p q : Path) (pn : p.count ≤ length p.ends) (qn : q.count ≤ length q.ends) where
  pub prefix-longer : q.count < p.count → is_prefix (components p) (components q) ≡ false
  prefix-longer h =
      prefix-take same_component (components p) (components q)
      ∙ ap (λ (b : Bool). b && same_list same_component (components p) (take (length (components p)) (components q)))
      (lt-leb (length (components p)) (length (components q)) (omega (arith, components-length p pn, components-length q qn)))

  pub prefix-cut : p.count ≤ q.count → is_prefix (components p) (components q) ≡ is_same (by_components (components p) (cut q.bytes 0 (take p.count q.ends)))
  unfolding components
  prefix-cut h =
      let n : length (components p) ≡ p.count = components-length p pn in
      let t : take (length (components p)) (components q) ≡ cut q.bytes 0 (take p.count q.ends)
      = ap (λ (m : ℕ). take m (components q)) n
      ∙ cut-take p.count q.bytes 0 (take q.count q.ends)
      ∙ ap (cut q.bytes 0) (take-take p.count q.count q.ends h) in
      prefix-take same_component (components p) (components q)
      ∙ ap (λ (b : Bool). b && same_path (components p) (take (length (components p)) (components q)))
      (le-leb (length (components p)) (length (components q)) (omega (arith, n, components-length q qn)))
      ∙ ap (same_path (components p)) t
      ∙ sym (same-path (components p) (cut q.bytes 0 (take p.count q.ends)))
