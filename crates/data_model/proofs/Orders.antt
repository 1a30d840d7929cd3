-- Bytes, components, paths, subspaces and ranks are linearly ordered, and the orders agree with the tests of equality.
-- Assumes nothing.
use Prim.Native.Nat.{ℕ}
use mathlib.Core.Path.{◌≡◌}
use mathlib.Core.List.{List}
use mathlib.Core.Bool.{true}
use Rattle.laws.specs.Order.{less, is_same, by_number, by_pair, Linear}
use Rattle.laws.specs.Prefix.{Equality, same_number}
use Rattle.laws.proofs.Truth.{and-true}
use Rattle.laws.proofs.Order.{number-linear, list-linear, pair-linear, on-linear}
use Rattle.laws.proofs.Prefix.{number-equality, list-equality, equality-unique, order-equality, same-elements, prefix-first, prefix-between}
use Rattle.data_model.specs.Path.{Component, Components, same_component, same_path, by_bytes, by_components, is_prefix}
use Rattle.data_model.specs.Subspace.{same_subspace, by_subspace}
use Rattle.data_model.specs.Entry.{by_rank}
use Rattle.data_model.specs.declared.parameters.Subspace.{Subspace}
use Rattle.data_model.specs.declared.entry.Rank.{Rank}

pub bytes-linear : Linear (List ℕ) by_bytes
bytes-linear = list-linear by_number number-linear

pub path-linear : Linear Components by_components
path-linear = list-linear by_bytes bytes-linear

pub component-equality : Equality Component same_component
component-equality = list-equality same_number number-equality

pub path-equality : Equality Components same_path
path-equality = list-equality same_component component-equality

pub same-path : (p q : Components) → is_same (by_components p q) ≡ same_path p q
same-path = same-elements same_component component-equality by_bytes bytes-linear

-- A path is not above its extensions, and what stands between a path and an extension of it is an extension of it.
pub extensions-after : (p q : Components) → is_prefix p q ≡ true → by_components q p ≡ less → ⊥
extensions-after = prefix-first same_component component-equality by_bytes bytes-linear

pub extensions-between : (p x q : Components) → is_prefix p q ≡ true → (by_components x p ≡ less → ⊥) → (by_components q x ≡ less → ⊥) → is_prefix p x ≡ true
extensions-between = prefix-between same_component component-equality by_bytes bytes-linear

-- Subspaces, as the pairs of their halves.
pub subspace-linear : Linear Subspace by_subspace
unfolding by_subspace by_pair
subspace-linear =
    on-linear {A = ℕ × ℕ} (λ s. (s.high, s.low)) (by_pair by_number by_number)
    (λ a b e. λ i. record { high = (e i).0; low = (e i).1 })
    (pair-linear by_number by_number number-linear number-linear)

pub subspace-equality : Equality Subspace same_subspace
unfolding same_subspace
subspace-equality = record {
  self = λ a. cc (number-equality.self a.high, number-equality.self a.low);
  equal = λ a b e.
      let k = and-true (same_number a.high b.high) (same_number a.low b.low) e in
      λ i. record { high = number-equality.equal a.high b.high k.0 i; low = number-equality.equal a.low b.low k.1 i };
}

pub same-subspace : (a b : Subspace) → is_same (by_subspace a b) ≡ same_subspace a b
same-subspace = equality-unique (λ a b. is_same (by_subspace a b)) same_subspace (order-equality by_subspace subspace-linear) subspace-equality

-- Ranks, as nested pairs.
pub rank-linear : Linear Rank by_rank
unfolding by_rank by_pair
rank-linear =
    on-linear {A = ℕ × (List ℕ × ℕ)} (λ r. (r.timestamp, (r.payload_digest, r.payload_length))) (by_pair by_number (by_pair by_bytes by_number))
    (λ a b e. λ i. record { timestamp = (e i).0; payload_digest = (e i).1.0; payload_length = (e i).1.1 })
    (pair-linear by_number (by_pair by_bytes by_number) number-linear (pair-linear by_bytes by_number bytes-linear number-linear))
