-- The comparisons that the library and the derives give are those of the papers. Assumes nothing.
use Prim.Native.Nat.{ℕ}
use mathlib.Core.Path.{◌≡◌, refl, ap, ◌∙◌}
use mathlib.Core.List.{List, [], ◌∷◌}
use mathlib.Core.Bool.{true, false, cond, not, ◌&&◌}
use native.Mathlib.Omega.{arith}
use borrow.Author.Tests.{lt-ltb, le-ltb, eq-eqb, ne_eqb}
use lib.Dec.{ltb, eqb}
use lib.Pointwise.{pointwise}
use Rattle.std.specs.Cmp.Lexicographic.{slice_cmp}
use Rattle.std.specs.Ordering.{nat_cmp, ordering_then, ordering_index}
use Rattle.std.specs.Bool.{◌==◌}
use Rattle.std.specs.Prelude.{nat_eq}
use Rattle.std.specs.declared.cmp.Ordering.{Ordering}
use Rattle.std.specs.declared.cmp.Ordering.TheVariants.{Less, Equal, Greater}
use Rattle.laws.specs.Order.{Order, less, same, greater, ◌then◌, by_number, by_elements, is_less, is_same, is_greater}
use denote.Enum.Bare.{sameb}
use Rattle.data_model.specs.contracts.answer.Recency.{the_type}
use Rattle.data_model.specs.declared.answer.Recency.{Recency}
use Rattle.data_model.specs.declared.answer.Recency.TheVariants.{Newer, Older, Same}
use Rattle.laws.specs.Prefix.{same_number, same_list}
use Rattle.laws.proofs.Order.{tri, Tri, under, equal, over, less-same, same-greater}
use Rattle.laws.proofs.Truth.{differ}
use Rattle.data_model.specs.Refusal.{ordering_says, order_by, recency_says}
use Rattle.data_model.specs.Path.{by_bytes}
use Rattle.data_model.specs.Subspace.{by_subspace, same_subspace}
use Rattle.data_model.specs.Entry.{by_rank}
use Rattle.data_model.specs.Range.{End, includes, end_says, times_include, subspaces_include}
use Rattle.data_model.specs.declared.parameters.Subspace.{Subspace}
use Rattle.data_model.specs.declared.entry.Rank.{Rank}
use Rattle.data_model.specs.declared.range.Range.{Range}

pub number_order : (a b : ℕ) → ordering_says (nat_cmp a b) ≡ by_number a b
unfolding by_number
number_order a b = go (tri a b)
  where
    go : Tri a b → ordering_says (nat_cmp a b) ≡ cond (ltb a b) less (cond (ltb b a) greater same)
    go (under h) = rw (lt-ltb a b h)
    go (equal h) = rw (le-ltb a b (omega arith), le-ltb b a (omega arith), eq-eqb a b h)
    go (over h) = rw (le-ltb a b (omega arith), lt-ltb b a h, ne_eqb a b (λ e. omega arith))

pub ordered_then : (o p : Ordering) → ordering_says (ordering_then o p) ≡ ordering_says o then ordering_says p
ordered_then Less p = refl
ordered_then Equal p = refl
ordered_then Greater p = refl

pub bytes_order : (a b : List ℕ) → ordering_says (slice_cmp nat_cmp a b) ≡ by_bytes a b
unfolding by_elements
bytes_order [] [] = refl
bytes_order [] (y ∷ b) = refl
bytes_order (x ∷ a) [] = refl
bytes_order (x ∷ a) (y ∷ b) = ordered_then (nat_cmp x y) (slice_cmp nat_cmp a b) ∙ rw (number_order x y, bytes_order a b)

pub bytes_same : (a b : List ℕ) → pointwise nat_eq a b ≡ same_list same_number a b
unfolding same_list same_number
bytes_same [] [] = refl
bytes_same [] (y ∷ b) = refl
bytes_same (x ∷ a) [] = refl
bytes_same (x ∷ a) (y ∷ b) = ap (nat_eq x y &&◌) (bytes_same a b)

-- What a test of an ordering says, by whether it was found.
pub differs : (o : Ordering) → not (ordering_index o == 1) ≡ true → ordering_says o ≡ same → ⊥
differs Less t e = less-same refl e
differs Equal t e = differ false t refl
differs Greater t e = same-greater e refl

pub agrees : (o : Ordering) → not (ordering_index o == 1) ≡ false → ordering_says o ≡ same
agrees Less f = absurd (differ true refl f)
agrees Equal f = refl
agrees Greater f = absurd (differ true refl f)

pub tested_same : (o : Ordering) → (ordering_index o == 1) ≡ is_same (ordering_says o)
unfolding is_same
tested_same Less = refl
tested_same Equal = refl
tested_same Greater = refl

pub tested_less : (o : Ordering) → (ordering_index o == 0) ≡ is_less (ordering_says o)
unfolding is_less
tested_less Less = refl
tested_less Equal = refl
tested_less Greater = refl

pub not_less : (o : Ordering) → not (ordering_index o == 0) ≡ true → is_less (ordering_says o) ≡ false
unfolding is_less
not_less Less t = absurd (differ false t refl)
not_less Equal t = refl
not_less Greater t = refl

pub is_less_found : (o : Ordering) → not (ordering_index o == 0) ≡ false → is_less (ordering_says o) ≡ true
unfolding is_less
is_less_found Less f = refl
is_less_found Equal f = absurd (differ true refl f)
is_less_found Greater f = absurd (differ true refl f)

-- The test for the newer of two.
pub newer_found : (r : Recency) → sameb the_type r Newer ≡ is_greater (recency_says r)
unfolding is_greater
newer_found Newer = refl
newer_found Older = refl
newer_found Same = refl

-- What the derives answer: of subspaces, of ranks, and of ranks as tuples.
pub subspace_order : (a b : Subspace) → ordering_says (ordering_then (nat_cmp a.high b.high) (nat_cmp a.low b.low)) ≡ by_subspace a b
unfolding by_subspace
subspace_order a b = ordered_then (nat_cmp a.high b.high) (nat_cmp a.low b.low) ∙ rw (number_order a.high b.high, number_order a.low b.low)

pub subspace_same : (a b : Subspace) → (nat_eq a.high b.high && nat_eq a.low b.low) ≡ same_subspace a b
unfolding same_subspace same_number
subspace_same a b = refl

pub rank_order : (a b : Rank)
    → ordering_says (ordering_then (nat_cmp a.timestamp b.timestamp) (ordering_then (slice_cmp nat_cmp a.payload_digest b.payload_digest) (nat_cmp a.payload_length b.payload_length)))
    ≡ by_rank a b
unfolding by_rank
rank_order a b =
    let t = nat_cmp a.timestamp b.timestamp in
    let d = slice_cmp nat_cmp a.payload_digest b.payload_digest in
    let n = nat_cmp a.payload_length b.payload_length in
    ordered_then t (ordering_then d n)
    ∙ ap (ordering_says t then◌) (ordered_then d n)
    ∙ rw (number_order a.timestamp b.timestamp, bytes_order a.payload_digest b.payload_digest, number_order a.payload_length b.payload_length)

pub rank_tuple_order : (a b : Rank)
    → ordering_says (ordering_then (ordering_then (nat_cmp a.timestamp b.timestamp) (slice_cmp nat_cmp a.payload_digest b.payload_digest)) (nat_cmp a.payload_length b.payload_length))
    ≡ by_rank a b
rank_tuple_order a b = ap ordering_says (then_regrouped (nat_cmp a.timestamp b.timestamp) _ _) ∙ rank_order a b
  where
    then_regrouped : (o p q : Ordering) → ordering_then (ordering_then o p) q ≡ ordering_then o (ordering_then p q)
    then_regrouped Less p q = refl
    then_regrouped Equal p q = refl
    then_regrouped Greater p q = refl

-- A range includes by the papers' order what it includes by a comparison that answers it.
pub includes_by : {A : Type 0} (c : A → A → Ordering) (o : A → A → Order) → ((a b : A) → ordering_says (c a b) ≡ o a b)
    → (start : A) (end : End A) (x : A) → includes (order_by c) start end x ≡ includes o start end x
includes_by c o e start end x = λ i. includes (λ a b. e a b i) start end x

pub times_included : (r : Range ℕ) (t : ℕ) → includes (order_by nat_cmp) r.start (end_says r.end) t ≡ times_include r t
unfolding times_include
times_included r t = includes_by nat_cmp by_number number_order r.start (end_says r.end) t

pub subspaces_included : (r : Range Subspace) (s : Subspace)
    → includes (order_by (λ a b. ordering_then (nat_cmp a.high b.high) (nat_cmp a.low b.low))) r.start (end_says r.end) s ≡ subspaces_include r s
unfolding subspaces_include
subspaces_included r s = includes_by _ by_subspace subspace_order r.start (end_says r.end) s
