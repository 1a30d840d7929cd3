-- Ranks as they are read off records, and the tests by address and rank, a law for each answer. Assumes nothing.
use Prim.Native.Nat.{ℕ, ◌-◌, ◌≤◌, ◌<◌}
use mathlib.Core.Path.{◌≡◌, refl, sym, ap, ap₂, ◌∙◌}
use mathlib.Core.List.{List}
use mathlib.Core.Bool.{Bool, false, not, ◌&&◌}
use native.Mathlib.Omega.{arith}
use lib.Dec.{leb}
use borrow.Author.Tests.{leb-true, leb-false}
use lib.ListN.{get_or}
use Rattle.laws.specs.Order.{Order, is_less, is_same, is_greater}
use Rattle.laws.specs.Prefix.{same_number, same_list, prefix_of}
use Rattle.laws.proofs.Truth.{split}
use Rattle.layout.specs.Layout.{record_at}
use Rattle.data_model.specs.declared.entry.Rank.{Rank}
use Rattle.data_model.specs.Refusal.{recency_says}
use Rattle.data_model.specs.declared.answer.Recency.{Recency}
use Rattle.data_model.specs.declared.answer.Recency.TheVariants.{Newer, Older, Same}
use Rattle.tree.specs.Value.{read_value}
use Rattle.tree.specs.Stored.{value_part}
use Rattle.tree.specs.Address.{open_at, triple_at, rank_at}
use Rattle.tree.specs.declared.stored.KeyOrder.{KeyOrder}

-- The rank of a record: its time, and two parts of its value.
pub rank-read : (o : KeyOrder) (r v : List ℕ) → v ≡ value_part r → (t : ℕ) → t ≡ (triple_at o r).timestamp → (d : List ℕ) → d ≡ (read_value v).payload_digest → (l : ℕ) → l ≡ (read_value v).payload_length
    → ◌≡◌ {A = Rank} (record { timestamp = t; payload_digest = d; payload_length = l }) (rank_at o r)
rank-read o r v ev t et d ed l el =
    let digest : d ≡ (read_value (value_part r)).payload_digest = ed ∙ ap (λ (x : List ℕ). (read_value x).payload_digest) ev in
    let size : l ≡ (read_value (value_part r)).payload_length = el ∙ ap (λ (x : List ℕ). (read_value x).payload_length) ev in
    λ i. record { timestamp = et i; payload_digest = digest i; payload_length = size i }

-- At another address, by the ranks.
module _ (p q a b : List ℕ) (ep : p ≡ a) (eq : q ≡ b) (t : Bool) (et : t ≡ same_list same_number p q) where
  pub other-address : t ≡ false → (o : Order) (g : Bool) → is_greater o ≡ g → not g ≡ (not (same_list same_number a b) && not (is_greater o))
  other-address n o g eg =
      ap not (sym eg)
      ∙ sym (ap (λ (z : Bool). not z && not (is_greater o)) (sym (ap₂ (same_list same_number) ep eq) ∙ sym et ∙ n))

-- One more of a stack that does not begin an address.
pub above-next : (o : KeyOrder) (dir tree stack address : List ℕ) (d : ℕ) {depth : ℕ} → 0 < d → ((i : ℕ) → d ≤ i → i < depth → prefix_of same_number (open_at o (record_at (get_or stack i 0) dir tree)) address ≡ false)
    → prefix_of same_number (open_at o (record_at (get_or stack (d - 1) 0) dir tree)) address ≡ false
    → (i : ℕ) → d - 1 ≤ i → i < depth → prefix_of same_number (open_at o (record_at (get_or stack i 0) dir tree)) address ≡ false
above-next o dir tree stack address d h above e i x y = split (leb d i)
    (λ q. above i (leb-true d i q) y)
    (λ q.
    let z = leb-false d i q in
    let w : i ≡ d - 1 = omega arith in
    ap (λ (j : ℕ). prefix_of same_number (open_at o (record_at (get_or stack j 0) dir tree)) address) w ∙ e)

-- A comparison that is not newer, not older, not the same.
module _ (o : Order) where
  pub not-newer : (r : Recency) → recency_says r ≡ o → (r ≡ Newer → ⊥) → is_greater o ≡ false
  unfolding is_greater
  not-newer Newer e n = absurd (n refl)
  not-newer Older e n = ap is_greater (sym e)
  not-newer Same e n = ap is_greater (sym e)

  pub not-older : (r : Recency) → recency_says r ≡ o → (r ≡ Older → ⊥) → is_less o ≡ false
  unfolding is_less
  not-older Newer e n = ap is_less (sym e)
  not-older Older e n = absurd (n refl)
  not-older Same e n = ap is_less (sym e)

  pub not-same : (r : Recency) → recency_says r ≡ o → (r ≡ Same → ⊥) → is_same o ≡ false
  unfolding is_same
  not-same Newer e n = ap is_same (sym e)
  not-same Older e n = ap is_same (sym e)
  not-same Same e n = absurd (n refl)
