-- What a listing may remember: every key of a record is such, and all of them are above the empty key. Assumes nothing.
use mathlib.Core.Path.{◌≡◌, refl, subst}
use mathlib.Core.Logic.{◌↔◌}
use mathlib.Core.List.{List, [], ◌∷◌}
use mathlib.Core.Bool.{Bool, true, false, ◌&&◌}
use Prim.Native.Nat.{ℕ}
use native.Mathlib.Omega.{arith}
use lib.ListN.{length}
use lib.Dec.{leb}
use Rattle.laws.specs.Order.{is_less, by_elements}
use Rattle.laws.specs.Sorted.{◌∈◌}
use Rattle.laws.proofs.Truth.{clash, refute, and-true}
use Rattle.laws.proofs.Sorted.{all-view}
use Rattle.data_model.specs.Path.{field, is_path, by_bytes}
use Rattle.keys.specs.Encode.{Triple, spt_key}
use Rattle.keys.specs.Decode.{token_of, ends_path, bind, was_read, by_token, read_component, read_components, read_path, whole, read_spt}
use Rattle.key_laws.specs.Bytes.{Bytes}
use Rattle.key_laws.specs.KeyOrder.{Sized}
use Rattle.tree.specs.Value.{value_length, read_value, is_value}
use Rattle.tree.specs.Stored.{key_in, read_in, triple_read, key_of, value_part, is_key, is_record}
use Rattle.tree.specs.declared.stored.KeyOrder.TheVariants.{Spt}
use Rattle.tree.proofs.FormedLaws.{formed-all}
use Rattle.tree.proofs.RecordLaws.{key-is, key-is-forth}
use Rattle.store.specs.Store.{Store}
use Rattle.store.proofs.CheckLaws.{Passed}
use Rattle.query.specs.Reading.{is_remembered}
use Rattle.query.specs.Listing.{spt_records, key_above}

-- A key may be remembered.
pub key-remembered : (k : List ℕ) → is_key Spt field k ≡ true → is_remembered field k ≡ true
unfolding is_remembered
key-remembered [] e = refl
key-remembered (b ∷ k) e = e

-- The test of what is remembered, by its length.
pub remember_empty : (k : List ℕ) → length k ≡ 0 → true ≡ is_remembered field k
unfolding is_remembered
remember_empty [] e = refl
remember_empty (b ∷ k) e = absurd (omega arith)

pub remember_key : (k : List ℕ) → (length k ≡ 0 → ⊥) → (t : Bool) → t ≡ is_key Spt field k → t ≡ is_remembered field k
unfolding is_remembered
remember_key [] h t e = absurd (h refl)
remember_key (b ∷ k) h t e = e

-- What may not be remembered is not empty, and the key of no triple within the figures.
pub refused_keys : (k : List ℕ) → Bytes k → (is_remembered field k ≡ false) ↔ ((k ≡ [] → ⊥) × ((t : Triple) → is_path field t.path ≡ true → Sized t → spt_key t ≡ k → ⊥))
unfolding is_remembered key_in
refused_keys [] bytes = (λ e. clash refl e, λ h. absurd (h.0 refl))
refused_keys (b ∷ k) bytes = (
  λ e. ((λ q. absurd (let z : ◌≡◌ {A = ℕ} 1 0 = cc in omega arith)), λ t p s q. clash (subst (λ x. is_key Spt field x ≡ true) q (key-is Spt field t p s)) e),
  λ h. refute (is_key Spt field (b ∷ k)) λ e. let v = key-is-forth Spt field (b ∷ k) bytes e in h.1 (triple_read (read_in Spt field (b ∷ k))) v.1 v.2 v.0,
)

-- Nothing at all is no key.
no_bytes : is_key Spt field [] ≡ false
unfolding is_key read_in read_spt was_read whole bind read_path read_components ends_path token_of read_component by_token
no_bytes = refl

key_above_lem : (k : List ℕ) → is_key Spt field k ≡ true → is_less (by_bytes [] k) ≡ true
unfolding is_less by_elements
key_above_lem [] e = clash e no_bytes
key_above_lem (b ∷ k) e = refl

module _ (s : Store) (p : Passed s) (r : List ℕ) (m : r ∈ spt_records field s) where
  pub record-key : is_key Spt field (key_of r) ≡ true
  unfolding is_record
  record-key =
      let e = all-view (is_record Spt field) (spt_records field s) (formed-all (p.formed Spt)) m in
      let k = and-true (leb value_length (length r)) (is_key Spt field (key_of r) && is_value (read_value (value_part r))) e in
      (and-true (is_key Spt field (key_of r)) (is_value (read_value (value_part r))) k.1).0

  pub record-remembered : is_remembered field (key_of r) ≡ true
  record-remembered = key-remembered (key_of r) record-key

  pub start-above : key_above [] r ≡ true
  start-above = key_above_lem (key_of r) record-key
