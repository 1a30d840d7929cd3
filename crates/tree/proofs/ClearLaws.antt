-- Two records of one time, address and value, one in each tree, say the same.
-- Assumes nothing.
use Prim.Native.Nat.{ℕ, ◌<◌}
use mathlib.Core.Path.{◌≡◌, refl, sym, ap, ap₂, ◌∙◌}
use mathlib.Core.List.{List, ◌++◌, append_assoc}
use mathlib.Core.Bool.{true, ◌&&◌}
use Rattle.laws.specs.Prefix.{same_number, same_list}
use Rattle.laws.specs.Sorted.{any}
use Rattle.laws.proofs.Sorted.{any-make}
use Rattle.layout.specs.Layout.{records, record_at}
use Rattle.layout.proofs.LaidLaws.{record-in}
use Rattle.data_model.specs.Path.{field}
use Rattle.data_model.proofs.Orders.{component-equality}
use Rattle.keys.specs.Encode.{be, subspace_key, path_key, spt_key, tsp_key}
use Rattle.key_laws.specs.Bytes.{Bytes}
use Rattle.tree.specs.Value.{value_bytes}
use Rattle.tree.specs.Stored.{key_in, key_of, value_part, stored_from, stored, contents, triple_of, value_for, same_stored}
use Rattle.tree.specs.Tree.{Formed, has_record}
use Rattle.tree.specs.Address.{address_key, triple_at, address_at}
use Rattle.tree.specs.declared.stored.KeyOrder.{KeyOrder}
use Rattle.tree.specs.declared.stored.KeyOrder.TheVariants.{Spt, Tsp}
use Rattle.tree.proofs.FormedLaws.{formed-record}
use Rattle.tree.proofs.RecordLaws.{value-of-record, record-forth}
use Rattle.tree.proofs.WithinLaws.{at-bytes, formed-recorded, has-stored}
use Rattle.tree.proofs.AddressLaws.{key-says}

-- A key is the time and the place, in the order that it is of.
timed : KeyOrder → ℕ → List ℕ → List ℕ
timed Spt n l = l ++ be 8 n
timed Tsp n l = be 8 n ++ l

key-whole : (m o : KeyOrder) (r : List ℕ) → key_in m (triple_at o r) ≡ timed m (triple_at o r).timestamp (address_at o r)
unfolding key_in spt_key tsp_key address_key timed
key-whole Spt o r = sym (append_assoc (subspace_key (triple_at o r).subspace) (path_key (triple_at o r).path) (be 8 (triple_at o r).timestamp))
key-whole Tsp o r = refl

triple-said : (o : KeyOrder) (ns r : List ℕ) → triple_of (stored o field ns r).entry ≡ triple_at o r
unfolding triple_of stored stored_from
triple-said o ns r = refl

-- Record k of the one tree and record j of the other, of one time, place and value.
module _ {o m : KeyOrder} {count count2 : ℕ} {dir tree dir2 tree2 : List ℕ} (v : Formed o count dir tree) (w : Formed m count2 dir2 tree2) (bytes : Bytes tree) (bytes2 : Bytes tree2)
    (ns : List ℕ) (k j : ℕ) (h : k < count) (g : j < count2) where
  pub agree : (x y : ℕ) → x ≡ (triple_at o (record_at k dir tree)).timestamp → y ≡ (triple_at m (record_at j dir2 tree2)).timestamp → x ≡ y
      → (p q : List ℕ) → p ≡ address_at o (record_at k dir tree) → q ≡ address_at m (record_at j dir2 tree2) → same_list same_number p q ≡ true
      → (u z : List ℕ) → u ≡ value_part (record_at j dir2 tree2) → z ≡ value_part (record_at k dir tree) → same_list same_number u z ≡ true
      → any (same_stored (stored o field ns (record_at k dir tree))) (contents m field ns (records count2 dir2 tree2)) ≡ true
  unfolding has_record
  agree x y ex ey et p q ep eq s u z eu ez t =
      let rk = record_at k dir tree in
      let rj = record_at j dir2 tree2 in
      let a = stored o field ns rk in
      let f = record-forth o field ns rk (at-bytes k dir tree bytes) (formed-record v k h) in
      let time : (triple_at m rj).timestamp ≡ (triple_at o rk).timestamp = sym ey ∙ sym et ∙ ex in
      let place : address_at m rj ≡ address_at o rk = sym eq ∙ sym (component-equality.equal p q s) ∙ ep in
      let key : key_of rj ≡ key_in m (triple_of a.entry)
      = (key-says m rj (at-bytes j dir2 tree2 bytes2) (formed-record w j g)).0
      ∙ key-whole m m rj ∙ ap₂ (timed m) time place ∙ sym (key-whole m o rk)
      ∙ ap (key_in m) (sym (triple-said o ns rk)) in
      let value : value_part rj ≡ value_bytes (value_for a)
      = sym eu ∙ component-equality.equal u z t ∙ ez ∙ ap value_part (sym f.again) ∙ value-of-record field a f.lawful o in
      let there = record-in count2 j dir2 tree2 w.few g in
      sym (has-stored m field ns a f.lawful f.named (records count2 dir2 tree2) (formed-recorded w bytes2))
      ∙ any-make (λ (r : List ℕ). same_list same_number (key_of r) (key_in m (triple_of a.entry)) && same_list same_number (value_part r) (value_bytes (value_for a))) (records count2 dir2 tree2) there
      (ap₂ ◌&&◌
      (ap (λ (l : List ℕ). same_list same_number l (key_in m (triple_of a.entry))) key ∙ component-equality.self (key_in m (triple_of a.entry)))
      (ap (λ (l : List ℕ). same_list same_number l (value_bytes (value_for a))) value ∙ component-equality.self (value_bytes (value_for a))))
