-- Covering, standing at an address, and rank, as the bytes of records tell them. Assumes nothing.
use Prim.Native.Nat.{ℕ, ◌<◌, ◌^◌}
use mathlib.Core.Path.{◌≡◌, refl, sym, ap, ap₂, ◌∙◌}
use mathlib.Core.List.{List, [], ◌∷◌, ◌++◌, append_assoc}
use mathlib.Core.Bool.{Bool, true, false, not, ◌&&◌}
use native.Mathlib.Omega.{arith}
use lib.ListN.{length}
use Rattle.laws.specs.Order.{is_less, is_greater, below}
use Rattle.laws.specs.Prefix.{same_number, same_list, prefix_of}
use Rattle.laws.proofs.Truth.{and-true, not-false, alike}
use Rattle.laws.proofs.Prefix.{number-equality, prefix-tail}
use Rattle.layout.specs.Layout.{record_at}
use Rattle.data_model.specs.Path.{field, Components, same_path}
use Rattle.data_model.specs.Subspace.{same_subspace}
use Rattle.data_model.specs.Entry.{Entry, entry_of, rank_of, by_rank, newer, covers, prunes}
use Rattle.data_model.specs.declared.entry.Entry.{Entry as EntryValue}
use Rattle.data_model.specs.declared.parameters.Subspace.{Subspace}
use Rattle.data_model.proofs.Orders.{component-equality, path-equality, subspace-equality}
use Rattle.keys.specs.Encode.{be, path_key, subspace_key, Triple, triple, spt_key}
use Rattle.keys.specs.Decode.{subspace_at}
use Rattle.keys.proofs.Encoding.{subspace-length}
use Rattle.key_laws.specs.Bytes.{Bytes}
use Rattle.key_laws.specs.KeyOrder.{Sized}
use Rattle.key_laws.proofs.BigEndian.{subspace-back}
use Rattle.key_laws.proofs.EntryLaws.{newer-below, covers-make}
use Rattle.tree.specs.Stored.{key_in, stored_from, stored, triple_of}
use Rattle.tree.specs.Tree.{Readable}
use Rattle.tree.specs.Apart.{same_address}
use Rattle.tree.specs.Matching.{outdates, removes, stands_at}
use Rattle.tree.specs.Address.{address_key, open_path, open_key, triple_at, address_at, open_at, rank_at}
use Rattle.tree.specs.declared.stored.KeyOrder.{KeyOrder}
use Rattle.tree.specs.declared.stored.KeyOrder.TheVariants.{Spt}
use Rattle.tree.proofs.RecordLaws.{key_apart}
use Rattle.tree.proofs.WithinLaws.{at-bytes}
use Rattle.tree.proofs.AddressLaws.{open-begins, covers-begins, key-says}

-- Of two lists that begin alike, cut after as many, the first parts are the same and the second begin alike.
prefix-parts : (k l x y : List ℕ) → length k ≡ length l → prefix_of same_number (k ++ x) (l ++ y) ≡ true → (k ≡ l) × (prefix_of same_number x y ≡ true)
prefix-parts [] [] x y h e = (refl, e)
prefix-parts [] (b ∷ l) x y h e = absurd (omega arith)
prefix-parts (a ∷ k) [] x y h e = absurd (omega arith)
prefix-parts (a ∷ k) (b ∷ l) x y h e =
    let t = prefix-tail same_number number-equality a b (k ++ x) (l ++ y) e in
    let r = prefix-parts k l x y (omega arith) t.1 in
    (ap₂ ◌∷◌ t.0 r.0, r.1)

module _ (s t : Subspace) (sh : s.high < 2 ^ 64) (sl : s.low < 2 ^ 64) (th : t.high < 2 ^ 64) (tl : t.low < 2 ^ 64) where
  subspace-known : subspace_key s ≡ subspace_key t → s ≡ t
  subspace-known e = sym (subspace-back s [] sh sl) ∙ ap (λ (k : List ℕ). subspace_at (k ++ [])) e ∙ subspace-back t [] th tl

  address-known : (p q : Components) → address_key s p ≡ address_key t q → (s ≡ t) × (p ≡ q)
  unfolding key_in spt_key address_key
  address-known p q e =
      let x = triple s p 0 in
      let y = triple t q 0 in
      let g : key_in Spt x ≡ key_in Spt y = sym (append_assoc (subspace_key s) (path_key p) (be 8 0)) ∙ ap (◌++ be 8 0) e ∙ append_assoc (subspace_key t) (path_key q) (be 8 0) in
      let r : x ≡ y = key_apart x y (record { high = sh; low = sl; time = omega arith }) (record { high = th; low = tl; time = omega arith }) Spt g in
      (ap (λ (z : Triple). z.subspace) r, ap (λ (z : Triple). z.path) r)

  -- The bytes of two addresses are the same exactly if subspace and path are.
  pub address_same : (p q : Components) → same_list same_number (address_key s p) (address_key t q) ≡ (same_subspace s t && same_path p q)
  address_same p q = alike (same_list same_number (address_key s p) (address_key t q)) (same_subspace s t && same_path p q)
      (λ e.
      let r = address-known p q (component-equality.equal (address_key s p) (address_key t q) e) in
      ap₂ ◌&&◌ (ap (same_subspace s) (sym r.0) ∙ subspace-equality.self s) (ap (same_path p) (sym r.1) ∙ path-equality.self p))
      (λ e.
      let k = and-true (same_subspace s t) (same_path p q) e in
      let r : address_key s p ≡ address_key t q = ap₂ address_key (subspace-equality.equal s t k.0) (path-equality.equal p q k.1) in
      ap (λ (l : List ℕ). same_list same_number l (address_key t q)) r ∙ component-equality.self (address_key t q))

-- An entry covers another of its namespace exactly if its open address begins the other's.
pub covers-bytes : (a b : Entry) → a.namespace ≡ b.namespace → Sized (triple_of a) → Sized (triple_of b)
    → prefix_of same_number (open_key a.subspace a.path) (address_key b.subspace b.path) ≡ covers a b
unfolding triple_of open_key address_key
covers-bytes a b n h k = alike (prefix_of same_number (open_key a.subspace a.path) (address_key b.subspace b.path)) (covers a b)
    (λ e.
    let v = prefix-parts (subspace_key a.subspace) (subspace_key b.subspace) (open_path a.path) (path_key b.path) (subspace-length a.subspace ∙ sym (subspace-length b.subspace)) e in
    covers-make a b (record { namespace = n; subspace = subspace-known a.subspace b.subspace h.high h.low k.high k.low v.0; path = sym (open-begins a.path b.path) ∙ v.1 }))
    (covers-begins a b)

-- The numbers of a record that was tested are numbers of 64 bits.
pub sized-at : {o : KeyOrder} {k : ℕ} {dir tree : List ℕ} → Readable o k dir tree → Bytes tree → (ns : List ℕ) → Sized (triple_of (stored o field ns (record_at k dir tree)).entry)
unfolding triple_of stored stored_from
sized-at {o} {k} {dir} {tree} v b ns = (key-says o (record_at k dir tree) (at-bytes k dir tree b) v.is).1

-- Where the open address of an entry begins the address of another of its namespace, it prunes the other exactly if it is newer.
prunes-rank : (a b : Entry) → a.namespace ≡ b.namespace → Sized (triple_of a) → Sized (triple_of b) → (front address : List ℕ) → front ≡ open_key a.subspace a.path → address ≡ address_key b.subspace b.path
    → (t : Bool) → t ≡ prefix_of same_number front address → not t ≡ false → newer a b ≡ prunes a b
unfolding prunes
prunes-rank a b n h k front address ef ea t et y =
    let c : covers a b ≡ true = sym (covers-bytes a b n h k) ∙ sym (ap₂ (prefix_of same_number) ef ea) ∙ sym et ∙ not-false t y in
    ap (◌&& newer a b) (sym c)

-- The tests of record k against an entry, by its address and its rank.
module _ {o : KeyOrder} {k : ℕ} {dir tree : List ℕ} (v : Readable o k dir tree) (b : Bytes tree) (e : EntryValue) (sized : Sized (triple_of (entry_of e))) (t g : Bool) where
  pub outdates-rank : is_greater (by_rank (rank_at o (record_at k dir tree)) (rank_of e)) ≡ g → (front address : List ℕ) → front ≡ open_at o (record_at k dir tree) → address ≡ address_key e.subspace_id (entry_of e).path
      → t ≡ prefix_of same_number front address → not t ≡ false → g ≡ outdates (entry_of e) (stored o field e.namespace_id (record_at k dir tree))
  unfolding outdates newer entry_of stored stored_from
  outdates-rank eg front address ef ea et y =
      sym eg ∙ prunes-rank (stored o field e.namespace_id (record_at k dir tree)).entry (entry_of e) refl (sized-at v b e.namespace_id) sized front address ef ea t et y

  pub removes-rank : is_less (by_rank (rank_at o (record_at k dir tree)) (rank_of e)) ≡ g → (front address : List ℕ) → front ≡ open_key e.subspace_id (entry_of e).path → address ≡ address_at o (record_at k dir tree)
      → t ≡ prefix_of same_number front address → not t ≡ false → g ≡ removes (entry_of e) (stored o field e.namespace_id (record_at k dir tree))
  unfolding removes below entry_of stored stored_from
  removes-rank eg front address ef ea et y =
      let s = (stored o field e.namespace_id (record_at k dir tree)).entry in
      sym eg ∙ sym (newer-below (entry_of e) s) ∙ prunes-rank (entry_of e) s refl sized (sized-at v b e.namespace_id) front address ef ea t et y

-- Whether record k stands at an address.
pub stands-bytes : {o : KeyOrder} {k : ℕ} {dir tree : List ℕ} → Readable o k dir tree → Bytes tree → (mine address : List ℕ) → mine ≡ address_at o (record_at k dir tree)
    → (t : Bool) → t ≡ same_list same_number mine address
    → (ns : List ℕ) (s : Subspace) (p : Components) → s.high < 2 ^ 64 → s.low < 2 ^ 64 → address ≡ address_key s p → t ≡ stands_at s p (stored o field ns (record_at k dir tree))
unfolding stands_at stored stored_from triple_of
stands-bytes {o} {k} {dir} {tree} v b mine address ep t et ns s p sh sl ea =
    let z = sized-at v b ns in
    et ∙ ap₂ (same_list same_number) ep ea ∙ address_same (triple_at o (record_at k dir tree)).subspace s z.high z.low sh sl (triple_at o (record_at k dir tree)).path p

-- Two records of one namespace: covering, standing at one address, which is newer.
module _ {o : KeyOrder} {j k : ℕ} {dir tree : List ℕ} (v : Readable o j dir tree) (w : Readable o k dir tree) (b : Bytes tree) (ns : List ℕ) where
  pub covers_at : prefix_of same_number (open_at o (record_at j dir tree)) (address_at o (record_at k dir tree)) ≡ covers (stored o field ns (record_at j dir tree)).entry (stored o field ns (record_at k dir tree)).entry
  unfolding stored stored_from
  covers_at = covers-bytes (stored o field ns (record_at j dir tree)).entry (stored o field ns (record_at k dir tree)).entry refl (sized-at v b ns) (sized-at w b ns)

  pub same_at : same_list same_number (address_at o (record_at j dir tree)) (address_at o (record_at k dir tree)) ≡ same_address (stored o field ns (record_at j dir tree)).entry (stored o field ns (record_at k dir tree)).entry
  unfolding same_address stored stored_from triple_of
  same_at =
      let x = sized-at v b ns in
      let y = sized-at w b ns in
      address_same (triple_at o (record_at j dir tree)).subspace (triple_at o (record_at k dir tree)).subspace x.high x.low y.high y.low (triple_at o (record_at j dir tree)).path (triple_at o (record_at k dir tree)).path

  pub newer-at : is_greater (by_rank (rank_at o (record_at j dir tree)) (rank_at o (record_at k dir tree))) ≡ newer (stored o field ns (record_at j dir tree)).entry (stored o field ns (record_at k dir tree)).entry
  unfolding newer stored stored_from
  newer-at = refl
