-- Whether a tree has an entry already: by its key, and by the rank of the record that has it. Assumes nothing.
use Prim.Native.Nat.{ℕ, ◌<◌}
use mathlib.Core.Path.{◌≡◌, sym, ap, ◌∙◌}
use mathlib.Core.List.{List}
use mathlib.Core.Bool.{Bool, true, false}
use Rattle.laws.specs.Order.{is_same}
use Rattle.laws.specs.Sorted.{any, ◌∈◌}
use Rattle.laws.proofs.Truth.{clash, refute, alike}
use Rattle.laws.proofs.Order.{is_same_lem}
use Rattle.laws.proofs.Sorted.{any-view, any-make}
use Rattle.layout.specs.Layout.{records, record_at}
use Rattle.layout.proofs.LaidLaws.{records-get, record-in}
use Rattle.data_model.specs.Path.{field, by_bytes}
use Rattle.data_model.specs.Entry.{Entry, entry_of, rank_of, by_rank}
use Rattle.data_model.specs.declared.entry.Entry.{Entry as EntryValue}
use Rattle.data_model.specs.declared.entry.Rank.{Rank}
use Rattle.data_model.proofs.Orders.{rank-linear}
use Rattle.key_laws.specs.Bytes.{Bytes}
use Rattle.key_laws.specs.KeyOrder.{Sized}
use Rattle.tree.specs.Stored.{Stored, key_in, key_of, stored_from, stored, contents, triple_of, same_entry}
use Rattle.tree.specs.Tree.{Readable, Ordered, keys_below, has_key}
use Rattle.tree.specs.Address.{triple_at, rank_at}
use Rattle.tree.specs.Matching.{repeats}
use Rattle.tree.specs.declared.stored.KeyOrder.{KeyOrder}
use Rattle.tree.proofs.RecordLaws.{key_apart, entry-equality, contents-in, contents-view}
use Rattle.tree.proofs.WithinLaws.{formed-recorded, at-bytes}
use Rattle.tree.proofs.FormedLaws.{formed-readable, ordered-searchable}
use Rattle.tree.proofs.AddressLaws.{key-says}
use Rattle.tree.proofs.SearchLaws.{same_key, key-same, key-place, has-place}

module _ {o : KeyOrder} {count : ℕ} {dir tree : List ℕ} (v : Ordered o count dir tree) (b : Bytes tree) (e : EntryValue) (sized : Sized (triple_of (entry_of e))) (key : List ℕ)
    (ek : key ≡ key_in o (triple_of (entry_of e))) where
  abbrev recs : List (List ℕ)
  recs = records count dir tree

  abbrev says : List ℕ → Stored
  says r = stored o field e.namespace_id r

  abbrev all : List Stored
  all = contents o field e.namespace_id recs

  -- A record that says the entry has its key.
  key-of : (r : List ℕ) → r ∈ recs → entry_of e ≡ (says r).entry → key_of r ≡ key
  unfolding triple_of stored stored_from
  key-of r m q =
      let k = formed-recorded v.formed b r m in
      (key-says o r k.0 k.1).0 ∙ ap (λ (x : Entry). key_in o (triple_of x)) (sym q) ∙ sym ek

  -- What is repeated is said by a record.
  said : any (repeats (entry_of e)) all ≡ true → (r : List ℕ) × r ∈ recs × (entry_of e ≡ (says r).entry)
  unfolding repeats
  said q =
      let x = any-view (repeats (entry_of e)) all q in
      let r = contents-view o field e.namespace_id recs x.1 in
      (r.0, r.1, entry-equality.equal (entry_of e) x.0.entry x.2 ∙ ap (λ (y : Stored). y.entry) r.2)

  module _ (n : ℕ) (en : n ≡ keys_below key recs) (t : Bool) (et : t ≡ has_key key recs) where
    pub repeats-none : t ≡ false → false ≡ any (repeats (entry_of e)) all
    unfolding has_key
    repeats-none f = sym (refute (any (repeats (entry_of e)) all) λ q.
        let r = said q in
        clash (any-make (λ (r : List ℕ). is_same (by_bytes (key_of r) key)) recs r.1 (key-same key r.0 (key-of r.0 r.1 r.2))) (sym et ∙ f))

    module _ (y : t ≡ true) where
      within : n < count
      within = has-place (ordered-searchable v) key n en t et y

      pub repeats-readable : Readable o n dir tree
      repeats-readable = formed-readable v.formed n within

      -- The record that has the key is the one at the place.
      at_place : (r : List ℕ) → r ∈ recs → key_of r ≡ key → record_at n dir tree ≡ r
      at_place r m q = sym (records-get count n dir tree v.formed.few within) ∙ (key-place key recs v.ascends n en m q).1

      place-key : key_of (record_at n dir tree) ≡ key
      unfolding has_key
      place-key =
          let x = any-view (λ (r : List ℕ). is_same (by_bytes (key_of r) key)) recs (sym et ∙ y) in
          let q = same_key key x.0 x.2 in
          ap key_of (at_place x.0 x.1 q) ∙ q

      place-triple : triple_at o (record_at n dir tree) ≡ triple_of (entry_of e)
      place-triple =
          let k = key-says o (record_at n dir tree) (at-bytes n dir tree b) repeats-readable.is in
          key_apart (triple_at o (record_at n dir tree)) (triple_of (entry_of e)) k.1 sized o (sym k.0 ∙ place-key ∙ ek)

      -- The entry is that of the record there, if their ranks are the same.
      place-says : rank_at o (record_at n dir tree) ≡ rank_of e → entry_of e ≡ (says (record_at n dir tree)).entry
      unfolding entry_of triple_of stored stored_from
      place-says q =
          let t : triple_at o (record_at n dir tree) ≡ triple_of (entry_of e) = place-triple in
          λ i. record { namespace = e.namespace_id; subspace = (sym t i).subspace; path = (sym t i).path; rank = sym q i }

      says-rank : entry_of e ≡ (says (record_at n dir tree)).entry → rank_at o (record_at n dir tree) ≡ rank_of e
      unfolding entry_of stored stored_from
      says-rank q = ap (λ (x : Entry). x.rank) (sym q)

      pub repeats-rank : (g : Bool) → is_same (by_rank (rank_at o (record_at n dir tree)) (rank_of e)) ≡ g → g ≡ any (repeats (entry_of e)) all
      unfolding repeats is_same
      repeats-rank g q = alike g (any (repeats (entry_of e)) all)
          (λ s.
          let r = rank-linear.equal (rank_at o (record_at n dir tree)) (rank_of e) (is_same_lem _ (q ∙ s)) in
          any-make (repeats (entry_of e)) all (contents-in o field e.namespace_id recs (record-in count n dir tree v.formed.few within))
          (ap (same_entry (entry_of e)) (sym (place-says r)) ∙ entry-equality.self (entry_of e)))
          (λ s.
          let r = said s in
          let p : record_at n dir tree ≡ r.0 = at_place r.0 r.1 (key-of r.0 r.1 r.2) in
          let k = says-rank (r.2 ∙ ap (λ (x : List ℕ). (says x).entry) (sym p)) in
          sym q ∙ ap (λ (x : Rank). is_same (by_rank x (rank_of e))) k ∙ ap is_same (rank-linear.self (rank_of e)))
