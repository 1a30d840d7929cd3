-- When a recording is refused, first in checking order, and what it answers and leaves. Assumes nothing.
use Prim.Native.Nat.{ℕ, ◌+◌, ◌≤◌, ◌<◌}
use mathlib.Core.Path.{◌≡◌, refl, sym, ap, ap₂, ◌∙◌}
use mathlib.Core.Bool.{Bool, true, false, not, ◌&&◌}
use mathlib.Core.List.{List, ◌++◌}
use native.Mathlib.Omega.{arith}
use lib.ListN.{length, take, drop, take-append-drop}
use lib.Dec.{ltb}
use borrow.Author.Tests.{lt-ltb, le-ltb}
use Rattle.laws.specs.Prefix.{same_number, same_list}
use Rattle.laws.specs.Sorted.{any, keep}
use Rattle.laws.proofs.Sorted.{any-make}
use Rattle.layout.specs.Buffers.{written}
use Rattle.layout.specs.Layout.{record_at, offset_at}
use Rattle.data_model.specs.Path.{Components, Figures, field, legal, components}
use Rattle.data_model.specs.Refusal.{refusal_number}
use Rattle.data_model.specs.declared.answer.Refusal.{Refusal}
use Rattle.data_model.specs.Entry.{entry_of, rank_of}
use Rattle.data_model.specs.declared.path.Path.{Path}
use Rattle.data_model.specs.declared.parameters.Subspace.{Subspace}
use Rattle.keys.specs.Encode.{be}
use Rattle.key_laws.specs.Bytes.{Bytes}
use Rattle.key_laws.proofs.Fits.{bytes_take}
use Rattle.tree.specs.Stored.{Stored, stored, stored_of, available_in}
use Rattle.tree.specs.Tree.{InBounds, Formed}
use Rattle.tree.specs.Matching.{stands_at}
use Rattle.tree.specs.Apart.{no_address_twice}
use Rattle.tree.specs.declared.stored.KeyOrder.{KeyOrder}
use Rattle.tree.specs.declared.stored.KeyOrder.TheVariants.{Spt, Tsp}
use Rattle.tree.specs.declared.stored.LengthyAuthorisedEntry.{LengthyAuthorisedEntry}
use Rattle.tree.proofs.FormedLaws.{formed-bounds}
use Rattle.tree.proofs.FormedContents.{formed-many}
use Rattle.store.specs.Store.{Store, store_of, tree_room, dir_room, tree_of, dir_of, held, held_by, holding}
use Rattle.store.specs.Refusal.{unless, ◌or_else◌, store_refusal}
use Rattle.std.proofs.Common.{Some, None}
use Rattle.store.specs.Change.{in_tree, first_place}
use Rattle.store.specs.Forget.{unexpected}
use Rattle.store.proofs.CheckLaws.{Passed, or-none, unless-none, number-some}
use Rattle.store.proofs.TalliedLaws.{passed-fit}
use Rattle.store.proofs.HoldingLaws.{store-holds}
use Rattle.store.proofs.Lifted.{held_in}
use Rattle.store.proofs.ForgetLaws.{one-such, none_first, stands-first, in-first}
use Rattle.available.specs.Available.{arrived_at, exceeded, StandsFirst, Arrived, entry_refusal, available_refusal, available_outcome, available_set}
use Rattle.available.proofs.Arrived.{single}
use Rattle.available.proofs.OneTree.{set-changed, set-one}

-- What is looked for among the stored entries, by the place of the first that stands there.
module _ {o : KeyOrder} {count : ℕ} {dir tree : List ℕ} (v : Formed o count dir tree) (ns : List ℕ) (s : Subspace) (p : Components) (expects : Bool) (digest : List ℕ) (n : ℕ) where
  abbrev l : List Stored
  l = in_tree o ns count dir tree

  pub refuses-absent : None ≡ first_place (stands_at s p) l → 11 ≡ entry_refusal s p expects digest n l
  unfolding entry_refusal unless ◌or_else◌
  refuses-absent e = rw (none_first v ns s p e)

  module _ (k : ℕ) (ek : Some k ≡ first_place (stands_at s p) l) (once : no_address_twice l ≡ true) (a : LengthyAuthorisedEntry) (q : stored_of a ≡ stored o field ns (record_at k dir tree))
      (t : Bool) (et : t ≡ (expects && not (same_list same_number a.entry.payload_digest digest))) where
    there : any (stands_at s p) l ≡ true
    there = any-make (stands_at s p) l (in-first v ns s p k ek) (stands-first v ns s p k ek)

    asked : (test : Stored → Bool) → test (stored_of a) ≡ any (λ (y : Stored). stands_at s p y && test y) l
    asked test = ap test q ∙ one-such s p test l once _ (in-first v ns s p k ek) (stands-first v ns s p k ek)

    other : any (unexpected s p expects digest) l ≡ t
    unfolding unexpected stored_of entry_of rank_of
    other = sym (et ∙ asked λ y. expects && not (same_list same_number y.entry.rank.payload_digest digest))

    above : any (exceeded s p n) l ≡ ltb a.entry.payload_length n
    unfolding exceeded stored_of entry_of rank_of
    above = sym (asked λ y. ltb y.entry.rank.payload_length n)

    pub refuses-digest : t ≡ true → 9 ≡ entry_refusal s p expects digest n l
    unfolding entry_refusal unless ◌or_else◌
    refuses-digest e = rw (there, other, e)

    pub refuses-length : t ≡ false → a.entry.payload_length < n → 12 ≡ entry_refusal s p expects digest n l
    unfolding entry_refusal unless ◌or_else◌
    refuses-length e g = rw (there, other, e, above, lt-ltb a.entry.payload_length n g)

    pub refuses-nothing : t ≡ false → n ≤ a.entry.payload_length → 0 ≡ entry_refusal s p expects digest n l
    unfolding entry_refusal unless ◌or_else◌
    refuses-nothing e g = rw (there, other, e, above, le-ltb a.entry.payload_length n g)

-- The refusals of a call: what it answers and leaves.
module _ (s : Store) (subspace : Subspace) (path : Path) (expects : Bool) (digest : List ℕ) (n : ℕ) where
  abbrev refusal : ℕ
  refusal = available_refusal field s subspace path expects digest n

  pub available-refused : (r : Refusal) → refusal_number r ≡ refusal
      → available_outcome (record { refusal = refusal_number r; state = s.state }) s.spt s.spt_dir s.tsp s.tsp_dir ≡ available_set field s subspace path expects digest n
  unfolding available_set
  available-refused r e = rw (← e, number-some r)

  module _ (z : 0 ≡ refusal) where
    pub available-tested : (store_refusal field s true ≡ 0) × (legal field path ≡ true)
    unfolding available_refusal
    available-tested =
        let k = or-none (store_refusal field s true) _ (sym z) in
        let j = or-none (unless (legal field path) 4) _ k.1 in
        (k.0, unless-none (legal field path) 4 (omega arith) j.0)

    pub available-done : (a b c d : List ℕ) → store_of s.state a b c d ≡ holding field (arrived_at subspace (components path) n (held_by field s)) s
        → available_outcome (record { refusal = 0; state = s.state }) a b c d ≡ available_set field s subspace path expects digest n
    unfolding available_set
    available-done a b c d g = let w : refusal ≡ 0 = sym z in rw w (λ i. record { answer = record { refusal = 0; state = s.state }; left = g i })

-- Where no digest is expected, none is looked at.
pub available-unlooked : (f : Figures) (s : Store) (subspace : Subspace) (path : Path) (digest digest' : List ℕ) (n : ℕ)
    → available_set f s subspace path false digest n ≡ available_set f s subspace path false digest' n
unfolding available_set available_refusal entry_refusal unexpected
available-unlooked f s subspace path digest digest' n = refl

-- Both trees written over, in their rooms.
module _ (s : Store) (v : Passed s) (spt-bytes : Bytes s.spt) (tsp-bytes : Bytes s.tsp) (subspace : Subspace) (p : Components) (n : ℕ) where
  pub once-there : (o : KeyOrder) → length (keep (stands_at subspace p) (held field o s)) ≤ 1
  once-there o = ap-length (held_in field o s) (single field (passed-fit s v spt-bytes tsp-bytes) subspace p o)
    where
      ap-length : {l m : List Stored} → m ≡ l → length (keep (stands_at subspace p) m) ≤ 1 → length (keep (stands_at subspace p) l) ≤ 1
      ap-length e h = rw (← e) h

  -- In the subspace-first tree, where its place is known.
  pub spt-arrived : (k : ℕ) → StandsFirst subspace p k (held field Spt s) → (spt : List ℕ)
      → spt ≡ written (offset_at k (dir_of Spt s) + available_in (record_at k (dir_of Spt s) (tree_of field Spt s))) (be 8 n) (tree_of field Spt s)
      → Arrived Spt s.state.namespace_id s.state.count subspace p n (dir_of Spt s) (tree_of field Spt s) spt
  unfolding held
  spt-arrived k at spt e = set-one (v.whole Spt) tree-bytes s.state.namespace_id subspace p n k at (unfold held in once-there Spt) spt e
    where
      tree-bytes : Bytes (tree_of field Spt s)
      tree-bytes = unfold tree_of in bytes_take (tree_room field s.state.limit) s.spt spt-bytes

  pub spt-inside : (k : ℕ) → StandsFirst subspace p k (held field Spt s) → InBounds k (dir_of Spt s) (tree_of field Spt s)
  unfolding held
  spt-inside k at = let i = at.inside in formed-bounds (v.formed Spt) k (omega (arith, formed-many (v.formed Spt) s.state.namespace_id))

  pub both-arrived : (spt tsp : List ℕ)
      → Arrived Spt s.state.namespace_id s.state.count subspace p n (dir_of Spt s) (tree_of field Spt s) spt
      → Arrived Tsp s.state.namespace_id s.state.count subspace p n (dir_of Tsp s) (tree_of field Tsp s) tsp
      → store_of s.state (spt ++ drop (tree_room field s.state.limit) s.spt) s.spt_dir (tsp ++ drop (tree_room field s.state.limit) s.tsp) s.tsp_dir
      ≡ holding field (arrived_at subspace p n (held_by field s)) s
  unfolding held_by held tree_of dir_of
  both-arrived spt tsp es et =
      let t = tree_room field s.state.limit in
      let d = dir_room s.state.limit in
      let N = s.state.namespace_id in
      let C = s.state.count in
      ap₂ (λ (a b : List ℕ). store_of s.state (spt ++ drop t s.spt) a (tsp ++ drop t s.tsp) b) (sym (take-append-drop d s.spt_dir)) (sym (take-append-drop d s.tsp_dir))
      ∙ store-holds s (arrived_at subspace p n (held_by field s)) v.room C C spt (take d s.spt_dir) tsp (take d s.tsp_dir)
      (set-changed (v.whole Spt) (bytes_take t s.spt spt-bytes) N subspace p n spt es)
      (set-changed (v.whole Tsp) (bytes_take t s.tsp tsp-bytes) N subspace p n tsp et)
