-- One tree that is written over: what its bytes and its directory are then. Assumes nothing.
use Prim.Native.Nat.{ℕ, suc, ◌+◌, ◌≤◌, ◌<◌}
use mathlib.Core.Path.{◌≡◌, sym, ap, ap₂, ◌∙◌}
use mathlib.Core.Bool.{false}
use mathlib.Core.List.{List, ◌∷◌, map}
use native.Mathlib.Omega.{arith}
use lib.ListN.{length, drop, get_or, set, length-map}
use lib.Seq.{drop-cons}
use Rattle.laws.specs.Sorted.{any, keep}
use Rattle.layout.specs.Buffers.{filled, written}
use Rattle.layout.specs.Layout.{records, record_at, offset_at, pairs, tree_bytes, dir_numbers}
use Rattle.layout.proofs.LaidLaws.{laid}
use Rattle.data_model.specs.Path.{Components, field}
use Rattle.data_model.specs.declared.parameters.Subspace.{Subspace}
use Rattle.keys.specs.Encode.{be}
use Rattle.keys.proofs.Encoding.{be-length}
use Rattle.key_laws.specs.Bytes.{Bytes}
use Rattle.tree.specs.Stored.{Stored, stored, record_of, available_in}
use Rattle.tree.specs.Tree.{Whole}
use Rattle.tree.specs.Matching.{stands_at}
use Rattle.tree.specs.declared.stored.KeyOrder.{KeyOrder}
use Rattle.tree.proofs.RecordLaws.{record-forth}
use Rattle.tree.proofs.FormedLaws.{formed-record}
use Rattle.tree.proofs.FormedContents.{formed-many, formed-next}
use Rattle.tree.proofs.WithinLaws.{at-bytes, formed-recorded}
use Rattle.store.specs.Change.{in_tree, Changed}
use Rattle.store.proofs.ChangeLaws.{records-again}
use Rattle.available.specs.Available.{arrive, arrive_at, StandsFirst, Arrived}
use Rattle.available.proofs.Overwritten.{overwritten}
use Rattle.available.proofs.Arrived.{arrive-record, arrive_none, arrive-first, length-arrive-at, pairs-kept, map-set}

-- One tree.
module _ {o : KeyOrder} {count : ℕ} {dir tree : List ℕ} (v : Whole o count dir tree) (bytes : Bytes tree) (ns : List ℕ) (s : Subspace) (p : Components) (n : ℕ) where
  abbrev l : List Stored
  l = in_tree o ns count dir tree

  abbrev After : List ℕ → Type 0
  After = Arrived o ns count s p n dir tree

  again : map (record_of o) l ≡ records count dir tree
  again = records-again o field ns (records count dir tree) λ r m. formed-recorded v.formed bytes r m

  -- The directory stays, as every record is as long as before.
  pub set-changed : (after : List ℕ) → After after → Changed o (map (arrive_at s p n) l) dir tree dir after count
  unfolding dir_numbers
  set-changed after e = record {
    bytes = e;
    numbers = (laid count dir tree v.laid).numbers ∙ ap (filled (length dir)) (ap (pairs 0) (sym again) ∙ sym (pairs-kept o (arrive_at s p n) (length-arrive-at s p n o) l 0));
    count = sym (length-map l (arrive_at s p n) ∙ formed-many v.formed ns);
  }

  -- Nothing stands there, or what stands there is written over.
  pub set-none : any (stands_at s p) l ≡ false → After tree
  set-none h =
      (laid count dir tree v.laid).bytes
      ∙ ap (tree_bytes (length tree)) (sym again ∙ ap (map (record_of o)) (sym (arrive_none s p n l h)))

  pub set-one : (k : ℕ) → StandsFirst s p k l → length (keep (stands_at s p) l) ≤ 1 → (after : List ℕ) → after ≡ written (offset_at k dir + available_in (record_at k dir tree)) (be 8 n) tree → After after
  set-one k at once after e =
      let r = record_at k dir tree in
      let x = stored o field ns r in
      let few = formed-many v.formed ns in
      let first = at.first in
      let inside = at.inside in
      let h : k < count = omega arith in
      let says = record-forth o field ns r (at-bytes k dir tree bytes) (formed-record v.formed k h) in
      let least = says.least in
      let own : get_or l k x ≡ x = let q : get_or l k x ∷ drop (suc k) l ≡ x ∷ drop (k + 1) l = sym (drop-cons l k x inside) ∙ formed-next v.formed ns k h in cc in
      let changed : map (arrive_at s p n) l ≡ set l k (arrive n x)
      = arrive-first s p n l x once (omega arith)
      ∙ ap (λ (j : ℕ). set l j (arrive n (get_or l j x))) (sym first)
      ∙ ap (λ (y : Stored). set l k (arrive n y)) own in
      let written_over : record_of o (arrive n x) ≡ written (available_in r) (be 8 n) r
      = arrive-record field o n x says.lawful ∙ ap (λ (q : List ℕ). written (available_in q) (be 8 n) q) says.again in
      let recs : map (record_of o) (map (arrive_at s p n) l) ≡ set (records count dir tree) k (written (available_in r) (be 8 n) r)
      = ap (map (record_of o)) changed ∙ map-set (record_of o) l k (arrive n x) ∙ ap₂ (λ (a : List (List ℕ)) (b : List ℕ). set a k b) again written_over in
      e
      ∙ overwritten (laid count dir tree v.laid) k h (available_in r) (be 8 n) (omega (arith, least, be-length 8 n))
      ∙ ap (tree_bytes (length tree)) (sym recs)
