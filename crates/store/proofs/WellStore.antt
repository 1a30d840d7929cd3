-- A well-formed store of bytes, however it came about: the lists that it holds are fit, and its buffers bear them. Assumes nothing.
use Prim.Native.Nat.{ℕ, ◌≤◌}
use mathlib.Core.Path.{◌≡◌, refl, sym, ap, ap₂, subst, ◌∙◌}
use mathlib.Core.Logic.{◌↔◌}
use mathlib.Core.Bool.{true, false, not, ◌&&◌}
use mathlib.Core.List.Memᴰ.{head as here}
use mathlib.Core.List.Memᴰ.{tail as there}
use mathlib.Core.List.{List, [], ◌∷◌, map}
use native.Mathlib.Omega.{arith}
use lib.ListN.{length}
use lib.Seq.{length-take-le}
use lib.Dec.{leb}
use borrow.Author.Tests.{leb-true}
use Rattle.laws.specs.Order.{below}
use Rattle.laws.specs.Sorted.{◌∈◌, all, Ascends}
use Rattle.laws.proofs.Truth.{and-true, not-true}
use Rattle.laws.proofs.Sorted.{all-view}
use Rattle.layout.specs.Layout.{records, tree_bytes, dir_numbers}
use Rattle.data_model.specs.Path.{Figures}
use Rattle.data_model.specs.Entry.{prunes}
use Rattle.key_laws.specs.Bytes.{Bytes}
use Rattle.tree.specs.Stored.{Stored, stored, contents, record_of, order_in, key_below}
use Rattle.tree.specs.Tree.{within, WellFormed}
use Rattle.tree.specs.Apart.{no_address_twice, none_prunes}
use Rattle.tree.specs.declared.stored.KeyOrder.{KeyOrder}
use Rattle.tree.specs.declared.stored.KeyOrder.TheVariants.{Spt, Tsp}
use Rattle.tree.proofs.AgreeLaws.{within-view}
use Rattle.tree.proofs.WithinLaws.{records-bytes}
use Rattle.tree.proofs.RecordLaws.{Says, record-forth, record-ordered, contents-length, contents-view}
use Rattle.tree.proofs.WellFormedLaws.{well-formed}
use Rattle.store.specs.Store.{Store, tree_room, dir_room, tree_of, dir_of, held, well_formed_tree, same_entries, well_formed_store, held_by}
use Rattle.store.proofs.Meaning.{SoundHeld}
use Rattle.store.proofs.Lifted.{Rooms, held_in, Bears, Fit}
use Rattle.store.proofs.Recorded.{Proper, below_in}

-- What records say.
module _ (f : Figures) (o : KeyOrder) (ns : List ℕ) where
  contents-again : (recs : List (List ℕ)) → ((r : List ℕ) → r ∈ recs → Says o f ns r) → map (record_of o) (contents o f ns recs) ≡ recs
  contents-again [] h = refl
  contents-again (r ∷ rs) h = ap₂ ◌∷◌ (h r (here refl)).again (contents-again rs λ q m. h q (there m))

  contents-ascend : (recs : List (List ℕ)) → ((r : List ℕ) → r ∈ recs → Says o f ns r) → Ascends key_below recs → Ascends (below_in o) (contents o f ns recs)
  unfolding Ascends below
  contents-ascend [] h a = tt
  contents-ascend (r ∷ rs) h a = (
    λ x m.
        let k = contents-view o f ns rs m in
        let p = h r (here refl) in
        let q = h k.0 (there k.1) in
        ap (below_in o (stored o f ns r)) k.2
        ∙ sym (record-ordered o f (stored o f ns r) (stored o f ns k.0) p.lawful q.lawful)
        ∙ ap₂ key_below p.again q.again
        ∙ a.0 k.0 k.1,
    contents-ascend rs (λ q m. h q (there m)) a.1,
  )

-- One tree that was tested.
module _ (f : Figures) (o : KeyOrder) (s : Store) (w : well_formed_tree f o s ≡ true) (bytes : Bytes (tree_of f o s)) where
  facts : WellFormed o f s.state.count (dir_of o s) (tree_of f o s)
  unfolding well_formed_tree
  facts = (well-formed o f s.state.count (dir_of o s) (tree_of f o s)).0 w

  says : (r : List ℕ) → r ∈ records s.state.count (dir_of o s) (tree_of f o s) → Says o f s.state.namespace_id r
  says r m = record-forth o f s.state.namespace_id r (records-bytes s.state.count (dir_of o s) (tree_of f o s) bytes r m) (facts.each r m)

  tree_again : map (record_of o) (held f o s) ≡ records s.state.count (dir_of o s) (tree_of f o s)
  unfolding held
  tree_again = contents-again f o s.state.namespace_id (records s.state.count (dir_of o s) (tree_of f o s)) says

  tree-ascends : Ascends (below_in o) (held f o s)
  unfolding held
  tree-ascends = contents-ascend f o s.state.namespace_id (records s.state.count (dir_of o s) (tree_of f o s)) says facts.ascends

  tree-count : s.state.count ≡ length (held f o s)
  unfolding held
  tree-count = sym (contents-length o f s.state.namespace_id (records s.state.count (dir_of o s) (tree_of f o s)) ∙ facts.many)

  tree-says : (x : Stored) → x ∈ held f o s → (r : List ℕ) × r ∈ records s.state.count (dir_of o s) (tree_of f o s) × (x ≡ stored o f s.state.namespace_id r)
  unfolding held
  tree-says x m = contents-view o f s.state.namespace_id (records s.state.count (dir_of o s) (tree_of f o s)) m

  tree-proper : (x : Stored) → x ∈ held f o s → Proper f x
  tree-proper x m =
      let k = tree-says x m in
      let p = says k.0 k.1 in
      subst (Proper f) (sym k.2) (record { lawful = p.lawful; available = p.within })

  tree-named : (x : Stored) → x ∈ held f o s → x.entry.namespace ≡ s.state.namespace_id
  tree-named x m = let k = tree-says x m in ap (λ (y : Stored). y.entry.namespace) k.2 ∙ (says k.0 k.1).named

  tree-bytes : length (tree_of f o s) ≡ tree_room f s.state.limit → tree_of f o s ≡ tree_bytes (tree_room f s.state.limit) (map (record_of o) (held f o s))
  tree-bytes l = facts.bytes ∙ ap₂ tree_bytes l (sym tree_again)

  tree-numbers : length (dir_of o s) ≡ dir_room s.state.limit → dir_of o s ≡ dir_numbers (dir_room s.state.limit) (map (record_of o) (held f o s))
  tree-numbers l = facts.numbers ∙ ap₂ dir_numbers l (sym tree_again)

-- What the tests of a store say.
same_view : (l m : List Stored) → same_entries l m ≡ true → (x : Stored) → x ∈ l ↔ x ∈ m
unfolding same_entries
same_view l m e x = let k = and-true (within l m) (within m l) e in (within-view l m k.0 x, within-view m l k.1 x)

pub prunes-view : (l : List Stored) → none_prunes l ≡ true → (x y : Stored) → x ∈ l → y ∈ l → prunes x.entry y.entry ≡ false
unfolding none_prunes
prunes-view l e x y m n =
    not-true (prunes x.entry y.entry)
    (all-view (λ (b : Stored). not (prunes x.entry b.entry)) l (all-view (λ (a : Stored). all (λ (b : Stored). not (prunes a.entry b.entry)) l) l e m) n)

record Tested (f : Figures) (s : Store) : Type 0 where
  few : s.state.count ≤ s.state.limit
  spt : well_formed_tree f Spt s ≡ true
  tsp : well_formed_tree f Tsp s ≡ true
  same : same_entries (held f Spt s) (held f Tsp s) ≡ true
  apart : none_prunes (held f Spt s) ≡ true

tested : (f : Figures) (s : Store) → well_formed_store f s ≡ true → Tested f s
unfolding well_formed_store
tested f s w =
    let A = well_formed_tree f Spt s in
    let B = well_formed_tree f Tsp s in
    let C = same_entries (held f Spt s) (held f Tsp s) in
    let D = no_address_twice (held f Spt s) in
    let E = none_prunes (held f Spt s) in
    let a = and-true (leb s.state.count s.state.limit) (A && (B && (C && (D && E)))) w in
    let b = and-true A (B && (C && (D && E))) a.1 in
    let c = and-true B (C && (D && E)) b.1 in
    let d = and-true C (D && E) c.1 in
    let e = and-true D E d.1 in
    record { few = leb-true s.state.count s.state.limit a.0; spt = b.0; tsp = c.0; same = d.0; apart = e.1 }

module _ (f : Figures) (s : Store) (k : Rooms f s) where
  tree-length : (o : KeyOrder) → length (tree_of f o s) ≡ tree_room f s.state.limit
  unfolding tree_of
  tree-length Spt = length-take-le (tree_room f s.state.limit) s.spt k.spt
  tree-length Tsp = length-take-le (tree_room f s.state.limit) s.tsp k.tsp

  dir-length : (o : KeyOrder) → length (dir_of o s) ≡ dir_room s.state.limit
  unfolding dir_of
  dir-length Spt = length-take-le (dir_room s.state.limit) s.spt_dir k.spt_dir
  dir-length Tsp = length-take-le (dir_room s.state.limit) s.tsp_dir k.tsp_dir

-- A well-formed store of bytes.
module _ (f : Figures) (s : Store) (w : well_formed_store f s ≡ true) (bytes : (o : KeyOrder) → Bytes (tree_of f o s)) where
  trees : (o : KeyOrder) → well_formed_tree f o s ≡ true
  trees Spt = (tested f s w).spt
  trees Tsp = (tested f s w).tsp

  held-sound : SoundHeld s.state.namespace_id (held_by f s)
  unfolding held_by order_in
  held-sound = record {
    spt_ascends = tree-ascends f Spt s (trees Spt) (bytes Spt);
    tsp_ascends = tree-ascends f Tsp s (trees Tsp) (bytes Tsp);
    both = same_view (held f Spt s) (held f Tsp s) (tested f s w).same;
    apart = prunes-view (held f Spt s) (tested f s w).apart;
    named = tree-named f Spt s (trees Spt) (bytes Spt);
  }

  pub held-fit : Fit f s.state.namespace_id s.state.limit (held_by f s)
  unfolding held_by
  held-fit = record {
    sound = held-sound;
    proper = tree-proper f Spt s (trees Spt) (bytes Spt);
    few = let k = (tested f s w).few in omega (arith, tree-count f Spt s (trees Spt) (bytes Spt));
  }

  pub held-bears : Rooms f s → Bears f (held_by f s) s
  unfolding held_by
  held-bears k = record {
    count = tree-count f Spt s (trees Spt) (bytes Spt);
    bytes = λ o. rw (held_in f o s) (tree-bytes f o s (trees o) (bytes o) (tree-length f s k o));
    numbers = λ o. rw (held_in f o s) (tree-numbers f o s (trees o) (bytes o) (dir-length f s k o));
  }
