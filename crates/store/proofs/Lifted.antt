-- From lists to bytes: a store whose buffers bear sound and proper lists holds these lists and is well-formed, and the store made to hold
-- such lists bears them and keeps the rest. Assumes nothing.
use Prim.Native.Nat.{ℕ, ◌*◌, ◌≤◌}
use mathlib.Core.Path.{◌≡◌, refl, sym, ap, subst, ◌∙◌}
use mathlib.Core.Logic.{◌↔◌}
use mathlib.Core.Bool.{true, ◌&&◌}
use mathlib.Core.List.{List, map}
use native.Mathlib.Omega.{arith}
use native.Mathlib.Nat.{mul-le-mul_left}
use lib.ListN.{length, drop, length-append, length-drop, length-map}
use lib.Seq.{take_at, drop_at}
use lib.Dec.{leb}
use borrow.Author.Tests.{leb-true, le-leb}
use Rattle.laws.specs.Sorted.{◌∈◌, Ascends}
use Rattle.laws.proofs.Truth.{and-true}
use Rattle.layout.specs.Layout.{records, joined, tree_bytes, dir_numbers}
use Rattle.layout.proofs.LaidLaws.{length-tree, length-dir}
use Rattle.data_model.specs.Path.{Figures}
use Rattle.tree.specs.Stored.{Stored, contents, record_of, order_in, key_below}
use Rattle.tree.specs.Tree.{well_formed}
use Rattle.tree.specs.declared.stored.KeyOrder.{KeyOrder}
use Rattle.tree.specs.declared.stored.KeyOrder.TheVariants.{Spt, Tsp}
use Rattle.tree.proofs.AgreeLaws.{within-make}
use Rattle.store.specs.Store.{Lent, Store, record_most, tree_room, dir_room, tree_of, dir_of, held, well_formed_tree, same_entries, well_formed_store, Held, held_by, tree_holding, dir_holding, holding}
use Rattle.store.specs.Refusal.{roomy}
use Rattle.store.proofs.Meaning.{SoundHeld, sound-length, none-prunes, places-once}
use Rattle.store.proofs.Recorded.{Proper, below_in, contents-back, records-room, records-each, records-ascend, bears-records, bears-tree}

-- The buffers have the limit's room, as facts.
pub record Rooms (f : Figures) (s : Store) : Type 0 where
  pub spt : tree_room f s.state.limit ≤ length s.spt
  pub spt_dir : dir_room s.state.limit ≤ length s.spt_dir
  pub tsp : tree_room f s.state.limit ≤ length s.tsp
  pub tsp_dir : dir_room s.state.limit ≤ length s.tsp_dir

module _ (f : Figures) (s : Store) where
  pub rooms : roomy f s.state.limit s ≡ true → Rooms f s
  unfolding roomy
  rooms r =
      let n = tree_room f s.state.limit in
      let m = dir_room s.state.limit in
      let a = and-true (leb n (length s.spt)) (leb m (length s.spt_dir) && (leb n (length s.tsp) && leb m (length s.tsp_dir))) r in
      let b = and-true (leb m (length s.spt_dir)) (leb n (length s.tsp) && leb m (length s.tsp_dir)) a.1 in
      let c = and-true (leb n (length s.tsp)) (leb m (length s.tsp_dir)) b.1 in
      record { spt = leb-true n _ a.0; spt_dir = leb-true m _ b.0; tsp = leb-true n _ c.0; tsp_dir = leb-true m _ c.1 }

  rooms-make : Rooms f s → roomy f s.state.limit s ≡ true
  unfolding roomy
  rooms-make k = rw (
    le-leb (tree_room f s.state.limit) (length s.spt) k.spt,
    le-leb (dir_room s.state.limit) (length s.spt_dir) k.spt_dir,
    le-leb (tree_room f s.state.limit) (length s.tsp) k.tsp,
    le-leb (dir_room s.state.limit) (length s.tsp_dir) k.tsp_dir,
  )

-- A store whose buffers bear two lists.
unfoldable pub list_of : KeyOrder → Held → List Stored
list_of Spt h = h.spt
list_of Tsp h = h.tsp

pub held_in : (f : Figures) (o : KeyOrder) (s : Store) → list_of o (held_by f s) ≡ held f o s
unfolding held_by list_of
held_in f Spt s = refl
held_in f Tsp s = refl

pub record Bears (f : Figures) (h : Held) (s : Store) : Type 0 where
  pub count : s.state.count ≡ length h.spt
  pub bytes : (o : KeyOrder) → tree_of f o s ≡ tree_bytes (tree_room f s.state.limit) (map (record_of o) (list_of o h))
  pub numbers : (o : KeyOrder) → dir_of o s ≡ dir_numbers (dir_room s.state.limit) (map (record_of o) (list_of o h))

-- Lists that a store of this namespace and limit may hold.
pub record Fit (f : Figures) (namespace : List ℕ) (limit : ℕ) (h : Held) : Type 0 where
  pub sound : SoundHeld namespace h
  pub proper : (x : Stored) → x ∈ h.spt → Proper f x
  pub few : length h.spt ≤ limit

module _ (f : Figures) {namespace : List ℕ} {limit : ℕ} {h : Held} (v : Fit f namespace limit h) where
  pub fit-proper : (o : KeyOrder) (x : Stored) → x ∈ list_of o h → Proper f x
  unfolding list_of
  fit-proper Spt x m = v.proper x m
  fit-proper Tsp x m = v.proper x ((v.sound.both x).1 m)

  fit-named : (o : KeyOrder) (x : Stored) → x ∈ list_of o h → x.entry.namespace ≡ namespace
  unfolding list_of
  fit-named Spt x m = v.sound.named x m
  fit-named Tsp x m = v.sound.named x ((v.sound.both x).1 m)

  pub fit_length : (o : KeyOrder) → length (list_of o h) ≡ length h.spt
  unfolding list_of
  fit_length Spt = refl
  fit_length Tsp = sym (sound-length h v.sound)

  fit-less : (o : KeyOrder) → Ascends (below_in o) (list_of o h)
  unfolding list_of order_in
  fit-less Spt = v.sound.spt_ascends
  fit-less Tsp = v.sound.tsp_ascends

  pub fit-ascends : (o : KeyOrder) → Ascends key_below (map (record_of o) (list_of o h))
  fit-ascends o = records-ascend f o (list_of o h) (fit-proper o) (fit-less o)

  fit-many : (o : KeyOrder) → length (map (record_of o) (list_of o h)) ≡ length h.spt
  fit-many o = length-map (list_of o h) (record_of o) ∙ fit_length o

  fit-few : (o : KeyOrder) → 2 * length (map (record_of o) (list_of o h)) ≤ dir_room limit
  fit-few o = let l = v.few in omega (arith, fit-many o)

  fit-room : (o : KeyOrder) → length (joined (map (record_of o) (list_of o h))) ≤ tree_room f limit
  fit-room o =
      let r = records-room f o (list_of o h) (fit-proper o) in
      let l : length (list_of o h) ≤ limit = let l = v.few in omega (arith, fit_length o) in
      omega (arith, mul-le-mul_left (record_most f) l)

-- What bears fit lists holds them, and is well-formed.
module _ (f : Figures) (s : Store) (h : Held) (v : Fit f s.state.namespace_id s.state.limit h) (b : Bears f h s) where
  count-is : (o : KeyOrder) → s.state.count ≡ length (map (record_of o) (list_of o h))
  count-is o = b.count ∙ sym (fit-many f v o)

  pub borne : (o : KeyOrder) → records s.state.count (dir_of o s) (tree_of f o s) ≡ map (record_of o) (list_of o h)
  borne o =
      ap (λ (n : ℕ). records n (dir_of o s) (tree_of f o s)) (count-is o)
      ∙ bears-records f o (tree_room f s.state.limit) (dir_room s.state.limit) (map (record_of o) (list_of o h)) (dir_of o s) (tree_of f o s) (b.numbers o) (b.bytes o)
      (fit-few f v o) (fit-room f v o)

  pub bears-held : (o : KeyOrder) → held f o s ≡ list_of o h
  unfolding held
  bears-held o =
      ap (contents o f s.state.namespace_id) (borne o)
      ∙ contents-back f o s.state.namespace_id (list_of o h) (fit-proper f v o) (fit-named f v o)

  pub bears-by : held_by f s ≡ h
  unfolding held_by list_of
  bears-by = λ i. record { spt = bears-held Spt i; tsp = bears-held Tsp i }

  well-tree : (o : KeyOrder) → well_formed_tree f o s ≡ true
  unfolding well_formed_tree
  well-tree o =
      ap (λ (n : ℕ). well_formed o f n (dir_of o s) (tree_of f o s)) (count-is o)
      ∙ bears-tree f o (tree_room f s.state.limit) (dir_room s.state.limit) (map (record_of o) (list_of o h)) (dir_of o s) (tree_of f o s) (b.numbers o) (b.bytes o)
      (fit-few f v o) (fit-room f v o)
      (records-each f o (list_of o h) (fit-proper f v o)) (fit-ascends f v o)

  pub bears-well : well_formed_store f s ≡ true
  unfolding well_formed_store list_of
  bears-well =
      let hs : held f Spt s ≡ h.spt = bears-held Spt in
      let ht : held f Tsp s ≡ h.tsp = bears-held Tsp in
      let c : leb s.state.count s.state.limit ≡ true = le-leb s.state.count s.state.limit (omega (arith, b.count, v.few)) in
      let e : same_entries h.spt h.tsp ≡ true = same_entries_lem h.spt h.tsp v.sound.both in
      rw (hs, ht, c, well-tree Spt, well-tree Tsp, e, places-once h.spt v.sound.spt_ascends v.sound.apart v.sound.named, none-prunes h.spt v.sound.apart)
    where
      same_entries_lem : (l m : List Stored) → ((x : Stored) → x ∈ l ↔ x ∈ m) → same_entries l m ≡ true
      same_entries_lem l m both = unfold same_entries in cc (within-make l m (λ x. (both x).0), within-make m l (λ x. (both x).1))

pub lent_again : {m n : ℕ} {a b c : List ℕ} → m ≡ n → Lent n a b → Lent m b c → Lent n a c
lent_again {m} {n} {a} {b} {c} e p q = let r = subst (λ (i : ℕ). Lent i b c) e q in record { long = r.long ∙ p.long; beyond = r.beyond ∙ p.beyond }

-- The store that is made to hold fit lists bears them; its buffers are as long as before, and as before beyond the limit's room.
module _ (f : Figures) (s : Store) (h : Held) (v : Fit f s.state.namespace_id s.state.limit h) where
  holding-bytes : (o : KeyOrder) → tree_of f o (holding f h s) ≡ tree_bytes (tree_room f s.state.limit) (map (record_of o) (list_of o h))
  unfolding tree_of holding tree_holding list_of
  holding-bytes Spt = take_at _ _ (tree_room f s.state.limit) (length-tree (tree_room f s.state.limit) _ (fit-room f v Spt))
  holding-bytes Tsp = take_at _ _ (tree_room f s.state.limit) (length-tree (tree_room f s.state.limit) _ (fit-room f v Tsp))

  holding-numbers : (o : KeyOrder) → dir_of o (holding f h s) ≡ dir_numbers (dir_room s.state.limit) (map (record_of o) (list_of o h))
  unfolding dir_of holding dir_holding list_of
  holding-numbers Spt = take_at _ _ (dir_room s.state.limit) (length-dir (dir_room s.state.limit) _ (fit-few f v Spt))
  holding-numbers Tsp = take_at _ _ (dir_room s.state.limit) (length-dir (dir_room s.state.limit) _ (fit-few f v Tsp))

  pub holding-bears : Bears f h (holding f h s)
  unfolding holding
  holding-bears = record { count = refl; bytes = holding-bytes; numbers = holding-numbers }

  pub tree_lent : (o : KeyOrder) (old : List ℕ) → tree_room f s.state.limit ≤ length old
      → Lent (tree_room f s.state.limit) old (tree_holding f o s.state.limit (list_of o h) old)
  unfolding tree_holding
  tree_lent o old l =
      let n = tree_room f s.state.limit in
      let t = length-tree n (map (record_of o) (list_of o h)) (fit-room f v o) in
      record { long = simp (length-append, length-drop, t) (omega arith); beyond = drop_at (tree_bytes n (map (record_of o) (list_of o h))) (drop n old) n t }

  pub dir-lent : (o : KeyOrder) (old : List ℕ) → dir_room s.state.limit ≤ length old
      → Lent (dir_room s.state.limit) old (dir_holding o s.state.limit (list_of o h) old)
  unfolding dir_holding
  dir-lent o old l =
      let n = dir_room s.state.limit in
      let t = length-dir n (map (record_of o) (list_of o h)) (fit-few f v o) in
      record { long = simp (length-append, length-drop, t) (omega arith); beyond = drop_at (dir_numbers n (map (record_of o) (list_of o h))) (drop n old) n t }

  pub holding-rooms : Rooms f s → Rooms f (holding f h s)
  unfolding holding list_of
  holding-rooms k = record {
    spt = rw (tree_lent Spt s.spt k.spt).long k.spt;
    spt_dir = rw (dir-lent Spt s.spt_dir k.spt_dir).long k.spt_dir;
    tsp = rw (tree_lent Tsp s.tsp k.tsp).long k.tsp;
    tsp_dir = rw (dir-lent Tsp s.tsp_dir k.tsp_dir).long k.tsp_dir;
  }

  pub holding-roomy : roomy f s.state.limit s ≡ true → roomy f s.state.limit (holding f h s) ≡ true
  unfolding holding
  holding-roomy r = rooms-make f (holding f h s) (holding-rooms (rooms f s r))
