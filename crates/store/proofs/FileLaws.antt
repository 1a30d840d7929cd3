-- What an entry that may be filed brings with it for each tree, what the store is when it is filed in both, and what the public call
-- leaves. Assumes nothing.
use mathlib.Core.Path.{◌≡◌, refl, sym, ap, subst, ◌∙◌}
use mathlib.Core.List.{List, ◌++◌}
use mathlib.Core.Bool.{Bool, false, ◌&&◌}
use Prim.Native.Nat.{ℕ, ◌*◌, ◌≤◌, ◌<◌}
use native.Mathlib.Omega.{arith}
use lib.ListN.{length, take, drop}
use lib.Seq.{length-take-le}
use lib.Dec.{leb, eqb}
use borrow.Author.Tests.{leb-true, leb-false, eqb-true}
use Rattle.laws.specs.Lists.{put}
use Rattle.laws.specs.Sorted.{any, keep}
use Rattle.laws.proofs.Truth.{split, clash, refute}
use Rattle.laws.proofs.Sorted.{any-view, any-make}
use Rattle.layout.specs.Marks.{count_marks, marked_pairs}
use Rattle.layout.proofs.MarkLaws.{count_most}
use Rattle.data_model.specs.Said.{says}
use Rattle.data_model.specs.Path.{field}
use Rattle.data_model.specs.Entry.{Entry, entry_of}
use Rattle.data_model.specs.declared.entry_origin.EntryOrigin.{EntryOrigin}
use Rattle.data_model.specs.declared.entry.Entry.{Entry as EntryValue}
use Rattle.key_laws.specs.Bytes.{Bytes}
use Rattle.key_laws.proofs.Fits.{bytes_take}
use Rattle.tree.specs.Stored.{Stored, Lawful, stored_of}
use Rattle.tree.specs.Tree.{Ordered}
use Rattle.tree.specs.Matching.{outdates, removes, repeats}
use Rattle.tree.specs.declared.stored.KeyOrder.{KeyOrder}
use Rattle.tree.specs.declared.stored.KeyOrder.TheVariants.{Spt, Tsp}
use Rattle.tree.specs.declared.stored.LengthyAuthorisedEntry.{LengthyAuthorisedEntry}
use Rattle.tally.specs.Tally.{tally_room, tally_holding}
use Rattle.store.specs.Store.{Store, store_of, limit_most, tree_room, dir_room, tree_of, dir_of, held, held_by, holding, Tallied, tallied_of}
use Rattle.store.specs.Ingest.{succeeds, IngestSaid, stays, filing, filed_in, filed, Decision, refuse, obsolete, already, take_it, decided_of, decided, ingest_refusal, judged, NewTo, MayFile, store_filed, tallied_filed, ingest_outcome, pruned_pairs, carried, ingested}
use Rattle.store.specs.Forget.{without}
use Rattle.store.specs.Change.{in_tree, Marked, Changed, FilesIn}
use Rattle.store.specs.declared.state.State.{State}
use Rattle.store.specs.declared.ingest.Ingestion.{Ingestion}
use Rattle.tree.proofs.FormedContents.{formed-many}
use Rattle.store.proofs.DecideLaws.{marks-front}
use Rattle.store.proofs.Meaning.{SoundHeld, sound-without, sound-length}
use Rattle.store.proofs.CheckLaws.{passed}
use Rattle.store.proofs.WellStore.{held-fit}
use Rattle.store.proofs.Lifted.{Fit}
use Rattle.store.proofs.FitLaws.{fit-filed}
use Rattle.store.proofs.TalliedLaws.{TalliedPassed, passed-alone, passed-fit, retally-asks, retallied}
use Rattle.store.proofs.HoldingLaws.{tree-holds, dir-holds}
use Rattle.store.proofs.IngestLaws.{Ready, ready, ready-first, ready-tallied, ready-formed, first_absent, first-there, spt_in, spt_dir_in, in_spt}

-- The time-first tree and its directory in their room.
abbrev pub tsp_in : Store → List ℕ
tsp_in s = take (tree_room field s.state.limit) s.tsp

abbrev pub tsp_dir_in : Store → List ℕ
tsp_dir_in s = take (dir_room s.state.limit) s.tsp_dir

-- What is filed, as a value.
abbrev pub filed_value : EntryValue → (token : List ℕ) → EntryOrigin → LengthyAuthorisedEntry
filed_value e token origin = record { entry = e; token = token; available = 0; origin = origin }

-- An entry that may be filed.
module _ (s : Store) (prune : List ℕ) (e : EntryValue) (m : MayFile field s prune e) where
  pub may-ready : Ready s prune e
  may-ready =
      let p = passed s (leb (dir_room s.state.limit) (length prune)) m.tested in
      record { passes = p.0; pairs = leb-true (dir_room s.state.limit) (length prune) p.1; legal_path = m.lawful; namespace = m.named }

  tree-room : (o : KeyOrder) → length (tree_of field o s) ≡ tree_room field s.state.limit
  unfolding tree_of
  tree-room Spt = length-take-le (tree_room field s.state.limit) s.spt may-ready.passes.room.spt
  tree-room Tsp = length-take-le (tree_room field s.state.limit) s.tsp may-ready.passes.room.tsp

  dir-room : (o : KeyOrder) → length (dir_of o s) ≡ dir_room s.state.limit
  unfolding dir_of
  dir-room Spt = length-take-le (dir_room s.state.limit) s.spt_dir may-ready.passes.room.spt_dir
  dir-room Tsp = length-take-le (dir_room s.state.limit) s.tsp_dir may-ready.passes.room.tsp_dir

  -- The marks of what it removes: one for each entry, so their pairs fit the prune list.
  module _ (removed : List ℕ) (k : Marked (removes (entry_of e)) (held field Spt s) removed) (long : limit_most ≤ length removed) where
    pub may-many : length (take s.state.count removed) ≡ s.state.count
    may-many =
        let f = may-ready.passes.few in
        let l = may-ready.passes.most in
        length-take-le s.state.count removed (omega arith)

    pub may-prune : (2 * length (take s.state.count removed) ≤ length (spt_dir_in s)) × (2 * count_marks (take s.state.count removed) ≤ length prune)
    unfolding dir_of
    may-prune =
        let f = may-ready.passes.few in
        let p = may-ready.pairs in
        (omega (arith, may-many, dir-room Spt), omega (arith, may-many, count_most (take s.state.count removed)))

    pub pruned-done : (out : List ℕ) → out ≡ put (marked_pairs (take s.state.count removed) (spt_dir_in s)) prune → out ≡ put (pruned_pairs field s (entry_of e)) prune
    unfolding pruned_pairs held tree_of dir_of
    pruned-done out q =
        let n = formed-many (ready-formed s prune e may-ready) s.state.namespace_id in
        q ∙ ap (λ (ms : List ℕ). put (marked_pairs ms (spt_dir_in s)) prune) (marks-front (removes (entry_of e)) (in_spt s) s.state.count n removed removed k)

    -- What `file_marked` asks of them.
    pub marked-spt : Marked (removes (entry_of e)) (in_tree Spt e.namespace_id s.state.count (spt_dir_in s) (spt_in s)) removed
    unfolding held tree_of dir_of
    marked-spt = subst (λ (ns : List ℕ). Marked (removes (entry_of e)) (in_tree Spt ns s.state.count (spt_dir_in s) (spt_in s)) removed) (sym may-ready.namespace) k

  -- In bytes both trees hold the same: it is new to either, and as many stay.
  module _ (spt-bytes : Bytes s.spt) (tsp-bytes : Bytes s.tsp) where
    room-bytes : (o : KeyOrder) → Bytes (tree_of field o s)
    unfolding tree_of
    room-bytes Spt = bytes_take (tree_room field s.state.limit) s.spt spt-bytes
    room-bytes Tsp = bytes_take (tree_room field s.state.limit) s.tsp tsp-bytes

    sound : SoundHeld s.state.namespace_id (held_by field s)
    sound = (held-fit field s may-ready.passes.well room-bytes).sound

    none-in-tsp : (p : Stored → Bool) → any p (held field Spt s) ≡ false → any p (held field Tsp s) ≡ false
    unfolding held_by
    none-in-tsp p n = refute (any p (held field Tsp s)) λ q. let k = any-view p (held field Tsp s) q in clash (any-make p (held field Spt s) ((sound.both k.0).1 k.1) k.2) n

    new_in : (o : KeyOrder) → NewTo (held field o s) (entry_of e)
    new_in Spt = m.new
    new_in Tsp = record { current = none-in-tsp (outdates (entry_of e)) m.new.current; absent = none-in-tsp (repeats (entry_of e)) m.new.absent }

    left_in : (o : KeyOrder) → length (keep (stays (entry_of e)) (held field o s)) < s.state.limit
    unfolding held_by without
    left_in Spt = m.room
    left_in Tsp =
        let r = m.room in
        let q : length (keep (stays (entry_of e)) (held field Spt s)) ≡ length (keep (stays (entry_of e)) (held field Tsp s))
        = sound-length (without (removes (entry_of e)) (held_by field s)) (sound-without (removes (entry_of e)) (held_by field s) sound) in
        omega arith

    files-in : (o : KeyOrder) (token : List ℕ) (origin : EntryOrigin) → FilesIn o s.state.namespace_id s.state.count (dir_of o s) (tree_of field o s) (filed_value e token origin)
    unfolding held
    files-in o token origin =
        let v = may-ready in
        let f = v.passes.few in
        let l = v.passes.most in
        let n = left_in o in
        let t = tree-room o in
        let d = dir-room o in
        record {
          ordered = v.passes.ordered o;
          whole = v.passes.whole o;
          few = omega arith;
          path = v.legal_path;
          named = v.namespace;
          new = new_in o;
          bytes = omega arith;
          numbers = omega arith;
        }

    -- What `file_in` asks of each tree.
    pub files-spt : (token : List ℕ) (origin : EntryOrigin) → FilesIn Spt e.namespace_id s.state.count (spt_dir_in s) (spt_in s) (filed_value e token origin)
    unfolding dir_of tree_of
    files-spt token origin = subst (λ (ns : List ℕ). FilesIn Spt ns s.state.count (spt_dir_in s) (spt_in s) (filed_value e token origin)) (sym may-ready.namespace) (files-in Spt token origin)

    pub files-tsp : (token : List ℕ) (origin : EntryOrigin) → FilesIn Tsp e.namespace_id s.state.count (tsp_dir_in s) (tsp_in s) (filed_value e token origin)
    unfolding dir_of tree_of
    files-tsp token origin = subst (λ (ns : List ℕ). FilesIn Tsp ns s.state.count (tsp_dir_in s) (tsp_in s) (filed_value e token origin)) (sym may-ready.namespace) (files-in Tsp token origin)

  -- What is left: the front parts rewritten, the rest kept.
  module _ (token : List ℕ) (origin : EntryOrigin) where
    pub filed-both : (spt spt_dir tsp tsp_dir : List ℕ) (i j : ℕ)
        → Changed Spt (filed_in Spt (stored_of (filed_value e token origin)) (in_tree Spt e.namespace_id s.state.count (spt_dir_in s) (spt_in s))) (spt_dir_in s) (spt_in s) spt_dir spt i
        → Changed Tsp (filed_in Tsp (stored_of (filed_value e token origin)) (in_tree Tsp e.namespace_id s.state.count (tsp_dir_in s) (tsp_in s))) (tsp_dir_in s) (tsp_in s) tsp_dir tsp j
        → store_of (store_filed field s (stored_of (filed_value e token origin))).state (spt ++ drop (tree_room field s.state.limit) s.spt) (spt_dir ++ drop (dir_room s.state.limit) s.spt_dir)
        (tsp ++ drop (tree_room field s.state.limit) s.tsp) (tsp_dir ++ drop (dir_room s.state.limit) s.tsp_dir) ≡ store_filed field s (stored_of (filed_value e token origin))
    unfolding holding filed held_by held tree_of dir_of stored_of
    filed-both spt spt_dir tsp tsp_dir i j p' q' =
        let r = may-ready.passes.room in
        let p = subst (λ (ns : List ℕ). Changed Spt (filed_in Spt (stored_of (filed_value e token origin)) (in_tree Spt ns s.state.count (spt_dir_in s) (spt_in s))) (spt_dir_in s) (spt_in s) spt_dir spt i) may-ready.namespace p' in
        let q = subst (λ (ns : List ℕ). Changed Tsp (filed_in Tsp (stored_of (filed_value e token origin)) (in_tree Tsp ns s.state.count (tsp_dir_in s) (tsp_in s))) (tsp_dir_in s) (tsp_in s) tsp_dir tsp j) may-ready.namespace q' in
        let a = tree-holds Spt s.state.limit (filed_in Spt (stored_of (filed_value e token origin)) (held field Spt s)) s.spt spt r.spt p.bytes in
        let b = dir-holds Spt s.state.limit (filed_in Spt (stored_of (filed_value e token origin)) (held field Spt s)) s.spt_dir spt_dir r.spt_dir p.numbers in
        let c = tree-holds Tsp s.state.limit (filed_in Tsp (stored_of (filed_value e token origin)) (held field Tsp s)) s.tsp tsp r.tsp q.bytes in
        let d = dir-holds Tsp s.state.limit (filed_in Tsp (stored_of (filed_value e token origin)) (held field Tsp s)) s.tsp_dir tsp_dir r.tsp_dir q.numbers in
        λ k. store_of (store_filed field s (stored_of (filed_value e token origin))).state (a k) (b k) (c k) (d k)

-- Decisions differ.
module _ {G : Type 0} where
  pub refuse-taken : {n : ℕ} → refuse n ≡ take_it → G
  refuse-taken e = absurd (let z : ◌≡◌ {A = ℕ} 0 1 = cc in omega arith)

  pub obsolete-taken : {x : Stored} → obsolete x ≡ take_it → G
  obsolete-taken e = absurd (let z : ◌≡◌ {A = ℕ} 0 1 = cc in omega arith)

  pub already-taken : already ≡ take_it → G
  already-taken e = absurd (let z : ◌≡◌ {A = ℕ} 0 1 = cc in omega arith)

-- What is known of an entry that is taken.
module _ (limit : ℕ) (l : List Stored) (e : Entry) (prevent : Bool) (d : decided limit l e prevent ≡ take_it) where
  taken-new : NewTo l e
  unfolding decided decided_of
  taken-new =
      let n = refute (any (outdates e) l) λ q. obsolete-taken (rw (first-there (outdates e) l q).1 at d) in
      record { current = n; absent = refute (any (repeats e) l) λ q. already-taken (rw (first_absent (outdates e) l n, q) at d) }

  taken-room : leb limit (length (keep (stays e) l)) ≡ false
  unfolding decided decided_of
  taken-room =
      let n = first_absent (outdates e) l taken-new.current in
      let a = taken-new.absent in
      refute (leb limit (length (keep (stays e) l))) λ q. split (prevent && any (removes e) l)
      (λ r. refuse-taken (rw (n, a, r) at d))
      (λ r. refuse-taken (rw (n, a, r, q) at d))

-- The public call, by its answer: filed if it is a success, and nothing changed if not.
module _ (w : Tallied) (prune : List ℕ) (i : Ingestion) (r : IngestSaid) (er : r ≡ (ingested field w prune i).answer) where
  abbrev s : Store
  s = w.store

  judged-may : judged field w prune i.entry i.prevent_pruning ≡ take_it → MayFile field s prune i.entry
  unfolding judged
  judged-may j = split (eqb (ingest_refusal field w prune i.entry) 0)
      (λ q.
      let d : decided s.state.limit (held field Spt s) (entry_of i.entry) i.prevent_pruning ≡ take_it = rw q at j in
      record {
        tested = passed-alone w (leb (dir_room s.state.limit) (length prune)) (ready-first w prune i.entry (eqb-true (ingest_refusal field w prune i.entry) 0 q));
        lawful = (ready w prune i.entry (eqb-true (ingest_refusal field w prune i.entry) 0 q)).legal_path;
        named = (ready w prune i.entry (eqb-true (ingest_refusal field w prune i.entry) 0 q)).namespace;
        new = taken-new s.state.limit (held field Spt s) (entry_of i.entry) i.prevent_pruning d;
        room = leb-false s.state.limit (length (keep (stays (entry_of i.entry)) (held field Spt s))) (taken-room s.state.limit (held field Spt s) (entry_of i.entry) i.prevent_pruning d);
      })
      (λ q. refuse-taken (rw q at j))

  success-taken : (n : ℕ) → r.verdict ≡ says (succeeds n) → judged field w prune i.entry i.prevent_pruning ≡ take_it
  unfolding ingested
  success-taken n q = go (judged field w prune i.entry i.prevent_pruning) (ap (λ (a : IngestSaid). a.verdict) (sym er) ∙ q)
    where
      go : (d : Decision) → (carried field w prune (filing i) d).answer.verdict ≡ says (succeeds n) → d ≡ take_it
      go (refuse k) h = unfold carried in absurd (let z : ◌≡◌ {A = ℕ} 0 1 = cc in omega arith)
      go (obsolete x) h = unfold carried in absurd (let z : ◌≡◌ {A = ℕ} 0 1 = cc in omega arith)
      go already h = unfold carried in absurd (let z : ◌≡◌ {A = ℕ} 0 1 = cc in omega arith)
      go take_it h = refl

  pub success-may : (n : ℕ) → r.verdict ≡ says (succeeds n) → MayFile field s prune i.entry
  success-may n q = judged-may (success-taken n q)

  success-tallied : (n : ℕ) → r.verdict ≡ says (succeeds n) → TalliedPassed w
  unfolding judged
  success-tallied n q = let j = success-taken n q in split (eqb (ingest_refusal field w prune i.entry) 0)
      (λ t. (ready-tallied w prune i.entry (eqb-true (ingest_refusal field w prune i.entry) 0 t)).0)
      (λ t. refuse-taken (rw t at j))

  -- The state of the answer is that of the store in which it is filed.
  success-state : (n : ℕ) → r.verdict ≡ says (succeeds n) → r.state ≡ (store_filed field s (filing i)).state
  unfolding ingested carried
  success-state n q = ap (λ (a : IngestSaid). a.state) (er ∙ ap (λ (d : Decision). (carried field w prune (filing i) d).answer) (success-taken n q))

  -- What it is filed in may be held, where it is lawful and the buffers are bytes.
  success-fit : (n : ℕ) → r.verdict ≡ says (succeeds n) → Lawful field (filing i) → Bytes s.spt → Bytes s.tsp
      → Fit field s.state.namespace_id s.state.limit (filed (filing i) (held_by field s))
  unfolding held_by entry_of
  success-fit n q l b c =
      let m = success-may n q in
      fit-filed field (passed-fit s (success-tallied n q).passes b c) (filing i) (record { lawful = l; available = omega arith }) m.named m.new m.room

  -- The tally of what is left with it: what writing it asks, and that it is then the definition's.
  module _ (n : ℕ) (q : r.verdict ≡ says (succeeds n)) (l : Lawful field (filing i)) (spt-bytes : Bytes s.spt) (tsp-bytes : Bytes s.tsp) (a b c d : List ℕ)
      (g : store_of (store_filed field s (filing i)).state a b c d ≡ store_filed field s (filing i)) where
    filed-left : store_of r.state a b c d ≡ store_filed field s (filing i)
    filed-left = ap (λ (t : State). store_of t a b c d) (success-state n q) ∙ g

    pub filed-asks : Ordered Spt r.state.count (take (dir_room r.state.limit) b) (take (tree_room field r.state.limit) a) × (r.state.count ≤ r.state.limit) × (r.state.limit ≤ limit_most)
        × (tree_room field r.state.limit ≤ length a) × (dir_room r.state.limit ≤ length b) × (tally_room r.state.limit ≤ length w.tally)
    filed-asks = retally-asks w (success-tallied n q) (filed (filing i) (held_by field s)) (success-fit n q l spt-bytes tsp-bytes) r.state a b c d filed-left

    pub filed-tallied : (t : List ℕ)
        → ((ns : List ℕ) → t ≡ tally_holding r.state.limit (in_tree Spt ns r.state.count (take (dir_room r.state.limit) b) (take (tree_room field r.state.limit) a)) w.tally)
        → tallied_of r.state a b c d t ≡ tallied_filed field w (filing i)
    filed-tallied = retallied w (success-tallied n q) (filed (filing i) (held_by field s)) (success-fit n q l spt-bytes tsp-bytes) r.state a b c d filed-left

  pub outcome-filed : (n : ℕ) → r.verdict ≡ says (succeeds n) → (spt spt_dir tsp tsp_dir tally out : List ℕ)
      → tallied_of r.state spt spt_dir tsp tsp_dir tally ≡ tallied_filed field w (filing i) → out ≡ put (pruned_pairs field s (entry_of i.entry)) prune
      → ingest_outcome r spt spt_dir tsp tsp_dir tally out ≡ ingested field w prune i
  unfolding ingested carried
  outcome-filed n q spt spt_dir tsp tsp_dir tally out es eo =
      let j = success-taken n q in
      let a : r ≡ (carried field w prune (filing i) take_it).answer = er ∙ ap (λ (d : Decision). (carried field w prune (filing i) d).answer) j in
      (λ k. record { answer = a k; left = es k; prune = eo k })
      ∙ sym (ap (carried field w prune (filing i)) j)

  pub outcome-same : ((n : ℕ) → r.verdict ≡ says (succeeds n) → ⊥) → ingest_outcome r s.spt s.spt_dir s.tsp s.tsp_dir w.tally prune ≡ ingested field w prune i
  unfolding ingested
  outcome-same h =
      ap (λ (x : IngestSaid). ingest_outcome x s.spt s.spt_dir s.tsp s.tsp_dir w.tally prune) er
      ∙ go (judged field w prune i.entry i.prevent_pruning) λ n q. h n (ap (λ (a : IngestSaid). a.verdict) er ∙ q)
    where
      go : (d : Decision) → ((n : ℕ) → (carried field w prune (filing i) d).answer.verdict ≡ says (succeeds n) → ⊥)
          → ingest_outcome (carried field w prune (filing i) d).answer s.spt s.spt_dir s.tsp s.tsp_dir w.tally prune ≡ carried field w prune (filing i) d
      go (refuse k) g = unfold carried in refl
      go (obsolete x) g = unfold carried in refl
      go already g = unfold carried in refl
      go take_it g = unfold carried in absurd (g (length (keep (removes (entry_of i.entry)) (held field Spt s))) refl)
