-- What is in the pairs afterwards, in 01's words: a success says how many pairs were pruned and writes them over those lent, no other
-- outcome writes any; with a right limit, pairs fewer than it are refused with 2, and never where pairs and buffers have room. Assumes nothing.
use Prim.Native.Nat.{ℕ, ◌≤◌, ◌<◌}
use mathlib.Core.Path.{◌≡◌, refl, sym, ap, ◌∙◌}
use mathlib.Core.List.{List}
use mathlib.Core.Bool.{Bool, true, false, cond, ◌&&◌}
use mathlib.Core.Option.{Option, some, none}
use native.Mathlib.Omega.{arith}
use lib.ListN.{length}
use lib.Dec.{leb, eqb}
use borrow.Author.Tests.{le-leb, lt-leb}
use Rattle.laws.specs.First.{first_that}
use Rattle.laws.specs.Lists.{put}
use Rattle.laws.specs.Prefix.{same_number, same_list}
use Rattle.laws.specs.Sorted.{any, keep}
use Rattle.laws.proofs.Truth.{split}
use Rattle.data_model.specs.Said.{refuses, says, number_of}
use Rattle.data_model.specs.Path.{field, legal}
use Rattle.data_model.specs.Entry.{entry_of}
use Rattle.data_model.specs.Refusal.{short_buffer, illegal_path, bad_limit, not_well_formed, other_namespace, pruning_prevented, full, wrong_tally}
use Rattle.tree.specs.Stored.{Stored}
use Rattle.tree.specs.Matching.{outdates, removes, repeats}
use Rattle.tree.specs.declared.stored.KeyOrder.TheVariants.{Spt}
use Rattle.tally.specs.Tally.{tally_right}
use Rattle.store.specs.Store.{dir_room, held, well_formed_store, Tallied}
use Rattle.store.specs.Refusal.{unless, ◌or_else◌, limit_ok, roomy, store_refusal, tally_fits, tallied_refusal}
use Rattle.store.specs.Ingest.{succeeds, Decision, refuse, obsolete, already, take_it, stays, decided_of, decided, ingest_refusal, judged, MayFile, pruned_pairs, plain_answer, filing, carried, ingested}
use Rattle.store.specs.declared.ingest.Ingestion.{Ingestion}
use Rattle.store.proofs.FileLaws.{success-may}
use Rattle.pairs.specs.Pairs.{pairs_of, numbers_of, pairs_ingested}
use Rattle.pairs.specs.declared.Pair.{Pair}
use Rattle.pairs.proofs.PairLaws.{pairs-again, length-numbers, pairs-put, length_pairs}
use Rattle.pairs.proofs.OutcomeLaws.{removed_by, pruned-length}

abbrev refusal_in : Decision → ℕ
refusal_in (refuse n) = n
refusal_in (obsolete x) = 0
refusal_in already = 0
refusal_in take_it = 0

carried-number : (w : Tallied) (prune : List ℕ) (x : Stored) (d : Decision) → number_of (carried field w prune x d).answer.verdict ≡ refusal_in d
unfolding number_of carried
carried-number w prune x (refuse n) = refl
carried-number w prune x (obsolete y) = refl
carried-number w prune x already = refl
carried-number w prune x take_it = refl

-- No decision is 2, and no test is left that gives 2.
decision-not-2 : (o : Option Stored) (a b c : Bool) → refusal_in (decided_of o (cond a already (cond b (refuse pruning_prevented) (cond c (refuse full) take_it)))) ≡ short_buffer → ⊥
unfolding decided_of
decision-not-2 (some x) a b c h = let z : ◌≡◌ {A = ℕ} 0 2 = h in omega arith
decision-not-2 none true b c h = let z : ◌≡◌ {A = ℕ} 0 2 = h in omega arith
decision-not-2 none false true c h = let z : ◌≡◌ {A = ℕ} 7 2 = h in omega arith
decision-not-2 none false false true h = let z : ◌≡◌ {A = ℕ} 8 2 = h in omega arith
decision-not-2 none false false false h = let z : ◌≡◌ {A = ℕ} 0 2 = h in omega arith

-- The refusals of an ingestion by its tests.
abbrev first_of : (limit roomy well right path name : Bool) → ℕ
first_of limit roomy well right path name =
    ((unless limit bad_limit or_else unless roomy short_buffer or_else unless well not_well_formed) or_else unless right wrong_tally) or_else unless path illegal_path or_else unless name other_namespace

tests-not-2 : (limit well right path name : Bool) → first_of limit true well right path name ≡ short_buffer → ⊥
unfolding unless ◌or_else◌
tests-not-2 false well right path name h = let z : ◌≡◌ {A = ℕ} 1 2 = h in omega arith
tests-not-2 true false right path name h = let z : ◌≡◌ {A = ℕ} 3 2 = h in omega arith
tests-not-2 true true false path name h = let z : ◌≡◌ {A = ℕ} 10 2 = h in omega arith
tests-not-2 true true true false name h = let z : ◌≡◌ {A = ℕ} 4 2 = h in omega arith
tests-not-2 true true true true false h = let z : ◌≡◌ {A = ℕ} 6 2 = h in omega arith
tests-not-2 true true true true true h = let z : ◌≡◌ {A = ℕ} 0 2 = h in omega arith

module _ (w : Tallied) (ps : List Pair) (i : Ingestion) where
  -- The pairs of what the entry removes, as they stand in the subspace-first tree, in key order.
  abbrev pruned : List Pair
  pruned = pairs_of (pruned_pairs field w.store (entry_of i.entry))

  pub success-writes : (n : ℕ) → (pairs_ingested field w ps i).answer.verdict ≡ says (succeeds n)
      → ((pairs_ingested field w ps i).pairs ≡ put pruned ps) × (length pruned ≡ n)
  unfolding pairs_ingested ingested
  success-writes n q = go (judged field w (numbers_of ps) i.entry i.prevent_pruning) q (success-may w (numbers_of ps) i (ingested field w (numbers_of ps) i).answer refl n q)
    where
      go : (d : Decision) → (carried field w (numbers_of ps) (filing i) d).answer.verdict ≡ says (succeeds n) → MayFile field w.store (numbers_of ps) i.entry
          → (pairs_of (carried field w (numbers_of ps) (filing i) d).prune ≡ put pruned ps) × (length pruned ≡ n)
      go (refuse k) h may = unfold carried in absurd (let z : ◌≡◌ {A = ℕ} 0 1 = cc in omega arith)
      go (obsolete x) h may = unfold carried in absurd (let z : ◌≡◌ {A = ℕ} 0 1 = cc in omega arith)
      go already h may = unfold carried in absurd (let z : ◌≡◌ {A = ℕ} 0 1 = cc in omega arith)
      go take_it h may = unfold carried in (
        pairs-put (removed_by w.store i.entry) (pruned_pairs field w.store (entry_of i.entry)) ps (pruned-length w.store (numbers_of ps) i.entry may),
        length_pairs (removed_by w.store i.entry) (pruned_pairs field w.store (entry_of i.entry)) (pruned-length w.store (numbers_of ps) i.entry may) ∙ cc,
      )

  pub others-write-none : ((n : ℕ) → (pairs_ingested field w ps i).answer.verdict ≡ says (succeeds n) → ⊥) → (pairs_ingested field w ps i).pairs ≡ ps
  unfolding pairs_ingested ingested
  others-write-none h = go (judged field w (numbers_of ps) i.entry i.prevent_pruning) h
    where
      go : (d : Decision) → ((n : ℕ) → (carried field w (numbers_of ps) (filing i) d).answer.verdict ≡ says (succeeds n) → ⊥) → pairs_of (carried field w (numbers_of ps) (filing i) d).prune ≡ ps
      go (refuse k) g = unfold carried in pairs-again ps
      go (obsolete x) g = unfold carried in pairs-again ps
      go already g = unfold carried in pairs-again ps
      go take_it g = unfold carried in absurd (g (removed_by w.store i.entry) refl)

  -- Answer, store and tally are the core's, handed the pairs' numbers.
  pub same_answer : (pairs_ingested field w ps i).answer ≡ (ingested field w (numbers_of ps) i).answer
  unfolding pairs_ingested
  same_answer = refl

  pub same_left : (pairs_ingested field w ps i).left ≡ (ingested field w (numbers_of ps) i).left
  unfolding pairs_ingested
  same_left = refl

  -- 2 comes behind 1: the limit is one of 1 to 1,024.
  pub short-refused : limit_ok w.store.state.limit ≡ true → length ps < w.store.state.limit → (pairs_ingested field w ps i).answer ≡ plain_answer (refuses short_buffer) w.store.state
  unfolding pairs_ingested ingested judged carried ingest_refusal tallied_refusal store_refusal unless ◌or_else◌
  short-refused l h =
      let z = lt-leb (dir_room w.store.state.limit) (length (numbers_of ps)) (omega (arith, length-numbers ps)) in
      split (roomy field w.store.state.limit w.store) (λ q. split (tally_fits w) (λ f. rw (l, z, q, f)) (λ f. rw (l, z, q, f))) (λ q. rw (l, z, q))

  module _ (room : roomy field w.store.state.limit w.store ≡ true) (fits : tally_fits w ≡ true) (h : w.store.state.limit ≤ length ps) where
    refusal-not-2 : ingest_refusal field w (numbers_of ps) i.entry ≡ short_buffer → ⊥
    unfolding ingest_refusal tallied_refusal store_refusal
    refusal-not-2 z =
        let l = le-leb (dir_room w.store.state.limit) (length (numbers_of ps)) (omega (arith, length-numbers ps)) in
        let limit = limit_ok w.store.state.limit in
        let well = well_formed_store field w.store in
        let right = tally_right w.store.state.limit (held field Spt w.store) w.tally in
        let path = legal field i.entry.path in
        let name = same_list same_number i.entry.namespace_id w.store.state.namespace_id in
        tests-not-2 limit well right path name ((λ k. first_of limit (sym room k && (sym fits k && sym l k)) well right path name) ∙ z)

    judged-not-2 : refusal_in (judged field w (numbers_of ps) i.entry i.prevent_pruning) ≡ short_buffer → ⊥
    unfolding judged decided
    judged-not-2 z =
        let r = ingest_refusal field w (numbers_of ps) i.entry in
        let d = decided w.store.state.limit (held field Spt w.store) (entry_of i.entry) i.prevent_pruning in
        split (eqb r 0)
        (λ t. decision-not-2 (first_that (outdates (entry_of i.entry)) (held field Spt w.store)) (any (repeats (entry_of i.entry)) (held field Spt w.store)) (i.prevent_pruning && any (removes (entry_of i.entry)) (held field Spt w.store)) (leb w.store.state.limit (length (keep (stays (entry_of i.entry)) (held field Spt w.store))))
        (ap (λ (b : Bool). refusal_in (cond b d (refuse r))) (sym t) ∙ z))
        (λ t. refusal-not-2 (ap (λ (b : Bool). refusal_in (cond b d (refuse r))) (sym t) ∙ z))

    -- And 2 is no answer where the store's own buffers and the tally have room and the pairs number the limit at least.
    pub room-not-refused : (pairs_ingested field w ps i).answer.verdict ≡ refuses short_buffer → ⊥
    unfolding number_of pairs_ingested ingested
    room-not-refused v = judged-not-2 (sym (carried-number w (numbers_of ps) (filing i) (judged field w (numbers_of ps) i.entry i.prevent_pruning)) ∙ ap number_of v)
