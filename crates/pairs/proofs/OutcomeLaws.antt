-- The core's outcome on numbers that are 0, with what it wrote copied to the pairs, is the outcome with pairs. Assumes nothing.
use Prim.Native.Nat.{ℕ, zero, suc, ◌*◌, ◌≤◌, min}
use mathlib.Core.Path.{◌≡◌, refl, sym, ap, ◌∙◌}
use mathlib.Core.List.{List, ◌∷◌, ◌++◌}
use mathlib.Core.Bool.{Bool, true}
use native.Mathlib.Omega.{arith}
use lib.ListN.{length, take, drop, replicate, length-replicate}
use lib.Seq.{take_at, take-take, length-take-le}
use lib.Dec.{leb}
use borrow.Author.Tests.{le-leb, lt-leb, leb-true, leb-false}
use Rattle.laws.proofs.Sorted.{keep-length}
use Rattle.laws.specs.Lists.{put}
use Rattle.laws.specs.Sorted.{keep}
use Rattle.laws.proofs.Truth.{split}
use Rattle.layout.specs.Marks.{marks_of}
use Rattle.layout.proofs.MarkLaws.{length-marks, count-marks, length_marked}
use Rattle.data_model.specs.Said.{refuses, says}
use Rattle.data_model.specs.Path.{field}
use Rattle.data_model.specs.Entry.{entry_of}
use Rattle.data_model.specs.declared.entry.Entry.{Entry as EntryValue}
use Rattle.tree.specs.Matching.{removes}
use Rattle.tree.specs.declared.stored.KeyOrder.TheVariants.{Spt}
use Rattle.tree.proofs.FormedContents.{formed-many}
use Rattle.store.specs.Store.{Store, limit_most, dir_room, dir_of, held, Tallied}
use Rattle.store.specs.Refusal.{unless, ◌or_else◌, limit_ok, store_refusal, tallied_refusal}
use Rattle.store.specs.Ingest.{succeeds, is-held, IngestSaid, Decision, refuse, obsolete, already, take_it, ingest_refusal, judged, MayFile, plain_answer, obsolete_answer, IngestOutcome, ingest_outcome, ingested_says, verdict_says, pruned_pairs, filing, carried, ingested}
use Rattle.store.specs.declared.ingest.Ingestion.{Ingestion}
use Rattle.store.specs.declared.ingest.Ingested.{Ingested}
use Rattle.store.specs.declared.ingest.Ingested.TheVariants as answer
use Rattle.store.specs.declared.state.State.{State}
use Rattle.data_model.specs.declared.answer.Refusal.{Refusal}
use Rattle.std.specs.Prelude.{Result, Ok, Err}
use Rattle.store.proofs.CheckLaws.{limit-most}
use Rattle.store.proofs.IngestLaws.{Ready}
use Rattle.store.proofs.FileLaws.{may-ready, success-may}
use Rattle.pairs.specs.Pairs.{pairs_of, numbers_of, pruned_count, numbers_used, pairs_outcome, in_pairs, pairs_ingested}
use Rattle.pairs.specs.declared.Pair.{Pair}
use Rattle.pairs.proofs.PairLaws.{pairs-again, length-numbers, pairs-put}

abbrev zeros : ℕ → List ℕ
zeros n = replicate n 0

zeros-front : (i j : ℕ) → i ≤ j → take i (zeros j) ≡ zeros i
zeros-front zero j g = refl
zeros-front (suc i) zero g = absurd (let y : suc i ≤ 0 = g in omega arith)
zeros-front (suc i) (suc j) g = ap (0 ∷◌) (zeros-front i j (omega arith))

-- The front of an array of zeros that the core was lent, and is back.
pub with-front : (r : IngestSaid) (a b c d t part : List ℕ) (n m : ℕ) (w : Tallied) (i : Ingestion)
    → n ≡ m → n ≤ 2 * limit_most → length part ≡ length (take n (zeros 2048))
    → ingest_outcome r a b c d t part ≡ ingested field w (take n (zeros 2048)) i
    → ingest_outcome r a b c d t (take m (part ++ drop n (zeros 2048))) ≡ ingested field w (zeros m) i
with-front r a b c d t part n m w i q h l eq =
    let z : length (zeros 2048) ≡ 2048 = length-replicate {A = ℕ} 2048 0 in
    let k : length part ≡ m = l ∙ length-take-le n (zeros 2048) (omega arith) ∙ q in
    ap (ingest_outcome r a b c d t) (take_at part (drop n (zeros 2048)) m k)
    ∙ eq
    ∙ ap (λ (p : List ℕ). ingested field w p i) (ap (λ (j : ℕ). take j (zeros 2048)) q ∙ zeros-front m 2048 (omega arith))

-- Of a prune list the refusals look at its room alone.
module _ (w : Tallied) (p p' : List ℕ) (e : EntryValue) (prevent : Bool) where
  same-refusal : (limit_ok w.store.state.limit ≡ true → leb (dir_room w.store.state.limit) (length p) ≡ leb (dir_room w.store.state.limit) (length p')) → ingest_refusal field w p e ≡ ingest_refusal field w p' e
  unfolding ingest_refusal tallied_refusal store_refusal unless ◌or_else◌
  same-refusal h = split (limit_ok w.store.state.limit) (λ q. rw (h q)) (λ q. rw q)

  same-judged : ingest_refusal field w p e ≡ ingest_refusal field w p' e → judged field w p e prevent ≡ judged field w p' e prevent
  unfolding judged
  same-judged h = rw h

-- An entry needs no more numbers than the most entries have.
same-room : (limit : ℕ) (ps : List Pair) → limit_ok limit ≡ true → leb (dir_room limit) (length (zeros (numbers_used (length ps)))) ≡ leb (dir_room limit) (length (numbers_of ps))
unfolding numbers_used
same-room limit ps h =
    let l = (limit-most limit h).1 in
    let a = length-replicate {A = ℕ} (2 * min (length ps) limit_most) 0 in
    let b = length-numbers ps in
    split (leb (dir_room limit) (length (numbers_of ps)))
    (λ q. let g = leb-true (dir_room limit) (length (numbers_of ps)) q in le-leb (dir_room limit) (length (zeros (2 * min (length ps) limit_most))) (omega arith) ∙ sym q)
    (λ q. let g = leb-false (dir_room limit) (length (numbers_of ps)) q in lt-leb (dir_room limit) (length (zeros (2 * min (length ps) limit_most))) (omega arith) ∙ sym q)

-- An entry that is taken: its pairs are two numbers for each entry that it removes, and the prune list has room for them.
abbrev pub removed_by : Store → EntryValue → ℕ
removed_by s e = length (keep (removes (entry_of e)) (held field Spt s))

module _ (s : Store) (prune : List ℕ) (e : EntryValue) (may : MayFile field s prune e) where
  known : Ready s prune e
  known = may-ready s prune e may

  holds : length (held field Spt s) ≡ s.state.count
  unfolding held
  holds = formed-many (known.passes.formed Spt) s.state.namespace_id

  dir-long : length (dir_of Spt s) ≡ 2 * s.state.limit
  unfolding dir_of
  dir-long = length-take-le (2 * s.state.limit) s.spt_dir known.passes.room.spt_dir

  pub pruned-length : length (pruned_pairs field s (entry_of e)) ≡ 2 * removed_by s e
  unfolding pruned_pairs
  pruned-length =
      let k = length-marks (removes (entry_of e)) (held field Spt s) in
      let f = known.passes.few in
      length_marked (marks_of (removes (entry_of e)) (held field Spt s)) (dir_of Spt s) (omega (arith, holds, dir-long))
      ∙ ap (2 *◌) (count-marks (removes (entry_of e)) (held field Spt s))

  pub pruned-fits : 2 * removed_by s e ≤ length prune
  pruned-fits =
      let k = keep-length (removes (entry_of e)) (held field Spt s) in
      let f = known.passes.few in
      let g = known.pairs in
      omega (arith, holds)

-- The outcome with pairs, and that the pairs have room for what is counted.
pub record Layered (w : Tallied) (ps : List Pair) (i : Ingestion) (r : IngestSaid) (a b c d t ns : List ℕ) (n : ℕ) : Type 0 where
  pub few : 2 * n ≤ numbers_used (length ps)
  pub done : (now : List Pair) → now ≡ put (pairs_of (take (2 * n) ns)) ps → pairs_outcome r a b c d t now ≡ pairs_ingested field w ps i

module _ (w : Tallied) (ps : List Pair) (i : Ingestion) (r : IngestSaid) (a b c d t ns : List ℕ) (n : ℕ)
    (eq : ingest_outcome r a b c d t (take (numbers_used (length ps)) ns) ≡ ingested field w (zeros (numbers_used (length ps))) i) (en : n ≡ pruned_count r.verdict) where
  abbrev own : List ℕ
  own = zeros (numbers_used (length ps))

  -- Both prune lists lead to one decision.
  decides : judged field w own i.entry i.prevent_pruning ≡ judged field w (numbers_of ps) i.entry i.prevent_pruning
  decides = same-judged w own (numbers_of ps) i.entry i.prevent_pruning (same-refusal w own (numbers_of ps) i.entry i.prevent_pruning (same-room w.store.state.limit ps))

  -- Nothing is pruned: the pairs are as they were.
  nothing_put : (now : List Pair) → n ≡ 0 → now ≡ put (pairs_of (take (2 * n) ns)) ps → now ≡ pairs_of (numbers_of ps)
  unfolding put pairs_of
  nothing_put now z q = q ∙ ap (λ (m : ℕ). put (pairs_of (take (2 * m) ns)) ps) z ∙ sym (pairs-again ps)

  -- What was put at the front of the numbers.
  front : (xs old : List ℕ) (m : ℕ) → length xs ≡ 2 * m → 2 * m ≤ numbers_used (length ps) → take (numbers_used (length ps)) ns ≡ put xs old → take (2 * m) ns ≡ xs
  unfolding put
  front xs old m l f q =
      sym (take-take (2 * m) (numbers_used (length ps)) ns f) ∙ ap (take (2 * m)) q ∙ take_at xs (drop (length xs) old) (2 * m) l

  -- An answer alone: store, tally and prune list are as they were.
  abbrev leaving : IngestSaid → (prune : List ℕ) → IngestOutcome
  leaving said prune = record { answer = said; left = w; prune = prune }

  -- A decision that comes to an answer alone prunes nothing, and the pairs stay.
  nothing-pruned : (x : Decision) (said : IngestSaid) → judged field w own i.entry i.prevent_pruning ≡ x
      → ((prune : List ℕ) → carried field w prune (filing i) x ≡ leaving said prune) → pruned_count said.verdict ≡ 0 → Layered w ps i r a b c d t ns n
  unfolding ingested pairs_ingested
  nothing-pruned x said j same none =
      let q : ingest_outcome r a b c d t (take (numbers_used (length ps)) ns) ≡ leaving said own = eq ∙ ap (carried field w own (filing i)) j ∙ same own in
      let z : n ≡ 0 = en ∙ ap (λ (y : IngestOutcome). pruned_count y.answer.verdict) q ∙ none in
      record {
        few = omega arith;
        done = λ now h.
            (λ k. record { answer = (q k).answer; left = (q k).left; pairs = nothing_put now z h k })
            ∙ sym (ap in_pairs (same (numbers_of ps)))
            ∙ sym (ap (λ (y : Decision). in_pairs (carried field w (numbers_of ps) (filing i) y)) (sym decides ∙ j));
      }

  by-decision : (x : Decision) → judged field w own i.entry i.prevent_pruning ≡ x → Layered w ps i r a b c d t ns n
  unfolding ingested carried pairs_ingested
  by-decision (refuse k) j = nothing-pruned (refuse k) (plain_answer (refuses k) w.store.state) j (λ prune. refl) refl
  by-decision (obsolete x) j = nothing-pruned (obsolete x) (obsolete_answer w.store.state x) j (λ prune. refl) refl
  by-decision already j = nothing-pruned already (plain_answer (says is-held) w.store.state) j (λ prune. refl) refl
  by-decision take_it j =
      let m = removed_by w.store i.entry in
      let pruned = pruned_pairs field w.store (entry_of i.entry) in
      let q : ingest_outcome r a b c d t (take (numbers_used (length ps)) ns) ≡ carried field w own (filing i) take_it = eq ∙ ap (carried field w own (filing i)) j in
      let v : r.verdict ≡ says (succeeds m) = ap (λ (x : IngestOutcome). x.answer.verdict) q in
      let z : n ≡ m = en ∙ ap pruned_count v in
      let may = success-may w own i r (ap (λ (x : IngestOutcome). x.answer) eq) m v in
      let l = pruned-length w.store own i.entry may in
      let f : 2 * m ≤ numbers_used (length ps) = omega (arith, pruned-fits w.store own i.entry may, length-replicate {A = ℕ} (numbers_used (length ps)) 0) in
      let g : (now : List Pair) → now ≡ put (pairs_of (take (2 * n) ns)) ps → now ≡ pairs_of (put pruned (numbers_of ps)) =
      λ now h. h ∙ ap (λ (k : ℕ). put (pairs_of (take (2 * k) ns)) ps) z
      ∙ ap (λ (x : List ℕ). put (pairs_of x) ps) (front pruned own m l f (ap (λ (x : IngestOutcome). x.prune) q))
      ∙ sym (pairs-put m pruned ps l) in
      record {
        few = omega arith;
        done = λ now h.
            (λ k. record { answer = (q k).answer; left = (q k).left; pairs = g now h k })
            ∙ sym (ap (λ (x : Decision). in_pairs (carried field w (numbers_of ps) (filing i) x)) (sym decides ∙ j));
      }

  pub layered : Layered w ps i r a b c d t ns n
  layered = by-decision (judged field w own i.entry i.prevent_pruning) refl

  pub in-room : (n ≤ limit_most) × (n ≤ length ps)
  unfolding numbers_used
  in-room = let f = layered.few in (omega arith, omega arith)

-- The verdict of an ingestion, with the state that it was handed or without.
pub verdict-said : (handed : State) (r : Result Ingested Refusal) → verdict_says r ≡ (ingested_says handed r).verdict
verdict-said handed (Ok (answer.Success state n)) = refl
verdict-said handed (Ok (answer.Obsolete newer token)) = refl
verdict-said handed (Ok answer.Held) = refl
verdict-said handed (Err r) = refl
