-- What a call through the door answers and leaves: the call's own outcome, its answer in plain values.
use Rattle.std.specs.Prelude.{ℕ, List}
use Rattle.store.specs.Store.{Tallied, tallied_of}
use Rattle.store.specs.Ingest.{IngestOutcome}
use Rattle.pairs.specs.Pairs.{PairsOutcome}
use Rattle.available.specs.Available.{AvailableSaid}
use Rattle.pairs.specs.declared.Pair.{Pair}
use Rattle.plain.specs.Change.{plain_ingested}
use Rattle.plain.specs.declared.change.PlainIngested.{PlainIngested}
use Rattle.plain.specs.declared.change.PlainAvailableRecorded.{PlainAvailableRecorded}

-- Over a prune list of numbers: the answer; the store and its tally, and the numbers afterwards.
pub record NumbersLeft : Type 0 where
  pub answer : PlainIngested
  pub left : Tallied
  pub prune : List ℕ

abbrev pub numbers_left : PlainIngested → List ℕ → List ℕ → List ℕ → List ℕ → (tally : List ℕ) → List ℕ → NumbersLeft
numbers_left r a b c d t prune = record { answer = r; left = tallied_of r.state a b c d t; prune = prune }

abbrev pub told_numbers : IngestOutcome → NumbersLeft
told_numbers o = record { answer = plain_ingested o.answer; left = o.left; prune = o.prune }

-- Over a prune list of pairs: the answer; the store and its tally, and the pairs afterwards.
pub record PairsLeft : Type 0 where
  pub answer : PlainIngested
  pub left : Tallied
  pub pairs : List Pair

abbrev pub pairs_left : PlainIngested → List ℕ → List ℕ → List ℕ → List ℕ → (tally : List ℕ) → List Pair → PairsLeft
pairs_left r a b c d t pairs = record { answer = r; left = tallied_of r.state a b c d t; pairs = pairs }

abbrev pub told_pairs : PairsOutcome → PairsLeft
told_pairs o = record { answer = plain_ingested o.answer; left = o.left; pairs = o.pairs }

-- What the plain answer of a call about an available length says.
abbrev pub available_read : PlainAvailableRecorded → AvailableSaid
available_read p = record { refusal = p.refusal; state = p.state }
