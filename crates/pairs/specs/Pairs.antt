-- Ingestion with the prune list as a lent slice of pairs, offset and length: the core's outcome, its numbers taken two by two. The pairs
-- are those of the subspace-first tree before the call, in key order; the success verdict says how many, no other outcome writes any.
use Rattle.std.specs.Prelude.{ℕ, ◌*◌, min, List, [], ◌∷◌}
use Rattle.data_model.specs.Said.{Said, refuses, says}
use Rattle.data_model.specs.Path.{Figures}
use Rattle.store.specs.Store.{limit_most, Tallied, tallied_of}
use Rattle.store.specs.Ingest.{Verdict, succeeds, is-obsolete, is-held, IngestSaid, IngestOutcome, ingested}
use Rattle.store.specs.declared.ingest.Ingestion.{Ingestion}
use Rattle.pairs.specs.declared.Pair.{Pair}

abbrev pub pair : ℕ → ℕ → Pair
pair o l = record { offset = o; length = l }

-- Numbers as pairs, and pairs as numbers: offset, then length.
unfoldable pub pairs_of : List ℕ → List Pair
pairs_of [] = []
pairs_of (o ∷ []) = []
pairs_of (o ∷ l ∷ ns) = pair o l ∷ pairs_of ns

unfoldable pub numbers_of : List Pair → List ℕ
numbers_of [] = []
numbers_of (p ∷ ps) = p.offset ∷ p.length ∷ numbers_of ps

-- How many pairs a verdict counts.
abbrev pub pruned_count : Said Verdict → ℕ
pruned_count (says (succeeds n)) = n
pruned_count (says is-obsolete) = 0
pruned_count (says is-held) = 0
pruned_count (refuses n) = 0

-- How many numbers so many pairs are, as far as an entry may need them.
unfoldable pub numbers_used : (pairs : ℕ) → ℕ
numbers_used n = 2 * min n limit_most

-- The answer; the store and its tally, and the pairs afterwards.
pub record PairsOutcome : Type 0 where
  pub answer : IngestSaid
  pub left : Tallied
  pub pairs : List Pair

abbrev pub pairs_outcome : IngestSaid → List ℕ → List ℕ → List ℕ → List ℕ → (tally : List ℕ) → List Pair → PairsOutcome
pairs_outcome r a b c d t pairs = record { answer = r; left = tallied_of r.state a b c d t; pairs = pairs }

-- The core's outcome, with pairs in place of numbers.
abbrev pub in_pairs : IngestOutcome → PairsOutcome
in_pairs c = record { answer = c.answer; left = c.left; pairs = pairs_of c.prune }

-- The pairs lent are the prune list: with a right limit, 2 if they are fewer than it; and nothing past the new pairs is touched.
unfoldable pub pairs_ingested : Figures → Tallied → List Pair → Ingestion → PairsOutcome
pairs_ingested f w pairs i = in_pairs (ingested f w (numbers_of pairs) i)
