-- "Bytes past its total and ends past its count are never looked at ..; nor is the path of an open end or of an absent protected area looked at": each call that
-- takes a path answers values that agree up to there (`PathsAgree` and those after it) the same, and leaves the same in every buffer. Theorem `unseen`.
use Rattle.std.specs.Prelude.{ℕ, ◌≡◌, List, Bool, ◌&&◌}
use Rattle.data_model.specs.Path.{Figures, components, legal, same_path, by_components, is_prefix}
use Rattle.data_model.specs.Above.{above_answer}
use Rattle.data_model.specs.Entry.{entry_of, rank_of, by_rank, prunes}
use Rattle.data_model.specs.Range.{paths_include, legal_range}
use Rattle.data_model.specs.Range3d.{range_includes}
use Rattle.data_model.specs.Area.{area_includes, area_range_answer}
use Rattle.data_model.specs.Refusal.{answered}
use Rattle.data_model.specs.declared.parameters.Subspace.{Subspace}
use Rattle.keys.specs.Encode.{triple, spt_key, tsp_key, roomy, encoded, encoded_in}
use Rattle.key_laws.specs.Agree.{PathsAgree, EntriesAgree, AreasAgree, PathRangesAgree, RangesAgree, InterestsAgree, ProtectedAgree, SameFor, SameForBoth}
use Rattle.data_model.specs.declared.query_ignore_params.QueryIgnoreParams.{QueryIgnoreParams}
use Rattle.store.specs.Store.{Store, Tallied}
use Rattle.store.specs.Ingest.{ingested}
use Rattle.store.specs.Forget.{entry_forgotten, area_forgotten}
use Rattle.store.specs.declared.ingest.Ingestion.{Ingestion}
use Rattle.available.specs.Available.{available_set}
use Rattle.pairs.specs.Pairs.{pairs_ingested}
use Rattle.pairs.specs.declared.Pair.{Pair}
use Rattle.query.specs.Lookup.{entry_found}
use Rattle.query.specs.Listing.{is_found, area_listed, range_listed, area_part, range_part, area_offset, range_offset}
use Rattle.query.specs.Count.{area_counted, summarised}
use Rattle.query.specs.Interest.{interest_range}

-- Two ingestions agree if their entries do and all else is the same.
pub record IngestionsAgree (a b : Ingestion) : Type 0 where
  pub entry : EntriesAgree a.entry b.entry
  pub token : a.token ≡ b.token
  pub origin : a.origin ≡ b.origin
  pub prevents : a.prevent_pruning ≡ b.prevent_pruning

-- A clause for each public entry that takes a path, by its name: what its contract has on the right-hand side, the answer and all that is left in a buffer.
pub record Unseen (f : Figures) : Type 0 where
  -- Path
  pub is_legal : SameFor PathsAgree (legal f)
  pub both_legal : SameForBoth PathsAgree PathsAgree (λ p q. legal f p && legal f q)
  pub cmp : SameForBoth PathsAgree PathsAgree (λ p q. answered (legal f p && legal f q) (by_components (components p) (components q)))
  pub eq : SameForBoth PathsAgree PathsAgree (λ p q. answered (legal f p && legal f q) (same_path (components p) (components q)))
  pub is_prefix_of : SameForBoth PathsAgree PathsAgree (λ p q. answered (legal f p && legal f q) (is_prefix (components p) (components q)))
  pub is_prefixed_by : SameForBoth PathsAgree PathsAgree (λ p q. answered (legal f q && legal f p) (is_prefix (components q) (components p)))
  pub greater_but_not_prefixed : SameFor PathsAgree (above_answer f)
  -- Entry
  pub rank : SameFor EntriesAgree rank_of
  pub compare : SameForBoth EntriesAgree EntriesAgree (λ a b. answered (legal f a.path && legal f b.path) (by_rank (rank_of a) (rank_of b)))
  pub prunes_it : SameForBoth EntriesAgree EntriesAgree (λ a b. answered (legal f a.path && legal f b.path) (prunes (entry_of a) (entry_of b)))
  pub is_pruned_by : SameForBoth EntriesAgree EntriesAgree (λ a b. answered (legal f b.path && legal f a.path) (prunes (entry_of b) (entry_of a)))
  -- A range of paths, Range3d, Area
  pub is_legal_range : SameFor PathRangesAgree (legal_range f)
  pub is_legal_with : SameForBoth PathRangesAgree PathsAgree (λ r p. legal_range f r && legal f p)
  pub includes : SameForBoth PathRangesAgree PathsAgree (λ r p. answered (legal_range f r && legal f p) (paths_include r (components p)))
  pub range-includes : (s : Subspace) (t : ℕ) → SameForBoth RangesAgree PathsAgree (λ r p. answered (legal_range f r.paths && legal f p) (range_includes r s (components p) t))
  pub area-includes : (s : Subspace) (t : ℕ) → SameForBoth AreasAgree PathsAgree (λ a p. answered (legal f a.path && legal f p) (area_includes a s (components p) t))
  pub from : SameFor AreasAgree (area_range_answer f)
  -- Keys: the answer, and the buffer
  pub encode_spt : (s : Subspace) (t : ℕ) (out : List ℕ) → SameFor PathsAgree (λ p. encoded (roomy f out) (legal f p) (spt_key (triple s (components p) t)))
  pub encode_spt_in : (s : Subspace) (t : ℕ) (out : List ℕ) → SameFor PathsAgree (λ p. encoded_in (roomy f out) (legal f p) (spt_key (triple s (components p) t)) out)
  pub encode_tsp : (s : Subspace) (t : ℕ) (out : List ℕ) → SameFor PathsAgree (λ p. encoded (roomy f out) (legal f p) (tsp_key (triple s (components p) t)))
  pub encode_tsp_in : (s : Subspace) (t : ℕ) (out : List ℕ) → SameFor PathsAgree (λ p. encoded_in (roomy f out) (legal f p) (tsp_key (triple s (components p) t)) out)
  -- Changes of a store: the answer, the store's buffers and, where they are lent, its tally and the prune list. `ingest_entry_by_value` answers as `ingest_entry` does
  pub ingest_entry_numbers : (w : Tallied) (prune : List ℕ) → SameFor IngestionsAgree (ingested f w prune)
  pub ingest_entry : (w : Tallied) (prune : List Pair) → SameFor IngestionsAgree (pairs_ingested f w prune)
  pub forget_entry : (w : Tallied) (subspace : Subspace) (expects : Bool) (digest : List ℕ) → SameFor PathsAgree (λ p. entry_forgotten f w subspace p expects digest)
  pub forget_area : (w : Tallied) (protects : Bool) → SameForBoth AreasAgree (ProtectedAgree protects) (λ a protected. area_forgotten f w a protects protected)
  pub record_available_length : (s : Store) (subspace : Subspace) (expects : Bool) (digest : List ℕ) (n : ℕ) → SameFor PathsAgree (λ p. available_set f s subspace p expects digest n)
  pub forget_payload : (s : Store) (subspace : Subspace) (expects : Bool) (digest : List ℕ) → SameFor PathsAgree (λ p. available_set f s subspace p expects digest 0)
  -- Readings of a store
  pub entry : (s : Store) (subspace : Subspace) (ignore : QueryIgnoreParams) → SameFor PathsAgree (λ p. entry_found f s subspace p ignore)
  pub query_area_found : (s : Store) (ignore : QueryIgnoreParams) (last : List ℕ) → SameFor AreasAgree (λ a. is_found (area_listed f s a ignore last))
  pub query_area : (s : Store) (ignore : QueryIgnoreParams) (last : List ℕ) → SameFor AreasAgree (λ a. area_part f s a ignore last)
  pub query_area_begins : (s : Store) (ignore : QueryIgnoreParams) (last : List ℕ) → SameFor AreasAgree (λ a. area_offset f s a ignore last)
  pub query_range_found : (s : Store) (ignore : QueryIgnoreParams) (last : List ℕ) → SameFor RangesAgree (λ r. is_found (range_listed f s r ignore last))
  pub query_range : (s : Store) (ignore : QueryIgnoreParams) (last : List ℕ) → SameFor RangesAgree (λ r. range_part f s r ignore last)
  pub query_range_begins : (s : Store) (ignore : QueryIgnoreParams) (last : List ℕ) → SameFor RangesAgree (λ r. range_offset f s r ignore last)
  pub count_area : (s : Store) → SameFor AreasAgree (area_counted f s)
  pub summarise : (s : Store) → SameFor RangesAgree (summarised f s)
  pub area_of_interest_to_range : (s : Store) → SameFor InterestsAgree (interest_range f s)
