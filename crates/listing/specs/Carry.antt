-- A line carried out on a store: the answer that is printed, and what the store, its tally and the prune list are afterwards.
use Rattle.std.specs.Prelude.{ℕ, List, [], ◌∷◌, false, replicate, Result, Ok, Err}
use Rattle.data_model.specs.Said.{Said, refuses, says}
use Rattle.data_model.specs.Path.{Figures}
use Rattle.data_model.specs.Refusal.{illegal_path}
use Rattle.data_model.specs.declared.entry.Entry.{Entry as EntryValue}
use Rattle.data_model.specs.declared.entry_origin.EntryOrigin.TheVariants.{Local}
use Rattle.store.specs.Store.{Tallied, tallied_of}
use Rattle.store.specs.Ingest.{Verdict, succeeds, is-obsolete, is-held, IngestOutcome, ingested}
use Rattle.store.specs.declared.state.State.{State}
use Rattle.store.specs.declared.ingest.Ingestion.{Ingestion}
use Rattle.text.specs.EntryLine.{line_read}
use Rattle.text.specs.declared.path.FieldError.{FieldError}
use Rattle.text.specs.declared.path.FieldError.TheVariants.{Illegal, Bad}
use Rattle.text.specs.declared.entry_line.EntryLine.{EntryLine}
use Rattle.listing.specs.declared.carry.Answer.{Answer}
use Rattle.listing.specs.declared.carry.Answer.TheVariants as answer
use Rattle.listing.specs.declared.carry.Carried.{Carried}

-- The entry of a line: namespace 0, the rest of the subspace 0, a byte that fills the digest.
abbrev pub entry_of_line : EntryLine → EntryValue
entry_of_line e = record {
  namespace_id = replicate 16 0;
  subspace_id = record { high = 0; low = e.subspace };
  path = e.path;
  timestamp = e.timestamp;
  payload_length = e.payload_length;
  payload_digest = replicate 32 e.digest;
}

-- What is ingested of a line: its entry with token 0, filed as local, and pruning is not prevented.
abbrev pub ingestion_of_line : EntryLine → Ingestion
ingestion_of_line e = record { entry = entry_of_line e; token = replicate 64 0; prevent_pruning = false; origin = Local }

-- `ok`, `obsolete`, `held`, or `refused` and the number.
unfoldable pub answer_of : Said Verdict → Answer
answer_of (says (succeeds n)) = answer.Ok
answer_of (says is-obsolete) = answer.Obsolete
answer_of (says is-held) = answer.Held
answer_of (refuses n) = answer.Refused n

-- The answer to a line that says no entry.
unfoldable pub answer_without : FieldError → Answer
answer_without Illegal = answer.Refused illegal_path
answer_without Bad = answer.Bad

pub record LineOutcome : Type 0 where
  pub answer : Answer
  pub tallied : Tallied
  pub prune : List ℕ

abbrev pub line_outcome : Carried → (spt spt_dir tsp tsp_dir tally prune : List ℕ) → LineOutcome
line_outcome r a b c d t prune = record { answer = r.answer; tallied = tallied_of r.state a b c d t; prune = prune }

abbrev pub after_ingest : IngestOutcome → LineOutcome
after_ingest o = record { answer = answer_of o.answer.verdict; tallied = o.left; prune = o.prune }

-- The entry of a good line is ingested; a line that is answered `bad` or `refused 4` leaves all as it is.
unfoldable pub carried_by : Figures → Tallied → (prune : List ℕ) → Result EntryLine FieldError → LineOutcome
carried_by f s prune (Ok e) = after_ingest (ingested f s prune (ingestion_of_line e))
carried_by f s prune (Err why) = record { answer = answer_without why; tallied = s; prune = prune }

unfoldable pub line_carried : Figures → Tallied → (prune line : List ℕ) → LineOutcome
line_carried f s prune line = carried_by f s prune (line_read line)

-- Lines carried out one after another, each on what the one before it left: a store with its tally, and a prune list.
pub record Left : Type 0 where
  pub tallied : Tallied
  pub prune : List ℕ

abbrev pub leaving : State → (spt spt_dir tsp tsp_dir tally prune : List ℕ) → Left
leaving s a b c d t prune = record { tallied = tallied_of s a b c d t; prune = prune }

abbrev pub left_in : LineOutcome → Left
left_in o = record { tallied = o.tallied; prune = o.prune }

unfoldable pub lines_carried : Figures → Left → List (List ℕ) → Left
lines_carried f w [] = w
lines_carried f w (l ∷ ls) = lines_carried f (left_in (line_carried f w.tallied w.prune l)) ls
