-- Answers of the calls that change a store, in plain values: their number, which is the refusal's or 0, and their values; what an answer does not have is 0.
use Rattle.std.specs.Prelude.{Bool, true, false, Result}
use Rattle.data_model.specs.Said.{Said, refuses, says, number_of}
use Rattle.data_model.specs.Refusal.{refused_with}
use Rattle.data_model.specs.declared.answer.Refusal.{Refusal}
use Rattle.store.specs.Open.{OpenSaid}
use Rattle.store.specs.Ingest.{Verdict, succeeds, is-obsolete, is-held, IngestSaid, ingested_says}
use Rattle.store.specs.Forget.{EntryForgottenSaid, AreaForgottenSaid}
use Rattle.store.specs.declared.state.State.{State}
use Rattle.pairs.specs.Pairs.{pruned_count}
use Rattle.pairs.specs.declared.NumbersIngested.{NumbersIngested}
use Rattle.plain.specs.declared.change.PlainOpened.{PlainOpened}
use Rattle.plain.specs.declared.change.PlainIngested.{PlainIngested}
use Rattle.plain.specs.declared.change.PlainNumbersIngested.{PlainNumbersIngested}
use Rattle.plain.specs.declared.change.PlainEntryForgotten.{PlainEntryForgotten}
use Rattle.plain.specs.declared.change.PlainAreaForgotten.{PlainAreaForgotten}
use Rattle.plain.specs.declared.change.PlainAvailableRecorded.{PlainAvailableRecorded}

-- What the plain answer of an opening says.
abbrev pub opened_read : PlainOpened → OpenSaid
opened_read p = record { refusal = p.refusal; state = p.state }

-- Whether a verdict is obsolete.
abbrev pub is_obsolete : Said Verdict → Bool
is_obsolete (says (succeeds n)) = false
is_obsolete (says is-obsolete) = true
is_obsolete (says is-held) = false
is_obsolete (refuses n) = false

-- Whether a verdict is held: the very entry was stored already.
abbrev pub is_held : Said Verdict → Bool
is_held (says (succeeds n)) = false
is_held (says is-obsolete) = false
is_held (says is-held) = true
is_held (refuses n) = false

-- An ingestion: success and how many it pruned, obsolete, held, or the refusal; and the rest of its answer.
abbrev pub plain_ingested : IngestSaid → PlainIngested
plain_ingested i = record {
  refusal = number_of i.verdict;
  obsolete = is_obsolete i.verdict;
  held = is_held i.verdict;
  pruned = pruned_count i.verdict;
  state = i.state;
  newer = i.newer;
  token = i.token;
}

-- The count beside the numbers is the verdict's.
abbrev pub plain_numbers : (handed : State) → NumbersIngested → PlainNumbersIngested
plain_numbers handed n = record { ingested = plain_ingested (ingested_says handed n.ingested); numbers = n.numbers }

-- What the plain answer of the forgetting of an entry says.
abbrev pub entry_forgotten_read : PlainEntryForgotten → EntryForgottenSaid
entry_forgotten_read p = record { refusal = p.refusal; state = p.state }

-- What that of an area says.
abbrev pub area_forgotten_read : PlainAreaForgotten → AreaForgottenSaid
area_forgotten_read p = record { refusal = p.refusal; state = p.state; forgotten = p.forgotten }

-- A call about an available length: the refusal, 0 for none, and the state that was handed in.
abbrev pub plain_available : (handed : State) → Result Unit Refusal → PlainAvailableRecorded
plain_available handed answer = record { refusal = refused_with answer; state = handed }
