-- How a line carried out ends. Assumes nothing.
use Prim.Native.Nat.{ℕ}
use mathlib.Core.Path.{◌≡◌, sym, ap, ◌∙◌}
use mathlib.Core.List.{List}
use Rattle.std.specs.Prelude.{Ok, Err}
use Rattle.data_model.specs.Path.{field}
use Rattle.store.specs.Store.{Tallied}
use Rattle.store.specs.Ingest.{IngestOutcome, ingested}
use Rattle.store.specs.declared.ingest.Ingestion.{Ingestion}
use Rattle.text.specs.EntryLine.{line_read}
use Rattle.text.specs.declared.path.FieldError.{FieldError}
use Rattle.text.specs.declared.entry_line.EntryLine.{EntryLine}
use Rattle.listing.specs.Carry.{ingestion_of_line, answer_without, after_ingest, carried_by, line_carried}

module _ (s : Tallied) (prune line : List ℕ) where
  pub line_taken : (e : EntryLine) → line_read line ≡ Ok e → (x : Ingestion) → x ≡ ingestion_of_line e → (o : IngestOutcome) → o ≡ ingested field s prune x
      → after_ingest o ≡ line_carried field s prune line
  unfolding carried_by line_carried
  line_taken e read x ex o eo = ap after_ingest (eo ∙ ap (ingested field s prune) ex) ∙ sym (ap (carried_by field s prune) read)

  -- A line that says no entry leaves all as it is.
  pub line-left : (why : FieldError) → line_read line ≡ Err why → record { answer = answer_without why; tallied = s; prune = prune } ≡ line_carried field s prune line
  unfolding carried_by line_carried
  line-left why read = sym (ap (carried_by field s prune) read)
