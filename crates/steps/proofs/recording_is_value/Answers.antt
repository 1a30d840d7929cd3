-- `recording_is_value`: no ingestion is handed in. Assumes nothing.
use mathlib.Core.List.Memᴰ.{not-nil as none_in}
use Rattle.call_laws.specs.Calls.{input}
use Rattle.steps.proofs.recording_is_value.Goals as goal

pub returns : goal.returns
unfolding input
returns c = record { value = λ i m. absurd (none_in m); value_2 = λ i m. absurd (none_in m) }
