-- `area_forgetting_is_value`: no ingestion is handed in. Assumes nothing.
use mathlib.Core.List.Memᴰ.{not-nil as none_in}
use Rattle.call_laws.specs.Calls.{input}
use Rattle.steps.proofs.area_forgetting_is_value.Goals as goal

pub returns : goal.returns
unfolding input
returns c = λ i m. absurd (none_in m)
