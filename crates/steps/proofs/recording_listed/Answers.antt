-- `recording_listed`: `record_available_length` is a recording of a list. Assumes nothing.
use Rattle.call_laws.proofs.Links.{recording-listed}
use Rattle.steps.proofs.recording_listed.Goals as goal

pub returns : goal.returns
returns c = λ tally. recording-listed _ _ _ _ tally _ _ _ _ _ _ _ _ _ c.record_available_length.ensures
