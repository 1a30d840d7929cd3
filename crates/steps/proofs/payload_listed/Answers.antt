-- `payload_listed`: `forget_payload` is one of a list. Assumes nothing.
use Rattle.call_laws.proofs.Links.{payload-listed}
use Rattle.steps.proofs.payload_listed.Goals as goal

pub returns : goal.returns
returns c = λ tally. payload-listed _ _ _ _ tally _ _ _ _ _ _ _ _ c.forget_payload.ensures
