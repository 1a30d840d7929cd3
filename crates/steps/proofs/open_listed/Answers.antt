-- `open_listed`: `open` is what opens a list. Assumes nothing.
use Rattle.call_laws.proofs.Links.{open-listed}
use Rattle.steps.proofs.open_listed.Goals as goal

pub returns : goal.returns
returns c = open-listed _ _ _ _ _ _ _ _ _ _ _ _ _ c.open.ensures
