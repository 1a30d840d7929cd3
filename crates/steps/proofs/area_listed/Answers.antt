-- `area_listed`: `forget_area` is a forgetting of a list. Assumes nothing.
use Rattle.call_laws.proofs.Links.{area-listed}
use Rattle.steps.proofs.area_listed.Goals as goal

pub returns : goal.returns
returns c = area-listed _ _ _ _ _ _ _ _ _ _ _ _ _ _ _ c.forget_area.ensures
