-- `entry_listed`: `forget_entry` is a forgetting of a list. Assumes nothing.
use Rattle.call_laws.proofs.Links.{entry_listed}
use Rattle.steps.proofs.entry_listed.Goals as goal

pub returns : goal.returns
returns c = entry_listed _ _ _ _ _ _ _ _ _ _ _ _ _ _ _ _ c.forget_entry.ensures
