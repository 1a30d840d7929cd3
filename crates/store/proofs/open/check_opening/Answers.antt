-- `check_opening` meets its contract. Assumes nothing.
use Rattle.std.proofs.Common.{rules}
use Rattle.store.specs.Refusal.{unless, ◌or_else◌}
use Rattle.store.specs.Open.{open_refusal}
use Rattle.store.proofs.open.check_opening.Goals as goal
use Rattle.store.proofs.open.check_opening.Goals.{then-is_roomy, else-is_roomy}

pub returns-then-not-limit_ok : goal.returns-then-not-limit_ok
unfolding open_refusal unless ◌or_else◌
returns-then-not-limit_ok c = search rules

pub returns-then-not-tally_fits : goal.returns-then-not-tally_fits
unfolding open_refusal unless ◌or_else◌
returns-then-not-tally_fits c = search rules

pub returns : goal.returns
unfolding open_refusal unless ◌or_else◌
returns c = search rules
