-- `check` meets its contract. Assumes nothing.
use Rattle.std.proofs.Common.{rules}
use Rattle.store.specs.Refusal.{unless, ◌or_else◌, store_refusal}
use Rattle.store.proofs.state.Store.check.Goals as goal

pub returns-then-not-limit_ok : goal.returns-then-not-limit_ok
unfolding store_refusal unless ◌or_else◌
returns-then-not-limit_ok c = search rules

pub returns-then-not-rooms : goal.returns-then-not-rooms
unfolding store_refusal unless ◌or_else◌
returns-then-not-rooms c = search rules

pub returns-then-not-is_well_formed : goal.returns-then-not-is_well_formed
unfolding store_refusal unless ◌or_else◌
returns-then-not-is_well_formed c = search rules

pub returns : goal.returns
unfolding store_refusal unless ◌or_else◌
returns c = search rules
