-- `has_record` meets its contract. Assumes nothing.
use mathlib.Core.Path.{refl}
use mathlib.Core.Bool.{true, false}
use Rattle.tree.proofs.SearchLaws.{has-place, has-is, has-none}
use Rattle.tree.proofs.stored.Tree.has_record.Goals as goal

pub value_at-requires : goal.value_at-requires
value_at-requires c = c.requires.bounds c.in-Ok.at (has-place c.requires c.args.key.now c.in-Ok.at c.in-Ok.ensures.at true c.in-Ok.ensures.found refl)

pub returns-in-Ok : goal.returns-in-Ok
returns-in-Ok c = has-is c.requires c.args.key.now c.in-Ok.at c.in-Ok.ensures.at true c.in-Ok.ensures.found c.args.value.now _ _ refl c.value_at.ensures c.same.ensures

pub returns-in-Err : goal.returns-in-Err
returns-in-Err c = has-none c.requires c.args.key.now c.in-Err.field-0 c.in-Err.ensures.at false c.in-Err.ensures.found c.args.value.now refl
