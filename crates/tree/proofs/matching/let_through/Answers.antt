-- `let_through` meets its contract. Assumes nothing.
use mathlib.Core.Path.{refl}
use Rattle.data_model.specs.Entry.{entry_of, rank_of}
use Rattle.tree.specs.Stored.{stored_of}
use Rattle.tree.proofs.matching.let_through.Goals as goal

pub returns : goal.returns
unfolding stored_of entry_of rank_of
returns c = c.lets_through.ensures _ refl refl
