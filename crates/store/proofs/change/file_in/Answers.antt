-- `file_in` meets its contract. Assumes nothing.
use borrow.Author.Rules.{rules}
use Rattle.store.proofs.DecideLaws.{marked_by}
use Rattle.store.proofs.change.file_in.Goals as goal

pub file_marked-requires : goal.file_marked-requires
file_marked-requires c = (c.requires, marked_by _ _ _ c.mark_removed.ensures, (search rules))

pub returns : goal.returns
returns c = c.file_marked.ensures.changed
