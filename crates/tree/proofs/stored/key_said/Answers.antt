-- `key_said` meets its contract. Assumes nothing.
use mathlib.Core.Path.{◌∙◌, ap}
use Rattle.data_model.specs.Subspace.{first_subspace}
use Rattle.data_model.specs.declared.path.Path.{Path}
use Rattle.keys.specs.declared.decode.EntryKey.{EntryKey}
use Rattle.tree.proofs.RecordParts.{key-taken, key-refused}
use Rattle.tree.proofs.stored.key_said.Goals as goal

pub returns-in-Ok : goal.returns-in-Ok
returns-in-Ok c = key-taken _ _ c.in-Ok.ensures

-- What is handed out for no key, by its path.
unread : Path → EntryKey
unread p = record { subspace = first_subspace; path = p; timestamp = 0 }

pub returns-in-Err : goal.returns-in-Err
unfolding unread
returns-in-Err c = ap unread c.new_empty.ensures ∙ key-refused _ _ c.in-Err.ensures
