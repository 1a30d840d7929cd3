-- `decode_entry_values` meets its contract, a part at a time. Assumes nothing.
use mathlib.Core.Path.{refl}
use Rattle.keys.proofs.Reading.{rest}
use Rattle.tree.specs.Value.{available_at, session_at}
use Rattle.tree.proofs.RecordParts.{value-parts}
use Rattle.tree.proofs.value.decode_entry_values.Goals as goal

pub returns : goal.returns
returns c =
    let b = c.args.value.now in
    value-parts b _ _ c.copy.result c.copy-2.result c.read_u64.result c.read_u64-2.result _ c.read_u64-3.result
    c.read_u64.ensures c.copy.ensures c.copy-2.ensures (rest b available_at) c.read_u64-2.ensures refl (rest b session_at) c.read_u64-3.ensures
