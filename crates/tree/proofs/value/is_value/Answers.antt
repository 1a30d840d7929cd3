-- `is_value` meets its contract. Assumes nothing.
use mathlib.Core.Path.{◌∙◌}
use borrow.Author.Tests.{lt-leb}
use Rattle.tree.proofs.RecordParts.{value-over, value-within}
use Rattle.tree.proofs.value.is_value.Goals as goal

pub returns-then-available-payload_length : goal.returns-then-available-payload_length
returns-then-available-payload_length c = value-within _ _ _ c.available.ensures c.payload_length.ensures c.if-available-payload_length.true _ c.has_origin.ensures

pub returns-else-available-payload_length : goal.returns-else-available-payload_length
returns-else-available-payload_length c = lt-leb c.available.result c.payload_length.result c.if-available-payload_length.false ∙ value-over _ _ _ c.available.ensures c.payload_length.ensures c.if-available-payload_length.false
