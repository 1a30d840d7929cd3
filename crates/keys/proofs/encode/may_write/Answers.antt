-- `may_write` meets its contract: by the buffer, then by the path. Assumes nothing.
use mathlib.Core.Path.{sym, ap, ◌∙◌}
use mathlib.Core.Bool.{true}
use native.Mathlib.Omega.{arith}
use Rattle.data_model.specs.Path.{field}
use Rattle.keys.specs.Encode.{writable}
use Rattle.keys.proofs.Encoding.{writable-short, writable_is}
use Rattle.keys.proofs.encode.may_write.Goals as goal

pub returns-then-out-lt-KEY_MOST : goal.returns-then-out-lt-KEY_MOST
returns-then-out-lt-KEY_MOST c = writable-short field _ _ c.if-out-lt-KEY_MOST.true

pub returns-then-is_legal : goal.returns-then-is_legal
unfolding writable
returns-then-is_legal c = ap (writable true) (sym c.if-is_legal.true ∙ c.is_legal.ensures) ∙ writable_is field _ _ (omega arith)

pub returns-else-is_legal : goal.returns-else-is_legal
unfolding writable
returns-else-is_legal c = ap (writable true) (sym c.if-is_legal.false ∙ c.is_legal.ensures) ∙ writable_is field _ _ (omega arith)
