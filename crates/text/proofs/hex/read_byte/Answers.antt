-- `read_byte` meets its contract. Assumes nothing.
use native.Mathlib.Omega.{arith}
use mathlib.Core.Path.{sym, ◌∙◌}
use Rattle.text.proofs.HexLaws.{hex-digit, byte-is}
use Rattle.text.proofs.hex.read_byte.Goals as goal

pub pair_value-requires : goal.pair_value-requires
pair_value-requires c =
    let h = sym c.is_hex.ensures ∙ c.if-is_hex.true in
    (hex-digit _ 0 h (omega arith), hex-digit _ 1 h (omega arith))

pub returns-then-is_hex : goal.returns-then-is_hex
returns-then-is_hex c = byte-is _ c.if-s-eq2.true (sym c.is_hex.ensures ∙ c.if-is_hex.true) _ c.pair_value.ensures
