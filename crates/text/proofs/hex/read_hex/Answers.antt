-- `read_hex` meets its contract, by the tests on the way. Assumes nothing.
use native.Mathlib.Omega.{arith}
use mathlib.Core.Path.{sym, ◌∙◌}
use Rattle.text.proofs.HexLaws.{hex-even, read-bad, read_short, read-took}
use Rattle.text.proofs.hex.read_hex.Goals as goal

pub returns-then-not-is_hex : goal.returns-then-not-is_hex
returns-then-not-is_hex c = let all_of = read-bad _ _ (sym c.is_hex.ensures ∙ c.if-not-is_hex.true) in record { value = all_of.0; out_after = all_of.1 }

pub returns-then-out-s : goal.returns-then-out-s
returns-then-out-s c = let all_of = read_short _ _ (sym c.is_hex.ensures ∙ c.if-not-is_hex.false) c.if-out-s.true in record { value = all_of.0; out_after = all_of.1 }

pub write_bytes_of-requires : goal.write_bytes_of-requires
write_bytes_of-requires c = let h = sym c.is_hex.ensures ∙ c.if-not-is_hex.false in (h, omega (arith, hex-even _ h))

pub returns : goal.returns
returns c = let all_of = read-took _ _ _ _ (sym c.is_hex.ensures ∙ c.if-not-is_hex.false) c.if-out-s.false c.write_bytes_of.ensures.0 c.write_bytes_of.ensures.1 in record { value = all_of.0; out_after = all_of.1 }
