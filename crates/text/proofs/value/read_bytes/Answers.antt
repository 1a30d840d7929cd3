-- `read_bytes` meets its contract. Assumes nothing.
use native.Mathlib.Omega.{arith}
use mathlib.Core.Path.{sym, ◌∙◌}
use lib.ListN.{length-replicate}
use Prim.Native.Nat.{ℕ}
use Rattle.text.proofs.HexLaws.{hex-even}
use Rattle.text.proofs.ValueLaws.{bytes-none, bytes-not, bytes-are}
use Rattle.text.proofs.value.read_bytes.Goals as goal
use Rattle.text.proofs.value.read_bytes.Goals.{then-not-is_hex-via-then-not-is_hex, then-not-is_hex-via-else-not-is_hex+then-s}

pub returns-then-not-is_hex : goal.returns-then-not-is_hex
returns-then-not-is_hex g c = elim c.then-not-is_hex.branch [
  | then-not-is_hex-via-then-not-is_hex w ↦ bytes-none _ _ (sym c.is_hex.ensures ∙ w.if-not-is_hex.true)
  | then-not-is_hex-via-else-not-is_hex+then-s w ↦ bytes-not _ _ w.if-s.true
]

pub write_bytes_of-requires : goal.write_bytes_of-requires
write_bytes_of-requires g c =
    let h = sym c.is_hex.ensures ∙ c.if-not-is_hex.false in
    (h, omega (arith, hex-even _ h, c.if-s.false, length-replicate {A = ℕ} g.row.N 0))

pub returns : goal.returns
returns g c = bytes-are _ _ _ _ (sym c.is_hex.ensures ∙ c.if-not-is_hex.false) c.if-s.false (length-replicate {A = ℕ} g.row.N 0) c.write_bytes_of.ensures.1
