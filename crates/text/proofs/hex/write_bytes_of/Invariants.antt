-- `write_bytes_of` meets its contract. The invariant: the bytes written so far, with those of the digits left, are the bytes of all. Assumes nothing.
use Prim.Native.Nat.{◌*◌}
use lib.ListN.{drop}
use Rattle.text.specs.Hex.{hex_of}
use Rattle.laws.proofs.Lists.{Wrote}
use Rattle.text.proofs.hex.write_bytes_of.Given as goal

abbrev pub invariant-loop-i : goal.invariant-loop-i
invariant-loop-i l = Wrote (hex_of l.s) (hex_of (drop (2 * l.i) l.s)) l.initial.out l.out l.i
