-- `write_byte_spaced` meets its contract: a store behind the digits. Assumes nothing.
use native.Mathlib.Omega.{arith}
use Prim.Native.Nat.{ℕ}
use mathlib.Core.Path.{◌≡◌, ap, ◌∙◌}
use mathlib.Core.List.{List}
use lib.ListN.{length, set}
use Rattle.laws.proofs.Lists.{put-snoc}
use Rattle.text.specs.EntryLine.{space}
use Rattle.text.specs.Hex.{hex_byte}
use borrow.Author.Rules.{rules}
use Rattle.text.proofs.entry_line.write_byte_spaced.Goals as goal

pub returns : goal.returns
returns c =
    let z : length c.write_hex_byte-n.new.out ≡ length c.args.out.now = search rules in
    (omega (arith, c.write_hex_byte-n.ensures.0), ap (λ (o : List ℕ). set o c.write_hex_byte-n.result space) c.write_hex_byte-n.ensures.1 ∙ put-snoc (hex_byte c.args.b) c.args.out.now c.write_hex_byte-n.result space c.write_hex_byte-n.ensures.0 (omega (arith, z, c.write_hex_byte-n.ensures.0, c.requires)))
