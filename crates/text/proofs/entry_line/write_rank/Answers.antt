-- `write_rank` meets its contract: three pieces, one behind the other. Assumes nothing.
use native.Mathlib.Omega.{arith}
use Prim.Native.Nat.{ℕ, ◌+◌}
use mathlib.Core.Path.{◌≡◌, ap, ◌∙◌}
use mathlib.Core.List.{List, [], ◌∷◌, ◌++◌}
use lib.ListN.{length}
use Rattle.laws.specs.Lists.{put}
use Rattle.laws.proofs.Lists.{wrote-first, wrote-lent, wrote-last}
use Rattle.text.specs.Hex.{hex_byte}
use Rattle.text.specs.Decimal.{decimal_text}
use Rattle.text.specs.EntryLine.{space}
use Rattle.text.proofs.LineLaws.{rank-pieces}
use borrow.Author.Rules.{rules}
use Rattle.text.proofs.entry_line.write_rank.Goals as goal

pub returns : goal.returns
returns c =
    let a = c.args in
    let old = a.out.now in
    let f = c.write_spaced-n in
    let g = c.write_spaced in
    let h = c.write_hex_byte in
    let x = decimal_text a.t ++ space ∷ [] in
    let y = decimal_text a.l ++ space ∷ [] in
    let z = hex_byte a.d in
    let one : length f.new.out ≡ length old = search rules in
    let first = wrote-first x (y ++ z) old f.new.out f.result (omega (arith, f.ensures.1, c.requires)) f.ensures.0 f.ensures.2 in
    let next = wrote-lent (x ++ (y ++ z)) y z old f.new.out g.new.out f.result g.result first (omega (arith, one, f.ensures.1, g.ensures.1, c.requires)) g.ensures.0 g.ensures.2 in
    let last = wrote-last (x ++ (y ++ z)) z old _ h.new.out (f.result + g.result) h.result next (omega (arith, next.size, f.ensures.1, g.ensures.1, h.ensures.0, c.requires)) h.ensures.0 h.ensures.1 in
    (last.0 ∙ ap length (rank-pieces a.t a.l a.d), omega (arith, f.ensures.1, g.ensures.1, h.ensures.0), last.1 ∙ ap (λ (t : List ℕ). put t old) (rank-pieces a.t a.l a.d))
