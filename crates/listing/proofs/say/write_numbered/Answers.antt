-- `write_numbered` meets its contract: the word, and behind it the number with the line's end. Assumes nothing.
use native.Mathlib.Omega.{arith}
use mathlib.Core.Path.{◌≡◌}
use mathlib.Core.List.{[], ◌∷◌, ◌++◌}
use lib.ListN.{length}
use Rattle.laws.proofs.Lists.{wrote-first, wrote-last}
use Rattle.text.specs.Decimal.{decimal_text}
use Rattle.listing.specs.Input.{newline}
use Rattle.listing.specs.Say.{numbered}
use borrow.Author.Rules.{rules}
use Rattle.listing.proofs.say.write_numbered.Goals as goal

pub returns : goal.returns
unfolding numbered
returns c =
    let word = c.args.word.now in
    let number = decimal_text c.args.x ++ newline ∷ [] in
    let old = c.args.out.now in
    let f = c.write_bytes-n in
    let g = c.write_ended in
    let one : length f.new.out ≡ length old = search rules in
    let first = wrote-first word number old f.new.out f.result (omega (arith, f.ensures.0, c.requires)) f.ensures.0 f.ensures.1 in
    let last = wrote-last (word ++ number) number old f.new.out g.new.out f.result g.result first (omega (arith, one, f.ensures.0, g.ensures.1, c.requires)) g.ensures.0 g.ensures.2 in
    (last.0, omega (arith, f.ensures.0, g.ensures.1), last.1)
