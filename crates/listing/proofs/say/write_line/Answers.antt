-- `write_line` meets its contract: a store behind the record's text. Assumes nothing.
use native.Mathlib.Omega.{arith}
use Prim.Native.Nat.{ℕ}
use mathlib.Core.Path.{◌≡◌, ap, ◌∙◌}
use mathlib.Core.List.{List}
use lib.ListN.{length, set, length-append}
use Rattle.laws.proofs.Lists.{put-snoc}
use Rattle.listing.specs.Input.{newline}
use Rattle.listing.specs.Say.{record_text}
use borrow.Author.Rules.{rules}
use Rattle.listing.proofs.say.write_line.Goals as goal

pub bounds-out-n : goal.bounds-out-n
bounds-out-n c =
    let w = c.write_record-n in
    let z : length w.new.out ≡ length c.args.out.now = search rules in
    omega (arith, z, w.ensures.1, c.requires.1)

pub overflow_add-result : goal.overflow_add-result
overflow_add-result c =
    let w = c.write_record-n in
    let z : length w.new.out ≡ length c.args.out.now = search rules in
    omega (arith, z, w.ensures.1)

pub returns : goal.returns
returns c =
    let w = c.write_record-n in
    let z : length w.new.out ≡ length c.args.out.now = search rules in
    (simp length-append (omega (arith, w.ensures.0)), omega (arith, w.ensures.1), ap (λ (o : List ℕ). set o w.result newline) w.ensures.2 ∙ put-snoc (record_text c.args.rec.now) c.args.out.now w.result newline w.ensures.0 (omega (arith, w.ensures.1, c.requires.1)))
