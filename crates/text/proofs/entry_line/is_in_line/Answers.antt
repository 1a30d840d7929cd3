-- `is_in_line` meets its contract. Assumes nothing.
use mathlib.Core.Path.{◌≡◌, ◌∙◌}
use mathlib.Core.Bool.{true}
use lib.Dec.{eqb, leb}
use lib.ListN.{length}
use Rattle.std.proofs.Common.{rules, tests}
use Rattle.laws.specs.Prefix.{same_number, same_list}
use Rattle.text.specs.Fields.{fields}
use Rattle.text.specs.EntryLine.{line_most, space, in_word, field_at, is_in_line}
use Rattle.text.proofs.LineLaws.{same-bytes}
use Rattle.text.proofs.entry_line.is_in_line.Goals as goal

pub returns-then-count_fields-eq6 : goal.returns-then-count_fields-eq6
unfolding is_in_line
returns-then-count_fields-eq6 c =
    let s = c.args.line.now in
    let l : leb (length s) line_most ≡ true = search (rules, tests) in
    let n : eqb (length (fields space s)) 6 ≡ true = search (rules, tests) in
    let e : c.eq.result ≡ same_list same_number (field_at 0 s) in_word
    = c.eq.ensures ∙ same-bytes c.nth_field.result.now c.as_slice.result.now ∙ rw (c.nth_field.ensures, c.as_slice.ensures) in
    rw (l, n) e
