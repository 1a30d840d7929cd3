-- `read_line` meets its contract: by the first field that is of another form. Assumes nothing.
use mathlib.Core.Path.{◌≡◌, sym, ap, ◌∙◌}
use Rattle.std.specs.Prelude.{Err}
use Rattle.std.proofs.Common.{rules, tests}
use Rattle.text.specs.Hex.{byte_read}
use Rattle.text.specs.Decimal.{number_read}
use Rattle.text.specs.PathField.{path_field}
use Rattle.text.proofs.LineLaws.{line_other, bad-subspace, bad-timestamp, bad-length, bad-digest, bad-path, read-good}
use Rattle.text.proofs.entry_line.read_line.Goals as goal

pub returns-then-not-is_in_line : goal.returns-then-not-is_in_line
returns-then-not-is_in_line c = line_other _ (sym c.is_in_line.ensures ∙ c.if-not-is_in_line.true)

pub returns-in_default : goal.returns-in_default
returns-in_default c =
    bad-subspace _ (sym c.is_in_line.ensures ∙ c.if-not-is_in_line.false) (ap byte_read (sym c.nth_field.ensures) ∙ sym c.read_byte.ensures ∙ c.in_default.is)

pub returns-in_default-read_number : goal.returns-in_default-read_number
returns-in_default-read_number c =
    bad-timestamp _ (sym c.is_in_line.ensures ∙ c.if-not-is_in_line.false)
    _ (ap byte_read (sym c.nth_field.ensures) ∙ sym c.read_byte.ensures ∙ c.in-Some.is)
    (ap number_read (sym c.nth_field-2.ensures) ∙ sym c.read_number.ensures ∙ c.in_default-read_number.is)

pub returns-in_default-read_number-2 : goal.returns-in_default-read_number-2
returns-in_default-read_number-2 c =
    bad-length _ (sym c.is_in_line.ensures ∙ c.if-not-is_in_line.false)
    _ (ap byte_read (sym c.nth_field.ensures) ∙ sym c.read_byte.ensures ∙ c.in-Some.is)
    _ (ap number_read (sym c.nth_field-2.ensures) ∙ sym c.read_number.ensures ∙ c.in-Some-read_number.is)
    (ap number_read (sym c.nth_field-3.ensures) ∙ sym c.read_number-2.ensures ∙ c.in_default-read_number-2.is)

pub returns-in_default-read_byte : goal.returns-in_default-read_byte
returns-in_default-read_byte c =
    bad-digest _ (sym c.is_in_line.ensures ∙ c.if-not-is_in_line.false)
    _ (ap byte_read (sym c.nth_field.ensures) ∙ sym c.read_byte.ensures ∙ c.in-Some.is)
    _ (ap number_read (sym c.nth_field-2.ensures) ∙ sym c.read_number.ensures ∙ c.in-Some-read_number.is)
    _ (ap number_read (sym c.nth_field-3.ensures) ∙ sym c.read_number-2.ensures ∙ c.in-Some-read_number-2.is)
    (ap byte_read (sym c.nth_field-4.ensures) ∙ sym c.read_byte-2.ensures ∙ c.in_default-read_byte.is)

pub returns-in_err-path : goal.returns-in_err-path
returns-in_err-path c =
    let e : c.from_residual.result ≡ Err c.in_err-path.field-0.0 = search (rules, tests) in
    e ∙ bad-path _ (sym c.is_in_line.ensures ∙ c.if-not-is_in_line.false)
    _ (ap byte_read (sym c.nth_field.ensures) ∙ sym c.read_byte.ensures ∙ c.in-Some.is)
    _ (ap number_read (sym c.nth_field-2.ensures) ∙ sym c.read_number.ensures ∙ c.in-Some-read_number.is)
    _ (ap number_read (sym c.nth_field-3.ensures) ∙ sym c.read_number-2.ensures ∙ c.in-Some-read_number-2.is)
    _ (ap byte_read (sym c.nth_field-4.ensures) ∙ sym c.read_byte-2.ensures ∙ c.in-Some-read_byte.is)
    _ (ap path_field (sym c.nth_field-5.ensures) ∙ sym c.read_path.ensures ∙ c.in_err-path.was)

pub returns : goal.returns
returns c =
    read-good _ (sym c.is_in_line.ensures ∙ c.if-not-is_in_line.false)
    _ (ap byte_read (sym c.nth_field.ensures) ∙ sym c.read_byte.ensures ∙ c.in-Some.is)
    _ (ap number_read (sym c.nth_field-2.ensures) ∙ sym c.read_number.ensures ∙ c.in-Some-read_number.is)
    _ (ap number_read (sym c.nth_field-3.ensures) ∙ sym c.read_number-2.ensures ∙ c.in-Some-read_number-2.is)
    _ (ap byte_read (sym c.nth_field-4.ensures) ∙ sym c.read_byte-2.ensures ∙ c.in-Some-read_byte.is)
    _ (ap path_field (sym c.nth_field-5.ensures) ∙ sym c.read_path.ensures ∙ c.in_ok-path.was)
