-- `is_record` meets its contract: too short, no key before its value, or what its value says. Assumes nothing.
use mathlib.Core.Path.{◌∙◌, sym, ap}
use mathlib.Core.List.{List}
use Prim.Native.Nat.{ℕ}
use Rattle.data_model.specs.Path.{field}
use Rattle.tree.specs.Value.{read_value, is_value}
use Rattle.tree.specs.Stored.{is_key}
use Rattle.tree.proofs.RecordParts.{record-short, record-keyless, record-keyed}
use Rattle.tree.proofs.stored.is_record.Goals as goal

pub returns-then-rec-lt-VALUE : goal.returns-then-rec-lt-VALUE
returns-then-rec-lt-VALUE c = record-short _ field _ c.if-rec-lt-VALUE.true

pub returns-then-is_key : goal.returns-then-is_key
returns-then-is_key c =
    let a = c.args in
    c.is_value.ensures
    ∙ ap (λ (b : List ℕ). is_value (read_value b)) c.split_at.ensures.back
    ∙ record-keyed a.order field a.rec.now c.if-rec-lt-VALUE.false (sym (ap (is_key a.order field) c.split_at.ensures.front) ∙ sym c.is_key.ensures ∙ c.if-is_key.true)

pub returns-else-is_key : goal.returns-else-is_key
returns-else-is_key c =
    let a = c.args in
    c.if-is_key.false
    ∙ record-keyless a.order field a.rec.now c.if-rec-lt-VALUE.false (sym (ap (is_key a.order field) c.split_at.ensures.front) ∙ sym c.is_key.ensures ∙ c.if-is_key.false)
