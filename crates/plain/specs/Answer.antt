-- Answers in plain values: their number, which is the refusal's or 0, and their values; what an answer does not have is 0.
use Rattle.std.specs.Prelude.{Bool, false, true, [], Option, Some, None}
use Rattle.laws.specs.Order.{Order, is_less, is_greater}
use Rattle.data_model.specs.Said.{Said, refuses, says}
use Rattle.data_model.specs.Path.{path_of}
use Rattle.data_model.specs.declared.path.Path.{Path}
use Rattle.query.specs.Count.{Counted}
use Rattle.plain.specs.declared.answer.PlainAnswer.{PlainAnswer}
use Rattle.plain.specs.declared.answer.PlainCompared.{PlainCompared}
use Rattle.plain.specs.declared.answer.PlainEntriesCompared.{PlainEntriesCompared}
use Rattle.plain.specs.declared.answer.PlainAbove.{PlainAbove}
use Rattle.plain.specs.declared.answer.PlainListed.{PlainListed}
use Rattle.plain.specs.declared.answer.PlainCounted.{PlainCounted}

-- A question: yes, no, or the refusal.
abbrev pub plain_answer : Said Bool → PlainAnswer
plain_answer (says holds) = record { refusal = 0; yes = holds }
plain_answer (refuses n) = record { refusal = n; yes = false }

-- A comparison: less, equal (neither), greater, or the refusal.
abbrev pub plain_compared : Said Order → PlainCompared
plain_compared (says o) = record { refusal = 0; less = is_less o; greater = is_greater o }
plain_compared (refuses n) = record { refusal = n; less = false; greater = false }

-- A comparison of two entries: newer, older, the same (neither), or the refusal.
abbrev pub plain_entries_compared : Said Order → PlainEntriesCompared
plain_entries_compared (says o) = record { refusal = 0; newer = is_greater o; older = is_less o }
plain_entries_compared (refuses n) = record { refusal = n; newer = false; older = false }

-- The least path above what a path prefixes: whether there is one, and it; or the refusal. Where there is none the path is that of no components.
abbrev pub plain_above : Said (Option Path) → PlainAbove
plain_above (says (Some p)) = record { refusal = 0; found = true; path = p }
plain_above (says None) = record { refusal = 0; found = false; path = path_of [] }
plain_above (refuses n) = record { refusal = n; found = false; path = path_of [] }

-- A step of a listing: whether it gave a record, being else finished; or the refusal.
abbrev pub plain_listed : Said Bool → PlainListed
plain_listed (says found) = record { refusal = 0; found = found }
plain_listed (refuses n) = record { refusal = n; found = false }

-- A count, or the refusal.
abbrev pub plain_counted : Counted → PlainCounted
plain_counted c = record { refusal = c.refusal; count = c.count }
