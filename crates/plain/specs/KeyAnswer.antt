-- Answers about keys' bytes in plain values: their number, which is the refusal's or 0, and their values; what an answer does not have is 0.
use Rattle.std.specs.Prelude.{ℕ, Bool, true, false, []}
use Rattle.data_model.specs.Said.{Said, refuses, says, number_of}
use Rattle.data_model.specs.Path.{path_of}
use Rattle.data_model.specs.Subspace.{first_subspace}
use Rattle.keys.specs.Decode.{Step, component, end_of_path}
use Rattle.keys.specs.declared.decode.EntryKey.{EntryKey}
use Rattle.keys.specs.declared.decode.PathRead.{PathRead}
use Rattle.key_reader.specs.Reader.{StepSaid}
use Rattle.plain.specs.declared.key_answer.PlainEncoded.{PlainEncoded}
use Rattle.plain.specs.declared.key_answer.PlainDecoded.{PlainDecoded}
use Rattle.plain.specs.declared.key_answer.PlainPathRead.{PlainPathRead}
use Rattle.plain.specs.declared.key_answer.PlainStepped.{PlainStepped}

-- A key written: its length, or the refusal.
abbrev pub plain_encoded : Said ℕ → PlainEncoded
plain_encoded (says n) = record { refusal = 0; length = n }
plain_encoded (refuses n) = record { refusal = n; length = 0 }

-- What a key stands for, or the refusal.
abbrev pub plain_decoded : Said EntryKey → PlainDecoded
plain_decoded (says k) = record { refusal = 0; subspace = k.subspace; path = k.path; timestamp = k.timestamp }
plain_decoded (refuses n) = record { refusal = n; subspace = first_subspace; path = path_of []; timestamp = 0 }

-- A path and the position behind it, or the refusal.
abbrev pub plain_path_read : Said PathRead → PlainPathRead
plain_path_read (says r) = record { refusal = 0; path = r.path; next = r.next }
plain_path_read (refuses n) = record { refusal = n; path = path_of []; next = 0 }

-- A reader's step: a component and its length, the path's end, or the refusal; the position in them is the step's own.
abbrev pub is_component : Said Step → Bool
is_component (says (component len n)) = true
is_component (says (end_of_path n)) = false
is_component (refuses k) = false

abbrev pub component_length : Said Step → ℕ
component_length (says (component len n)) = len
component_length (says (end_of_path n)) = 0
component_length (refuses k) = 0

-- The whole answer of a step.
abbrev pub plain_stepped : StepSaid → PlainStepped
plain_stepped s = record {
  refusal = number_of s.component.next;
  component = is_component s.component.next;
  length = component_length s.component.next;
  bytes = s.component.bytes;
  position = s.position;
  left = s.left;
}
