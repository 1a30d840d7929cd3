-- What a reader takes: its position after a component, and the path that it takes component by component.
use Rattle.std.specs.Prelude.{ℕ, zero, suc, ◌-◌, List, [], ◌∷◌, cond, length, take, drop, leb}
use Rattle.data_model.specs.Path.{field, Components}
use Rattle.data_model.specs.Said.{Said, refuses, says}
use Rattle.keys.specs.Decode.{Taken, refused, took, more, Step, component, end_of_path, StepRead, component_says, component_read}
use Rattle.key_reader.specs.declared.Stepped.{Stepped}

-- Behind the component or the path's end; a refusal takes nothing.
abbrev pub behind_next : Said Step → ℕ → ℕ
behind_next (says (component len n)) at = n
behind_next (says (end_of_path n)) at = n
behind_next (refuses k) at = at

unfoldable pub behind : StepRead → ℕ → ℕ
behind c at = behind_next c.next at

-- What a reader's step says: the component or the path's end, its position behind it, and how many bytes are left.
pub record StepSaid : Type 0 where
  pub component : StepRead
  pub position : ℕ
  pub left : ℕ

unfoldable pub stepped_says : Stepped → StepSaid
stepped_says s = record { component = component_says s.component; position = s.position; left = s.left }

-- What a reader takes at a position of a key.
unfoldable pub stepped : (at : ℕ) → List ℕ → StepSaid
stepped at k =
    let c = component_read field at (drop at k) in
    record { component = c; position = behind c at; left = length (drop (behind c at) k) }

-- How a path goes on that has room bytes left, after a step that used so many.
abbrev pub onward : (room used : ℕ) → Said Step → List ℕ → (ℕ → Taken Components) → Taken Components
onward room used (says (component len n)) bytes on = cond (leb len room) (more (take len bytes ∷◌) used (on (room - len))) refused
onward room used (says (end_of_path n)) bytes on = took [] used
onward room used (refuses k) bytes on = refused

-- From the position behind the step.
unfoldable pub take_on : (room at : ℕ) → StepSaid → (ℕ → ℕ → Taken Components) → Taken Components
take_on room at s on = onward room (s.position - at) s.component.next s.component.bytes (λ room'. on room' s.position)

-- The path that a reader at a position takes, one step after another: at most n components, of room bytes in all.
unfoldable pub take_path : (n room at : ℕ) → List ℕ → Taken Components
take_path zero room at k = take_on room at (stepped at k) (λ room' at'. refused)
take_path (suc n) room at k = take_on room at (stepped at k) (λ room' at'. take_path n room' at' k)
