-- The form of a path: `-` for the empty one, else components joined by `/`, each `.` if it is empty, else two hex digits a byte.
use Rattle.std.specs.Prelude.{ℕ, ◌≡◌, List, [], ◌∷◌, map, Bool, true, false, cond, ◌&&◌, ◌||◌, length, eqb, ltb, Option, Some, None, Result, Ok, Err}
use Rattle.laws.specs.Lists.{put}
use Rattle.laws.specs.Sorted.{all}
use Rattle.data_model.specs.Path.{field, Components, is_path, path_of}
use Rattle.key_laws.proofs.Fits.{fitting}
use Rattle.text.specs.Hex.{is_hex, hex_of}
use Rattle.text.specs.Fields.{fields}
use Rattle.data_model.specs.declared.path.Path.{Path}
use Rattle.text.specs.declared.path.FieldError.{FieldError}
use Rattle.text.specs.declared.path.FieldError.TheVariants.{Illegal, Bad}

-- `-`, `.` and `/`.
abbrev pub dash : ℕ
dash = 45

abbrev pub dot : ℕ
dot = 46

abbrev pub slash : ℕ
slash = 47

-- A field of one byte, and that one.
unfoldable pub is_only : ℕ → List ℕ → Bool
is_only b [] = false
is_only b (a ∷ []) = eqb a b
is_only b (a ∷ c ∷ s) = false

-- A component: `.`, or at least one byte. Its bytes are those of its digits, which `.` has none of.
unfoldable pub is_component_field : List ℕ → Bool
is_component_field f = is_only dot f || (ltb 0 (length f) && is_hex f)

unfoldable pub is_path_field : List ℕ → Bool
is_path_field s = is_only dash s || all is_component_field (fields slash s)

unfoldable pub components_of : List ℕ → Components
components_of s = cond (is_only dash s) [] (map hex_of (fields slash s))

-- The answer: the path that is handed out for these components; `Illegal` outside the bounds of a path, `Bad` where the form
-- is another.
unfoldable pub placed : Bool → Components → Result Path FieldError
placed true cs = Ok (path_of cs)
placed false cs = Err Illegal

unfoldable pub path_field : List ℕ → Result Path FieldError
path_field s = cond (is_path_field s) (placed (is_path field (components_of s)) (components_of s)) (Err Bad)

-- Whether the components of a field fit: so many bytes and components at most.
abbrev pub fields_fit : ℕ → ℕ → List ℕ → Bool
fields_fit room n s = fitting field.mcl room n (map hex_of (fields slash s))

unfoldable pub counted : Bool → ℕ → Option ℕ
counted true n = Some n
counted false n = None

-- The buffer has xs at its front, if they fit.
abbrev pub PutIf : Bool → List ℕ → List ℕ → List ℕ → Type 0
PutIf true xs old new = new ≡ put xs old
PutIf false xs old new = Unit
