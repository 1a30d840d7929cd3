-- A line of the listing program: `in S P T L D`, single spaces between, at most 1,024 bytes. The form of the whole line comes first:
-- only a line that is right in all six fields is refused for its path.
use Rattle.std.specs.Prelude.{ℕ, ◌+◌, List, [], ◌∷◌, ◌++◌, Bool, cond, ◌&&◌, length, get_or, eqb, leb, Option, Some, None, Result, Ok, Err}
use Rattle.laws.specs.Prefix.{same_number, same_list}
use Rattle.data_model.specs.Path.{Components}
use Rattle.data_model.specs.declared.path.Path.{Path}
use Rattle.text.specs.Hex.{byte_read, hex_byte}
use Rattle.text.specs.Decimal.{number_read, decimal_text}
use Rattle.text.specs.Fields.{fields}
use Rattle.text.specs.PathField.{path_field}
use Rattle.text.specs.PathText.{path_text, path_text_most}
use Rattle.text.specs.declared.path.FieldError.{FieldError}
use Rattle.text.specs.declared.path.FieldError.TheVariants.{Bad}
use Rattle.text.specs.declared.entry_line.EntryLine.{EntryLine}

-- The most bytes of a line; ` `; and `in`.
abbrev pub line_most : ℕ
line_most = 1024

abbrev pub space : ℕ
space = 32

abbrev pub in_word : List ℕ
in_word = 105 ∷ 110 ∷ []

-- A field's value goes on into the entry; a field of another form makes the line one.
abbrev pub with_value : Option ℕ → (ℕ → Result EntryLine FieldError) → Result EntryLine FieldError
with_value (Some n) go = go n
with_value None go = Err Bad

-- A path outside its bounds makes the line illegal, and one of another form makes the line one.
abbrev pub with_path : Result Path FieldError → (Path → EntryLine) → Result EntryLine FieldError
with_path (Ok p) go = Ok (go p)
with_path (Err why) go = Err why

abbrev pub entry_line : (subspace : ℕ) → Path → (timestamp payload_length digest : ℕ) → EntryLine
entry_line s p t l d = record { subspace = s; path = p; timestamp = t; payload_length = l; digest = d }

-- The path is asked last: it alone can be of the form and outside the bounds.
unfoldable pub entry_read : (subspace : Option ℕ) → Result Path FieldError → (timestamp payload_length digest : Option ℕ) → Result EntryLine FieldError
entry_read s p t l d =
    with_value s (λ s. with_value t (λ t. with_value l (λ l. with_value d (λ d. with_path p (λ p. entry_line s p t l d)))))

-- The k-th field of a line, from 0.
abbrev pub field_at : ℕ → List ℕ → List ℕ
field_at k s = get_or (fields space s) k []

-- Six fields, the first of them `in`, in a line that is not too long.
unfoldable pub is_in_line : List ℕ → Bool
is_in_line s = leb (length s) line_most && (eqb (length (fields space s)) 6 && same_list same_number (field_at 0 s) in_word)

unfoldable pub line_read : List ℕ → Result EntryLine FieldError
line_read s =
    cond (is_in_line s)
    (entry_read (byte_read (field_at 1 s)) (path_field (field_at 2 s)) (number_read (field_at 3 s)) (number_read (field_at 4 s)) (byte_read (field_at 5 s)))
    (Err Bad)

-- An entry listed: `S P T L D`.
unfoldable pub rank_text : (timestamp payload_length digest : ℕ) → List ℕ
rank_text t l d = decimal_text t ++ space ∷ (decimal_text l ++ space ∷ hex_byte d)

unfoldable pub listed_text : (subspace : ℕ) → Components → (timestamp payload_length digest : ℕ) → List ℕ
listed_text s cs t l d = hex_byte s ++ space ∷ (path_text cs ++ space ∷ rank_text t l d)

-- The most bytes of it: two numbers of 20 digits, two bytes of 2, four spaces, and the path.
abbrev pub rank_text_most : ℕ
rank_text_most = 20 + 1 + 20 + 1 + 2

abbrev pub listed_text_most : ℕ
listed_text_most = 2 + 1 + path_text_most + 1 + rank_text_most
