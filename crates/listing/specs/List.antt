-- What is printed at the end: `list` and the count, then the entries that the store holds, in key order, one a line.
use Rattle.std.specs.Prelude.{ℕ, ◌+◌, ◌*◌, List, [], ◌∷◌, ◌++◌, length}
use Rattle.data_model.specs.Path.{path_of}
use Rattle.data_model.specs.declared.area.Area.{Area}
use Rattle.data_model.specs.declared.area.AreaSubspace.TheVariants.{Any}
use Rattle.data_model.specs.declared.range.RangeEnd.TheVariants.{Open}
use Rattle.tree.specs.Stored.{Stored}
use Rattle.text.specs.EntryLine.{space, listed_text_most}
use Rattle.listing.specs.Input.{newline}
use Rattle.listing.specs.Say.{number_most, numbered, entry_text}

-- `list `.
abbrev pub list_word : List ℕ
list_word = 108 ∷ 105 ∷ 115 ∷ 116 ∷ space ∷ []

unfoldable pub entry_lines : List Stored → List ℕ
entry_lines [] = []
entry_lines (x ∷ l) = entry_text x.entry ++ newline ∷ entry_lines l

unfoldable pub list_text : List Stored → List ℕ
list_text l = numbered list_word (length l) ++ entry_lines l

-- The most bytes of an entry's line, and of a list of so many entries.
abbrev pub entry_line_most : ℕ
entry_line_most = listed_text_most + 1

abbrev pub list_text_most : ℕ → ℕ
list_text_most n = 5 + number_most + entry_line_most * n

-- The area that includes every entry.
abbrev pub every_entry : Area
every_entry = record { subspace = Any; path = path_of []; times = record { start = 0; end = Open } }
