-- The lines of an input: a line ends at a newline, which is no part of it; the last may lack one.
use Rattle.std.specs.Prelude.{ℕ, List, [], ◌∷◌, ◌++◌, cond, eqb}

abbrev pub newline : ℕ
newline = 10

-- The lines whose newline stands among the bytes. `line` is what came of the first of them before the bytes.
unfoldable pub ended_lines : (line bytes : List ℕ) → List (List ℕ)
ended_lines line [] = []
ended_lines line (b ∷ s) = cond (eqb b newline) (line ∷ ended_lines [] s) (ended_lines (line ++ b ∷ []) s)

-- What stands behind the last of these newlines: as much as has come of the next line.
unfoldable pub begun_line : (line bytes : List ℕ) → List ℕ
begun_line line [] = line
begun_line line (b ∷ s) = cond (eqb b newline) (begun_line [] s) (begun_line (line ++ b ∷ []) s)

-- At the end of the input this is a line without its newline, if it has bytes.
unfoldable pub last_line : List ℕ → List (List ℕ)
last_line [] = []
last_line (b ∷ l) = (b ∷ l) ∷ []

unfoldable pub lines_of : List ℕ → List (List ℕ)
lines_of input = ended_lines [] input ++ last_line (begun_line [] input)
