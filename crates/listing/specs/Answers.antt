-- The answers to lines, each carried out on what the one before it left, as one text; and that text in a buffer.
use Rattle.std.specs.Prelude.{ℕ, ◌+◌, List, [], ◌∷◌, ◌++◌, length, take}
use Rattle.laws.specs.Lists.{put}
use Rattle.data_model.specs.Path.{Figures}
use Rattle.text.specs.EntryLine.{line_most}
use Rattle.listing.specs.Input.{ended_lines, begun_line}
use Rattle.listing.specs.Carry.{line_carried, Left, leaving, left_in, lines_carried}
use Rattle.listing.specs.Say.{answer_text}
use Rattle.listing.specs.declared.answer.Answered.{Answered}
use Rattle.listing.specs.declared.answer.Part.{Part}

unfoldable pub answers_text : Figures → Left → List (List ℕ) → List ℕ
answers_text f w [] = []
answers_text f w (l ∷ ls) =
    answer_text (line_carried f w.tallied w.prune l).answer ++ answers_text f (left_in (line_carried f w.tallied w.prune l)) ls

-- Lines answered into a buffer: what they leave, how many bytes their answers have, and the buffer with these at its front.
pub record Written : Type 0 where
  pub left : Left
  pub written : ℕ
  pub out : List ℕ

abbrev pub lines_written : Figures → Left → List (List ℕ) → (out : List ℕ) → Written
lines_written f w ls out = record { left = lines_carried f w ls; written = length (answers_text f w ls); out = put (answers_text f w ls) out }

abbrev pub as_written : Answered → (spt spt_dir tsp tsp_dir tally prune out : List ℕ) → Written
as_written r a b c d t prune out = record { left = leaving r.state a b c d t prune; written = r.written; out = out }

-- The most bytes that are kept of a line that has begun: one more than the longest line has. A line that is cut there is too long all the same.
abbrev pub kept_most : ℕ
kept_most = line_most + 1

-- A part of the input answered: the lines whose newline stands in it, and as much as is kept of the next.
pub record WrittenPart : Type 0 where
  pub answers : Written
  pub line : List ℕ

abbrev pub part_written : Figures → Left → (line bytes out : List ℕ) → WrittenPart
part_written f w line bytes out = record { answers = lines_written f w (ended_lines line bytes) out; line = take kept_most (begun_line line bytes) }

abbrev pub as_written_part : Part → (spt spt_dir tsp tsp_dir tally prune line out : List ℕ) → WrittenPart
as_written_part r a b c d t prune line out = record {
  answers = record { left = leaving r.state a b c d t prune; written = r.written; out = out };
  line = take r.kept line;
}
