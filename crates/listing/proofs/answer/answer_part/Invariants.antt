-- `answer_part` meets its contract, a line each turn. The invariant: what is left of the part gives the rest of what it leaves and prints, and every buffer keeps its length. Assumes nothing.
use Prim.Native.Nat.{◌+◌, ◌-◌, ◌*◌, ◌≤◌}
use mathlib.Core.Path.{◌≡◌}
use lib.ListN.{length, take, drop}
use Rattle.text.specs.Fields.{front}
use Rattle.listing.specs.Input.{newline}
use Rattle.listing.specs.Carry.{leaving}
use Rattle.listing.specs.Say.{answer_text_most}
use Rattle.listing.specs.Answers.{kept_most}
use Rattle.listing.proofs.AnswerLaws.{Answering}
use Rattle.listing.proofs.answer.answer_part.Given as goal

abbrev pub invariant-loop-stop : goal.invariant-loop-stop
invariant-loop-stop l =
    (l.stop ≡ l.at + length (front newline (drop l.at l.bytes))) × (l.stop ≤ length l.bytes) × (l.n ≤ kept_most) × (length l.line ≡ kept_most) × (l.to + answer_text_most * (length l.bytes - l.at) ≤ length l.out) × (length l.spt ≡ length l.initial.spt) × (length l.spt_dir ≡ length l.initial.spt_dir) × (length l.tsp ≡ length l.initial.tsp) × (length l.tsp_dir ≡ length l.initial.tsp_dir) × (length l.tally ≡ length l.initial.tally) × (length l.prune ≡ length l.initial.prune) × (length l.out ≡ length l.initial.out) × Answering (leaving l.initial.state l.initial.spt l.initial.spt_dir l.initial.tsp l.initial.tsp_dir l.initial.tally l.initial.prune) (take l.so_far l.initial.line) l.bytes l.initial.out (leaving l.state l.spt l.spt_dir l.tsp l.tsp_dir l.tally l.prune) (take l.n l.line) (drop l.at l.bytes) l.out l.to

abbrev pub decreases-loop-stop : goal.decreases-loop-stop
decreases-loop-stop l = length l.bytes - l.at
