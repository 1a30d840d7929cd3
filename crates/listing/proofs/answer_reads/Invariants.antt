-- The invariant: reads led to what there is, and the buffers of the line, of a read and of the answers keep their lengths.
use Rattle.std.proofs.Common.{◌≡◌, ◌≤◌, length, take}
use Rattle.listing.specs.Carry.{leaving}
use Rattle.listing.specs.Answers.{kept_most}
use Rattle.listing.specs.Program.{read_most, ByReads}
use Rattle.listing.proofs.answer_reads.Given as goal

abbrev pub invariant-loop : goal.invariant-loop
invariant-loop g l =
    (l.kept ≤ kept_most)
    × (length l.line ≡ kept_most)
    × (length l.input ≡ read_most)
    × (length l.out ≡ length l.initial.out)
    × ByReads
    (leaving l.initial.state l.initial.spt l.initial.spt_dir l.initial.tsp l.initial.tsp_dir l.initial.tally l.initial.prune)
    (leaving l.state l.spt l.spt_dir l.tsp l.tsp_dir l.tally l.prune)
    (take l.kept l.line)
