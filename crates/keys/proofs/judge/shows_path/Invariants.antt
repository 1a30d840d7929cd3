-- `shows_path` meets its contract. The invariant: what stands before the place, whether or not a token ends there. Assumes nothing.
use Rattle.data_model.specs.Path.{field}
use Rattle.keys.specs.Decode.{read_path}
use Rattle.keys.specs.Judge.{takes}
use Rattle.keys.proofs.Stretches.{Showing}
use Rattle.keys.proofs.judge.shows_path.Given as goal

abbrev pub invariant-loop-left : goal.invariant-loop-left
invariant-loop-left l = Showing field.mcl field.mpl field.mcc l.k (takes l.n (read_path field l.k)) l.stop l.at l.left l.len l.others l.ends

abbrev pub decreases-loop-left : goal.decreases-loop-left
decreases-loop-left l = l.left
