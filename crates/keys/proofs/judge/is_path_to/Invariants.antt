-- `is_path_to` meets its contract. The invariant: what is left to walk decides. Assumes nothing.
use Prim.Native.Nat.{◌+◌, ◌-◌}
use Rattle.data_model.specs.Path.{field}
use Rattle.keys.specs.Decode.{read_path}
use Rattle.keys.specs.Judge.{takes}
use Rattle.keys.proofs.Exact.{Judged}
use Rattle.keys.proofs.judge.is_path_to.Given as goal

abbrev pub invariant-loop-at : goal.invariant-loop-at
invariant-loop-at l = Judged field.mcl field.mpl field.mcc l.stop l.k (takes (l.stop + 2) (read_path field l.k)) l.at l.len l.total l.ends

abbrev pub decreases-loop-at : goal.decreases-loop-at
decreases-loop-at l = l.stop - l.at
