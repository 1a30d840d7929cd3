-- `legal_ends` meets its contract: what is left of the ends is as legal as the whole. Assumes nothing.
use mathlib.Core.Path.{◌≡◌}
use lib.ListN.{drop}
use Rattle.data_model.specs.Path.{legal_ends}
use Rattle.data_model.proofs.path.legal_ends.Given as goal

abbrev pub invariant-loop-end : goal.invariant-loop-end
invariant-loop-end l = legal_ends l.mcl l.mpl 0 l.ends ≡ legal_ends l.mcl l.mpl l.from (drop l.end-index l.ends)
