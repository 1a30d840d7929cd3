-- `compare_components` meets its contract: what is left of both compares as the whole does. Assumes nothing.
use Rattle.data_model.proofs.Compare.{Comparing}
use Rattle.data_model.proofs.checked.compare_components.Given as goal

abbrev pub invariant-loop-i : goal.invariant-loop-i
invariant-loop-i l = Comparing l.a l.a_ends l.b l.b_ends l.i l.a_from l.b_from
