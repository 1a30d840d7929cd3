-- `well_formed` meets its contract: what is left to test says what the whole test says. Assumes nothing.
use Rattle.data_model.specs.Path.{field}
use Rattle.tree.proofs.PassLaws.{Passing}
use Rattle.tree.proofs.stored.Tree.well_formed.Given as goal

abbrev pub invariant-loop-k : goal.invariant-loop-k
invariant-loop-k l = Passing l.self.order field l.self.count l.self.dir.now l.self.bytes.now l.k l.at
