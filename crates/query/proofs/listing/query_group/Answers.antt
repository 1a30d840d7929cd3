-- `query_group` meets its contract: the part lies where the step says. Assumes nothing.
use mathlib.Core.Path.{◌∙◌, ap}
use Rattle.std.proofs.Common.{List, ℕ}
use Rattle.std.proofs.Math.Option.{some}
use Rattle.data_model.specs.Said.{says}
use Rattle.store.specs.Lent.{lent}
use Rattle.query.proofs.GivenLaws.{part_inside, given_some}
use Rattle.query.proofs.listing.query_group.Goals as goal

pub part_of-requires : goal.part_of-requires
part_of-requires g c = part_inside (lent c.args.store) (g.G.Grouping.legal c.args.group) (g.G.Grouping.lists c.args.group c.args.ignore) c.args.last.now c.in-Some.part (rw c.in-Some.is at c.in_ok-part.ensures)

pub returns-in-Some-clause-record : goal.returns-in-Some-clause-record
returns-in-Some-clause-record g c =
    ap (λ (r : List ℕ). says (some r)) c.part_of.ensures.result_value
    ∙ given_some (lent c.args.store) (g.G.Grouping.legal c.args.group) (g.G.Grouping.lists c.args.group c.args.ignore) c.args.last.now c.in-Some.part (rw c.in-Some.is at c.in_ok-part.ensures)
