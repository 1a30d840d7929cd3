-- `interest_time` meets its contract: by the marks of what matches. Assumes nothing.
use Rattle.tree.specs.Matching.{in_area, listed_in_area}
use Rattle.tree.proofs.FormedContents.{formed-many}
use Rattle.tree.proofs.TestLaws.{unflagged-area}
use Rattle.query.proofs.MarkedLaws.{interest-marked}
use Rattle.query.proofs.interest.interest_time.Goals as goal

pub returns : goal.returns
returns c = λ ns. interest-marked (listed_in_area c.args.aoi.area c.no_flags.result) _ c.args.tree.count (formed-many c.requires.0 ns) _ _ (c.mark_area.ensures ns) (in_area c.args.aoi.area) (unflagged-area c.no_flags.result c.no_flags.ensures c.args.aoi.area) _ _ _ _ (c.interest_start.ensures ns)
