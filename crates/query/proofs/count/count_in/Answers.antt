-- `count_in` meets its contract: by the marks of what matches. Assumes nothing.
use Rattle.tree.proofs.FormedContents.{formed-many}
use Rattle.query.proofs.MarkedLaws.{count-marked}
use Rattle.query.proofs.count.count_in.Goals as goal

pub returns : goal.returns
returns g c = λ ns. count-marked (g.G.Grouping.lists c.args.group c.no_flags.result) _ c.args.tree.count (formed-many c.requires.0 ns) _ _ (c.mark.ensures ns) (g.G.Grouping.includes c.args.group) (g.met.G.Grouping.unflagged c.args.group c.no_flags.result c.no_flags.ensures) _ c.count_marked.ensures
