-- `next_in` meets its contract: by the marks of what matches, from the first key above the remembered one on. Assumes nothing.
use Rattle.tree.proofs.FormedContents.{formed-many}
use Rattle.query.proofs.StepLaws.{step-place}
use Rattle.tree.proofs.FormedLaws.{ordered-searchable}
use Rattle.query.proofs.step.next_in.Goals as goal

pub place_above-requires : goal.place_above-requires
place_above-requires g c = ordered-searchable c.requires.1

pub returns : goal.returns
returns g c =
    λ ns.
    step-place ns (g.G.Grouping.lists c.args.group c.args.ignore) c.args.last.now _ (rw c.requires.0 at c.requires.1).ascends c.args.tree.count (formed-many (rw c.requires.0 at c.requires.1).formed ns) _ _ (rw c.requires.0 at c.mark.ensures ns) _ c.place_above.ensures.0 _ c.first_marked.ensures
