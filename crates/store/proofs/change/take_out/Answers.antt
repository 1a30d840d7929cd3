-- `take_out` meets its contract. Assumes nothing.
use borrow.Author.Rules.{rules}
use Rattle.tree.proofs.FormedLaws.{whole-editable}
use Rattle.store.proofs.ChangeLaws.{dropped}
use Rattle.store.proofs.change.take_out.Goals as goal

pub retain-requires : goal.retain-requires
retain-requires c = (whole-editable c.requires.0, (search rules))

pub returns : goal.returns
returns c = λ ns. let m = c.mark in let r = c.retain in dropped c.requires.0 (λ i. (c.slice_known-1.given i).fits) ns _ _ _ (m.ensures ns) r.result r.new.dir r.new.tree r.ensures.left r.ensures.bytes r.ensures.numbers
