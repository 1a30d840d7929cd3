-- `is_at` meets its contract: records of one time, place and value say the same. Assumes nothing.
use mathlib.Core.Path.{◌∙◌, sym}
use native.Mathlib.Omega.{arith}
use Rattle.tree.proofs.ClearLaws.{agree}
use Rattle.tree.proofs.FormedLaws.{formed-readable, formed-bounds}
use Rattle.tree.proofs.stored.Tree.is_at.Goals as goal

pub time_at-requires : goal.time_at-requires
time_at-requires c = formed-readable c.requires.0 _ c.requires.2

pub time_at-requires-else-other-j : goal.time_at-requires-else-other-j
time_at-requires-else-other-j c = formed-readable c.requires.1 _ (omega arith)

pub address_at-requires : goal.address_at-requires
address_at-requires c = formed-readable c.requires.0 _ c.requires.2

pub address_at-requires-2 : goal.address_at-requires-2
address_at-requires-2 c = formed-readable c.requires.1 _ (omega arith)

pub value_at-requires : goal.value_at-requires
value_at-requires c = formed-bounds c.requires.1 _ (omega arith)

pub value_at-requires-then-same : goal.value_at-requires-then-same
value_at-requires-then-same c = formed-bounds c.requires.0 _ c.requires.2

pub returns-then-same : goal.returns-then-same
returns-then-same c = λ ns t. agree c.requires.0 c.requires.1 c.args.self.fits c.args.other.fits ns c.args.k c.args.j c.requires.2 (omega arith) _ _ c.time_at.ensures c.time_at-else-other-j.ensures (omega arith) _ _ c.address_at.ensures c.address_at-2.ensures (sym c.same.ensures ∙ c.if-same.true) _ _ c.value_at.ensures c.value_at-then-same.ensures (sym c.same-then-same.ensures ∙ t)
