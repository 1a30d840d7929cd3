-- `may_cover` meets its contract. Assumes nothing.
use mathlib.Core.Path.{◌∙◌, ap}
use mathlib.Core.Bool.{true, false, not}
use Rattle.laws.specs.Order.{is_greater}
use Rattle.laws.proofs.Truth.{not-true}
use Rattle.data_model.proofs.Answers.{ranked-newer}
use Rattle.tree.proofs.RankLaws.{other-address, not-newer}
use Rattle.tree.proofs.stored.Tree.may_cover.Goals as goal
use Rattle.tree.proofs.stored.Tree.may_cover.Goals.{in-Newer, in_default}

pub returns-after-matches : goal.returns-after-matches
unfolding is_greater
returns-after-matches c =
    let other = other-address _ _ _ _ c.address_at.ensures c.address_at-2.ensures _ c.same.ensures (not-true _ c.if-not-same.true-raw) _ in
    elim c.match-matches.branch [
      | in-Newer w ↦ ap not w.matches-is ∙ other true (ap is_greater (ranked-newer _ _ c.compare_records.ensures w.in-Newer.is))
      | in_default w ↦ ap not w.matches-is ∙ other false (not-newer _ _ c.compare_records.ensures w.in_default.not-Newer)
    ]
