-- `all_digits` meets its contract. Assumes nothing.
use Rattle.std.proofs.Common.{◌∙◌, rules, tests}
use Rattle.std.proofs.lemmas.Iterator.{YieldsList-from_slice}
use Rattle.std.proofs.lemmas.Iterator.Search.{all_from_yields_List}
use Rattle.text.specs.Hex.{is_digit}
use Rattle.text.proofs.Lists.{all-list}
use Rattle.text.proofs.hex.all_digits.Goals as goal

pub returns : goal.returns
unfolding is_digit
returns c =
    all_from_yields_List _ _ _ _ c.all.ensures.ran (YieldsList-from_slice c.args.s.now cc) (λ x b q k. search (rules, tests))
    ∙ all-list (is_digit c.args.base) c.args.s.now
