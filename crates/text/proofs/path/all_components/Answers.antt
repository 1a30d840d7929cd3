-- `all_components` meets its contract. Assumes nothing.
use mathlib.Core.Path.{ap}
use Rattle.std.proofs.Common.{◌∙◌, rules, tests}
use Rattle.std.proofs.lemmas.Iterator.Splits.{YieldsList-from_slice_split}
use Rattle.std.proofs.lemmas.Iterator.Search.{all_from_yields_List}
use lib.Dec.{eqb}
use Rattle.laws.specs.Sorted.{all}
use Rattle.text.specs.PathField.{slash, is_component_field}
use Rattle.text.proofs.Lists.{all-list}
use Rattle.text.proofs.FieldLaws.{fields-split}
use Rattle.text.proofs.path.all_components.Goals as goal

pub returns : goal.returns
returns c =
    let s = c.args.s.now in
    all_from_yields_List _ _ _ _ c.all.ensures.ran
    (YieldsList-from_slice_split _ (λ b. eqb b slash) s c.split.ensures.rest c.split.ensures.done c.split.ensures.closure (λ x b q k. search (rules, tests)))
    (λ x b q k. search (rules, tests))
    ∙ all-list is_component_field _
    ∙ ap (all is_component_field) (fields-split slash s)
