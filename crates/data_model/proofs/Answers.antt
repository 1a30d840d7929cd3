-- Laws of what the data model's answers say. Assumes nothing.
use mathlib.Core.Path.{◌≡◌, sym, ap, ◌∙◌}
use Rattle.laws.specs.Order.{Order, less, same, greater}
use Rattle.data_model.specs.Refusal.{recency_says}
use Rattle.data_model.specs.declared.answer.Recency.{Recency}
use Rattle.data_model.specs.declared.answer.Recency.TheVariants as recency

-- What an answered recency says of the comparison of ranks.
module _ (o : Order) (r : Recency) (e : recency_says r ≡ o) where
  pub ranked-newer : r ≡ recency.Newer → o ≡ greater
  ranked-newer f = sym e ∙ ap recency_says f

  pub ranked-older : r ≡ recency.Older → o ≡ less
  ranked-older f = sym e ∙ ap recency_says f

  pub ranked-same : r ≡ recency.Same → o ≡ same
  ranked-same f = sym e ∙ ap recency_says f
