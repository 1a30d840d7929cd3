-- `includes_subspace` meets its contract. Assumes nothing.
use mathlib.Core.Path.{◌∙◌, sym, ap}
use mathlib.Core.Bool.{Bool, ◌&&◌}
use Rattle.data_model.specs.Range.{subspaces_include}
use Rattle.data_model.proofs.Derived.{subspaces_included}
use Rattle.tree.proofs.selection.Selection.includes_subspace.Goals as goal

pub returns-then-includes : goal.returns-then-includes
returns-then-includes c =
    c.includes-then-includes.ensures
    ∙ subspaces_included _ _
    ∙ sym (ap (λ (b : Bool). b && subspaces_include c.args.self.subspaces c.args.subspace) (sym c.includes.ensures ∙ c.if-includes.true))
