-- `read_path` meets its contract: what `read_components` filled into zeros. Assumes nothing.
use mathlib.Core.Path.{◌≡◌, sym, ap, ◌∙◌}
use mathlib.Core.Bool.{false, true}
use lib.ListN.{length-map}
use Rattle.laws.specs.Sorted.{all}
use Rattle.text.specs.Hex.{hex_of}
use Rattle.text.specs.Fields.{fields}
use Rattle.text.specs.PathField.{dash, slash, is_only, is_component_field}
use Rattle.std.specs.Prelude.{Ok}
use Rattle.text.proofs.Filling.{counted_is, counted-over}
use Rattle.text.proofs.FormLaws.{path_empty, path-bad, path-over, path-good}
use Rattle.text.proofs.path.read_path.Goals as goal
use Rattle.text.proofs.path.read_path.Goals.{Else-not-all_components}

-- The form that the tests on the way showed.
other : (c : Else-not-all_components) → is_only dash c.args.s.now ≡ false
other c = sym c.is_only.ensures ∙ c.if-is_only.false

form : (c : Else-not-all_components) → all is_component_field (fields slash c.args.s.now) ≡ true
form c = sym c.all_components.ensures ∙ c.if-not-all_components.false

pub returns-then-is_only : goal.returns-then-is_only
returns-then-is_only c = ap Ok c.new_empty.ensures ∙ path_empty _ (sym c.is_only.ensures ∙ c.if-is_only.true)

pub returns-then-not-all_components : goal.returns-then-not-all_components
returns-then-not-all_components c = path-bad _ (sym c.is_only.ensures ∙ c.if-is_only.false) (sym c.all_components.ensures ∙ c.if-not-all_components.true)

pub read_components-requires : goal.read_components-requires
read_components-requires c = form (goal.at.read_components-requires c).Else-not-all_components

pub returns : goal.returns
returns c =
    let s = c.args.s.now in
    let r = c.read_components in
    let k = counted_is _ _ _ _ _ _ (sym c.in-Some.is ∙ r.ensures.value) (sym (length-map (fields slash s) hex_of)) r.ensures.put_if r.ensures.put_if_2 in
    ap Ok k.is ∙ path-good s (other (goal.at.returns c).Else-not-all_components) (form (goal.at.returns c).Else-not-all_components) k.holds

pub returns-in_default : goal.returns-in_default
returns-in_default c =
    let r = c.read_components in
    path-over _ (other (goal.at.returns-in_default c).Else-not-all_components) (form (goal.at.returns-in_default c).Else-not-all_components) (counted-over _ _ (sym c.in_default.is ∙ r.ensures.value))
