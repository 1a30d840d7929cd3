-- `nth_field` meets its contract. Assumes nothing.
use mathlib.Core.Path.{◌≡◌, ap}
use mathlib.Core.List.{List, []}
use Prim.Native.Nat.{ℕ}
use Rattle.std.proofs.Common.{◌∙◌, rules, tests}
use Rattle.std.proofs.lemmas.Iterator.Splits.{YieldsList-from_slice_split}
use Rattle.std.proofs.lemmas.Iterator.Consumers.{nth_from_yields_List}
use Rattle.std.specs.Prelude.{option_map, slice_get}
use lib.Dec.{eqb}
use Rattle.text.specs.Fields.{fields}
use Rattle.std.proofs.lemmas.Option.{unwrap_or-slice_get}
use Rattle.text.proofs.Lists.{unwrap-map}
use Rattle.text.proofs.FieldLaws.{fields-split}
use Rattle.text.proofs.line.nth_field.Goals as goal

pub returns : goal.returns
returns c =
    let s = c.args.s.now in
    let e : option_map (λ x. x.now) c.nth.result ≡ slice_get (fields c.args.sep s) c.args.k
    = nth_from_yields_List c.nth.result _ c.args.k c.nth.ensures.ran
    (YieldsList-from_slice_split _ (λ b. eqb b c.args.sep) s c.split.ensures.rest c.split.ensures.done c.split.ensures.closure (λ x b q k. search (rules, tests)))
    ∙ ap (λ (fs : List (List ℕ)). slice_get fs c.args.k) (fields-split c.args.sep s) in
    ap (λ x. x.now) c.unwrap_or.ensures ∙ unwrap-map (λ x. x.now) c.nth.result _ ∙ rw e (unwrap_or-slice_get (fields c.args.sep s) c.args.k [])
