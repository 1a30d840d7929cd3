-- `write_component` meets its contract. Assumes nothing.
use native.Mathlib.Omega.{arith}
use Prim.Native.Nat.{ℕ}
use Rattle.std.proofs.Common.{rules, tests}
use mathlib.Core.Path.{◌≡◌, sym, ap, ◌∙◌}
use mathlib.Core.List.{List, [], ◌∷◌}
use lib.ListN.{length}
use Rattle.laws.specs.Lists.{put}
use Rattle.laws.proofs.Lists.{put-sets}
use Rattle.text.proofs.PathLaws.{component-none, component-some}
use Rattle.text.proofs.path_text.write_component.Goals as goal

pub returns-then-is_empty : goal.returns-then-is_empty
returns-then-is_empty c =
    let none : length c.args.c.now ≡ 0 = search (rules, tests) in
    let e = component-none c.args.c.now none in
    (sym (ap length e), put-sets (46 ∷ []) c.args.out.now (omega (arith, c.requires)) ∙ ap (λ (x : List ℕ). put x c.args.out.now) (sym e))

pub returns : goal.returns
returns c =
    let some : (length c.args.c.now ≡ 0 → ⊥) = search (rules, tests) in
    let e = component-some c.args.c.now some in
    (c.write_hex.ensures.0 ∙ ap length (sym e), c.write_hex.ensures.1 ∙ ap (λ (x : List ℕ). put x c.args.out.now) (sym e))
