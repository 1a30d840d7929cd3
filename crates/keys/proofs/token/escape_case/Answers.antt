-- `escape_case` meets its contract: a byte that is not 00, one of the marks, or no byte behind a 00. Assumes nothing.
use Prim.Native.Nat.{ℕ}
use mathlib.Core.Path.{◌≡◌, sym, ap, ◌∙◌}
use mathlib.Core.List.{[], ◌∷◌}
use Rattle.std.proofs.Common.{rules}
use Rattle.std.specs.Prelude.{Some, None}
use Rattle.std.specs.List.{slice_get}
use Rattle.keys.specs.Inner.{escape_case}
use Rattle.keys.proofs.EscapeCases.{case-ordinary, case-last, case-mark, case-other}
use Rattle.keys.proofs.token.escape_case.Goals as goal

pub returns-then-b-ne0 : goal.returns-then-b-ne0
returns-then-b-ne0 c = sym (case-ordinary _ _ c.if-b-ne0.true)

pub returns-in_default : goal.returns-in_default
returns-in_default c = let e : None ≡ slice_get c.args.rest.now 0 = search rules in sym (case-last _ _ c.if-b-ne0.false e)

pub returns-then-eq : goal.returns-then-eq
unfolding escape_case
returns-then-eq c =
    let m = c.in-Some.field-0.now in
    let e : Some m ≡ slice_get c.args.rest.now 0 = search rules in
    let q : m ≡ 0 = search rules in
    sym (case-mark c.args.b c.args.rest.now m c.if-b-ne0.false e ∙ ap (λ (m : ℕ). escape_case 0 (m ∷ [])) q)

pub returns-then-eq-2 : goal.returns-then-eq-2
unfolding escape_case
returns-then-eq-2 c =
    let m = c.in-Some.field-0.now in
    let e : Some m ≡ slice_get c.args.rest.now 0 = search rules in
    let q : m ≡ 1 = search rules in
    sym (case-mark c.args.b c.args.rest.now m c.if-b-ne0.false e ∙ ap (λ (m : ℕ). escape_case 0 (m ∷ [])) q)

pub returns-then-eq-3 : goal.returns-then-eq-3
unfolding escape_case
returns-then-eq-3 c =
    let m = c.in-Some.field-0.now in
    let e : Some m ≡ slice_get c.args.rest.now 0 = search rules in
    let q : m ≡ 2 = search rules in
    sym (case-mark c.args.b c.args.rest.now m c.if-b-ne0.false e ∙ ap (λ (m : ℕ). escape_case 0 (m ∷ [])) q)

pub returns-else-eq-3 : goal.returns-else-eq-3
returns-else-eq-3 c =
    let m = c.in-Some.field-0.now in
    let e : Some m ≡ slice_get c.args.rest.now 0 = search rules in
    sym (case-other c.args.b c.args.rest.now m c.if-b-ne0.false e (λ q. search rules) (λ q. search rules) (λ q. search rules))
