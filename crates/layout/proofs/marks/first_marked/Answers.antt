-- `first_marked` meets its contract. Assumes nothing.
use Rattle.std.proofs.Common.{rules, tests}
use Rattle.std.proofs.lemmas.Iterator.{YieldsList-from_slice}
use Rattle.std.proofs.lemmas.Iterator.Search.{position_from_yields_List}
use mathlib.Core.Path.{◌≡◌, sym, ◌∙◌}
use Prim.Native.Nat.{ℕ, ◌-◌}
use lib.Dec.{eqb}
use lib.ListN.{length, take, drop}
use Rattle.std.specs.List.{position}
use Rattle.layout.proofs.MarkLaws.{marked_at, marked_nowhere}
use Rattle.layout.proofs.marks.first_marked.Goals as goal
use Rattle.layout.proofs.marks.first_marked.Goals.{After-position}

-- What is found in the part of the marks.
found : (c : After-position) → c.position.result ≡ position (λ (m : ℕ). eqb m 1) (take (length c.args.marks.now - c.args.from) (drop c.args.from c.args.marks.now))
found c = position_from_yields_List (λ (m : ℕ). eqb m 1) _ _ c.position.result c.position.ensures.ran (YieldsList-from_slice _ c.iter.ensures.rest) (λ x b q k. search (rules, tests))

pub returns-in-Some : goal.returns-in-Some
returns-in-Some c =
    let a = c.args in
    marked_at a.marks.now a.from c.in-Some.k (sym (found (goal.at.returns-in-Some c).After-position) ∙ c.in-Some.is)

pub returns-in-None : goal.returns-in-None
returns-in-None c =
    let a = c.args in
    marked_nowhere a.marks.now a.from c.requires (sym (found (goal.at.returns-in-None c).After-position) ∙ c.in-None.is)
