-- `token_at` meets its contract: past the end, or by the case of the escape table. Assumes nothing.
use mathlib.Core.Path.{◌≡◌, sym, ap, ◌∙◌}
use native.Mathlib.Omega.{arith}
use lib.ListN.{drop}
use Rattle.keys.specs.Decode.{token_of}
use Rattle.keys.proofs.EscapeCases.{case_token, token-past, token-here}
use Rattle.keys.proofs.token.token_at.Goals as goal
use Rattle.keys.proofs.token.token_at.Goals.{After-escape_case}

pub returns-then-key-at : goal.returns-then-key-at
returns-then-key-at c = sym (token-past _ _ c.if-key-at.true)

-- What the case stands for is what stands there.
here : (c : After-escape_case) → let a = c.args in case_token c.escape_case.result ≡ token_of (drop a.at a.key.now)
here c =
    let a = c.args in
    ap case_token c.escape_case.ensures ∙ sym (token-here a.key.now a.at (omega arith))

pub returns-in-Ordinary : goal.returns-in-Ordinary
returns-in-Ordinary c = sym (ap case_token c.in-Ordinary.is) ∙ here (goal.at.returns-in-Ordinary c).After-escape_case

pub returns-in-ZeroZero : goal.returns-in-ZeroZero
returns-in-ZeroZero c = sym (ap case_token c.in-ZeroZero.is) ∙ here (goal.at.returns-in-ZeroZero c).After-escape_case

pub returns-in-ZeroOne : goal.returns-in-ZeroOne
returns-in-ZeroOne c = sym (ap case_token c.in-ZeroOne.is) ∙ here (goal.at.returns-in-ZeroOne c).After-escape_case

pub returns-in-ZeroTwo : goal.returns-in-ZeroTwo
returns-in-ZeroTwo c = sym (ap case_token c.in-ZeroTwo.is) ∙ here (goal.at.returns-in-ZeroTwo c).After-escape_case

pub returns-in-ZeroOther : goal.returns-in-ZeroOther
returns-in-ZeroOther c = sym (ap case_token c.in-ZeroOther.is) ∙ here (goal.at.returns-in-ZeroOther c).After-escape_case

pub returns-in-ZeroLast : goal.returns-in-ZeroLast
returns-in-ZeroLast c = sym (ap case_token c.in-ZeroLast.is) ∙ here (goal.at.returns-in-ZeroLast c).After-escape_case
