-- `field_end` meets its contract: where the byte that parts fields stands first. Assumes nothing.
use native.Mathlib.Omega.{arith}
use mathlib.Core.Path.{◌∙◌}
use lib.ListN.{drop, length-drop}
use Rattle.text.proofs.Lists.{rest_of}
use Rattle.text.proofs.FieldLaws.{found-at, found-none}
use Rattle.std.proofs.Common.{rules, tests}
use Rattle.std.proofs.lemmas.Iterator.{YieldsList-from_slice}
use Rattle.std.proofs.lemmas.Iterator.Search.{position_from_yields_List}
use Rattle.text.proofs.line.field_end.Goals as goal

pub returns-in-Some : goal.returns-in-Some
returns-in-Some c =
    let rest = drop c.args.from c.args.s.now in
    let p = position_from_yields_List _ _ _ _ c.position.ensures.ran (YieldsList-from_slice rest (c.iter.ensures.rest ∙ rest_of c.args.s.now c.args.from)) (λ x b q k. search (rules, tests)) in
    let f = found-at c.args.sep rest c.position.result p c.in-Some.n c.in-Some.is in
    (omega (arith, f.0), omega (arith, f.1, length-drop c.args.from c.args.s.now, c.requires))

pub returns-in-None : goal.returns-in-None
returns-in-None c =
    let rest = drop c.args.from c.args.s.now in
    let p = position_from_yields_List _ _ _ _ c.position.ensures.ran (YieldsList-from_slice rest (c.iter.ensures.rest ∙ rest_of c.args.s.now c.args.from)) (λ x b q k. search (rules, tests)) in
    (omega (arith, found-none c.args.sep rest c.position.result p c.in-None.is, length-drop c.args.from c.args.s.now, c.requires), omega arith)
