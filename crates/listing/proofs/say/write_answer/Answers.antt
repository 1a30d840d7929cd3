-- `write_answer` meets its contract. Assumes nothing.
use native.Mathlib.Omega.{arith}
use mathlib.Core.Path.{sym, ap, ◌∙◌}
use Rattle.listing.specs.Say.{refused_word, numbered, answer_text}
use Rattle.listing.specs.declared.carry.Answer.TheVariants.{Ok, Obsolete, Held, Bad}
use Rattle.listing.proofs.SayLaws.{answer-said}
use Rattle.listing.proofs.say.write_answer.Goals as goal

pub returns-in-Ok : goal.returns-in-Ok
unfolding answer_text
returns-in-Ok c =
    let w = c.write_bytes in
    answer-said c.args.answer (answer_text Ok) c.args.out.now w.new.out w.result (ap answer_text c.in-Ok.is) (omega (arith, w.ensures.0)) w.ensures.0 w.ensures.1

pub returns-in-Obsolete : goal.returns-in-Obsolete
unfolding answer_text
returns-in-Obsolete c =
    let w = c.write_bytes-in-Obsolete in
    answer-said c.args.answer (answer_text Obsolete) c.args.out.now w.new.out w.result (ap answer_text c.in-Obsolete.is) (omega (arith, w.ensures.0)) w.ensures.0 w.ensures.1

pub returns-in-Held : goal.returns-in-Held
unfolding answer_text
returns-in-Held c =
    let w = c.write_bytes-in-Held in
    answer-said c.args.answer (answer_text Held) c.args.out.now w.new.out w.result (ap answer_text c.in-Held.is) (omega (arith, w.ensures.0)) w.ensures.0 w.ensures.1

pub returns-in-Bad : goal.returns-in-Bad
unfolding answer_text
returns-in-Bad c =
    let w = c.write_bytes-in-Bad in
    answer-said c.args.answer (answer_text Bad) c.args.out.now w.new.out w.result (ap answer_text c.in-Bad.is) (omega (arith, w.ensures.0)) w.ensures.0 w.ensures.1

pub returns-in-Refused : goal.returns-in-Refused
unfolding answer_text
returns-in-Refused c =
    let w = c.write_numbered in
    let n = c.from in
    answer-said c.args.answer (numbered refused_word n.result) c.args.out.now w.new.out w.result (ap answer_text c.in-Refused.is ∙ ap (numbered refused_word) (sym n.ensures)) w.ensures.1 w.ensures.0 w.ensures.2
