-- `write_entry` meets its contract. Assumes nothing.
use native.Mathlib.Omega.{arith}
use Rattle.data_model.specs.Entry.{entry_of, rank_of}
use Rattle.listing.specs.Say.{entry_text}
use Rattle.listing.proofs.SayLaws.{entry-most}
use Rattle.listing.proofs.say.write_entry.Goals as goal

pub returns : goal.returns
unfolding entry_text entry_of rank_of
returns c =
    let w = c.write_listed in
    (w.ensures.0, omega (arith, w.ensures.0, entry-most c.args.e c.requires.0), w.ensures.1)
