-- `write_record` meets its contract: what the record says, as it is handed out. Assumes nothing.
use native.Mathlib.Omega.{arith}
use Prim.Native.Nat.{◌-◌}
use mathlib.Core.Path.{◌≡◌, refl, sym, ap, ◌∙◌}
use mathlib.Core.Bool.{true}
use lib.ListN.{length, replicate}
use lib.Seq.{length-take-le}
use Rattle.laws.specs.Lists.{put}
use Rattle.data_model.specs.Path.{field, legal}
use Rattle.data_model.specs.Entry.{Entry, entry_of}
use Rattle.keys.proofs.Reading.{rest}
use Rattle.tree.specs.Value.{value_length}
use Rattle.tree.specs.Stored.{stored}
use Rattle.tree.specs.declared.stored.KeyOrder.TheVariants.{Spt}
use Rattle.listing.specs.Say.{entry_text, record_text}
use Rattle.listing.proofs.SayLaws.{record-says}
use Rattle.listing.proofs.say.write_record.Goals as goal
use Rattle.listing.proofs.say.write_record.Goals.{After-stored_in-stored}

-- What the record says, as it was handed out.
says : (c : After-stored_in-stored) → (legal field c.stored_in-stored.result.entry.path ≡ true) × (entry_of c.stored_in-stored.result.entry ≡ (stored Spt field (replicate 16 0) c.args.rec.now).entry)
says c =
    let r = c.args.rec.now in
    record-says (replicate 16 0) r _ _ c.stored_in-stored.result (λ i. (c.shared_slice_known-1.given i).fits) refl (rest r (length r - value_length)) c.stored_in-stored.ensures

pub slice_bounds-stored_in-end : goal.slice_bounds-stored_in-end
slice_bounds-stored_in-end c = let r = c.args.rec.now in sym (length-take-le (length r - value_length) r (omega arith))

pub write_entry-requires : goal.write_entry-requires
write_entry-requires c = ((says (goal.at.write_entry-requires c).After-stored_in-stored).0, c.requires.1)

pub returns : goal.returns
unfolding record_text
returns c =
    let e = (says (goal.at.returns c).After-stored_in-stored).1 in
    let w = c.write_entry in
    (w.ensures.0 ∙ ap (λ (x : Entry). length (entry_text x)) e, w.ensures.1, w.ensures.2 ∙ ap (λ (x : Entry). put (entry_text x) c.args.out.now) e)
