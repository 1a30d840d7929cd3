-- `write_list` meets its contract: the first line, then a line each turn, as many as were counted. The invariant: the records left, walked from the remembered key, are to be written. Assumes nothing.
use Prim.Native.Nat.{◌+◌, ◌-◌, ◌*◌, ◌≤◌}
use mathlib.Core.Path.{◌≡◌}
use lib.ListN.{length}
use Rattle.data_model.specs.Path.{field}
use Rattle.tree.specs.declared.stored.KeyOrder.TheVariants.{Spt}
use Rattle.store.specs.Lent.{lent}
use Rattle.store.specs.Store.{limit_most, held}
use Rattle.listing.specs.List.{entry_line_most, list_text, list_text_most}
use Rattle.listing.proofs.ListLaws.{Listing}
use Rattle.listing.proofs.list.write_list.Given as goal

abbrev pub invariant-loop : goal.invariant-loop
invariant-loop l =
    (l.at + entry_line_most * (l.count - l.counter) ≤ length l.out)
    × (l.at + entry_line_most * (l.count - l.counter) ≤ list_text_most limit_most)
    × (length l.out ≡ length l.initial.out)
    × Listing (lent l.store) l.area l.ignore (list_text (held field Spt (lent l.store))) l.initial.out l.out l.last l.at (l.count - l.counter)
