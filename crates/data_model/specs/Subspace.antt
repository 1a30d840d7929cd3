-- Subspaces: two 64-bit numbers, the high half first.
use Rattle.std.specs.Prelude.{◌+◌, ◌^◌, ◌-◌, Bool, cond, ◌&&◌, ltb}
use Rattle.laws.specs.Order.{Order, ◌then◌, by_number}
use Rattle.laws.specs.Prefix.{same_number}
use Rattle.data_model.specs.declared.parameters.Subspace.{Subspace}
use Rattle.data_model.specs.declared.range.RangeEnd.{RangeEnd}
use Rattle.data_model.specs.declared.range.RangeEnd.TheVariants as end

abbrev pub first_subspace : Subspace
first_subspace = record { high = 0; low = 0 }

unfoldable pub same_subspace : Subspace → Subspace → Bool
same_subspace a b = same_number a.high b.high && same_number a.low b.low

unfoldable pub by_subspace : Subspace → Subspace → Order
by_subspace a b = by_number a.high b.high then by_number a.low b.low

-- The subspaces from one on end at the next one, or are open behind the last one, which is all ff.
unfoldable pub next_subspace : Subspace → RangeEnd Subspace
next_subspace s =
    cond (ltb s.low (2 ^ 64 - 1)) (end.Closed (record { high = s.high; low = s.low + 1 }))
    (cond (ltb s.high (2 ^ 64 - 1)) (end.Closed (record { high = s.high + 1; low = 0 })) end.Open)
