-- The order of triples that the bytes of each key have. That they do is the theorems `spt-ordered` and `tsp-ordered`.
use Rattle.std.specs.Prelude.{◌<◌, ◌^◌}
use Rattle.laws.specs.Order.{Order, ◌then◌, by_number}
use Rattle.data_model.specs.Path.{by_components}
use Rattle.data_model.specs.Subspace.{by_subspace}
use Rattle.keys.specs.Encode.{Triple}

-- A triple whose numbers are 64-bit numbers.
pub record Sized (t : Triple) : Type 0 where
  pub high : t.subspace.high < 2 ^ 64
  pub low : t.subspace.low < 2 ^ 64
  pub time : t.timestamp < 2 ^ 64

unfoldable pub spt_order : Triple → Triple → Order
spt_order a b = by_subspace a.subspace b.subspace then by_components a.path b.path then by_number a.timestamp b.timestamp

unfoldable pub tsp_order : Triple → Triple → Order
tsp_order a b = by_number a.timestamp b.timestamp then by_subspace a.subspace b.subspace then by_components a.path b.path
