-- The starred examples of 01 and 02 hold: each by computation, the tie by the law of ties.
-- Assumes nothing.
use mathlib.Core.Path.{refl}
use Rattle.laws.specs.Order.{is_less, by_number, by_elements}
use Rattle.laws.specs.Prefix.{same_number, same_list, prefix_of}
use Rattle.data_model.specs.Path.{cut, components, legal_ends, legal, joined, ends_from, value_of, path_of}
use Rattle.data_model.specs.Above.{or_else, raised_byte, raised_bytes, raised, above_in, above}
use Rattle.keys.specs.Encode.{escaped, component_key, path_key}
use Rattle.keys.specs.Decode.{mark, token_of, ends_path, more, bind, by_token, read_component, read_components, read_path, number_from, number, subspace_at, whole, read_spt, read_tsp, decoded, next_component, component_read}
use Rattle.data_model.specs.Range.{includes, before_end, end_says, times_include}
use Rattle.data_model.specs.Area.{paths_up_to, area_range}
use Rattle.key_laws.specs.Examples.{Examples}
use Rattle.key_laws.proofs.EntryLaws.{newer-neither}

pub examples : Examples
unfolding by_number by_elements is_less same_number same_list prefix_of cut components legal_ends legal joined ends_from value_of path_of or_else raised_byte raised_bytes raised above_in above escaped component_key path_key includes before_end end_says times_include paths_up_to area_range mark token_of ends_path more bind by_token read_component read_components read_path number_from number subspace_at whole read_spt read_tsp decoded next_component component_read
examples = record {
  empty-path = refl;
  empty_component = refl;
  two_components = refl;
  path_order = (refl, refl, refl);
  prefix_by_component = (refl, refl);
  tie_not_newer = λ a b t d n. (newer-neither a b).1 (λ i. record { timestamp = t i; payload_digest = d i; payload_length = n i });
  closed_times = (refl, refl);
  open_times = refl;
  component_of_64 = (refl, refl);
  components_8 = (refl, refl);
  total_128 = (refl, refl);
  area_at_61 = λ s t. refl;
  area_at_empty = λ s t. refl;
  order_traps = (refl, refl, refl, refl);
  ordinary = (refl, refl, refl);
  zero_zero = (refl, refl, refl);
  zero_one = (refl, refl, refl);
  zero_two = (refl, refl, refl);
  zero_other = ((refl, refl, refl), (refl, refl, refl), (refl, refl, refl));
  zero_last = ((refl, refl, refl), (refl, refl, refl), (refl, refl, refl));
  reading_traps = ((refl, refl, refl), (refl, refl, refl), (refl, refl, refl), (refl, refl, refl));
}
