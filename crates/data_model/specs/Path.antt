-- Paths: their components, which path values are legal, equality, order and prefixes.
use Rattle.std.specs.Prelude.{ℕ, ◌+◌, ◌-◌, List, [], ◌∷◌, ◌++◌, Bool, ◌&&◌, length, take, replicate, leb, ltb}
use Rattle.laws.specs.Lists.{piece}
use Rattle.laws.specs.Order.{Order, by_number, by_elements}
use Rattle.laws.specs.Prefix.{same_number, same_list, prefix_of}
use Rattle.laws.specs.Sorted.{all}
use Rattle.data_model.specs.declared.path.Path.{Path}

-- The figures that bound a path: most bytes of a component, most components, most bytes of a path.
pub record Figures : Type 0 where
  pub mcl : ℕ
  pub mcc : ℕ
  pub mpl : ℕ

-- The figures that judge a path in the field.
abbrev pub field : Figures
field = record { mcl = 64; mcc = 8; mpl = 128 }

-- How much a value can hold: the lengths of a path value's arrays, and of the array that one component is handed out in. The figures that judge
-- are at most these.
abbrev pub capacity : Figures
capacity = record { mcl = 64; mcc = 8; mpl = 128 }

-- A component is a list of bytes, and a path a list of components.
abbrev pub Component : Type 0
Component = List ℕ

abbrev pub Components : Type 0
Components = List Component

-- The components of a path value: each runs from the end before it (the first from 0) up to its own end.
unfoldable pub cut : List ℕ → ℕ → List ℕ → Components
cut bytes from [] = []
cut bytes from (e ∷ es) = piece from e bytes ∷ cut bytes e es

unfoldable pub components : Path → Components
components p = cut p.bytes 0 (take p.count p.ends)

-- A path value is legal: at most mcc components, ends that don't descend, components of at most mcl bytes, mpl bytes in all.
unfoldable pub legal_ends : ℕ → ℕ → ℕ → List ℕ → Bool
legal_ends mcl mpl from [] = leb from mpl
legal_ends mcl mpl from (e ∷ es) = leb from e && (leb (e - from) mcl && legal_ends mcl mpl e es)

unfoldable pub legal : Figures → Path → Bool
legal f p = leb p.count f.mcc && legal_ends f.mcl f.mpl 0 (take p.count p.ends)

-- The bytes of components one after the other, and where each ends.
unfoldable pub joined : Components → List ℕ
joined [] = []
joined (c ∷ cs) = c ++ joined cs

unfoldable pub ends_from : ℕ → Components → List ℕ
ends_from from [] = []
ends_from from (c ∷ cs) = (from + length c) ∷ ends_from (from + length c) cs

-- Components that make a legal path.
unfoldable pub is_component : Figures → Component → Bool
is_component f c = leb (length c) f.mcl && all (λ b. ltb b 256) c

unfoldable pub is_path : Figures → Components → Bool
is_path f cs = leb (length cs) f.mcc && (all (is_component f) cs && leb (length (joined cs)) f.mpl)

-- A path value of these bytes and ends: 0 past its total and past its count.
unfoldable pub value_of : List ℕ → List ℕ → ℕ → Path
value_of bytes ends count = record {
  bytes = bytes ++ replicate (capacity.mpl - length bytes) 0;
  ends = ends ++ replicate (capacity.mcc - length ends) 0;
  count = count;
}

-- The path value that is handed out for components.
unfoldable pub path_of : Components → Path
path_of cs = value_of (joined cs) (ends_from 0 cs) (length cs)

-- The last of some ends, or where they begin: a path's total.
unfoldable pub last_end : ℕ → List ℕ → ℕ
last_end from [] = from
last_end from (e ∷ es) = last_end e es

-- Equality, order (components by bytes, paths by components) and prefixes, by whole components.
abbrev pub same_component : Component → Component → Bool
same_component = same_list same_number

abbrev pub same_path : Components → Components → Bool
same_path = same_list same_component

abbrev pub by_bytes : List ℕ → List ℕ → Order
by_bytes = by_elements by_number

abbrev pub by_components : Components → Components → Order
by_components = by_elements by_bytes

abbrev pub is_prefix : Components → Components → Bool
is_prefix = prefix_of same_component
