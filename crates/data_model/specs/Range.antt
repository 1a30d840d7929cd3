-- Ranges: from a start up to an end, which shuts out its own value, or open.
use Rattle.std.specs.Prelude.{ℕ, Bool, true, not, ◌&&◌}
use Rattle.laws.specs.Order.{Order, by_number, is_less}
use Rattle.data_model.specs.Path.{Figures, Components, components, by_components, legal}
use Rattle.data_model.specs.Subspace.{by_subspace}
use Rattle.data_model.specs.declared.parameters.Subspace.{Subspace}
use Rattle.data_model.specs.declared.range.RangeEnd.{RangeEnd}
use Rattle.data_model.specs.declared.range.RangeEnd.TheVariants.{Closed, Open}
use Rattle.data_model.specs.declared.range.Range.{Range}
use Rattle.data_model.specs.declared.path.Path.{Path}

pub data End (A : Type 0) : Type 0 where
  closed : A → End A
  open_end : End A

unfoldable pub before_end : {A : Type 0} → (A → A → Order) → A → End A → Bool
before_end o x (closed e) = is_less (o x e)
before_end o x open_end = true

-- The start is not above the value, and the end is open or above it.
unfoldable pub includes : {A : Type 0} → (A → A → Order) → A → End A → A → Bool
includes o start end x = not (is_less (o x start)) && before_end o x end

-- What each case of a range's end says.
unfoldable pub end_says : {A : Type 0} → RangeEnd A → End A
end_says (Closed x) = closed x
end_says Open = open_end

-- Of a range of paths, by their components.
unfoldable pub paths_end : RangeEnd Path → End Components
paths_end (Closed p) = closed (components p)
paths_end Open = open_end

unfoldable pub times_include : Range ℕ → ℕ → Bool
times_include r t = includes by_number r.start (end_says r.end) t

unfoldable pub subspaces_include : Range Subspace → Subspace → Bool
subspaces_include r s = includes by_subspace r.start (end_says r.end) s

unfoldable pub paths_include : Range Path → Components → Bool
paths_include r p = includes by_components (components r.start) (paths_end r.end) p

-- The paths that a range of paths hands in: its start, and its end if that is closed.
unfoldable pub legal_end : Figures → RangeEnd Path → Bool
legal_end f (Closed p) = legal f p
legal_end f Open = true

unfoldable pub legal_range : Figures → Range Path → Bool
legal_range f r = legal f r.start && legal_end f r.end
