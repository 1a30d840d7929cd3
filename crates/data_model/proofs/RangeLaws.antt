-- Laws of ranges: one for each way in which a range answers, over any order. Assumes nothing.
use Prim.Native.Nat.{ℕ}
use mathlib.Core.Path.{◌≡◌, refl, sym, ap, ◌∙◌}
use mathlib.Core.Bool.{Bool, true, false, ◌&&◌}
use lib.Dec.{ltb}
use Rattle.laws.specs.Order.{Order, by_number, is_less}
use Rattle.laws.proofs.Truth.{split, and-true}
use mathlib.Core.Option.{Option, some, none}
use Rattle.std.specs.Prelude.{Option as Maybe, Some, None}
use Rattle.data_model.specs.Path.{field, legal, Components, path_of}
use Rattle.data_model.specs.Above.{above_found}
use Rattle.data_model.specs.Area.{paths_up_to}
use Rattle.data_model.specs.declared.path.Path.{Path}
use Rattle.data_model.specs.declared.range.Range.{Range}
use Rattle.data_model.specs.declared.range.RangeEnd.{RangeEnd}
use Rattle.data_model.specs.declared.range.RangeEnd.TheVariants.{Closed, Open}
use Rattle.data_model.specs.Range.{End, closed, open_end, before_end, includes, legal_range, legal_end}

module _ {A : Type 0} (o : A → A → Order) (start x : A) (end : End A) where
  pub includes-not : is_less (o x start) ≡ true → false ≡ includes o start end x
  unfolding includes
  includes-not e = rw e

  pub includes-open : is_less (o x start) ≡ false → end ≡ open_end → true ≡ includes o start end x
  unfolding includes before_end
  includes-open e f = rw (e, f)

  pub includes-closed : (v : A) (r : Bool) → is_less (o x start) ≡ false → end ≡ closed v → r ≡ is_less (o x v) → r ≡ includes o start end x
  unfolding includes before_end
  includes-closed v r e f g = rw (e, f) g

pub number-below : (a b : ℕ) → is_less (by_number a b) ≡ ltb a b
unfolding by_number is_less
number-below a b = split (ltb a b) (λ e. rw e) λ e. split (ltb b a) (λ f. rw (e, f)) (λ f. rw (e, f))

-- The paths of a range of legal paths.
pub range_start : (r : Range Path) → legal_range field r ≡ true → legal field r.start ≡ true
unfolding legal_range
range_start r h = (and-true (legal field r.start) (legal_end field r.end) h).0

pub range_end : (r : Range Path) (p : Path) → legal_range field r ≡ true → r.end ≡ Closed p → legal field p ≡ true
unfolding legal_range legal_end
range_end r p h e = sym (ap (legal_end field) e) ∙ (and-true (legal field r.start) (legal_end field r.end) h).1

-- The paths of an area, from what was found above its path.
abbrev pub end_of_found : Maybe Path → RangeEnd Path
end_of_found (Some p) = Closed p
end_of_found None = Open

pub paths_made : (cs : Components) (o : Option Components) (start : Path) (found : Maybe Path) → start ≡ path_of cs → found ≡ above_found o
    → ◌≡◌ {A = Range Path} (record { start = start; end = end_of_found found }) (paths_up_to cs o)
unfolding above_found paths_up_to
paths_made cs none start found s e = rw (s, e)
paths_made cs (some q) start found s e = rw (s, e)

-- The last of three tests may be made before the second.
pub by_middle : (a b c : Bool) → a ≡ true → c ≡ true → b ≡ a && (b && c)
by_middle a true c e f = rw (e, f)
by_middle a false c e f = rw e

pub not_first : (a b : Bool) → a ≡ false → false ≡ a && b
not_first a b e = rw e

pub not_last : (a b c : Bool) → c ≡ false → false ≡ a && (b && c)
not_last true true c e = sym e
not_last true false c e = refl
not_last false b c e = refl
