-- What `above` answers: the least of the legal paths above a path that it does not prefix, or that there is none.
use Rattle.std.specs.Prelude.{◌≡◌, true, false}
use Rattle.std.proofs.Math.Option.{Option, some, none}
use Rattle.laws.specs.Order.{Order, less}
use Rattle.data_model.specs.Path.{Figures, Components, by_components, is_prefix, is_path}
use Rattle.data_model.specs.Range.{End, closed, open_end}

module _ {A : Type 0} (o : A → A → Order) (Holds : A → Type 0) where
  -- Of all that something holds of, none is below it.
  pub record First (a : A) : Type 0 where
    pub holds : Holds a
    pub least : (x : A) → Holds x → o x a ≡ less → ⊥

  -- The first, or that there is none.
  abbrev pub Least : Option A → Type 0
  Least none = (x : A) → Holds x → ⊥
  Least (some a) = First a

pub record Beyond (f : Figures) (cs x : Components) : Type 0 where
  pub legal : is_path f x ≡ true
  pub above : by_components cs x ≡ less
  pub not_prefixed : is_prefix cs x ≡ false

abbrev pub LeastAbove : Figures → Components → Option Components → Type 0
LeastAbove f cs = Least by_components (Beyond f cs)

-- The end of a range that stops at what was found, and is open if nothing was.
abbrev pub end_of : {A : Type 0} → Option A → End A
end_of none = open_end
end_of (some a) = closed a
