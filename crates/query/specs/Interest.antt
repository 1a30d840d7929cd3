-- The 3d range of an area of interest: that of its area, the times starting where the limits have it.
use Rattle.std.specs.Prelude.{ℕ, ◌+◌, ◌<◌, ◌≡◌, ◌⊎◌, List, [], ◌∷◌, ◌++◌, reverse, cond, eqb, length, Result, Ok, Err}
use Rattle.laws.specs.Sorted.{keep}
use Rattle.data_model.specs.Path.{Figures}
use Rattle.data_model.specs.Area.{area_range, empty_range}
use Rattle.data_model.specs.Refusal.{refusal_number}
use Rattle.data_model.specs.declared.answer.Refusal.{Refusal}
use Rattle.data_model.specs.declared.area_of_interest.AreaOfInterest.{AreaOfInterest}
use Rattle.data_model.specs.declared.range_3d.Range3d.{Range3d}
use Rattle.tree.specs.Stored.{Stored}
use Rattle.tree.specs.Matching.{in_area}
use Rattle.tree.specs.Interest.{no_limit, interest_from}
use Rattle.tree.specs.declared.stored.KeyOrder.TheVariants.{Tsp}
use Rattle.store.specs.Store.{Store, held}
use Rattle.query.specs.Reading.{area_refusal}

-- The range of an area of interest told with a number: refusal 0 and the range; or the refusal and the range that includes nothing.
pub record InterestRange : Type 0 where
  pub refusal : ℕ
  pub range : Range3d

-- What the answer of `area_of_interest_to_range` tells.
abbrev pub range_told : Result Range3d Refusal → InterestRange
range_told (Ok r) = record { refusal = 0; range = r }
range_told (Err n) = record { refusal = refusal_number n; range = empty_range }

-- The matches are met from the last in time-first order, as the code goes; `Starts` says what time that is.
abbrev pub interest_time : AreaOfInterest → (tsp : List Stored) → ℕ
interest_time a tsp = interest_from a.max_count a.max_size 0 0 a.area.times.start (reverse (keep (in_area a.area) tsp))

-- A range with another start of its times.
abbrev pub starting_at : ℕ → Range3d → Range3d
starting_at t r = record { subspaces = r.subspaces; paths = r.paths; times = record { start = t; end = r.times.end } }

unfoldable pub interest_range : Figures → Store → AreaOfInterest → InterestRange
interest_range f s a =
    cond (eqb (area_refusal f s a.area) 0)
    (record { refusal = 0; range = starting_at (interest_time a (held f Tsp s)) (area_range f a.area) })
    (record { refusal = area_refusal f s a.area; range = empty_range })

-- The payload of these entries in all.
unfoldable pub payload : List Stored → ℕ
payload [] = 0
payload (x ∷ l) = x.entry.rank.payload_length + payload l

-- So many are over a limit: the greatest number means none.
abbrev pub Over : (limit n : ℕ) → Type 0
Over limit n = (limit ≡ no_limit → ⊥) × (limit < n)

-- An entry that is met after others breaks a limit: with it they are too many, or have too much payload.
abbrev pub Breaks : AreaOfInterest → (before : List Stored) → Stored → Type 0
Breaks a before x = Over a.max_count (length before + 1) ⊎ Over a.max_size (payload before + x.entry.rank.payload_length)

-- None of those met does.
abbrev pub NoneBreaks : AreaOfInterest → (met : List Stored) → Type 0
NoneBreaks a met = (before : List Stored) (x : Stored) (behind : List Stored) → met ≡ before ++ x ∷ behind → Breaks a before x → ⊥

-- 01's words, of the matches in time-first order, which are met from the last: the times start at that of the first entry met that broke a limit,
-- else of the least match, else as given. `interest-said`: so they do; `starts-once`: there is one such time.
pub data Starts (a : AreaOfInterest) (matches : List Stored) (time : ℕ) : Type 0 where
  broke : (before : List Stored) (x : Stored) (behind : List Stored) → reverse matches ≡ before ++ x ∷ behind → NoneBreaks a before → Breaks a before x
      → time ≡ x.entry.rank.timestamp → Starts a matches time
  least : (x : Stored) (behind : List Stored) → matches ≡ x ∷ behind → NoneBreaks a (reverse matches) → time ≡ x.entry.rank.timestamp → Starts a matches time
  as_given : matches ≡ [] → time ≡ a.area.times.start → Starts a matches time
