-- The least legal path above a path that the path does not prefix, or none. That it is this is the theorem `above-least`.
use Rattle.std.specs.Prelude.{ℕ, ◌+◌, ◌-◌, ◌<◌, min, ◌≡◌, [], ◌∷◌, ◌++◌, cond, length, take, get_or, ltb}
use Rattle.std.specs.Prelude.{Option as Maybe, Some, None}
use Rattle.std.proofs.Math.Option.{Option, some, none, map}
use Rattle.data_model.specs.Path.{Figures, Component, Components, joined, legal, components, path_of}
use Rattle.data_model.specs.Said.{Said}
use Rattle.data_model.specs.Refusal.{answered}
use Rattle.data_model.specs.declared.path.Path.{Path}

unfoldable pub or_else : {A : Type 0} → Option A → Option A → Option A
or_else none b = b
or_else (some a) b = some a

-- The last byte that is below ff is raised by one, and what follows it goes.
unfoldable pub raised_byte : ℕ → Option Component
raised_byte b = cond (ltb b 255) (some ((b + 1) ∷ [])) none

unfoldable pub raised_bytes : Component → Option Component
raised_bytes [] = none
raised_bytes (b ∷ c) = or_else (map (b ∷◌) (raised_bytes c)) (raised_byte b)

-- A component that has room for it grows by a byte 00; else it is raised.
unfoldable pub raised : ℕ → Component → Option Component
raised lim c = cond (ltb (length c) lim) (some (c ++ 0 ∷ [])) (raised_bytes c)

-- The last component that can be is replaced, and what follows it goes.
unfoldable pub above_in : ℕ → ℕ → Components → Option Components
above_in mcl room [] = none
above_in mcl room (c ∷ cs) = or_else (map (c ∷◌) (above_in mcl (room - length c) cs)) (map (◌∷ []) (raised (min mcl room) c))

unfoldable pub above : Figures → Components → Option Components
above f cs = above_in f.mcl f.mpl cs

-- The path value that is handed out for the components found, if any were.
unfoldable pub above_found : Option Components → Maybe Path
above_found none = None
above_found (some cs) = Some (path_of cs)

-- The answer: 4 for an illegal path; else the path above, if there is one.
unfoldable pub above_answer : Figures → Path → Said (Maybe Path)
above_answer f p = answered (legal f p) (above_found (above f (components p)))

-- For the inner functions: the same by the place of what is replaced, the i-th component or the j-th byte.
unfoldable pub raised_at : Figures → Components → ℕ → Option Components
raised_at f cs i = map (λ d. take i cs ++ d ∷ []) (raised (min f.mcl (f.mpl - length (joined (take i cs)))) (get_or cs i []))

abbrev pub RaisesByte : Component → Maybe ℕ → Type 0
RaisesByte c (Some j) = (j < length c) × (get_or c j 0 < 255) × (raised_bytes c ≡ some (take j c ++ (get_or c j 0 + 1) ∷ []))
RaisesByte c None = raised_bytes c ≡ none
