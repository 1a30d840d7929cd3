-- What the loops that judge a path's bytes count. No public answer is defined by these.
use Rattle.std.specs.Prelude.{ℕ, zero, suc, ◌+◌, List, Bool, true, false, not, cond, ◌&&◌, ◌||◌, get_or, eqb}
use Rattle.keys.specs.Encode.{component_end, path_end}
use Rattle.keys.specs.Decode.{Taken, refused, took}

-- Whether something was read, of so many bytes.
unfoldable pub takes : {A : Type 0} → ℕ → Taken A → Bool
takes n refused = false
takes n (took a u) = eqb u n

-- Whether what was read, with so many bytes before it and so many behind it, has a length.
unfoldable pub fills : {A : Type 0} → (before behind len : ℕ) → Taken A → Bool
fills before behind len refused = false
fills before behind len (took a u) = eqb (before + u + behind) len

-- Whether a mark stands at a place.
abbrev pub marked : List ℕ → ℕ → List ℕ → Bool
marked mark at k = eqb (get_or k at 0) (get_or mark 0 0) && eqb (get_or k (at + 1) 0) (get_or mark 1 0)

-- Whether a component ends at a place.
abbrev pub ended : ℕ → List ℕ → Bool
ended at k = marked component_end at k

-- Whether the byte at a place is no 00, or stands before a 01 or a 02.
abbrev pub paired : ℕ → List ℕ → Bool
paired at k = not (eqb (get_or k at 0) 0) || (eqb (get_or k (at + 1) 0) 1 || eqb (get_or k (at + 1) 0) 2)

-- A test as a number.
abbrev pub bit : Bool → ℕ
bit b = cond b 1 0

-- Of the w bytes from a place on: whether each 00 stands before a 01 or a 02.
abbrev pub sound : (w at : ℕ) → List ℕ → Bool
sound zero at k = true
sound (suc w) at k = paired at k && sound w (at + 1) k

-- Of the w bytes from a place on: how many are not 00.
abbrev pub others : (w at : ℕ) → List ℕ → ℕ
others zero at k = 0
others (suc w) at k = bit (not (eqb (get_or k at 0) 0)) + others w (at + 1) k

-- Of the w bytes from a place on: how many are a 00 before a 01.
abbrev pub endings : (w at : ℕ) → List ℕ → ℕ
endings zero at k = 0
endings (suc w) at k = bit (ended at k) + endings w (at + 1) k

-- What counts on of a component behind a stretch: nothing if some component ended in it.
abbrev pub kept : (len ends : ℕ) → ℕ
kept len ends = cond (eqb ends 0) len 0

-- Whether a component ends at a place, and then the path.
abbrev pub closed : ℕ → List ℕ → Bool
closed at k = marked component_end at k && marked path_end (at + 2) k
