-- From which time on an area of interest takes entries: matches are met from the last in time-first order, up to one that breaks a limit.
use Rattle.std.specs.Prelude.{ℕ, ◌+◌, ◌-◌, ◌^◌, List, [], ◌∷◌, Bool, not, cond, ◌&&◌, ◌||◌, ltb}
use Rattle.laws.specs.Prefix.{same_number}
use Rattle.tree.specs.Stored.{Stored}

-- The greatest number means no limit.
abbrev pub no_limit : ℕ
no_limit = 2 ^ 64 - 1

unfoldable pub breaks : (limit n : ℕ) → Bool
breaks limit n = not (same_number limit no_limit) && ltb limit n

-- Where there is no limit no sum is kept.
unfoldable pub add_size : (max_size size length : ℕ) → ℕ
add_size max_size size length = cond (same_number max_size no_limit) 0 (size + length)

-- The matches that are still to be met, after n of them with so much payload in all; the time so far.
unfoldable pub interest_from : (max_count max_size : ℕ) → (n size time : ℕ) → List Stored → ℕ
interest_from max_count max_size n size time [] = time
interest_from max_count max_size n size time (x ∷ l) =
    cond (breaks max_count (n + 1) || breaks max_size (size + x.entry.rank.payload_length))
    x.entry.rank.timestamp
    (interest_from max_count max_size (n + 1) (add_size max_size size x.entry.rank.payload_length) x.entry.rank.timestamp l)
