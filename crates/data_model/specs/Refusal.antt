-- The refusals of every layer, by the papers' numbers, and what the data model's answers say.
use Rattle.std.specs.Prelude.{ℕ, Bool, true, false, Result, Ok, Err}
use Rattle.laws.specs.Order.{Order, less, same, greater}
use Rattle.data_model.specs.Said.{Said, refuses, says}
use Rattle.data_model.specs.declared.answer.Refusal.{Refusal}
use Rattle.data_model.specs.declared.answer.Refusal.TheVariants as refusal
use Rattle.std.specs.declared.cmp.Ordering.{Ordering}
use Rattle.std.specs.declared.cmp.Ordering.TheVariants as ordering
use Rattle.data_model.specs.declared.answer.Recency.{Recency}
use Rattle.data_model.specs.declared.answer.Recency.TheVariants as recency

-- The limit is outside 1 to 1,024.
abbrev pub bad_limit : ℕ
bad_limit = 1

-- A lent buffer is too short.
abbrev pub short_buffer : ℕ
short_buffer = 2

-- The store handed in is not well-formed.
abbrev pub not_well_formed : ℕ
not_well_formed = 3

-- A path handed in is illegal.
abbrev pub illegal_path : ℕ
illegal_path = 4

-- A key handed in is none that the encoder of its order writes.
abbrev pub no_key : ℕ
no_key = 5

-- An entry names another namespace than the store's.
abbrev pub other_namespace : ℕ
other_namespace = 6

-- Pruning is prevented, and an entry would be removed.
abbrev pub pruning_prevented : ℕ
pruning_prevented = 7

-- The entries left after pruning already number the limit.
abbrev pub full : ℕ
full = 8

-- The stored entry's digest is not the one expected.
abbrev pub other_digest : ℕ
other_digest = 9

-- The tally handed in is not the one its store gives.
abbrev pub wrong_tally : ℕ
wrong_tally = 10

-- No entry stands at the subspace and path.
abbrev pub absent_entry : ℕ
absent_entry = 11

-- An available length is above the payload length.
abbrev pub too_much_available : ℕ
too_much_available = 12

-- The number of a refusal.
abbrev pub refusal_number : Refusal → ℕ
refusal_number refusal.BadLimit = bad_limit
refusal_number refusal.ShortBuffer = short_buffer
refusal_number refusal.NotWellFormed = not_well_formed
refusal_number refusal.IllegalPath = illegal_path
refusal_number refusal.NoKey = no_key
refusal_number refusal.OtherNamespace = other_namespace
refusal_number refusal.PruningPrevented = pruning_prevented
refusal_number refusal.Full = full
refusal_number refusal.OtherDigest = other_digest
refusal_number refusal.WrongTally = wrong_tally
refusal_number refusal.AbsentEntry = absent_entry
refusal_number refusal.TooMuchAvailable = too_much_available

-- What a call answers, in 01's words: its values, each as f tells them; or the number of the refusal.
abbrev pub said_by : {A B : Type 0} → (A → B) → Result A Refusal → Said B
said_by f (Ok a) = says (f a)
said_by f (Err r) = refuses (refusal_number r)

-- The same where the values need no telling.
abbrev pub said : {A : Type 0} → Result A Refusal → Said A
said (Ok a) = says a
said (Err r) = refuses (refusal_number r)

-- The number of a test's refusal, or 0 where nothing is refused.
abbrev pub refused_with : {A : Type 0} → Result A Refusal → ℕ
refused_with (Ok a) = 0
refused_with (Err r) = refusal_number r

-- What each case of a comparison says.
abbrev pub ordering_says : Ordering → Order
ordering_says ordering.Less = less
ordering_says ordering.Equal = same
ordering_says ordering.Greater = greater

-- The order by which a comparison compares.
abbrev pub order_by : {A : Type 0} → (A → A → Ordering) → A → A → Order
order_by c a b = ordering_says (c a b)

-- The comparison of two entries by their ranks: the first is newer if its rank is the greater one, older if it is the lesser, the same if neither is
-- (`compared-newer`, `compared-older`, `compared_same`: so it is by `newer`).
abbrev pub recency_says : Recency → Order
recency_says recency.Newer = greater
recency_says recency.Older = less
recency_says recency.Same = same

-- What is answered to a question about paths, or to their comparison: 4 if one of them is illegal, else what holds.
abbrev pub answered : {A : Type 0} → (legal : Bool) → A → Said A
answered false holds = refuses illegal_path
answered true holds = says holds
