-- 02, U4: how much of a stored entry's payload has arrived. One definition serves both calls: when they are refused, in checking order, and what they leave.
use Rattle.std.specs.Prelude.{ℕ, ◌<◌, ◌≡◌, List, map, Bool, true, not, cond, ◌&&◌, length, eqb, ltb, Result}
use Rattle.laws.specs.Sorted.{any}
use Rattle.layout.specs.Layout.{tree_bytes}
use Rattle.layout.specs.Marks.{marks_of, first_mark}
use Rattle.data_model.specs.Path.{Figures, Components, components, legal}
use Rattle.data_model.specs.Refusal.{illegal_path, other_digest, absent_entry, too_much_available, refused_with}
use Rattle.data_model.specs.declared.answer.Refusal.{Refusal}
use Rattle.data_model.specs.declared.path.Path.{Path}
use Rattle.data_model.specs.declared.parameters.Subspace.{Subspace}
use Rattle.tree.specs.Stored.{Stored, record_of}
use Rattle.tree.specs.Matching.{stands_at}
use Rattle.tree.specs.declared.stored.KeyOrder.{KeyOrder}
use Rattle.tree.specs.declared.stored.KeyOrder.TheVariants.{Spt}
use Rattle.store.specs.Store.{Store, store_of, held, Held, held_by, holding}
use Rattle.store.specs.Refusal.{unless, ◌or_else◌, store_refusal}
use Rattle.store.specs.Forget.{unexpected}
use Rattle.store.specs.Change.{in_tree}
use Rattle.store.specs.declared.state.State.{State}

-- What is stored, with this available length; the same where it stands at a subspace and path, and as it is elsewhere; and so in both trees.
abbrev pub arrive : ℕ → Stored → Stored
arrive n x = record { entry = x.entry; token = x.token; available = n; origin = x.origin }

unfoldable pub arrive_at : Subspace → Components → ℕ → Stored → Stored
arrive_at s p n x = cond (stands_at s p x) (arrive n x) x

abbrev pub arrived_at : Subspace → Components → ℕ → Held → Held
arrived_at s p n h = record { spt = map (arrive_at s p n) h.spt; tsp = map (arrive_at s p n) h.tsp }

-- It stands at the subspace and path, and its payload is shorter than this.
unfoldable pub exceeded : Subspace → Components → ℕ → Stored → Bool
exceeded s p n x = stands_at s p x && ltb x.entry.rank.payload_length n

-- What is looked for among stored entries: 11, if none stands at the subspace and path; 9, if a digest is expected that is not its own; 12, if this is above its
-- payload length.
unfoldable pub entry_refusal : Subspace → Components → (expects : Bool) → (digest : List ℕ) → ℕ → List Stored → ℕ
entry_refusal s p expects digest n l =
    unless (any (stands_at s p) l) absent_entry or_else unless (not (any (unexpected s p expects digest) l)) other_digest or_else
    unless (not (any (exceeded s p n) l)) too_much_available

-- 1, 2, 3, 4, 11, 9 and 12: the call is lent no buffer but the store's four.
unfoldable pub available_refusal : Figures → Store → Subspace → Path → (expects : Bool) → (digest : List ℕ) → ℕ → ℕ
available_refusal f s subspace path expects digest n =
    store_refusal f s true or_else unless (legal f path) illegal_path or_else entry_refusal subspace (components path) expects digest n (held f Spt s)

-- What is answered: the refusal, 0 for none, and the state that was handed in.
pub record AvailableSaid : Type 0 where
  pub refusal : ℕ
  pub state : State

abbrev pub available_says : {A : Type 0} → (handed : State) → Result A Refusal → AvailableSaid
available_says handed r = record { refusal = refused_with r; state = handed }

pub record AvailableOutcome : Type 0 where
  pub answer : AvailableSaid
  pub left : Store

abbrev pub available_outcome : AvailableSaid → List ℕ → List ℕ → List ℕ → List ℕ → AvailableOutcome
available_outcome r a b c d = record { answer = r; left = store_of r.state a b c d }

-- The state that is answered is the one that was handed in, refused or not. Forgetting a payload is recording 0.
unfoldable pub available_set : Figures → Store → Subspace → Path → (expects : Bool) → (digest : List ℕ) → ℕ → AvailableOutcome
available_set f s subspace path expects digest n = record {
  answer = record { refusal = refusal; state = s.state };
  left = cond (eqb refusal 0) (holding f (arrived_at subspace (components path) n (held_by f s)) s) s;
}
  where
    refusal : ℕ
    refusal = available_refusal f s subspace path expects digest n

-- For the functions below the calls. Place k is the first of these that stands at a subspace and path.
pub record StandsFirst (s : Subspace) (p : Components) (k : ℕ) (l : List Stored) : Type 0 where
  pub inside : k < length l
  pub first : k ≡ first_mark (marks_of (stands_at s p) l)

-- The bytes of one tree in its room, after what stands at a subspace and path was given this available length: the directory stays.
abbrev pub Arrived : KeyOrder → (namespace : List ℕ) → (count : ℕ) → Subspace → Components → ℕ → (dir tree after : List ℕ) → Type 0
Arrived o namespace count s p n dir tree after = after ≡ tree_bytes (length tree) (map (record_of o) (map (arrive_at s p n) (in_tree o namespace count dir tree)))
