-- What the calls say as a whole: a listing walked to its end while the store may change between its steps, a listing of one store, and the entry that is found.
use Rattle.std.specs.Prelude.{ℕ, ◌≡◌, List, [], ◌∷◌, ◌++◌, Bool, true, false}
use Rattle.std.proofs.Math.Option.{Option, some, none}
use Rattle.laws.specs.Order.{is_less}
use Rattle.laws.specs.Sorted.{◌∈◌, keep, Ascends}
use Rattle.data_model.specs.Said.{Said, says}
use Rattle.data_model.specs.Path.{Figures, components, by_bytes}
use Rattle.data_model.specs.Entry.{Entry}
use Rattle.data_model.specs.declared.path.Path.{Path}
use Rattle.data_model.specs.declared.parameters.Subspace.{Subspace}
use Rattle.data_model.specs.declared.query_ignore_params.QueryIgnoreParams.{QueryIgnoreParams}
use Rattle.key_laws.specs.Bytes.{Bytes}
use Rattle.tree.specs.Stored.{Stored, stored, contents, lengthy, key_in, key_of, key_below, triple_of}
use Rattle.tree.specs.Matching.{stands_at, let_through}
use Rattle.tree.specs.declared.stored.KeyOrder.TheVariants.{Spt}
use Rattle.store.specs.Store.{Store, tree_of, held}
use Rattle.query.specs.Listing.{spt_records, key_above}
use Rattle.query.specs.Lookup.{not_found, entry_found}

-- What a step of a listing answers, of the store as it then is and of the remembered key.
abbrev pub Steps : Type 0
Steps = Store → (last : List ℕ) → Said (Option (List ℕ))

-- A turn of a walk: the store as it was at this step, and the record that the step gave.
pub record Turn : Type 0 where
  pub store : Store
  pub given : List ℕ

-- Steps of a listing, the first of which remembers `last`: each turn's step, on that turn's store, gives that turn's record, whose key the next step remembers. So
-- no step is refused. Nothing is asked of how one store came from the one before.
abbrev pub Stepped : Steps → (last : List ℕ) → List Turn → Type 0
Stepped answer last [] = Unit {0}
Stepped answer last (t ∷ turns) = (answer t.store last ≡ says (some t.given)) × Stepped answer (key_of t.given) turns

-- What the step after some turns of a listing remembers.
abbrev pub remembered : (last : List ℕ) → List Turn → List ℕ
remembered last [] = last
remembered last (t ∷ turns) = remembered (key_of t.given) turns

-- A walk to its end: the step after the last turn, on the store `end`, says finished.
abbrev pub Walked : Steps → (last : List ℕ) → List Turn → (end : Store) → Type 0
Walked answer last turns end = Stepped answer last turns × (answer end (remembered last turns) ≡ says none)

-- What a turn shows: what its record says.
abbrev pub shown : Figures → Turn → Stored
shown f t = stored Spt f t.store.state.namespace_id t.given

-- The key of an entry in the subspace-first tree.
abbrev pub entry_key : Entry → List ℕ
entry_key x = key_in Spt (triple_of x)

-- The very entry, of this namespace, subspace, path, timestamp, digest and length, is stored, whatever its token, available length and origin.
abbrev pub StoredIn : Figures → Entry → Store → Type 0
StoredIn f x s = (y : Stored) × y ∈ held f Spt s × (y.entry ≡ x)

-- The very entry is stored and matches: the test holds of it, with what is kept with it.
abbrev pub MatchesIn : Figures → (test : Stored → Bool) → Entry → Store → Type 0
MatchesIn f test x s = (y : Stored) × y ∈ held f Spt s × (y.entry ≡ x) × (test y ≡ true)

-- A turn shows an entry, and no other turn gives its key.
abbrev pub ShownOnce : Figures → Entry → List Turn → Type 0
ShownOnce f x turns = (before : List Turn) × (t : Turn) × (after : List Turn) × (turns ≡ before ++ t ∷ after) × ((shown f t).entry ≡ x)
    × ((u : Turn) → u ∈ before ++ after → key_of u.given ≡ entry_key x → ⊥)

-- What a listing gives from the empty key on, finished or not; `test` says which entries match.
pub record ListingGives (f : Figures) (test : Stored → Bool) (turns : List Turn) : Type 0 where
  -- Each record that is given stands in the store of its step, its entry matches there, and its key is that entry's.
  pub stands : (t : Turn) → t ∈ turns → t.given ∈ spt_records f t.store × (test (shown f t) ≡ true)
  pub own_key : (t : Turn) → t ∈ turns → key_of t.given ≡ entry_key (shown f t).entry
  -- Whatever is given from a step on is above the key that this step remembers; so the keys ascend.
  pub onwards : (before after : List Turn) → turns ≡ before ++ after → (t : Turn) → t ∈ after → key_above (remembered [] before) t.given ≡ true
  pub ascends : Ascends (λ (t u : Turn). key_below t.given u.given) turns
  -- "One that first arrives behind is not shown": stored at no step before some step, and its key at or below the one that this step remembers.
  pub behind : (x : Entry) (before after : List Turn) → turns ≡ before ++ after → ((t : Turn) → t ∈ before → StoredIn f x t.store → ⊥)
      → is_less (by_bytes (remembered [] before) (entry_key x)) ≡ false → (t : Turn) → t ∈ turns → (shown f t).entry ≡ x → ⊥
  -- "One pruned before its turn, and not filed again, is not shown": not shown before some step, and stored at none from that step on.
  pub gone : (x : Entry) (before after : List Turn) → turns ≡ before ++ after → ((t : Turn) → t ∈ before → (shown f t).entry ≡ x → ⊥)
      → ((t : Turn) → t ∈ after → StoredIn f x t.store → ⊥) → (t : Turn) → t ∈ turns → (shown f t).entry ≡ x → ⊥
  -- "No key is given twice."
  pub once : (before : List Turn) (t : Turn) (after : List Turn) → turns ≡ before ++ t ∷ after → (u : Turn) → u ∈ before ++ after → key_of u.given ≡ key_of t.given → ⊥

-- What a listing shows that was walked to its end. Theorems `area-shows` and `range-shows`.
pub record ListingShows (f : Figures) (test : Stored → Bool) (turns : List Turn) (end : Store) : Type 0 where
  pub gives : ListingGives f test turns
  -- "in a listing walked to its end, an entry stored and matching all the while is shown once".
  pub shown_once : (x : Entry) → ((t : Turn) → t ∈ turns → MatchesIn f test x t.store) → MatchesIn f test x end → ShownOnce f x turns
  -- So is one that is stored and matches from some step on, if its key is above the one that this step remembers: it arrived ahead, or came to match there.
  pub ahead : (x : Entry) (before after : List Turn) → turns ≡ before ++ after → is_less (by_bytes (remembered [] before) (entry_key x)) ≡ true
      → ((t : Turn) → t ∈ after → MatchesIn f test x t.store) → MatchesIn f test x end → ShownOnce f x turns

-- The trees of the stores are of bytes, as all that is lent.
abbrev pub OfBytes : Figures → List Turn → (end : Store) → Type 0
OfBytes f turns end = ((t : Turn) → t ∈ turns → Bytes (tree_of f Spt t.store)) × Bytes (tree_of f Spt end)

-- The records of the subspace-first tree whose entries a test holds of.
abbrev pub matching : Figures → Store → (test : Stored → Bool) → List (List ℕ)
matching f s test = keep (λ (r : List ℕ). test (stored Spt f s.state.namespace_id r)) (spt_records f s)

-- The turns of a walk over one store.
abbrev pub turns_on : Store → List (List ℕ) → List Turn
turns_on s [] = []
turns_on s (r ∷ rs) = record { store = s; given = r } ∷ turns_on s rs

-- A walk over one store gives exactly the matching records, each once and in key order, and then is finished; what they say are the entries that the test holds of.
pub record Lists (f : Figures) (s : Store) (test : Stored → Bool) (answer : Steps) : Type 0 where
  pub walks : Walked answer [] (turns_on s (matching f s test)) s
  pub ascends : Ascends key_below (matching f s test)
  pub entries : contents Spt f s.state.namespace_id (matching f s test) ≡ keep test (held f Spt s)

-- Something is found exactly if a stored entry stands at the place and the flags let it through, and it is that entry. Else all is 0.
pub record Finds (f : Figures) (s : Store) (subspace : Subspace) (path : Path) (ignore : QueryIgnoreParams) : Type 0 where
  pub there : (x : Stored) → x ∈ held f Spt s → stands_at subspace (components path) x ≡ true → let_through ignore x ≡ true
      → entry_found f s subspace path ignore ≡ record { refusal = 0; found = true; lengthy = lengthy x }
  pub stored : (entry_found f s subspace path ignore).found ≡ true
      → (x : Stored) × x ∈ held f Spt s × (stands_at subspace (components path) x ≡ true) × (let_through ignore x ≡ true) × ((entry_found f s subspace path ignore).lengthy ≡ lengthy x)
  pub absent : (entry_found f s subspace path ignore).found ≡ false → entry_found f s subspace path ignore ≡ not_found 0
