-- Forgetting: of the entry at a subspace and path, and of what an area includes and a protected area, if any, does not.
use Rattle.std.specs.Prelude.{ℕ, List, Bool, true, not, cond, ◌&&◌, length, replicate, eqb, Option, unwrap_or, Result, Ok, Err}
use Rattle.laws.specs.Prefix.{same_number, same_list}
use Rattle.laws.specs.Sorted.{any, keep}
use Rattle.data_model.specs.Path.{Figures, Components, components, legal}
use Rattle.data_model.specs.Refusal.{illegal_path, other_digest, refusal_number}
use Rattle.data_model.specs.declared.answer.Refusal.{Refusal}
use Rattle.data_model.specs.declared.path.Path.{Path}
use Rattle.data_model.specs.declared.parameters.Subspace.{Subspace}
use Rattle.data_model.specs.declared.area.Area.{Area}
use Rattle.tree.specs.Stored.{Stored}
use Rattle.tree.specs.Matching.{stands_at, is_forgotten}
use Rattle.tree.specs.declared.stored.KeyOrder.TheVariants.{Spt}
use Rattle.store.specs.Store.{Store, held, Held, held_by, holding, Tallied, tallied_of, tallied_holding}
use Rattle.store.specs.Refusal.{unless, ◌or_else◌, tallied_refusal}
use Rattle.store.specs.declared.state.State.{State}
use Rattle.store.specs.declared.forget.AreaForgotten.{AreaForgotten}

-- Both trees without what a test holds of.
unfoldable pub without : (Stored → Bool) → Held → Held
without p h = record { spt = keep (λ (x : Stored). not (p x)) h.spt; tsp = keep (λ (x : Stored). not (p x)) h.tsp }

-- A store without what a test holds of; the same with its tally.
abbrev pub store_without : Figures → (Stored → Bool) → Store → Store
store_without f p s = holding f (without p (held_by f s)) s

abbrev pub tallied_without : Figures → (Stored → Bool) → Tallied → Tallied
tallied_without f p w = tallied_holding f (without p (held_by f w.store)) w

-- An entry: 9, if one stands there and a digest is expected that is not its own. Absent, it is done.
unfoldable pub unexpected : Subspace → Components → (expects : Bool) → (digest : List ℕ) → Stored → Bool
unexpected s p expects digest x = stands_at s p x && (expects && not (same_list same_number x.entry.rank.payload_digest digest))

unfoldable pub forget_entry_refusal : Figures → Tallied → Subspace → Path → (expects : Bool) → (digest : List ℕ) → ℕ
forget_entry_refusal f w subspace path expects digest =
    tallied_refusal f w true or_else unless (legal f path) illegal_path or_else
    unless (not (any (unexpected subspace (components path) expects digest) (held f Spt w.store))) other_digest

-- What is told of the digest expected, where none is: it is not looked at then.
abbrev pub digest_in : Option (List ℕ) → List ℕ
digest_in expected = unwrap_or expected (replicate 32 0)

-- What the forgetting of an entry answers: refusal 0 and the state; or the refusal and the state that was handed in.
pub record EntryForgottenSaid : Type 0 where
  pub refusal : ℕ
  pub state : State

abbrev pub entry_forgotten_says : (handed : State) → Result State Refusal → EntryForgottenSaid
entry_forgotten_says handed (Ok s) = record { refusal = 0; state = s }
entry_forgotten_says handed (Err r) = record { refusal = refusal_number r; state = handed }

pub record ForgetEntryOutcome : Type 0 where
  pub answer : EntryForgottenSaid
  pub left : Tallied

abbrev pub forget_entry_outcome : EntryForgottenSaid → List ℕ → List ℕ → List ℕ → List ℕ → List ℕ → ForgetEntryOutcome
forget_entry_outcome r a b c d t = record { answer = r; left = tallied_of r.state a b c d t }

unfoldable pub entry_forgotten : Figures → Tallied → Subspace → Path → (expects : Bool) → (digest : List ℕ) → ForgetEntryOutcome
entry_forgotten f w subspace path expects digest =
    cond (eqb (forget_entry_refusal f w subspace path expects digest) 0)
    (record { answer = record { refusal = 0; state = after.store.state }; left = after })
    (record { answer = record { refusal = forget_entry_refusal f w subspace path expects digest; state = w.store.state }; left = w })
  where
    after : Tallied
    after = tallied_without f (stands_at subspace (components path)) w

-- An area: the path of an absent protected area is not looked at.
unfoldable pub forget_area_refusal : Figures → Tallied → Area → (protects : Bool) → Area → ℕ
forget_area_refusal f w area protects protected =
    tallied_refusal f w true or_else unless (legal f area.path && cond protects (legal f protected.path) true) illegal_path

-- What that of an area answers: the same, with how many entries were forgotten.
pub record AreaForgottenSaid : Type 0 where
  pub refusal : ℕ
  pub state : State
  pub forgotten : ℕ

abbrev pub area_forgotten_says : (handed : State) → Result AreaForgotten Refusal → AreaForgottenSaid
area_forgotten_says handed (Ok a) = record { refusal = 0; state = a.state; forgotten = a.forgotten }
area_forgotten_says handed (Err r) = record { refusal = refusal_number r; state = handed; forgotten = 0 }

pub record ForgetAreaOutcome : Type 0 where
  pub answer : AreaForgottenSaid
  pub left : Tallied

abbrev pub forget_area_outcome : AreaForgottenSaid → List ℕ → List ℕ → List ℕ → List ℕ → List ℕ → ForgetAreaOutcome
forget_area_outcome r a b c d t = record { answer = r; left = tallied_of r.state a b c d t }

unfoldable pub area_forgotten : Figures → Tallied → Area → (protects : Bool) → Area → ForgetAreaOutcome
area_forgotten f w area protects protected =
    cond (eqb (forget_area_refusal f w area protects protected) 0)
    (record {
      answer = record { refusal = 0; state = after.store.state; forgotten = length (keep (is_forgotten area protects protected) (held f Spt w.store)) };
      left = after;
    })
    (record { answer = record { refusal = forget_area_refusal f w area protects protected; state = w.store.state; forgotten = 0 }; left = w })
  where
    after : Tallied
    after = tallied_without f (is_forgotten area protects protected) w
