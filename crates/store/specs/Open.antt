-- Opening: refused with 1 or 2, or a store that holds nothing.
use Rattle.std.specs.Prelude.{ℕ, List, [], cond, ◌&&◌, replicate, eqb, Result, Ok, Err}
use Rattle.data_model.specs.Path.{Figures}
use Rattle.data_model.specs.Refusal.{short_buffer, bad_limit, refusal_number}
use Rattle.data_model.specs.declared.answer.Refusal.{Refusal}
use Rattle.store.specs.Store.{Held, Tallied, tallied_of, tallied_holding}
use Rattle.store.specs.Refusal.{unless, ◌or_else◌, limit_ok, roomy, tally_fits}
use Rattle.store.specs.declared.state.State.{State}

abbrev pub empty_state : List ℕ → ℕ → State
empty_state namespace limit = record { namespace_id = namespace; count = 0; limit = limit }

-- A state that is all 0.
abbrev pub no_state : State
no_state = empty_state (replicate 16 0) 0

abbrev pub nothing : Held
nothing = record { spt = []; tsp = [] }

-- 1: the limit asked for; 2: a buffer shorter than its room. The store is the buffers with the state asked for: `opening` makes it.
unfoldable pub open_refusal : Figures → Tallied → ℕ
open_refusal f w = unless (limit_ok w.store.state.limit) bad_limit or_else unless (roomy f w.store.state.limit w.store && tally_fits w) short_buffer

-- What an opening answers: refusal 0 and the state; or the refusal and a state that is all 0.
pub record OpenSaid : Type 0 where
  pub refusal : ℕ
  pub state : State

abbrev pub opened_says : Result State Refusal → OpenSaid
opened_says (Ok s) = record { refusal = 0; state = s }
opened_says (Err r) = record { refusal = refusal_number r; state = no_state }

-- The answer; and the store, with the state of the answer, and its tally afterwards.
pub record OpenOutcome : Type 0 where
  pub answer : OpenSaid
  pub left : Tallied

-- The answer: refused, its state is all 0.
unfoldable pub open_answer : (refusal : ℕ) → List ℕ → ℕ → OpenSaid
open_answer refusal namespace limit = cond (eqb refusal 0) (record { refusal = 0; state = empty_state namespace limit }) (record { refusal = refusal; state = no_state })

abbrev pub open_outcome : OpenSaid → List ℕ → List ℕ → List ℕ → List ℕ → List ℕ → OpenOutcome
open_outcome r a b c d t = record { answer = r; left = tallied_of r.state a b c d t }

unfoldable pub opened : Figures → Tallied → OpenOutcome
opened f w = record {
  answer = open_answer (open_refusal f w) w.store.state.namespace_id w.store.state.limit;
  left = cond (eqb (open_refusal f w) 0) (tallied_holding f nothing w) (tallied_of no_state w.store.spt w.store.spt_dir w.store.tsp w.store.tsp_dir w.tally);
}

-- An opening is handed a namespace, a limit and five buffers.
abbrev pub opening : Figures → (namespace : List ℕ) → (limit : ℕ) → (spt spt_dir tsp tsp_dir tally : List ℕ) → OpenOutcome
opening f namespace limit spt spt_dir tsp tsp_dir tally = opened f (tallied_of (empty_state namespace limit) spt spt_dir tsp tsp_dir tally)
