-- Ingestion: 1, 2, 3, 10, 4, 6; obsolete or held; 7, 8; or the entry is filed in both trees and what it removes goes from both.
use Rattle.std.specs.Prelude.{ℕ, ◌-◌, ◌*◌, ◌<◌, ◌≡◌, List, Bool, true, false, not, cond, ◌&&◌, length, replicate, leb, ltb, eqb, Result, Ok, Err}
use Rattle.std.proofs.Math.Option.{Option, some, none}
use Rattle.laws.specs.Lists.{put}
use Rattle.laws.specs.Order.{below, on}
use Rattle.laws.specs.Prefix.{same_number, same_list}
use Rattle.laws.specs.First.{first_that}
use Rattle.laws.specs.Sorted.{any, keep, insert}
use Rattle.layout.specs.Layout.{records}
use Rattle.layout.specs.Marks.{marks_of, first_mark, marked_pairs}
use Rattle.data_model.specs.Said.{Said, refuses, says}
use Rattle.data_model.specs.Path.{Figures, legal}
use Rattle.data_model.specs.Entry.{Entry, entry_of, no_entry}
use Rattle.data_model.specs.Refusal.{illegal_path, other_namespace, pruning_prevented, full, refusal_number}
use Rattle.data_model.specs.declared.answer.Refusal.{Refusal}
use Rattle.data_model.specs.declared.entry.Entry.{Entry as EntryValue}
use Rattle.key_laws.specs.KeyOrder.{spt_order, tsp_order}
use Rattle.tree.specs.Stored.{Stored, stored, contents, triple_of, lengthy}
use Rattle.tree.specs.Matching.{outdates, removes, repeats}
use Rattle.tree.specs.declared.stored.KeyOrder.{KeyOrder}
use Rattle.tree.specs.declared.stored.KeyOrder.TheVariants.{Spt, Tsp}
use Rattle.store.specs.Store.{Store, dir_room, tree_of, dir_of, held, Held, held_by, holding, Tallied, tallied_of, tallied_holding}
use Rattle.store.specs.Refusal.{unless, ◌or_else◌, store_refusal, tallied_refusal}
use Rattle.store.specs.declared.state.State.{State}
use Rattle.store.specs.declared.ingest.Ingested.{Ingested}
use Rattle.store.specs.declared.ingest.Ingested.TheVariants as answer
use Rattle.store.specs.declared.ingest.Ingestion.{Ingestion}
use Rattle.store.specs.declared.decide.PlaceDecision.{PlaceDecision}
use Rattle.store.specs.declared.decide.PlaceDecision.TheVariants as place

-- What an ingestion that is not refused says: success, and how many entries it pruned; or that the entry is obsolete; or that it is held, being stored
-- already.
pub data Verdict : Type 0 where
  succeeds : (pruned : ℕ) → Verdict
  is-obsolete is-held : Verdict

-- What the verdict of an answer says: the refusal's number, or the case and how many were pruned.
abbrev pub verdict_says : Result Ingested Refusal → Said Verdict
verdict_says (Ok (answer.Success state n)) = says (succeeds n)
verdict_says (Ok (answer.Obsolete newer token)) = says is-obsolete
verdict_says (Ok answer.Held) = says is-held
verdict_says (Err r) = refuses (refusal_number r)

-- The whole answer: the verdict; the state, which is the one handed in unless the entry was stored; and the newer entry and its token, all 0 if none is shown.
pub record IngestSaid : Type 0 where
  pub verdict : Said Verdict
  pub state : State
  pub newer : EntryValue
  pub token : List ℕ

-- The answer that shows no entry.
abbrev pub plain_answer : Said Verdict → State → IngestSaid
plain_answer v s = record { verdict = v; state = s; newer = no_entry; token = replicate 64 0 }

-- What an ingestion answers, with the state that it was handed.
abbrev pub ingested_says : (handed : State) → Result Ingested Refusal → IngestSaid
ingested_says handed (Ok (answer.Success state n)) = plain_answer (says (succeeds n)) state
ingested_says handed (Ok (answer.Obsolete newer token)) = record { verdict = says is-obsolete; state = handed; newer = newer; token = token }
ingested_says handed (Ok answer.Held) = plain_answer (says is-held) handed
ingested_says handed (Err r) = plain_answer (refuses (refusal_number r)) handed

-- The orders of the two trees, on entries.
abbrev pub spt_less : Stored → Stored → Bool
spt_less = below (on (λ (x : Stored). triple_of x.entry) spt_order)

abbrev pub tsp_less : Stored → Stored → Bool
tsp_less = below (on (λ (x : Stored). triple_of x.entry) tsp_order)

-- What an ingestion files: what it is handed, and nothing of the payload is available.
abbrev pub filing : Ingestion → Stored
filing i = record { entry = entry_of i.entry; token = i.token; available = 0; origin = i.origin }

abbrev pub stays : Entry → Stored → Bool
stays e x = not (removes e x)

abbrev pub less_in : KeyOrder → Stored → Stored → Bool
less_in Spt = spt_less
less_in Tsp = tsp_less

-- What it removes goes from a tree, and it stands at its key's place.
unfoldable pub filed_in : KeyOrder → Stored → List Stored → List Stored
filed_in o x l = insert (less_in o) x (keep (stays x.entry) l)

unfoldable pub filed : Stored → Held → Held
filed x h = record { spt = filed_in Spt x h.spt; tsp = filed_in Tsp x h.tsp }

-- What is decided of an entry that is not refused with 1 to 6 or 10.
pub data Decision : Type 0 where
  refuse : ℕ → Decision
  obsolete : Stored → Decision
  already take_it : Decision

unfoldable pub decided_of : Option Stored → Decision → Decision
decided_of (some x) d = obsolete x
decided_of none d = d

-- Obsolete, if a stored entry outdates it: shown is the first in key order. Held, if it is stored already. 7, if it would remove one and must
-- not. 8, if those that stay number the limit.
unfoldable pub decided : (limit : ℕ) → List Stored → Entry → (prevent : Bool) → Decision
decided limit stored e prevent =
    decided_of (first_that (outdates e) stored)
    (cond (any (repeats e) stored) already
    (cond (prevent && any (removes e) stored) (refuse pruning_prevented)
    (cond (leb limit (length (keep (stays e) stored))) (refuse full) take_it)))

-- The same by the place of the first entry that outdates it and the number of those that it removes, as the code decides.
abbrev pub outdated_at : List Stored → Entry → ℕ
outdated_at stored e = first_mark (marks_of (outdates e) stored)

abbrev pub removed_from : List Stored → Entry → ℕ
removed_from stored e = length (keep (removes e) stored)

unfoldable pub place_decided : (limit : ℕ) → List Stored → Entry → (prevent : Bool) → Said PlaceDecision
place_decided limit stored e prevent =
    cond (ltb (outdated_at stored e) (length stored)) (says (place.Old (outdated_at stored e)))
    (cond (any (repeats e) stored) (says place.Already)
    (cond (prevent && ltb 0 (removed_from stored e)) (refuses pruning_prevented)
    (cond (leb limit (length stored - removed_from stored e)) (refuses full) (says (place.Take (removed_from stored e))))))

unfoldable pub ingest_refusal : Figures → Tallied → (prune : List ℕ) → EntryValue → ℕ
ingest_refusal f w prune e =
    tallied_refusal f w (leb (dir_room w.store.state.limit) (length prune)) or_else unless (legal f e.path) illegal_path or_else
    unless (same_list same_number e.namespace_id w.store.state.namespace_id) other_namespace

unfoldable pub judged : Figures → Tallied → (prune : List ℕ) → EntryValue → (prevent : Bool) → Decision
judged f w prune e prevent =
    cond (eqb (ingest_refusal f w prune e) 0) (decided w.store.state.limit (held f Spt w.store) (entry_of e) prevent) (refuse (ingest_refusal f w prune e))

-- An entry is new to these: none of them outdates it, and it is none of them.
pub record NewTo (l : List Stored) (e : Entry) : Type 0 where
  pub current : any (outdates e) l ≡ false
  pub absent : any (repeats e) l ≡ false

-- What is known of an entry that may be filed: it is not refused with 1, 2, 3, 4 or 6, whatever the tally, it is new to what is held, and fewer than the limit are left.
pub record MayFile (f : Figures) (s : Store) (prune : List ℕ) (e : EntryValue) : Type 0 where
  pub tested : store_refusal f s (leb (dir_room s.state.limit) (length prune)) ≡ 0
  pub lawful : legal f e.path ≡ true
  pub named : e.namespace_id ≡ s.state.namespace_id
  pub new : NewTo (held f Spt s) (entry_of e)
  pub room : length (keep (stays (entry_of e)) (held f Spt s)) < s.state.limit

-- The answer that shows the newer entry.
abbrev pub obsolete_answer : State → Stored → IngestSaid
obsolete_answer s x = record { verdict = says is-obsolete; state = s; newer = (lengthy x).entry; token = x.token }

-- The store after an entry was filed; the same with its tally.
abbrev pub store_filed : Figures → Store → Stored → Store
store_filed f s x = holding f (filed x (held_by f s)) s

abbrev pub tallied_filed : Figures → Tallied → Stored → Tallied
tallied_filed f w x = tallied_holding f (filed x (held_by f w.store)) w

-- The answer; the store and its tally, and the prune list afterwards.
pub record IngestOutcome : Type 0 where
  pub answer : IngestSaid
  pub left : Tallied
  pub prune : List ℕ

abbrev pub ingest_outcome : IngestSaid → List ℕ → List ℕ → List ℕ → List ℕ → List ℕ → List ℕ → IngestOutcome
ingest_outcome r a b c d t prune = record { answer = r; left = tallied_of r.state a b c d t; prune = prune }

-- The pairs of what an entry removes, as they stand in the subspace-first tree, in key order.
unfoldable pub pruned_pairs : Figures → Store → Entry → List ℕ
pruned_pairs f s e = marked_pairs (marks_of (removes e) (held f Spt s)) (dir_of Spt s)

-- What they are (theorem `pruned`): as many as the entry removes; what they cut out of that tree, in order, are its records that say what is
-- removed.
pub record Pruned (f : Figures) (s : Store) (e : Entry) : Type 0 where
  pub number : length (pruned_pairs f s e) ≡ 2 * length (keep (removes e) (held f Spt s))
  pub cut_out : records (length (keep (removes e) (held f Spt s))) (pruned_pairs f s e) (tree_of f Spt s)
      ≡ keep (λ (r : List ℕ). removes e (stored Spt f s.state.namespace_id r)) (records s.state.count (dir_of Spt s) (tree_of f Spt s))
  pub entries : contents Spt f s.state.namespace_id (records (length (keep (removes e) (held f Spt s))) (pruned_pairs f s e) (tree_of f Spt s)) ≡ keep (removes e) (held f Spt s)

-- What is answered and left where it is to be filed, by what was decided of it.
unfoldable pub carried : Figures → Tallied → (prune : List ℕ) → Stored → Decision → IngestOutcome
carried f w prune x (refuse n) = record { answer = plain_answer (refuses n) w.store.state; left = w; prune = prune }
carried f w prune x (obsolete y) = record { answer = obsolete_answer w.store.state y; left = w; prune = prune }
carried f w prune x already = record { answer = plain_answer (says is-held) w.store.state; left = w; prune = prune }
carried f w prune x take_it = record {
  answer = plain_answer (says (succeeds (length (keep (removes x.entry) (held f Spt w.store))))) (tallied_filed f w x).store.state;
  left = tallied_filed f w x;
  prune = put (pruned_pairs f w.store x.entry) prune;
}

-- What an ingestion answers and leaves, of whatever it is handed.
unfoldable pub ingested : Figures → Tallied → (prune : List ℕ) → Ingestion → IngestOutcome
ingested f w prune i = carried f w prune (filing i) (judged f w prune i.entry i.prevent_pruning)
