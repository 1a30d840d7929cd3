-- A listing that stays open over the calls of a run: every store that it meets stands, so that no step is refused for its store, and each record has the key of its
-- entry. Assumes nothing.
use Prim.Native.Nat.{ℕ}
use mathlib.Core.Path.{◌≡◌, refl, sym, ap, subst, ◌∙◌}
use mathlib.Core.Logic.{⊎_elim}
use mathlib.Core.List.Memᴰ.{cases_cons as uncons}
use mathlib.Core.List.Memᴰ.{head as here}
use mathlib.Core.List.Memᴰ.{not-nil as none_in}
use mathlib.Core.List.Memᴰ.{tail as there}
use mathlib.Core.List.{List, [], ◌∷◌}
use mathlib.Core.Bool.{Bool, true}
use mathlib.Core.Option.{some}
use Rattle.laws.specs.Sorted.{◌∈◌}
use Rattle.laws.proofs.Truth.{split}
use Rattle.data_model.specs.Path.{field, legal}
use Rattle.data_model.specs.Range.{legal_range}
use Rattle.data_model.specs.Refusal.{illegal_path, no_key}
use Rattle.tree.specs.Stored.{Stored, stored, record_of, key_of}
use Rattle.tree.specs.Matching.{listed_in_area, listed_in_range}
use Rattle.tree.specs.declared.stored.KeyOrder.TheVariants.{Spt}
use Rattle.tree.proofs.RecordLaws.{key-of-record, stored_back}
use Rattle.store.specs.Store.{held, held_by, Tallied}
use Rattle.store.specs.Refusal.{unless, ◌or_else◌, store_refusal}
use Rattle.query.proofs.Tested.{store-passes}
use Rattle.store.proofs.Recorded.{map-view}
use Rattle.query.specs.Reading.{read_refusal, is_remembered, list_refusal}
use Rattle.query.specs.Listing.{listed}
use Rattle.query.specs.Walk.{Turn, Stepped, remembered, entry_key}
use Rattle.query.proofs.StartLaws.{record-remembered}
use Rattle.query.proofs.GivenLaws.{answered}
use Rattle.query.proofs.WalkShown.{Keyed, shows}
use Rattle.call_laws.specs.Calls.{Call}
use Rattle.call_laws.proofs.Stands.{Stands, stands-well, opens-stands}
use Rattle.convergence.specs.Demand.{ours, after_all, Run, throughout, end}
use Rattle.convergence.specs.OpenListing.{Pause, turns_from, left_after, PausesAreValues, OpenListing}
use Rattle.convergence.proofs.Arriving.{records-borne}
use Rattle.convergence.proofs.Proved.{stands-all}

-- Of a store that stands.
module _ (u : Tallied) (v : Stands field u) where
  not-refused : 0 ≡ store_refusal field u.store true
  not-refused = store-passes u.store v.limit v.room (stands-well field u v)

  own-refusals : (paths : Bool) (last : List ℕ) → list_refusal field u.store paths last ≡ (unless paths illegal_path or_else unless (is_remembered field last) no_key)
  unfolding list_refusal read_refusal ◌or_else◌
  own-refusals paths last = rw (← not-refused) refl

  stands-keyed : Keyed u.store
  unfolding held_by
  stands-keyed r m =
      let k = map-view (record_of Spt) (held field Spt u.store) (subst (r ∈◌) (records-borne field u v Spt) m) in
      let h = (v.fit.proper k.0 k.1).lawful in
      let n = v.fit.sound.named k.0 k.1 in
      let e : stored Spt field u.store.state.namespace_id r ≡ k.0 = ap (stored Spt field u.store.state.namespace_id) k.2 ∙ stored_back field k.0 h Spt u.store.state.namespace_id n in
      ap key_of k.2 ∙ key-of-record field k.0 h Spt ∙ ap (λ (x : Stored). entry_key x.entry) (sym e)

-- Every store that a listing meets stands.
turns-stand : (w : Tallied) → Stands field w → (pauses : List Pause) (calls : List Call) → PausesAreValues pauses calls → (t : Turn) → t ∈ turns_from w pauses → (u : Tallied) × Stands field u × (t.store ≡ u.store)
turns-stand w v [] calls a t m = absurd (none_in m)
turns-stand w v (p ∷ pauses) calls a t m =
    let after = stands-all field w p.calls v (a.0 p (here refl)) in
    ⊎_elim
    (λ e. (after_all (ours field) w p.calls, after, ap (λ (x : Turn). x.store) e))
    (λ n. turns-stand (after_all (ours field) w p.calls) after pauses calls ((λ q k. a.0 q (there k)), a.1) t n)
    (uncons m)

end-stands : (w : Tallied) → Stands field w → (pauses : List Pause) (calls : List Call) → PausesAreValues pauses calls → Stands field (left_after w pauses calls)
end-stands w v [] calls a = stands-all field w calls v a.1
end-stands w v (p ∷ pauses) calls a = end-stands (after_all (ours field) w p.calls) (stands-all field w p.calls v (a.0 p (here refl))) pauses calls ((λ q k. a.0 q (there k)), a.1)

run-stands : (r : Run (throughout field) (ours field)) → Stands field (end r)
run-stands r = stands-all field _ r.calls (opens-stands field r.opening r.accepted).stands r.values

module _ (r : Run (throughout field) (ours field)) (pauses : List Pause) (calls : List Call) (a : PausesAreValues pauses calls) where
  turns-keyed : (t : Turn) → t ∈ turns_from (end r) pauses → Keyed t.store
  turns-keyed t m = let k = turns-stand (end r) (run-stands r) pauses calls a t m in subst Keyed (sym k.2) (stands-keyed k.0 k.1)

  end-keyed : Keyed (left_after (end r) pauses calls).store
  end-keyed = stands-keyed (left_after (end r) pauses calls) (end-stands (end r) (run-stands r) pauses calls a)

-- A key that a step gave may be remembered.
given-remembered : (paths : Bool) (test : Stored → Bool) (last : List ℕ) (turns : List Turn) → is_remembered field last ≡ true
    → Stepped (λ s last. listed field s (list_refusal field s paths last) test last) last turns → is_remembered field (remembered last turns) ≡ true
given-remembered paths test last [] k w = k
given-remembered paths test last (t ∷ turns) k w =
    let v = answered t.store paths test last (some t.given) w.0 in
    given-remembered paths test (key_of t.given) turns (record-remembered t.store v.0 t.given v.2.among) w.1

own_key : (r : Run (throughout field) (ours field)) (pauses : List Pause) (calls : List Call) → PausesAreValues pauses calls → (paths : Bool) (test : Stored → Bool)
    → Stepped (λ s last. listed field s (list_refusal field s paths last) test last) [] (turns_from (end r) pauses)
    → list_refusal field (left_after (end r) pauses calls).store paths (remembered [] (turns_from (end r) pauses)) ≡ unless paths illegal_path
unfolding unless ◌or_else◌
own_key r pauses calls a paths test w =
    let k = given-remembered paths test [] (turns_from (end r) pauses) (unfold is_remembered in refl) w in
    own-refusals (left_after (end r) pauses calls) (end-stands (end r) (run-stands r) pauses calls a) paths (remembered [] (turns_from (end r) pauses)) ∙ split paths (λ q. rw (q, k) refl) (λ q. rw q refl)

pub open-listing : OpenListing
open-listing = record {
  refusals = λ r. own-refusals (end r) (run-stands r);
  own_key = own_key;
  of_area = λ r pauses calls a area ignore w. shows (legal field area.path) (listed_in_area area ignore) _ w.0 (turns-keyed r pauses calls a) _ w.1 (end-keyed r pauses calls a);
  of_range = λ r pauses calls a range ignore w. shows (legal_range field range.paths) (listed_in_range range ignore) _ w.0 (turns-keyed r pauses calls a) _ w.1 (end-keyed r pauses calls a);
}
