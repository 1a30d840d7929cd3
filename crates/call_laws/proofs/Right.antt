-- What our calls answer and leave is right, on any store; what an opening makes; and what forgetting leaves of a store that stands. Assumes nothing.
use Prim.Native.Nat.{ℕ}
use mathlib.Core.Path.{◌≡◌, refl, sym, ap, subst, ◌∙◌}
use mathlib.Core.Bool.{Bool}
use mathlib.Core.List.{[]}
use mathlib.Core.Option.{some}
use native.Mathlib.Omega.{arith}
use lib.ListN.{length}
use lib.Dec.{eqb}
use Rattle.laws.specs.Sorted.{keep}
use Rattle.laws.proofs.Truth.{split}
use Rattle.data_model.specs.Path.{Figures}
use Rattle.tree.specs.Stored.{Stored}
use Rattle.tree.specs.declared.stored.KeyOrder.{KeyOrder}
use Rattle.tree.specs.declared.stored.KeyOrder.TheVariants.{Spt, Tsp}
use Rattle.store.specs.Store.{held, held_by, Tallied}
use Rattle.store.specs.Open.{nothing, open_refusal}
use Rattle.store.specs.Ingest.{filed}
use Rattle.store.specs.Forget.{without}
use Rattle.store.proofs.Lifted.{list_of, held_in}
use Rattle.call_laws.specs.Calls.{Opening, IngestCall, Recording, Call, ingest, forget_entry, forget_area, record_available, forget_payload, filed_as, forgets, recording_of, counted, Verdict, refused, obsolete, already_held, done, IsValue}
use Rattle.call_laws.specs.Checks.{asked}
use Rattle.call_laws.specs.Outcomes.{Outcome, outcome, opens, CallRight, OpeningRight}
use Rattle.call_laws.proofs.Checked.{right, right-opening}
use Rattle.call_laws.proofs.Did.{so, Did, was_refused, was_obsolete, was_held, has_filed, has_forgotten, has_recorded, did}
use Rattle.call_laws.proofs.Stands.{Stands, stands-sound, held-taken, held-without, arrivals, held-recorded, value_of, opening-store, opens-stands}

pub refused-done : {n : ℕ} {G : Type 0} → refused n ≡ done → G
refused-done e = absurd (let z : ◌≡◌ {A = ℕ} 0 1 = cc in omega arith)

pub obsolete-done : {G : Type 0} → obsolete ≡ done → G
obsolete-done e = absurd (let z : ◌≡◌ {A = ℕ} 0 1 = cc in omega arith)

pub held-done : {G : Type 0} → already_held ≡ done → G
held-done e = absurd (let z : ◌≡◌ {A = ℕ} 0 1 = cc in omega arith)

pub not-forgets : {G : Type 0} (i : IngestCall) (p : Stored → Bool) → forgets (ingest i) ≡ some p → G
unfolding forgets
not-forgets i p z = absurd (let n : ◌≡◌ {A = ℕ} 0 1 = cc in omega arith)

pub not-records : {G : Type 0} (i : IngestCall) (r : Recording) → recording_of (ingest i) ≡ some r → G
unfolding recording_of
not-records i r z = absurd (let n : ◌≡◌ {A = ℕ} 0 1 = cc in omega arith)

-- No call both forgets entries and records how much has arrived.
pub never_both : {G : Type 0} (c : Call) (p : Stored → Bool) (r : Recording) → forgets c ≡ some p → recording_of c ≡ some r → G
unfolding forgets recording_of
never_both (ingest i) p r a b = absurd (let n : ◌≡◌ {A = ℕ} 0 1 = cc in omega arith)
never_both (forget_entry t) p r a b = absurd (let n : ◌≡◌ {A = ℕ} 0 1 = cc in omega arith)
never_both (forget_area t) p r a b = absurd (let n : ◌≡◌ {A = ℕ} 0 1 = cc in omega arith)
never_both (record_available t) p r a b = absurd (let n : ◌≡◌ {A = ℕ} 0 1 = cc in omega arith)
never_both (forget_payload t) p r a b = absurd (let n : ◌≡◌ {A = ℕ} 0 1 = cc in omega arith)

module _ (f : Figures) (w : Tallied) (c : Call) where
  verdict-is : {a : Verdict} {n : ℕ} {t : Tallied} → outcome f w c ≡ so a n t → (outcome f w c).verdict ≡ a
  verdict-is e = ap (λ (o : Outcome Tallied). o.verdict) e

  number_is : {a : Verdict} {n : ℕ} {t : Tallied} → outcome f w c ≡ so a n t → (outcome f w c).number ≡ n
  number_is e = ap (λ (o : Outcome Tallied). o.number) e

  left_is : {a : Verdict} {n : ℕ} {t : Tallied} → outcome f w c ≡ so a n t → (outcome f w c).left ≡ t
  left_is e = ap (λ (o : Outcome Tallied). o.left) e

  pub call-right : CallRight f w c (outcome f w c)
  call-right = record { verdict = right f w c; number = λ d. counts d (did f w c); unchanged = λ n. leaves n (did f w c) }
    where
      counts : (outcome f w c).verdict ≡ done → Did f w c → (outcome f w c).number ≡ length (keep (counted c) (held f Spt w.store))
      counts d (was_refused n e) = refused-done (sym (verdict-is e) ∙ d)
      counts d (was_obsolete i q y m o e) = obsolete-done (sym (verdict-is e) ∙ d)
      counts d (was_held i q h e) = held-done (sym (verdict-is e) ∙ d)
      counts d (has_filed i q t e) = number_is e
      counts d (has_forgotten p q e) = number_is e
      counts d (has_recorded r q k e) = number_is e

      leaves : ((outcome f w c).verdict ≡ done → ⊥) → Did f w c → ((outcome f w c).left ≡ w) × ((outcome f w c).number ≡ 0)
      leaves n (was_refused m e) = (left_is e, number_is e)
      leaves n (was_obsolete i q y m o e) = (left_is e, number_is e)
      leaves n (was_held i q h e) = (left_is e, number_is e)
      leaves n (has_filed i q t e) = absurd (n (verdict-is e))
      leaves n (has_forgotten p q e) = absurd (n (verdict-is e))
      leaves n (has_recorded r q k e) = absurd (n (verdict-is e))

  -- What an ingestion that is done leaves of a store that stands, and what forgetting leaves.
  pub files-right : Stands f w → IsValue f c → (i : IngestCall) → c ≡ ingest i → (outcome f w c).verdict ≡ done → held_by f (outcome f w c).left.store ≡ filed (filed_as i) (held_by f w.store)
  files-right v k i q d = go (did f w c)
    where
      same : {j : IngestCall} → c ≡ ingest j → j ≡ i
      same p = let z = sym p ∙ q in cc

      go : Did f w c → held_by f (outcome f w c).left.store ≡ filed (filed_as i) (held_by f w.store)
      go (was_refused n e) = refused-done (sym (verdict-is e) ∙ d)
      go (was_obsolete j p y m o e) = obsolete-done (sym (verdict-is e) ∙ d)
      go (was_held j p h e) = held-done (sym (verdict-is e) ∙ d)
      go (has_filed j p t e) = ap (λ (t : Tallied). held_by f t.store) (left_is e) ∙ held-taken f w v j (value_of f c j p k) t ∙ ap (λ (a : IngestCall). filed (filed_as a) (held_by f w.store)) (same p)
      go (has_forgotten p g e) = not-forgets i p (subst (λ (d : Call). forgets d ≡ some p) q g)
      go (has_recorded r g k e) = not-records i r (subst (λ (d : Call). recording_of d ≡ some r) q g)

  pub forgets-right : Stands f w → (p : Stored → Bool) → forgets c ≡ some p → (outcome f w c).verdict ≡ done → held_by f (outcome f w c).left.store ≡ without p (held_by f w.store)
  forgets-right v p g d = go (did f w c)
    where
      not-ingested : {G : Type 0} (i : IngestCall) → c ≡ ingest i → G
      not-ingested i q = not-forgets i p (subst (λ (d : Call). forgets d ≡ some p) q g)

      go : Did f w c → held_by f (outcome f w c).left.store ≡ without p (held_by f w.store)
      go (was_refused n e) = refused-done (sym (verdict-is e) ∙ d)
      go (was_obsolete i q y m o e) = not-ingested i q
      go (was_held i q h e) = not-ingested i q
      go (has_filed i q t e) = not-ingested i q
      go (has_forgotten r q e) =
          let z : some r ≡ some p = sym q ∙ g in
          let y : r ≡ p = cc in
          ap (λ (t : Tallied). held_by f t.store) (left_is e) ∙ held-without f w v r ∙ ap (λ (p : Stored → Bool). without p (held_by f w.store)) y
      go (has_recorded r q k e) = never_both c p r g q

  -- What a recording that is done leaves.
  pub records-right : Stands f w → (r : Recording) → recording_of c ≡ some r → (outcome f w c).verdict ≡ done → held_by f (outcome f w c).left.store ≡ arrivals r (held_by f w.store)
  records-right v r g d = go (did f w c)
    where
      not-ingested : {G : Type 0} (i : IngestCall) → c ≡ ingest i → G
      not-ingested i q = not-records i r (subst (λ (d : Call). recording_of d ≡ some r) q g)

      go : Did f w c → held_by f (outcome f w c).left.store ≡ arrivals r (held_by f w.store)
      go (was_refused n e) = refused-done (sym (verdict-is e) ∙ d)
      go (was_obsolete i q y m o e) = not-ingested i q
      go (was_held i q h e) = not-ingested i q
      go (has_filed i q t e) = not-ingested i q
      go (has_forgotten p q e) = never_both c p r q g
      go (has_recorded x q k e) =
          let z : some x ≡ some r = sym q ∙ g in
          let y : x ≡ r = cc in
          ap (λ (t : Tallied). held_by f t.store) (left_is e) ∙ held-recorded f w v x k ∙ ap (λ (a : Recording). arrivals a (held_by f w.store)) y

pub opening-right : (f : Figures) (o : Opening) → OpeningRight f o (opens f o)
opening-right f o = record {
  verdict = right-opening f o;
  unchanged = λ h. split (eqb (open_refusal f (asked o)) 0)
      (λ q. absurd (h (ap (λ (r : Outcome Tallied). r.verdict) (opening-store f o) ∙ rw q refl)))
      (λ q. ap (λ (r : Outcome Tallied). r.left) (opening-store f o) ∙ rw q refl);
  empty = λ h k. sym (held_in f k (opens f o).left.store) ∙ ap (list_of k) (opens-stands f o h).empty ∙ none-listed k;
  sound = λ h. stands-sound f (opens f o).left (opens-stands f o h).stands;
  keeps = λ h. (opens-stands f o h).keeps;
}
  where
    none-listed : (k : KeyOrder) → list_of k nothing ≡ []
    none-listed Spt = unfold list_of in refl
    none-listed Tsp = unfold list_of in refl
