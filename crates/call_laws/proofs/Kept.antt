-- A verdict is given only where its case holds; and every call on a well-formed store of bytes, by values, leaves a well-formed store, whatever its tally; one
-- that is lent the tally leaves the right one unless it is refused, and a right tally stays right. Assumes nothing.
use Prim.Native.Nat.{ℕ}
use mathlib.Core.Path.{◌≡◌, refl, sym, ap, subst, ◌∙◌}
use mathlib.Core.Logic.{◌⊎◌, inl, inr, ⊎_elim}
use mathlib.Core.Bool.{true, false}
use mathlib.Core.List.{List, [], ◌∷◌}
use native.Mathlib.Omega.{arith}
use lib.ListN.{length, get_or}
use lib.Seq.{take_all}
use borrow.Author.Tests.{le-leb, leb-false}
use Rattle.laws.proofs.Truth.{split, clash}
use Rattle.data_model.specs.Path.{Figures}
use Rattle.key_laws.specs.Bytes.{Bytes}
use Rattle.tree.specs.declared.stored.KeyOrder.{KeyOrder}
use Rattle.tree.specs.declared.stored.KeyOrder.TheVariants.{Spt}
use Rattle.tally.specs.Tally.{tally_room, tally_bytes, tally_right}
use Rattle.store.specs.Store.{Store, tree_of, held, held_by, well_formed_store, Tallied}
use Rattle.store.specs.Refusal.{limit_ok, roomy, tally_fits}
use Rattle.store.proofs.Lifted.{rooms}
use Rattle.store.proofs.WellStore.{held-fit, held-bears}
use Rattle.call_laws.specs.Calls.{Call, ingest, forget_entry, forget_area, record_available, forget_payload, input, Verdict, refused, obsolete, already_held, done, IsValue}
use Rattle.call_laws.specs.Checks.{TallyRight, Case, limit_outside, short-buffer, not-well-formed, wrong-tally, illegal-path, other-namespace, outdated, already_stored, prevented, full, other-digest, absent-entry, too-much-available, verdict_of, checks, Holds, Decides, VerdictRight}
use Rattle.call_laws.specs.Outcomes.{outcome}
use Rattle.call_laws.proofs.Checked.{tally-words, limit-test, buffers-test, tally-fits, right}
use Rattle.call_laws.proofs.TallyKept.{tally-size}
use Rattle.call_laws.proofs.Stands.{Stands, stands-well, stands_after}
use Rattle.call_laws.proofs.Right.{refused-done, call-right}

-- A verdict is given only where its case holds.
unfoldable pub case_of : Verdict → Case
case_of (refused n) = get_or (limit_outside ∷ limit_outside ∷ short-buffer ∷ not-well-formed ∷ illegal-path ∷ limit_outside ∷ other-namespace ∷ prevented ∷ full ∷ other-digest ∷ wrong-tally ∷ absent-entry ∷ too-much-available ∷ []) n limit_outside
case_of obsolete = outdated
case_of already_held = already_stored
case_of done = limit_outside

case-back : (k : Case) → case_of (verdict_of k) ≡ k
unfolding case_of verdict_of
case-back limit_outside = refl
case-back short-buffer = refl
case-back not-well-formed = refl
case-back wrong-tally = refl
case-back illegal-path = refl
case-back other-namespace = refl
case-back outdated = refl
case-back already_stored = refl
case-back prevented = refl
case-back full = refl
case-back other-digest = refl
case-back absent-entry = refl
case-back too-much-available = refl

pub verdict-holds : (H : Case → Type 0) (ks : List Case) (v : Verdict) → Decides H ks v → (v ≡ done) ⊎ H (case_of v)
unfolding Decides
verdict-holds H [] v d = inl d
verdict-holds H (k ∷ ks) v d = ⊎_elim (λ x. inr (subst H (sym (ap case_of x.1 ∙ case-back k)) x.0)) (λ x. verdict-holds H ks v x.1) d

module _ (f : Figures) (w : Tallied) (c : Call) where
  pub holds-for : (n : ℕ) (v : Verdict) → VerdictRight f w c v → v ≡ refused n → Holds f w (input c) (case_of (refused n))
  holds-for n v d e = ⊎_elim (λ q. refused-done (sym e ∙ q)) (λ h. subst (λ (v : Verdict). Holds f w (input c) (case_of v)) e h) (verdict-holds _ _ v d)

-- A well-formed store of bytes with the right limit, rooms and tally stands: what is proved along a list of calls holds from it on. Where one of them is wrong,
-- a call is refused.
module _ (f : Figures) (w : Tallied) (well : well_formed_store f w.store ≡ true) (bytes : (o : KeyOrder) → Bytes (tree_of f o w.store)) where
  pub well-stands : limit_ok w.store.state.limit ≡ true → roomy f w.store.state.limit w.store ≡ true → tally_fits w ≡ true → TallyRight f w → Stands f w
  well-stands ok room fits tallied = record {
    limit = ok;
    room = room;
    tally-room = fits;
    fit = held-fit f w.store well bytes;
    bears = held-bears f w.store well bytes (rooms f w.store room);
    tallied = tallied;
  }

  module _ (c : Call) where
    limit-right : (Holds f w (input c) limit_outside → ⊥) → limit_ok w.store.state.limit ≡ true
    limit-right h = split (limit_ok w.store.state.limit) (λ q. q) (λ q. absurd (h ((limit-test f w (input c)).0 (rw q refl))))

    rooms-right : (Holds f w (input c) short-buffer → ⊥) → roomy f w.store.state.limit w.store ≡ true
    unfolding Holds
    rooms-right h = split (roomy f w.store.state.limit w.store) (λ q. q) (λ q. absurd (h (inl ((buffers-test f w.store).0 q))))

    fits-right : (input c).tallied ≡ true → (Holds f w (input c) short-buffer → ⊥) → tally_fits w ≡ true
    unfolding Holds
    fits-right t h = split (tally_fits w) (λ q. q) (λ q. absurd (h (inr (inl (t, (tally-fits w).0 q)))))

    tally-right : (Holds f w (input c) wrong-tally → ⊥) → TallyRight f w
    unfolding Holds
    tally-right h = split (tally_right w.store.state.limit (held f Spt w.store) w.tally)
        (λ q. (tally-words f w).0 q)
        (λ q. absurd (h λ r. clash ((tally-words f w).1 r) q))

    refused-first : (input c).tallied ≡ true → (ks : List Case) (v : Verdict) → Decides (Holds f w (input c)) (limit_outside ∷ short-buffer ∷ not-well-formed ∷ wrong-tally ∷ ks) v
        → ((n : ℕ) × (v ≡ refused n)) ⊎ Stands f w
    unfolding Decides verdict_of
    refused-first l ks v d = ⊎_elim (λ x. inl (1, x.1)) (λ x. ⊎_elim (λ y. inl (2, y.1)) (λ y. ⊎_elim (λ z. inl (3, z.1)) (λ z. ⊎_elim (λ t. inl (10, t.1)) (λ t.
        inr (well-stands (limit-right x.0) (rooms-right y.0) (fits-right l y.0) (tally-right t.0))) z.1) y.1) x.1) d

    -- The limit and the rooms are right, of any call.
    rooms-first : (ks : List Case) (v : Verdict) → Decides (Holds f w (input c)) (limit_outside ∷ short-buffer ∷ ks) v
        → ((n : ℕ) × (v ≡ refused n)) ⊎ ((limit_ok w.store.state.limit ≡ true) × (roomy f w.store.state.limit w.store ≡ true))
    unfolding Decides verdict_of
    rooms-first ks v d = ⊎_elim (λ x. inl (1, x.1)) (λ x. ⊎_elim (λ y. inl (2, y.1)) (λ y. inr (limit-right x.0, rooms-right y.0)) x.1) d

  -- A call that is lent the tally is refused, or the store stands.
  refused-or-stands : (c : Call) → (input c).tallied ≡ true → ((n : ℕ) × ((outcome f w c).verdict ≡ refused n)) ⊎ Stands f w
  unfolding checks input
  refused-or-stands (ingest i) t = refused-first (ingest i) t _ _ (right f w (ingest i))
  refused-or-stands (forget_entry p) t = refused-first (forget_entry p) t _ _ (right f w (forget_entry p))
  refused-or-stands (forget_area a) t = refused-first (forget_area a) t _ _ (right f w (forget_area a))
  refused-or-stands (record_available r) t = clash {b = false} t refl
  refused-or-stands (forget_payload p) t = clash {b = false} t refl

  -- The same store with the tally that it gives, which stands: a recording looks at no tally, and leaves of both the same store.
  abbrev own : Tallied
  own = record { store = w.store; tally = tally_bytes w.store.state.limit (held f Spt w.store) }

  own-stands : limit_ok w.store.state.limit ≡ true → roomy f w.store.state.limit w.store ≡ true → Stands f own
  unfolding held_by
  own-stands ok room =
      let n = w.store.state.limit in
      let fit = held-fit f w.store well bytes in
      let size = tally-size n (held f Spt w.store) fit.few in
      record {
        limit = ok;
        room = room;
        tally-room = le-leb (tally_room n) (length own.tally) (omega (arith, size));
        fit = fit;
        bears = held-bears f w.store well bytes (rooms f w.store room);
        tallied = take_all (tally_room n) own.tally (omega (arith, size));
      }

  -- Refused, it leaves what it was handed.
  kept_by : (c : Call) → ((n : ℕ) × ((outcome f w c).verdict ≡ refused n)) ⊎ (well_formed_store f (outcome f w c).left.store ≡ true) → well_formed_store f (outcome f w c).left.store ≡ true
  kept_by c h = ⊎_elim (λ q. ap (λ (t : Tallied). well_formed_store f t.store) ((call-right f w c).unchanged (λ d. refused-done (sym q.1 ∙ d))).0 ∙ well) (λ q. q) h

  kept-lent : (c : Call) → (input c).tallied ≡ true → IsValue f c → well_formed_store f (outcome f w c).left.store ≡ true
  kept-lent c t v = kept_by c (⊎_elim (λ q. inl q) (λ q. inr (stands-well f (outcome f w c).left (stands_after f w q c v))) (refused-or-stands c t))

  kept-unlent : (c : Call) → (outcome f own c).left.store ≡ (outcome f w c).left.store → IsValue f c
      → ((n : ℕ) × ((outcome f w c).verdict ≡ refused n)) ⊎ ((limit_ok w.store.state.limit ≡ true) × (roomy f w.store.state.limit w.store ≡ true))
      → well_formed_store f (outcome f w c).left.store ≡ true
  kept-unlent c e v h = kept_by c (⊎_elim
      (λ q. inl q)
      (λ k. inr (subst (λ (s : Store). well_formed_store f s ≡ true) e (stands-well f (outcome f own c).left (stands_after f own (own-stands k.0 k.1) c v))))
      h)

  pub kept-well : (c : Call) → IsValue f c → well_formed_store f (outcome f w c).left.store ≡ true
  unfolding checks
  kept-well (ingest i) v = kept-lent (ingest i) (unfold input in refl) v
  kept-well (forget_entry p) v = kept-lent (forget_entry p) (unfold input in refl) v
  kept-well (forget_area a) v = kept-lent (forget_area a) (unfold input in refl) v
  kept-well (record_available r) v = kept-unlent (record_available r) (unfold outcome in refl) v (rooms-first (record_available r) _ _ (right f w (record_available r)))
  kept-well (forget_payload p) v = kept-unlent (forget_payload p) (unfold outcome in refl) v (rooms-first (forget_payload p) _ _ (right f w (forget_payload p)))

  pub kept-tallied : (c : Call) → (input c).tallied ≡ true → IsValue f c → ((n : ℕ) → (outcome f w c).verdict ≡ refused n → ⊥) → TallyRight f (outcome f w c).left
  kept-tallied c t v h = ⊎_elim (λ q. absurd (h q.0 q.1)) (λ q. (stands_after f w q c v).tallied) (refused-or-stands c t)

  -- A right tally stays right, whatever the call.
  right-fits : TallyRight f w → tally_fits w ≡ true
  unfolding held_by
  right-fits t =
      let n = w.store.state.limit in
      let size = tally-size n (held f Spt w.store) (held-fit f w.store well bytes).few in
      split (tally_fits w) (λ q. q) (λ q.
      let short = leb-false (tally_room n) (length w.tally) q in
      let e : length w.tally ≡ tally_room n = ap length (sym (take_all (tally_room n) w.tally (omega (arith, short))) ∙ t) ∙ size in
      absurd (omega (arith, short, e)))

  right-after : (c : Call) → IsValue f c → TallyRight f w → ((n : ℕ) × ((outcome f w c).verdict ≡ refused n)) ⊎ ((limit_ok w.store.state.limit ≡ true) × (roomy f w.store.state.limit w.store ≡ true))
      → TallyRight f (outcome f w c).left
  right-after c v t h = ⊎_elim
      (λ q. subst (TallyRight f) (sym ((call-right f w c).unchanged (λ d. refused-done (sym q.1 ∙ d))).0) t)
      (λ k. (stands_after f w (well-stands k.0 k.1 (right-fits t) t) c v).tallied)
      h

  pub kept-right : (c : Call) → IsValue f c → TallyRight f w → TallyRight f (outcome f w c).left
  unfolding checks
  kept-right (ingest i) v t = right-after (ingest i) v t (rooms-first (ingest i) _ _ (right f w (ingest i)))
  kept-right (forget_entry p) v t = right-after (forget_entry p) v t (rooms-first (forget_entry p) _ _ (right f w (forget_entry p)))
  kept-right (forget_area a) v t = right-after (forget_area a) v t (rooms-first (forget_area a) _ _ (right f w (forget_area a)))
  kept-right (record_available r) v t = right-after (record_available r) v t (rooms-first (record_available r) _ _ (right f w (record_available r)))
  kept-right (forget_payload p) v t = right-after (forget_payload p) v t (rooms-first (forget_payload p) _ _ (right f w (forget_payload p)))
