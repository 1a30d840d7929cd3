-- A store that calls held whatever comes to a place that is taken is refuted; and there are one that files again what it holds already and one that gives it the
-- origin that now came. Assumes nothing.
use Prim.Native.Nat.{ℕ}
use mathlib.Core.Path.{◌≡◌, refl, sym, ap, ◌∙◌}
use mathlib.Core.Bool.{true}
use mathlib.Core.List.Memᴰ.{head as here}
use mathlib.Core.List.Memᴰ.{tail as there}
use mathlib.Core.List.{[], ◌∷◌, map}
use native.Mathlib.Omega.{arith}
use lib.ListN.{get_or}
use Rattle.laws.specs.Sorted.{all}
use Rattle.data_model.specs.Path.{field}
use Rattle.data_model.specs.Origin.{origin_kind}
use Rattle.data_model.specs.declared.entry_origin.EntryOrigin.TheVariants.{Remote}
use Rattle.tree.specs.Stored.{Stored}
use Rattle.tree.specs.declared.stored.KeyOrder.TheVariants.{Spt}
use Rattle.store.specs.Store.{held, Held, held_by, Tallied}
use Rattle.call_laws.specs.Calls.{IngestCall, ingest, already_held, done}
use Rattle.call_laws.specs.Outcomes.{outcome}
use Rattle.call_laws.proofs.Right.{held-done}
use Rattle.convergence.specs.Demand.{ours, history, not_refused}
use Rattle.convergence.specs.Examples.{at_limit, from, one, later, other_token}
use Rattle.convergence.specs.WrongStores.{AStore, OpensRight, is_occupied, HoldsByPlace, ChangesUndone, if_held, makes, leaving, renewed, relabelled, where_held, renewing, relabelling, Refuted}
use Rattle.convergence.proofs.Examined.{verdict_in}
use Rattle.convergence.proofs.Computing.{computing, reading}
use Rattle.convergence.proofs.Lines.{fine, lines-values, opens-fine, computed}
use Rattle.convergence.proofs.Flaws.{ok-2, t0, next, ours_next, next-says, done-one}
use Rattle.convergence.proofs.FirstCalls.{c1, t1, t1-holds, next-later, done_next, s0, second_store, reached-1, second-verdict}

-- It calls held what comes to a place that is taken: the later entry is not held.
place-occupied : is_occupied t1 (ingest later) ≡ true
unfolding is_occupied held_by computing
place-occupied = rw (ap (λ (h : Held). h.spt) t1-holds) refl

pub holding_by_place : (m : AStore) → OpensRight m → HoldsByPlace m → Refuted m
unfolding not_refused
holding_by_place m o w v =
    let s = second_store m o v in
    let t : is_occupied (m.call (s0 m o v) c1).left (ingest later) ≡ true = ap (λ (t : Tallied). is_occupied t (ingest later)) s ∙ place-occupied in
    let n : not_refused (outcome field (m.call (s0 m o v) c1).left (ingest later)).verdict ≡ true = rw (s, done_next later next-later) refl in
    held-done (sym (w (m.call (s0 m o v) c1).left (reached-1 m o v) (ingest later) t n) ∙ second-verdict m o v later next-later)

-- The first with another token is held by ours.
says-token : map verdict_in (history (ours field) t0 (map ingest (one ∷ other_token ∷ []))) ≡ done ∷ already_held ∷ []
unfolding computing
says-token = (computed 2 refl (one ∷ other_token ∷ []) refl).says_all

-- So is the first from elsewhere.
says-origin : map verdict_in (history (ours field) t0 (map ingest (one ∷ from (Remote 7) one ∷ []))) ≡ done ∷ already_held ∷ []
unfolding computing
says-origin = (computed 2 refl (one ∷ from (Remote 7) one ∷ []) refl).says_all

-- A store that is as ours but for what it leaves where an entry is held, and an entry that it holds then and there.
module _ (g : Stored → Held → Held) (x : IngestCall) (says-x : map verdict_in (history (ours field) t0 (ingest one ∷ ingest x ∷ [])) ≡ done ∷ already_held ∷ []) (fine-x : all (fine 2) (one ∷ x ∷ []) ≡ true)
    (differs : makes g x (next one) ≡ next one → ⊥) where
  abbrev wrong : AStore
  wrong = leaving (where_held g)

  wrong-next : (wrong.call t0 (ingest one)).left ≡ next one
  unfolding where_held if_held
  wrong-next = rw done-one ours_next

  wrong-held : (s : Tallied) → (outcome field s (ingest x)).verdict ≡ already_held → (wrong.call s (ingest x)).left ≡ makes g x s
  unfolding where_held if_held
  wrong-held s v = rw v refl

  one-changes-held : ChangesUndone wrong
  unfolding history
  one-changes-held =
      let s : Tallied = (wrong.call t0 (ingest one)).left in
      let v : (outcome field s (ingest x)).verdict ≡ already_held = ap (λ (s : Tallied). (outcome field s (ingest x)).verdict) wrong-next ∙ next-says x says-x in
      let l : (wrong.call s (ingest x)).left ≡ makes g x (next one) = wrong-held s v ∙ ap (makes g x) wrong-next in (
        record { opening = at_limit 2; accepted = opens-fine 2 ok-2; calls = map ingest (one ∷ x ∷ []); values = lines-values 2 (one ∷ x ∷ []) fine-x },
        record { before = s; call = ingest x; outcome = wrong.call s (ingest x) },
        there (here refl),
        (λ d. held-done (sym v ∙ d), λ q. differs (sym l ∙ q ∙ wrong-next)),
      )

-- What is held is filed again: the token changes.
token-renewed : makes renewed other_token (next one) ≡ next one → ⊥
unfolding computing reading held_by
token-renewed q =
    let z : ◌≡◌ {A = ℕ} 1 0 = ap (λ (t : Tallied). get_or (get_or (map (λ (x : Stored). x.token) (held field Spt t.store)) 0 []) 0 0) q in
    omega arith

pub one_renews_held : ChangesUndone renewing
unfolding computing
one_renews_held = one-changes-held renewed other_token says-token refl token-renewed

-- Its origin changes.
origin-relabelled : makes relabelled (from (Remote 7) one) (next one) ≡ next one → ⊥
unfolding computing reading held_by
origin-relabelled q =
    let z : ◌≡◌ {A = ℕ} 1 0 = ap (λ (t : Tallied). get_or (map (λ (x : Stored). origin_kind x.origin) (held field Spt t.store)) 0 0) q in
    omega arith

pub one_relabels_held : ChangesUndone relabelling
unfolding computing
one_relabels_held = one-changes-held relabelled (from (Remote 7) one) says-origin refl origin-relabelled
