-- The first calls on a store of limit 2: of ours, and of any store that opens as 01 says and meets demand 3. Assumes nothing.
use Prim.Native.Nat.{ℕ}
use mathlib.Core.Path.{◌≡◌, refl, ap, ◌∙◌}
use mathlib.Core.Bool.{true}
use mathlib.Core.List.Memᴰ.{not-nil as none_in}
use mathlib.Core.List.{List, [], ◌∷◌, map}
use lib.ListN.{length, get_or}
use Rattle.laws.specs.Sorted.{all}
use Rattle.data_model.specs.Path.{field}
use Rattle.tree.specs.declared.stored.KeyOrder.TheVariants.{Spt}
use Rattle.store.specs.Store.{held, Held, held_by, holding, Tallied}
use Rattle.call_laws.specs.Calls.{IngestCall, Call, ingest, filed_as, Verdict, obsolete, done}
use Rattle.call_laws.specs.Outcomes.{Outcome, outcome}
use Rattle.call_laws.proofs.Checked.{decides-one, right-opening}
use Rattle.call_laws.proofs.Did.{so, Did, was_refused, was_obsolete, was_held, has_filed, has_forgotten, has_recorded, did}
use Rattle.call_laws.proofs.Stands.{Stands, OpenedStore, opens-stands}
use Rattle.convergence.specs.Demand.{ours, history, after_all, throughout, Demand3}
use Rattle.convergence.specs.Examples.{at_limit, one, two, later}
use Rattle.convergence.specs.WrongStores.{AStore, OpensRight, Reached}
use Rattle.convergence.proofs.OnlyOne.{Equal, one_store}
use Rattle.convergence.proofs.Examined.{verdict_in}
use Rattle.convergence.proofs.Computing.{computing}
use Rattle.convergence.proofs.Lines.{fine, lines-values, opens-fine, holds-lines, lines-stand}
use Rattle.convergence.proofs.Flaws.{ok-2, t0, second-says, says_two, says-later}

fine-0 : all (fine 2) [] ≡ true
unfolding computing
fine-0 = refl

pub fine-1 : all (fine 2) (one ∷ []) ≡ true
unfolding computing
fine-1 = refl

abbrev pub c1 : Call
c1 = ingest one

-- Ours, after one entry.
abbrev pub t1 : Tallied
t1 = (outcome field t0 c1).left

pub t0-stands : OpenedStore field (at_limit 2)
t0-stands = opens-stands field (at_limit 2) (opens-fine 2 ok-2)

pub t0-holds : held field Spt t0.store ≡ []
unfolding held_by
t0-holds = ap (λ (h : Held). h.spt) t0-stands.empty

pub t0-limit : t0.store.state.limit ≡ 2
t0-limit = t0-stands.keeps.limit

pub t1-stands : Stands field t1
unfolding after_all
t1-stands = lines-stand 2 ok-2 (one ∷ []) fine-1

pub t1-holds : held_by field t1.store ≡ record { spt = filed_as one ∷ []; tsp = filed_as one ∷ [] }
unfolding after_all computing
t1-holds = holds-lines 2 refl (one ∷ []) refl

pub t1-count : t1.store.state.count ≡ 1
t1-count = t1-stands.bears.count ∙ ap (λ (h : Held). length h.spt) t1-holds

-- A second call that ours does.
pub record DoneNext (x : IngestCall) : Type 0 where
  pub fits : all (fine 2) (one ∷ x ∷ []) ≡ true
  pub says : map verdict_in (history (ours field) t0 (c1 ∷ ingest x ∷ [])) ≡ done ∷ done ∷ []

pub next-two : DoneNext two
unfolding computing
next-two = record { fits = refl; says = says_two }

pub next-later : DoneNext later
unfolding computing
next-later = record { fits = refl; says = says-later }

pub done_next : (x : IngestCall) → DoneNext x → (outcome field t1 (ingest x)).verdict ≡ done
done_next x d = second-says one x d.says

-- A call keeps the limit.
pub limits : (s : Tallied) (c : Call) → (outcome field s c).left.store.state.limit ≡ s.store.state.limit
limits s c = go (did field s c)
  where
    same : {a : Verdict} {n : ℕ} {t : Tallied} → outcome field s c ≡ so a n t → (outcome field s c).left.store.state.limit ≡ t.store.state.limit
    same e = ap (λ (o : Outcome Tallied). o.left.store.state.limit) e

    go : Did field s c → (outcome field s c).left.store.state.limit ≡ s.store.state.limit
    go (was_refused n e) = same e
    go (was_obsolete i q y m o e) = same e
    go (was_held i q a e) = same e
    go (has_filed i q t e) = same e ∙ (unfold holding in refl)
    go (has_forgotten p q e) = same e ∙ (unfold holding in refl)
    go (has_recorded r q k e) = same e ∙ (unfold holding in refl)

-- Any store that opens as 01 says and meets demand 3.
module _ (m : AStore) (o : OpensRight m) (v : Demand3 (throughout field) m) where
  abbrev pub s0 : Tallied
  s0 = (m.opening (at_limit 2)).left

  pub accepted : (m.opening (at_limit 2)).verdict ≡ done
  accepted = decides-one _ _ _ _ (o (at_limit 2)) (right-opening field (at_limit 2)) ∙ opens-fine 2 ok-2

  equal : (xs : List IngestCall) → all (fine 2) xs ≡ true → Equal field m v (at_limit 2) accepted (map ingest xs)
  equal xs h = one_store field m v (at_limit 2) accepted (map ingest xs) (lines-values 2 xs h)

  pub first_store : s0 ≡ t0
  unfolding after_all
  first_store = (equal [] fine-0).end

  pub second_store : (m.call s0 c1).left ≡ t1
  unfolding after_all
  second_store = (equal (one ∷ []) fine-1).end

  verdicts : (x : IngestCall) → DoneNext x → map verdict_in (history m s0 (c1 ∷ ingest x ∷ [])) ≡ done ∷ done ∷ []
  verdicts x d = ap (map verdict_in) (equal (one ∷ x ∷ []) d.fits).events ∙ d.says

  pub reached-0 : Reached m s0
  unfolding after_all
  reached-0 = (record { opening = at_limit 2; accepted = accepted; calls = []; values = λ c n. absurd (none_in n) }, refl)

  pub reached-1 : Reached m (m.call s0 c1).left
  unfolding after_all
  reached-1 = (record { opening = at_limit 2; accepted = accepted; calls = c1 ∷ []; values = lines-values 2 (one ∷ []) fine-1 }, refl)

  pub first-verdict : (m.call s0 c1).verdict ≡ done
  unfolding history
  first-verdict = ap (λ (l : List Verdict). get_or l 0 obsolete) (verdicts two next-two)

  pub second-verdict : (x : IngestCall) → DoneNext x → (m.call (m.call s0 c1).left (ingest x)).verdict ≡ done
  unfolding history
  second-verdict x d = ap (λ (l : List Verdict). get_or l 1 obsolete) (verdicts x d)
