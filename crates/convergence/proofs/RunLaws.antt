-- Of runs of any store: every beginning of a run is a run; in a run of one that meets demand 3 no call gets 1, 3 or 10, and 2 only for a
-- buffer of its own. Assumes nothing.
use Prim.Native.Nat.{ℕ, ◌<◌}
use mathlib.Core.Path.{◌≡◌, refl, sym, ap, subst}
use mathlib.Core.Logic.{◌⊎◌, inl, inr, ⊎_elim}
use mathlib.Core.List.Memᴰ.{append_left as in_left}
use mathlib.Core.List.Memᴰ.{cases_cons as uncons}
use mathlib.Core.List.Memᴰ.{head as here}
use mathlib.Core.List.Memᴰ.{not-nil as none_in}
use mathlib.Core.List.Memᴰ.{tail as there}
use mathlib.Core.List.{List, [], ◌∷◌, ◌++◌}
use native.Mathlib.Omega.{arith}
use Rattle.laws.specs.Sorted.{◌∈◌}
use Rattle.data_model.specs.Path.{Figures}
use Rattle.tally.specs.Tally.{tally_room}
use Rattle.store.specs.Store.{limit_most, tree_room, dir_room, Tallied}
use Rattle.call_laws.specs.Calls.{Opening, Call, Room, input, refused, done}
use Rattle.call_laws.specs.Checks.{ShortBuffer, ShortTally, verdict_of, Holds, Decides, asked, OpeningVerdictRight}
use Rattle.call_laws.specs.Outcomes.{Keeps, Sound}
use Rattle.call_laws.proofs.Right.{refused-done}
use Rattle.call_laws.proofs.Kept.{case_of, holds-for}
use Rattle.convergence.specs.Demand.{Machine, Event, history, after_all, Run, begin, events, Demand3, RunRefusals}

-- A call in a list comes after the calls before it.
pub record After {O S : Type 0} (m : Machine O S) (s : S) (cs : List Call) (e : Event S) : Type 0 where
  pub earlier : List Call
  pub among : (c : Call) → c ∈ earlier ++ e.call ∷ [] → c ∈ cs
  pub before : after_all m s earlier ≡ e.before
  pub outcome : m.call e.before e.call ≡ e.outcome

module _ {O S : Type 0} (m : Machine O S) where
  pub after_more : (s : S) (cs : List Call) (c : Call) → after_all m s (cs ++ c ∷ []) ≡ (m.call (after_all m s cs) c).left
  unfolding after_all
  after_more s [] c = refl
  after_more s (d ∷ cs) c = after_more (m.call s d).left cs c

  pub comes-after : (s : S) (cs : List Call) (e : Event S) → e ∈ history m s cs → After m s cs e
  unfolding history after_all
  comes-after s [] e n = absurd (none_in n)
  comes-after s (c ∷ cs) e n = ⊎_elim
      (λ q. subst (After m s (c ∷ cs)) (sym q) (record { earlier = []; among = λ d k. ⊎_elim (λ p. here p) (λ z. absurd (none_in z)) (uncons k); before = refl; outcome = refl }))
      (λ k.
      let a = comes-after (m.call s c).left cs e k in
      record { earlier = c ∷ a.earlier; among = λ d j. ⊎_elim (λ p. here p) (λ z. there (a.among d z)) (uncons j); before = a.before; outcome = a.outcome })
      (uncons n)

-- What an opening that is right and not refused says of the limit and the buffers.
pub opened-right : (f : Figures) (o : Opening) → OpeningVerdictRight f o done → (((o.limit < 1) ⊎ (limit_most < o.limit)) → ⊥) × (ShortBuffer f (asked o).store → ⊥) × (ShortTally (asked o) → ⊥)
unfolding Decides verdict_of Holds
opened-right f o d = ⊎_elim
    (λ x. refused-done (sym x.1))
    (λ x. ⊎_elim (λ y. refused-done (sym y.1)) (λ y. (x.0, λ h. y.0 (inl h), λ h. y.0 (inr (inl (refl, h))))) x.1)
    d

-- A call in a run of a store that meets demand 3.
module _ (f : Opening → Figures) (m : Machine Opening Tallied) (v : Demand3 f m) (r : Run f m) (e : Event Tallied) (n : e ∈ events r) where
  abbrev g : Figures
  g = f r.opening

  abbrev a : After m (begin r) r.calls e
  a = comes-after m (begin r) r.calls e n

  -- The run up to the call.
  abbrev up_to : Run f m
  up_to = record { opening = r.opening; accepted = r.accepted; calls = a.earlier; values = λ c k. r.values c (a.among c (in_left (e.call ∷ []) k)) }

  before-sound : Sound g e.before
  before-sound = subst (Sound g) a.before (v.sound up_to)

  before-keeps : Keeps g r.opening e.before
  before-keeps = subst (Keeps g r.opening) a.before (v.keeps up_to)

  found : (i : ℕ) → e.outcome.verdict ≡ refused i → Holds g e.before (input e.call) (case_of (refused i))
  found i q = holds-for g e.before e.call i e.outcome.verdict (v.answered r e n).verdict q

  never_1 : e.outcome.verdict ≡ refused 1 → ⊥
  unfolding case_of Holds
  never_1 q = (opened-right g r.opening (v.opened r)).0 (subst (λ (i : ℕ). (i < 1) ⊎ (limit_most < i)) before-keeps.limit (found 1 q))

  never_3 : e.outcome.verdict ≡ refused 3 → ⊥
  unfolding case_of Holds
  never_3 q = found 3 q before-sound.well-formed

  never_10 : e.outcome.verdict ≡ refused 10 → ⊥
  unfolding case_of Holds
  never_10 q = found 10 q before-sound.tallied

  -- Buffers as long as they were lent are not too short.
  long-enough : ShortBuffer g e.before.store → ⊥
  long-enough h =
      let k = before-keeps in
      let t = ap (tree_room g) k.limit in
      let d = ap dir_room k.limit in
      (opened-right g r.opening (v.opened r)).1
      (⊎_elim (λ x. inl (omega (arith, x, t, k.spt.long)))
      (λ x. inr (⊎_elim (λ y. inl (omega (arith, y, d, k.spt_dir.long)))
      (λ y. inr (⊎_elim (λ z. inl (omega (arith, z, t, k.tsp.long))) (λ z. inr (omega (arith, z, d, k.tsp_dir.long))) y)) x)) h)

  tally-long : ShortTally e.before → ⊥
  tally-long h = let k = before-keeps in (opened-right g r.opening (v.opened r)).2 (omega (arith, h, ap tally_room k.limit, k.tally.long))

  only_own_2 : e.outcome.verdict ≡ refused 2 → (b : Room) × b ∈ (input e.call).rooms r.opening.limit × (b.has < b.needs)
  unfolding case_of Holds
  only_own_2 q = ⊎_elim
      (λ h. absurd (long-enough h))
      (λ h. ⊎_elim (λ t. absurd (tally-long t.1)) (λ b. subst (λ (i : ℕ). (b : Room) × b ∈ (input e.call).rooms i × (b.has < b.needs)) before-keeps.limit b) h)
      (found 2 q)

  pub run-refusals : RunRefusals r.opening.limit e.call e.outcome.verdict
  run-refusals = record { never_1 = never_1; never_3 = never_3; never_10 = never_10; only_own_2 = only_own_2 }
