-- The tally that a run of calls leaves, all of them done: computed over the lists that the store holds. Assumes nothing.
use Prim.Native.Nat.{ℕ, zero, suc}
use mathlib.Core.Path.{◌≡◌, refl, ap, ap₂, subst, ◌∙◌}
use mathlib.Core.Logic.{⊎_elim}
use mathlib.Core.Bool.{true}
use mathlib.Core.List.Memᴰ.{cases_cons as uncons}
use mathlib.Core.List.Memᴰ.{not-nil as none_in}
use mathlib.Core.List.{List, map}
use lib.ListN.{length, replicate}
use Rattle.laws.specs.Sorted.{◌∈◌, all}
use Rattle.layout.specs.Buffers.{filled}
use Rattle.layout.specs.Layout.{joined}
use Rattle.data_model.specs.Path.{field}
use Rattle.tree.specs.declared.stored.KeyOrder.TheVariants.{Spt}
use Rattle.tally.specs.Tally.{tally_of, item_bytes, tally_room, tally_in}
use Rattle.tally.specs.declared.item.Item.{Item}
use Rattle.store.specs.Store.{held, Held, held_by, Tallied, tally_part}
use Rattle.store.specs.Refusal.{limit_ok}
use Rattle.store.specs.Open.{nothing}
use Rattle.store.proofs.Recorded.{map-make}
use Rattle.call_laws.specs.Calls.{Call, Verdict, done}
use Rattle.convergence.specs.Demand.{ours, Event, Run, throughout, events, end}
use Rattle.convergence.specs.Examples.{Tallies}
use Rattle.convergence.proofs.Proved.{run-stands, run-keeps}
use Rattle.convergence.proofs.Examined.{verdict_in}
use Rattle.convergence.proofs.Mixed.{tells_all, holds_all, fine_call, mixed_run, mixed}

-- A run of ours leaves the tally of what it holds.
tally-left : (r : Run (throughout field) (ours field)) (items : List Item) → tally_of (held field Spt (end r).store) ≡ items
    → tally_part (end r) ≡ filled (tally_room r.opening.limit) (joined (map item_bytes items))
unfolding tally_in
tally-left r items e =
    (run-stands field r).tallied
    ∙ ap₂ (λ (n : ℕ) (x : List Item). filled (tally_room n) (joined (map item_bytes x))) (run-keeps field r).limit e

-- Of events whose verdicts are all done, each one is.
in-copies : {A : Type 0} {x a : A} (n : ℕ) → x ∈ replicate n a → x ≡ a
in-copies zero m = absurd (none_in m)
in-copies (suc n) m = ⊎_elim (λ e. e) (λ k. in-copies n k) (uncons m)

all_done : (es : List (Event Tallied)) (n : ℕ) → map verdict_in es ≡ replicate n done → (e : Event Tallied) → e ∈ es → e.outcome.verdict ≡ done
all_done es n q e m = in-copies n (subst (λ (l : List Verdict). e.outcome.verdict ∈ l) q (map-make verdict_in es m))

pub tallies : (limit : ℕ) (ok : limit_ok limit ≡ true) (cs : List Call) (h : all (fine_call limit) cs ≡ true) → tells_all limit nothing cs ≡ replicate (length cs) done
    → (items : List Item) → tally_of (holds_all limit nothing cs).spt ≡ items → Tallies limit cs items
unfolding held_by
tallies limit ok cs h dones items q = record {
  run = mixed_run limit ok cs h;
  opening = refl;
  called = refl;
  answers = all_done (events (mixed_run limit ok cs h)) (length cs) ((mixed limit ok cs h).says ∙ dones);
  tally = tally-left (mixed_run limit ok cs h) items (ap (λ (g : Held). tally_of g.spt) (mixed limit ok cs h).holds ∙ q);
}
