-- Lists that a store may hold stay so: without what a test holds of, and with an entry filed. Assumes nothing.
use Prim.Native.Nat.{ℕ, ◌<◌}
use mathlib.Core.Path.{◌≡◌}
use mathlib.Core.Logic.{⊎_elim}
use mathlib.Core.Bool.{Bool, not}
use mathlib.Core.List.{List}
use native.Mathlib.Omega.{arith}
use lib.ListN.{length}
use Rattle.laws.specs.Sorted.{keep}
use Rattle.laws.proofs.Sorted.{keep-view, keep-length, insert-view}
use Rattle.data_model.specs.Path.{Figures}
use Rattle.tree.specs.Stored.{Stored}
use Rattle.store.specs.Store.{Held}
use Rattle.store.specs.Ingest.{spt_less, stays, filed_in, filed, NewTo}
use Rattle.store.specs.Forget.{without}
use Rattle.store.proofs.Counted.{insert-length}
use Rattle.store.proofs.Meaning.{sound-without, sound-filed}
use Rattle.store.proofs.Recorded.{Proper}
use Rattle.store.proofs.Lifted.{Fit}

module _ (f : Figures) {namespace : List ℕ} {limit : ℕ} {h : Held} (v : Fit f namespace limit h) where
  pub fit-without : (p : Stored → Bool) → Fit f namespace limit (without p h)
  unfolding without
  fit-without p = record {
    sound = sound-without p h v.sound;
    proper = λ x m. v.proper x (keep-view (λ (y : Stored). not (p y)) h.spt m).0;
    few = let l = v.few in omega (arith, keep-length (λ (y : Stored). not (p y)) h.spt);
  }

  pub fit-filed : (x : Stored) → Proper f x → x.entry.namespace ≡ namespace → NewTo h.spt x.entry
      → length (keep (stays x.entry) h.spt) < limit → Fit f namespace limit (filed x h)
  unfolding filed filed_in
  fit-filed x p name new room = record {
    sound = sound-filed x h v.sound name new;
    proper = λ y m. ⊎_elim (λ e. rw e p) (λ n. v.proper y (keep-view (stays x.entry) h.spt n).0) (insert-view spt_less x (keep (stays x.entry) h.spt) m);
    few = omega (arith, insert-length spt_less x (keep (stays x.entry) h.spt));
  }
