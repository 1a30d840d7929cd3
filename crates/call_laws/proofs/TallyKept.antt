-- The tally of what a store is made to hold: its buffer is as long as before, as before beyond the limit's room, and in that room it is the tally of it.
-- It goes by the entries alone, whatever is kept with them. Assumes that the limit is kept.
use Prim.Native.Nat.{ℕ, ◌≤◌}
use mathlib.Core.Path.{◌≡◌, refl, sym, ap, ◌∙◌}
use mathlib.Core.List.{List, [], ◌∷◌, map}
use native.Mathlib.Omega.{arith}
use lib.ListN.{length, take, drop, length-append, length-drop}
use lib.Seq.{take_at, drop_at}
use Rattle.laws.specs.Order.{Order, less, same, greater}
use Rattle.layout.specs.Buffers.{filled}
use Rattle.layout.specs.Layout.{joined}
use Rattle.data_model.specs.Path.{Components}
use Rattle.data_model.specs.Subspace.{by_subspace}
use Rattle.data_model.specs.Entry.{Entry}
use Rattle.data_model.specs.declared.entry_origin.EntryOrigin.TheVariants.{Local}
use Rattle.data_model.specs.declared.parameters.Subspace.{Subspace}
use Rattle.tree.specs.Stored.{Stored}
use Rattle.tally.specs.Tally.{enter, tally_of, item_bytes, tally_room, tally_in, tally_bytes, tally_holding}
use Rattle.tally.specs.declared.item.Item.{Item}
use Rattle.tally.proofs.TallyBytes.{tally-length}
use Rattle.store.specs.Store.{Lent}
use Rattle.available.specs.Available.{arrive_at}
use Rattle.available.proofs.Arrived.{arrive-entry}

module _ (limit : ℕ) (l : List Stored) (few : length l ≤ limit) where
  pub tally-size : length (tally_bytes limit l) ≡ tally_room limit
  tally-size = tally-length (tally_room limit) l (omega arith)

  pub tally-lent : (old : List ℕ) → tally_room limit ≤ length old → Lent (tally_room limit) old (tally_holding limit l old)
  unfolding tally_holding
  tally-lent old h = record {
    long = simp (length-append, length-drop, tally-size) (omega arith);
    beyond = drop_at (tally_bytes limit l) (drop (tally_room limit) old) (tally_room limit) tally-size;
  }

  pub tally-held : (old : List ℕ) → take (tally_room limit) (tally_holding limit l old) ≡ tally_bytes limit l
  unfolding tally_holding
  tally-held old = take_at (tally_bytes limit l) (drop (tally_room limit) old) (tally_room limit) tally-size

-- An entry counts in the tally by itself, whatever is kept with it.
abbrev alone : Entry → Stored
alone e = record { entry = e; token = []; available = 0; origin = Local }

enter-alone : (x : Stored) (l : List Item) → enter x l ≡ enter (alone x.entry) l
unfolding enter
enter-alone x [] = refl
enter-alone x (i ∷ l) = go (by_subspace x.entry.subspace i.subspace) refl (enter-alone x l)
  where
    go : (o : Order) → by_subspace x.entry.subspace i.subspace ≡ o → enter x l ≡ enter (alone x.entry) l → enter x (i ∷ l) ≡ enter (alone x.entry) (i ∷ l)
    go less e h = rw e refl
    go same e h = rw e refl
    go greater e h = rw e (ap (i ∷◌) h)

module _ (g : Stored → Stored) (h : (x : Stored) → (g x).entry ≡ x.entry) where
  items_kept : (l : List Stored) → tally_of (map g l) ≡ tally_of l
  unfolding tally_of
  items_kept [] = refl
  items_kept (x ∷ l) =
      ap (enter (g x)) (items_kept l) ∙ enter-alone (g x) (tally_of l) ∙ ap (λ (e : Entry). enter (alone e) (tally_of l)) (h x) ∙ sym (enter-alone x (tally_of l))

  pub tally-kept : (room : ℕ) (l : List Stored) → tally_in room (map g l) ≡ tally_in room l
  unfolding tally_in
  tally-kept room l = ap (λ (is : List Item). filled room (joined (map item_bytes is))) (items_kept l)

pub tally-arrived : (s : Subspace) (p : Components) (n room : ℕ) (l : List Stored) → tally_in room (map (arrive_at s p n) l) ≡ tally_in room l
tally-arrived s p n = tally-kept (arrive_at s p n) (arrive-entry s p n)
