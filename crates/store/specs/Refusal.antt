-- The tests that every call on a store begins with, and the first of some refusals.
use Rattle.std.specs.Prelude.{ℕ, Bool, cond, ◌&&◌, length, leb, eqb}
use Rattle.data_model.specs.Path.{Figures}
use Rattle.data_model.specs.Refusal.{bad_limit, short_buffer, not_well_formed, wrong_tally}
use Rattle.tree.specs.declared.stored.KeyOrder.TheVariants.{Spt}
use Rattle.tally.specs.Tally.{tally_room, tally_right}
use Rattle.store.specs.Store.{limit_most, Store, tree_room, dir_room, held, well_formed_store, Tallied}

-- A refusal, unless the test holds; the first of two refusals. 0 is none.
unfoldable pub unless : Bool → ℕ → ℕ
unless test n = cond test 0 n

infixr 30 ◌or_else◌
unfoldable pub ◌or_else◌ : ℕ → ℕ → ℕ
m or_else n = cond (eqb m 0) n m

unfoldable pub limit_ok : ℕ → Bool
limit_ok n = leb 1 n && leb n limit_most

-- The four buffers have the limit's room.
unfoldable pub roomy : Figures → ℕ → Store → Bool
roomy f limit s =
    leb (tree_room f limit) (length s.spt) && (leb (dir_room limit) (length s.spt_dir) &&
    (leb (tree_room f limit) (length s.tsp) && leb (dir_room limit) (length s.tsp_dir)))

-- 1, 2 and 3. `rooms`: the call's other buffers have room too.
unfoldable pub store_refusal : Figures → Store → (rooms : Bool) → ℕ
store_refusal f s rooms =
    unless (limit_ok s.state.limit) bad_limit or_else unless (roomy f s.state.limit s && rooms) short_buffer or_else
    unless (well_formed_store f s) not_well_formed

-- The tally has the limit's room.
abbrev pub tally_fits : Tallied → Bool
tally_fits w = leb (tally_room w.store.state.limit) (length w.tally)

-- 1, 2, 3 and 10: the tally handed in is not the one its store gives.
unfoldable pub tallied_refusal : Figures → Tallied → (rooms : Bool) → ℕ
tallied_refusal f w rooms =
    store_refusal f w.store (tally_fits w && rooms) or_else unless (tally_right w.store.state.limit (held f Spt w.store) w.tally) wrong_tally
