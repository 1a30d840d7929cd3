-- A store as it is lent to be read, in the words of the specs.
use Rattle.std.specs.Prelude.{ℕ, List}
use Rattle.store.specs.Store.{Store, store_of, Tallied}
use Rattle.store.specs.declared.state.Store.{Store as Lending}

-- What is lent is a store: the state, and what stands in the buffers.
abbrev pub lent : Lending → Store
lent s = store_of s.state s.spt.now s.spt_dir.now s.tsp.now s.tsp_dir.now

abbrev pub lent_with : Lending → (tally : List ℕ) → Tallied
lent_with s t = record { store = lent s; tally = t }
