-- `ingest_with_room` meets its contract: the front of its array of zeros is lent, and is back as the core left it. Assumes nothing.
use Prim.Native.Nat.{ℕ}
use mathlib.Core.Path.{sym}
use native.Mathlib.Omega.{arith}
use lib.ListN.{replicate, length-replicate}
use lib.Seq.{length-take-le}
use Rattle.pairs.proofs.OutcomeLaws.{with-front}
use Rattle.pairs.proofs.ingest_with_room.Goals as goal

pub slice_bounds-ingest_entry_numbers-end : goal.slice_bounds-ingest_entry_numbers-end
slice_bounds-ingest_entry_numbers-end c = sym (length-take-le _ (replicate 2048 0) (omega (arith, length-replicate {A = ℕ} 2048 0)))

pub returns : goal.returns
returns c = let n = c.numbers_used-n.ensures in with-front _ _ _ _ _ _ _ _ _ _ _ n.0 n.1 c.numbers-2-1.given c.ingest_entry_numbers-ingested.ensures
