-- Ingestion over rows: as over the pairs that the rows stand for. Assumes nothing.
use Prim.Native.Nat.{ℕ, ◌*◌, ◌≤◌}
use mathlib.Core.Path.{◌≡◌, sym, ap, subst, ◌∙◌}
use mathlib.Core.List.{List, map}
use native.Mathlib.Omega.{arith}
use lib.ListN.{length, take, replicate}
use Rattle.laws.specs.Lists.{put}
use Rattle.data_model.specs.Path.{field}
use Rattle.store.specs.Store.{Tallied, limit_most}
use Rattle.store.specs.Ingest.{IngestSaid, ingest_outcome, ingested}
use Rattle.store.specs.declared.ingest.Ingestion.{Ingestion}
use Rattle.pairs.specs.Pairs.{pairs_of, numbers_used, pruned_count, pairs_ingested}
use Rattle.pairs.specs.declared.Pair.{Pair}
use Rattle.pairs.proofs.OutcomeLaws.{layered, in-room}
use Rattle.plain.specs.Change.{plain_ingested}
use Rattle.plain.specs.Rows.{pair_of}
use Rattle.plain.specs.declared.change.PlainIngested.{PlainIngested}
use Rattle.plain.proofs.RowLaws.{length-map}
use Rattle.virebony.specs.Outcome.{pairs_left, told_pairs}

module _ (w : Tallied) (rows : List (List ℕ)) (i j : Ingestion) (ei : i ≡ j) (g : IngestSaid) (a b c d t ns : List ℕ) (told : PlainIngested)
    (eq : ingest_outcome g a b c d t (take (numbers_used (length rows)) ns) ≡ ingested field w (replicate (numbers_used (length rows)) 0) i) (et : told ≡ plain_ingested g) where
  moved : ingest_outcome g a b c d t (take (numbers_used (length (map pair_of rows))) ns) ≡ ingested field w (replicate (numbers_used (length (map pair_of rows))) 0) i
  moved = subst (λ (m : ℕ). ingest_outcome g a b c d t (take (numbers_used m) ns) ≡ ingested field w (replicate (numbers_used m) 0) i) (sym (length-map rows)) eq

  counted : told.pruned ≡ pruned_count g.verdict
  counted = ap (λ (x : PlainIngested). x.pruned) et

  pub rows_fit : (told.pruned ≤ limit_most) × (told.pruned ≤ length rows)
  rows_fit = let h = in-room w (map pair_of rows) i g a b c d t ns told.pruned moved counted in let l = length-map rows in (h.0, omega arith)

  pub rows_told : (now : List Pair) → now ≡ put (pairs_of (take (2 * told.pruned) ns)) (map pair_of rows) → pairs_left told a b c d t now ≡ told_pairs (pairs_ingested field w (map pair_of rows) j)
  rows_told now ep =
      ap (λ (x : PlainIngested). pairs_left x a b c d t now) et
      ∙ ap told_pairs ((layered w (map pair_of rows) i g a b c d t ns told.pruned moved counted).done now ep ∙ ap (pairs_ingested field w (map pair_of rows)) ei)
