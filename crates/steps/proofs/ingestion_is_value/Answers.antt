-- `ingestion_is_value`: the language's types say how long arrays are and how large numbers. Assumes nothing.
use mathlib.Core.Path.{◌≡◌}
use native.Mathlib.Omega.{arith}
use lib.ListN.{length}
use Rattle.data_model.specs.Path.{field}
use Rattle.call_laws.proofs.Stands.{ingestion-value}
use borrow.Author.Rules.{rules}
use Rattle.steps.proofs.ingestion_is_value.Goals as goal

pub returns : goal.returns
returns c =
    let n : length c.args.ingestion.entry.path.bytes ≡ 128 = search rules in
    λ prune. ingestion-value field _ (record {
      path_room = omega (arith, n);
      path_bytes = c.is_bytes.ensures;
      high = search rules;
      low = search rules;
      time = search rules;
      payload = search rules;
      digest = search rules;
      token = search rules;
      session = c.session_is_number.ensures;
    })
