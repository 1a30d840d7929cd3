-- `decode_tsp_entry_key_at` meets its contract. Assumes nothing.
use Prim.Native.Nat.{◌<◌}
use mathlib.Core.Path.{◌≡◌, ◌∙◌}
use native.Mathlib.Omega.{arith}
use lib.ListN.{length, drop, length-drop}
use Rattle.std.proofs.Common.{rules}
use Rattle.data_model.specs.Said.{refuses}
use Rattle.data_model.specs.Refusal.{said, no_key}
use Rattle.keys.specs.Decode.{read_tsp}
use Rattle.keys.proofs.Decoding.{whole-short, decoded-refused}
use Rattle.keys.proofs.decode.decode_tsp_entry_key_at.Goals as goal

pub returns-in_err-ok_or : goal.returns-in_err-ok_or
unfolding read_tsp
returns-in_err-ok_or c =
    let k = c.args.key.now in
    let n = c.args.at in
    let s : said c.from_residual.result ≡ refuses no_key = search rules in
    let h : length k < n = search rules in
    s ∙ decoded-refused _ (whole-short 24 0 (length (drop n k)) _ _ (omega (arith, length-drop n k)))
