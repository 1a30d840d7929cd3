-- `decode_spt_entry_key` meets its contract: too short, or read as a key. Assumes nothing.
use Prim.Native.Nat.{ℕ, ◌+◌, ◌-◌}
use mathlib.Core.Path.{◌≡◌, ap, ◌∙◌}
use native.Mathlib.Omega.{arith}
use lib.ListN.{length, drop}
use Rattle.data_model.specs.Path.{field}
use Rattle.keys.specs.Encode.{triple}
use Rattle.keys.specs.Decode.{subspace_at, number, read_path, read_spt, decoded}
use Rattle.keys.specs.Inner.{read_key}
use Rattle.keys.proofs.Decoding.{whole_same, whole-short, decoded-refused}
use Rattle.keys.proofs.decode.decode_spt_entry_key.Goals as goal

pub returns-then-key-lt24 : goal.returns-then-key-lt24
unfolding read_spt
returns-then-key-lt24 c = decoded-refused _ (whole-short 16 8 _ _ _ (omega arith))

pub decode_key-requires : goal.decode_key-requires
decode_key-requires c = (omega arith, omega arith, omega arith, omega arith)

pub returns : goal.returns
unfolding read_spt read_key
returns c =
    let k = c.args.key.now in
    c.decode_key.ensures
    ∙ ap decoded
    (whole_same 16 8 (length k) (λ cs u. triple (subspace_at k) cs (number (drop (length k - 8) k))) (λ cs u. triple (subspace_at k) cs (number (drop (16 + u) k)))
    (λ cs u e. let i : length k - 8 ≡ 16 + u = omega (arith, e) in ap (λ (i : ℕ). triple (subspace_at k) cs (number (drop i k))) i) (read_path field (drop 16 k)))
