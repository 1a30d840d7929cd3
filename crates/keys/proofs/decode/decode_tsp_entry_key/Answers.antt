-- `decode_tsp_entry_key` meets its contract: too short, or read as a key. Assumes nothing.
use native.Mathlib.Omega.{arith}
use Rattle.keys.specs.Decode.{read_tsp}
use Rattle.keys.specs.Inner.{read_key}
use Rattle.keys.proofs.Decoding.{whole-short, decoded-refused}
use Rattle.keys.proofs.decode.decode_tsp_entry_key.Goals as goal

pub returns-then-key-lt24 : goal.returns-then-key-lt24
unfolding read_tsp
returns-then-key-lt24 c = decoded-refused _ (whole-short 24 0 _ _ _ (omega arith))

pub decode_key-requires : goal.decode_key-requires
decode_key-requires c = (omega arith, omega arith, omega arith, omega arith)

pub returns : goal.returns
unfolding read_tsp read_key
returns c = c.decode_key.ensures
