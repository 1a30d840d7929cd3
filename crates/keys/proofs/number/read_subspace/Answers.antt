-- `read_subspace` meets its contract: two numbers, one behind the other. Assumes nothing.
use Rattle.keys.proofs.Reading.{rest}
use Rattle.keys.specs.Decode.{subspace_at}
use Rattle.keys.proofs.number.read_subspace.Goals as goal

pub returns : goal.returns
unfolding subspace_at
returns c =
    let k = c.args.k.now in
    rw (c.read_u64.ensures, c.read_u64-2.ensures, rest k 8)
