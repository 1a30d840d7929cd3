-- `write_path` meets its contract. Assumes nothing.
use native.Mathlib.Omega.{arith}
use Rattle.tree.proofs.AddressLaws.{path-wrote}
use Rattle.tree.proofs.address.write_path.Goals as goal

pub returns : goal.returns
returns c =
    let w = c.write_address in
    let h = path-wrote _ _ w.new.out w.result w.ensures.2 (omega (arith, w.ensures.1, w.auto.out)) in
    (h.0, w.ensures.1, h.1)
