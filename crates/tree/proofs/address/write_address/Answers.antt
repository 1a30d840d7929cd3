-- `write_address` meets its contract. Assumes nothing.
use Prim.Native.Nat.{◌-◌}
use native.Mathlib.Omega.{arith}
use Rattle.data_model.specs.Path.{components}
use Rattle.keys.specs.Encode.{triple}
use Rattle.tree.specs.declared.stored.KeyOrder.TheVariants.{Spt}
use Rattle.tree.proofs.RecordLaws.{key_least}
use Rattle.tree.proofs.AddressLaws.{address-wrote}
use Rattle.tree.proofs.address.write_address.Goals as goal

pub overflow_sub-result : goal.overflow_sub-result
overflow_sub-result c = omega (arith, c.encode_key.ensures.0, key_least Spt (triple c.args.subspace (components c.args.path) 0))

pub returns : goal.returns
returns c = address-wrote c.args.subspace c.args.path _ _ c.encode_key.result (c.encode_key.result - 8) c.requires.0 c.encode_key.ensures.0 c.encode_key.ensures.1 (omega (arith, c.encode_key.ensures.0, key_least Spt (triple c.args.subspace (components c.args.path) 0)))
