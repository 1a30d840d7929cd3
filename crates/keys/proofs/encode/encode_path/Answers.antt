-- `encode_path` meets its contract: its components are those that the ends that count cut. Assumes nothing.
use mathlib.Core.Path.{◌≡◌}
use native.Mathlib.Omega.{arith}
use lib.ListN.{length, take}
use lib.Seq.{length-take-le}
use Rattle.data_model.specs.Path.{components, field}
use Rattle.data_model.proofs.Values.{legal-count, legal-these, ends-wider}
use borrow.Author.Rules.{rules}
use Rattle.keys.proofs.encode.encode_path.Goals as goal

pub shared_ref_as_front-encode_components : goal.shared_ref_as_front-encode_components
shared_ref_as_front-encode_components c = omega (arith, legal-count field c.args.p c.requires.0)

pub encode_components-requires : goal.encode_components-requires
encode_components-requires c =
    let p = c.args.p in
    let m : length p.bytes ≡ 128 = search rules in
    let n : length p.ends ≡ 8 = search rules in
    let k = legal-count field p c.requires.0 in (
      rw m (ends-wider 64 128 128 128 0 (take p.count p.ends) (omega arith) (omega arith) (legal-these field p c.requires.0)),
      simp (m, length-take-le p.count p.ends (omega arith)) (omega (arith, c.requires.1, k)),
    )

pub returns : goal.returns
unfolding components
returns c = c.encode_components.ensures
