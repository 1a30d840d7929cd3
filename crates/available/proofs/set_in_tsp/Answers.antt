-- `set_in_tsp` meets its contract: nothing stands there, or the first that does is written over. Assumes nothing.
use mathlib.Core.List.{[]}
use Rattle.data_model.specs.Path.{components}
use Rattle.tree.proofs.FormedLaws.{formed-bounds}
use Rattle.store.proofs.ForgetLaws.{none_first, first-inside}
use Rattle.available.proofs.Arrived.{stands-placed}
use Rattle.available.proofs.OneTree.{set-none, set-one}
use Rattle.available.proofs.set_in_tsp.Goals as goal

pub set_available-requires : goal.set_available-requires
set_available-requires c = formed-bounds c.requires.0.formed _ (first-inside c.requires.0.formed _ c.args.subspace (components c.args.path) c.in-Some.k (c.in-Some.ensures []))

pub returns-in-Some : goal.returns-in-Some
returns-in-Some c = λ ns once.
    set-one c.requires.0 (λ i. (c.slice_known-1.given i).fits) ns c.args.subspace (components c.args.path) c.args.n c.in-Some.k
    (stands-placed c.requires.0.formed ns c.args.subspace (components c.args.path) c.in-Some.k (c.in-Some.ensures ns)) once _ c.set_available.ensures

pub returns-in_default : goal.returns-in_default
returns-in_default c = λ ns once.
    set-none c.requires.0 (λ i. (c.slice_known-1.given i).fits) ns c.args.subspace (components c.args.path) c.args.n (none_first c.requires.0.formed ns c.args.subspace (components c.args.path) (c.in_default.ensures ns))
