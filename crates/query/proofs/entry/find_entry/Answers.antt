-- `find_entry` meets its contract: by the first that stands there. Assumes nothing.
use Rattle.data_model.specs.Path.{components}
use Rattle.tree.proofs.FormedLaws.{formed-bounds}
use Rattle.store.proofs.ForgetLaws.{first-inside}
use Rattle.query.proofs.FoundLaws.{found_none, found-one}
use Rattle.query.proofs.entry.find_entry.Goals as goal

pub returns-in_err-k : goal.returns-in_err-k
returns-in_err-k c = rw c.from_residual.ensures (found_none c.requires.0 c.args.namespace c.args.subspace (components c.args.path) c.args.ignore (c.in_err-k.ensures c.args.namespace))

pub stored_at-lengthy-requires : goal.stored_at-lengthy-requires
stored_at-lengthy-requires c = formed-bounds c.requires.0 _ (first-inside c.requires.0 c.args.namespace c.args.subspace (components c.args.path) c.in_ok-k.k (c.in_ok-k.ensures c.args.namespace))

pub returns : goal.returns
returns c =
    let a = c.stored_at-lengthy in
    rw c.then_some.ensures (found-one c.requires.0 c.args.namespace c.args.subspace (components c.args.path) c.args.ignore c.in_ok-k.k (c.in_ok-k.ensures c.args.namespace) a.result a.ensures.value a.ensures.path_value.1 _ c.let_through.ensures)
