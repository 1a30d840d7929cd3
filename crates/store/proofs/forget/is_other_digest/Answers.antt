-- `is_other_digest` meets its contract: by the entry at the place, if there is one. Assumes nothing.
use mathlib.Core.Path.{◌∙◌}
use Rattle.data_model.specs.Path.{components}
use Rattle.tree.proofs.FormedLaws.{formed-bounds}
use Rattle.layout.proofs.CompareLaws.{same-is}
use Rattle.store.proofs.ForgetLaws.{first-inside, digest-absent, digest-there}
use Rattle.store.proofs.forget.is_other_digest.Goals as goal

pub stored_at-requires : goal.stored_at-requires
stored_at-requires c = formed-bounds c.requires.0 _ (first-inside c.requires.0 c.args.namespace c.args.subspace (components c.args.path) c.in-Some.k (c.in-Some.ensures c.args.namespace))

pub returns-in-Some : goal.returns-in-Some
returns-in-Some c =
    let a = c.stored_at in
    c.ne.ensures
    ∙ digest-there c.requires.0 c.args.namespace c.args.subspace (components c.args.path) c.args.expected_digest c.in-Some.k (c.in-Some.ensures c.args.namespace) c.requires.3 a.result a.ensures.path_value.1
    _ (same-is a.result.entry.payload_digest c.args.expected_digest)

pub returns-in-None : goal.returns-in-None
returns-in-None c = digest-absent c.requires.0 c.args.namespace c.args.subspace (components c.args.path) c.args.expected_digest (c.in-None.ensures c.args.namespace)
