-- `entry_place` meets its contract: each refusal, or the place. Assumes nothing.
use mathlib.Core.Path.{◌≡◌, sym, ap, ◌∙◌}
use Rattle.std.proofs.Common.{Some}
use Rattle.std.specs.Prelude.{is_some}
use Rattle.data_model.specs.Path.{components}
use Rattle.tree.proofs.FormedLaws.{formed-bounds}
use Rattle.store.specs.Forget.{digest_in}
use Rattle.store.proofs.ForgetLaws.{first-inside}
use Rattle.available.proofs.Arrived.{stands-placed}
use Rattle.available.proofs.RefusalLaws.{refuses-absent, refuses-digest, refuses-length, refuses-nothing}
use Rattle.available.proofs.entry_place.Goals as goal

pub returns-in_default-clause-refusal_value : goal.returns-in_default-clause-refusal_value
returns-in_default-clause-refusal_value c =
    refuses-absent c.requires.0 c.args.namespace c.args.subspace (components c.args.path) (is_some c.args.expected) (digest_in c.args.expected) c.args.n (c.in_default.ensures c.args.namespace)

pub stored_at-requires : goal.stored_at-requires
stored_at-requires c = formed-bounds c.requires.0 _ (first-inside c.requires.0 c.args.namespace c.args.subspace (components c.args.path) c.in-Some.place (c.in-Some.ensures c.args.namespace))

pub returns-then-is_other-clause-refusal_value : goal.returns-then-is_other-clause-refusal_value
returns-then-is_other-clause-refusal_value c =
    let a = c.stored_at in
    refuses-digest c.requires.0 c.args.namespace c.args.subspace (components c.args.path) (is_some c.args.expected) (digest_in c.args.expected) c.args.n c.in-Some.place (c.in-Some.ensures c.args.namespace) c.requires.3 a.result a.ensures.path_value.1
    _ c.is_other.ensures c.if-is_other.true

pub returns-then-e-n-clause-refusal_value : goal.returns-then-e-n-clause-refusal_value
returns-then-e-n-clause-refusal_value c =
    let a = c.stored_at in
    refuses-length c.requires.0 c.args.namespace c.args.subspace (components c.args.path) (is_some c.args.expected) (digest_in c.args.expected) c.args.n c.in-Some.place (c.in-Some.ensures c.args.namespace) c.requires.3 a.result a.ensures.path_value.1
    _ c.is_other.ensures c.if-is_other.false c.if-e-n.true

pub returns-clause-refusal_value : goal.returns-clause-refusal_value
returns-clause-refusal_value c =
    let a = c.stored_at in
    refuses-nothing c.requires.0 c.args.namespace c.args.subspace (components c.args.path) (is_some c.args.expected) (digest_in c.args.expected) c.args.n c.in-Some.place (c.in-Some.ensures c.args.namespace) c.requires.3 a.result a.ensures.path_value.1
    _ c.is_other.ensures c.if-is_other.false c.if-e-n.false

pub returns-clause-stands_first : goal.returns-clause-stands_first
returns-clause-stands_first c = λ k e.
    let f : c.in-Some.place ≡ k = cc in
    stands-placed c.requires.0 c.args.namespace c.args.subspace (components c.args.path) k (ap Some (sym f) ∙ c.in-Some.ensures c.args.namespace)
