-- `encode_spt_entry_key` meets its contract: a way out for each answer. Assumes nothing.
use mathlib.Core.Path.{◌≡◌, ◌∙◌}
use Rattle.std.proofs.Common.{rules}
use Rattle.data_model.specs.Path.{field, legal, components}
use Rattle.data_model.specs.Said.{refuses, says}
use Rattle.data_model.specs.Refusal.{said, refused_with}
use Rattle.keys.specs.Encode.{triple, spt_key, roomy, writable, encoded, encoded_in}
use Rattle.keys.proofs.Encoding.{writable-not, writable-so, encode-done, roomy-most}
use Rattle.keys.proofs.encode.encode_spt_entry_key.Goals as goal
use Rattle.keys.proofs.encode.encode_spt_entry_key.Goals.{After-from_residual, After-write_spt_key}

-- What is refused.
refusal : (c : After-from_residual) → let a = c.args in let key = spt_key (triple a.subspace (components a.path) a.timestamp) in
    (refuses (refused_with c.from_residual.result) ≡ encoded (roomy field a.out.now) (legal field a.path) key) × (a.out.now ≡ encoded_in (roomy field a.out.now) (legal field a.path) key a.out.now)
refusal c =
    let a = c.args in
    let e : refuses (refused_with c.from_residual.result) ≡ writable (roomy field a.out.now) (legal field a.path) = search rules in
    writable-not _ _ _ _ _ e

pub returns-in_err-may_write-clause-result_value : goal.returns-in_err-may_write-clause-result_value
returns-in_err-may_write-clause-result_value c =
    let e : said c.from_residual.result ≡ refuses (refused_with c.from_residual.result) = search rules in
    e ∙ (refusal (goal.at.returns-in_err-may_write-clause-result_value c).After-from_residual).0

pub returns-in_err-may_write-clause-out_after : goal.returns-in_err-may_write-clause-out_after
returns-in_err-may_write-clause-out_after c = (refusal (goal.at.returns-in_err-may_write-clause-out_after c).After-from_residual).1

pub write_spt_key-requires : goal.write_spt_key-requires
write_spt_key-requires c =
    let a = c.args in
    let e : says tt ≡ writable (roomy field a.out.now) (legal field a.path) = search rules in
    let w = writable-so _ _ e in
    (w.1, roomy-most field a.out.now w.0)

written : (c : After-write_spt_key) → let a = c.args in let key = spt_key (triple a.subspace (components a.path) a.timestamp) in
    (says c.write_spt_key.result ≡ encoded (roomy field a.out.now) (legal field a.path) key) × (c.write_spt_key.new.out ≡ encoded_in (roomy field a.out.now) (legal field a.path) key a.out.now)
written c =
    let a = c.args in
    let e : says tt ≡ writable (roomy field a.out.now) (legal field a.path) = search rules in
    encode-done _ _ _ _ _ _ e c.write_spt_key.ensures.0 c.write_spt_key.ensures.1

pub returns-clause-result_value : goal.returns-clause-result_value
returns-clause-result_value c = (written (goal.at.returns-clause-result_value c).After-write_spt_key).0

pub returns-clause-out_after : goal.returns-clause-out_after
returns-clause-out_after c = (written (goal.at.returns-clause-out_after c).After-write_spt_key).1
