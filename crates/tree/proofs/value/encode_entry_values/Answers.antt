-- `encode_entry_values` meets its contract: a half, and the other in the part behind it. Assumes nothing.
use mathlib.Core.Path.{◌≡◌, refl}
use lib.ListN.{length}
use borrow.Author.Rules.{rules}
use Rattle.tree.proofs.RecordParts.{value-wrote}
use Rattle.tree.proofs.value.encode_entry_values.Goals as goal
use Rattle.tree.proofs.value.encode_entry_values.Goals.{Start}

-- The arrays' lengths.
digest-long : (c : Start) → length c.args.v.payload_digest ≡ 32
digest-long c = search rules

token-long : (c : Start) → length c.args.v.token ≡ 64
token-long c = search rules

pub returns : goal.returns
returns c =
    let f = c.write_front in
    (refl, value-wrote c.args.v (digest-long (goal.at.returns c).Start) (token-long (goal.at.returns c).Start) c.args.out.now f.new.out _ c.requires f.ensures c.write_back.ensures)
