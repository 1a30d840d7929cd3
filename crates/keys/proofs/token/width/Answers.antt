-- `width` meets its contract: two bytes for 00, else one. Assumes nothing.
use Rattle.keys.proofs.Encoding.{escaped-zero, escaped-other}
use Rattle.keys.proofs.token.width.Goals as goal

pub returns-then-b-eq0 : goal.returns-then-b-eq0
returns-then-b-eq0 c = rw (escaped-zero _ c.if-b-eq0.true)

pub returns-else-b-eq0 : goal.returns-else-b-eq0
returns-else-b-eq0 c = rw (escaped-other _ c.if-b-eq0.false)
