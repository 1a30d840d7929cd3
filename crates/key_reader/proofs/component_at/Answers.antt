-- `component_at` meets its contract: what the reader's methods say, one after the other. Assumes nothing.
use Rattle.key_reader.specs.Reader.{stepped_says, stepped}
use Rattle.key_reader.proofs.component_at.Goals as goal

pub returns : goal.returns
unfolding stepped_says stepped
returns c =
    let e = c.next_component-component.ensures in
    cc (e.0, e.1, e.2, c.position.ensures, c.rest.ensures.0)
