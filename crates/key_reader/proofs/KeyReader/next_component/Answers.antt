-- `next_component` meets its contract: what `component_bytes` says, and the position by it. Assumes nothing.
use Rattle.std.proofs.Common.{rules}
use Rattle.keys.specs.Decode.{component_says}
use Rattle.key_reader.specs.Reader.{behind}
use Rattle.key_reader.proofs.KeyReader.next_component.Goals as goal

pub returns-in_err-component : goal.returns-in_err-component
unfolding component_says behind
returns-in_err-component c = search rules

pub returns : goal.returns
unfolding component_says behind
returns c = search rules
