-- `is_key` meets its contract. Assumes nothing.
use Prim.Native.Nat.{ℕ, ◌+◌, ◌-◌}
use mathlib.Core.Path.{ap, ◌∙◌}
use mathlib.Core.List.{List}
use native.Mathlib.Omega.{arith}
use borrow.Author.Tests.{lt-leb}
use lib.ListN.{length, drop}
use Rattle.data_model.specs.Path.{field}
use Rattle.keys.specs.Decode.{read_path}
use Rattle.keys.specs.Judge.{takes}
use Rattle.keys.proofs.Reading.{rest}
use Rattle.keys.proofs.Decoding.{fills-short, fills-takes}
use Rattle.keys.proofs.judge.is_key.Goals as goal

pub returns-then-key-before : goal.returns-then-key-before
returns-then-key-before c =
    let a = c.args in
    c.is_path.ensures
    ∙ ap (λ (k : List ℕ). takes (length a.key.now - a.before - a.behind) (read_path field k)) (rest a.key.now a.before)
    ∙ fills-takes a.before a.behind (length a.key.now) (read_path field (drop a.before a.key.now)) (omega arith)

pub returns-else-key-before : goal.returns-else-key-before
returns-else-key-before c = let a = c.args in lt-leb (a.before + a.behind) (length a.key.now) (omega arith) ∙ fills-short a.before a.behind (length a.key.now) _ (omega arith)
