-- `canonical` meets its contract. Assumes nothing.
use Prim.Native.Nat.{ℕ}
use mathlib.Core.Path.{◌≡◌, ap, ◌∙◌}
use native.Mathlib.Omega.{arith}
use lib.ListN.{length, take}
use Rattle.data_model.specs.Path.{field, value_of}
use Rattle.data_model.proofs.Values.{legal-count, legal-these, last_within}
use Rattle.data_model.proofs.Raise.{canonical-value}
use borrow.Author.Rules.{rules}
use Rattle.data_model.proofs.above.canonical.Goals as goal
use Rattle.data_model.proofs.above.canonical.Goals.{Start}

-- What the value's types say of its arrays.
p-bytes : (c : Start) → length c.args.p.bytes ≡ 128
p-bytes c = search rules

p-ends : (c : Start) → length c.args.p.ends ≡ 8
p-ends c = search rules

pub start-requires : goal.start-requires
start-requires c = omega (arith, p-ends (goal.at.start-requires c).Start, legal-count field c.args.p c.requires)

pub front-requires : goal.front-requires
front-requires c = (legal-count field c.args.p c.requires, omega (arith, c.start.ensures, (last_within _ _ 0 _ (legal-these field c.args.p c.requires)).1))

pub returns : goal.returns
returns c =
    let a = c.args in
    c.front.ensures
    ∙ ap (λ (n : ℕ). value_of (take n a.p.bytes) (take a.p.count a.p.ends) a.p.count) c.start.ensures
    ∙ canonical-value a.p (omega (arith, p-bytes (goal.at.returns c).Start)) (omega (arith, p-ends (goal.at.returns c).Start, legal-count field a.p c.requires)) c.requires
