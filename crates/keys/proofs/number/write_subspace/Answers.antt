-- `write_subspace` meets its contract: two numbers, one behind the other. Assumes nothing.
use mathlib.Core.Path.{◌≡◌, sym, ◌∙◌}
use native.Mathlib.Omega.{arith}
use lib.ListN.{length}
use Rattle.keys.specs.Encode.{be, subspace_key}
use Rattle.laws.proofs.Lists.{wrote-first, wrote-last}
use Rattle.keys.proofs.Encoding.{be-length}
use borrow.Author.Rules.{rules}
use Rattle.keys.proofs.number.write_subspace.Goals as goal

pub returns : goal.returns
unfolding subspace_key
returns c =
    let a = c.args in
    let f = c.write_u64-n in
    let g = c.write_u64 in
    let size : length f.new.out ≡ length a.out.now = search rules in
    let d = wrote-first (be 8 a.s.high) (be 8 a.s.low) a.out.now f.new.out f.result (omega (arith, f.ensures.0)) (f.ensures.0 ∙ sym (be-length 8 a.s.high)) f.ensures.1 in (
      omega (arith, f.ensures.0, g.ensures.0),
      (wrote-last _ (be 8 a.s.low) _ f.new.out _ f.result g.result d
          (omega (arith, f.ensures.0, g.ensures.0, size, c.requires))
          (g.ensures.0 ∙ sym (be-length 8 a.s.low))
          g.ensures.1
          ).1,
    )
