-- `write_path_spaced` meets its contract: a store behind the path. Assumes nothing.
use native.Mathlib.Omega.{arith}
use Prim.Native.Nat.{ℕ}
use mathlib.Core.Path.{◌≡◌, ap, ◌∙◌}
use mathlib.Core.List.{List}
use lib.ListN.{length, set, length-append}
use Rattle.laws.proofs.Lists.{put-snoc}
use Rattle.text.specs.EntryLine.{space}
use Rattle.data_model.specs.Path.{components}
use Rattle.text.specs.PathText.{path_text}
use Rattle.text.proofs.LineLaws.{path-most}
use borrow.Author.Rules.{rules}
use Rattle.text.proofs.entry_line.write_path_spaced.Goals as goal

pub bounds-out-n : goal.bounds-out-n
bounds-out-n c = let z : length c.write_path-n.new.out ≡ length c.args.out.now = search rules in omega (arith, z, c.write_path-n.ensures.0, path-most c.args.p c.requires.0, c.requires.1)

pub overflow_add-result : goal.overflow_add-result
overflow_add-result c = let z : length c.write_path-n.new.out ≡ length c.args.out.now = search rules in omega (arith, z, c.write_path-n.ensures.0, path-most c.args.p c.requires.0, c.requires.1)

pub returns : goal.returns
returns c =
    let z : length c.write_path-n.new.out ≡ length c.args.out.now = search rules in
    (simp length-append (omega (arith, c.write_path-n.ensures.0)), omega (arith, z, c.write_path-n.ensures.0, path-most c.args.p c.requires.0, c.requires.1), ap (λ (o : List ℕ). set o c.write_path-n.result space) c.write_path-n.ensures.1 ∙ put-snoc (path_text (components c.args.p)) c.args.out.now c.write_path-n.result space c.write_path-n.ensures.0 (omega (arith, z, c.write_path-n.ensures.0, path-most c.args.p c.requires.0, c.requires.1)))
