-- `mark_range` meets its contract: what is asked by bytes, which are written once, is what is asked. Assumes nothing.
use Prim.Native.Nat.{ℕ, ◌-◌}
use mathlib.Core.Path.{◌∙◌, ap, ap₂}
use mathlib.Core.List.{List}
use mathlib.Core.Bool.{Bool}
use lib.ListN.{take, drop}
use Rattle.std.proofs.Common.{rules}
use Rattle.laws.specs.Lists.{put}
use Rattle.layout.specs.Layout.{records}
use Rattle.layout.specs.Marks.{marks_of}
use Rattle.data_model.specs.Path.{field}
use Rattle.tree.specs.Stored.{Stored, contents}
use Rattle.tree.proofs.SelectionLaws.{range-selected, start-legal, end-legal, end-closed, end-open}
use Rattle.tree.proofs.stored.Tree.mark_range.Goals as goal
use Rattle.tree.proofs.stored.Tree.mark_range.Goals.{in-Closed, in-Open}

pub write_path-n-requires : goal.write_path-n-requires
write_path-n-requires c = let h = start-legal c.args.range.paths c.requires.2 in search rules

pub write_path-m-requires : goal.write_path-m-requires
write_path-m-requires c = let h = end-legal c.args.range.paths c.requires.2 _ c.in-Closed.is in search rules

pub returns : goal.returns
returns c =
    λ ns.
    let a = c.args in
    let w = c.write_path-n in
    let s = c.of_range-selection in
    let z = c.match-range in
    c.mark_selected.ensures ns
    ∙ ap (λ (p : Stored → Bool). put (marks_of p (contents a.self.order field ns (records a.self.count a.self.dir.now a.self.bytes.now))) a.marks.now)
    (range-selected a.range a.ignore _ s.ensures _ (take (z.m - 16) (drop 16 z.high)) w.ensures.2 (elim z.branch [
      | in-Closed v ↦ end-closed a.range.paths.end (take (z.m - 16) (drop 16 z.high)) _ v.in-Closed.is (ap₂ (λ (m : ℕ) (h : List ℕ). take (m - 16) (drop 16 h)) v.m-is v.high-is ∙ v.write_path-m.ensures.2)
      | in-Open v ↦ end-open a.range.paths.end (take (z.m - 16) (drop 16 z.high)) v.in-Open.is
    ]))
