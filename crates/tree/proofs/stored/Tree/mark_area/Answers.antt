-- `mark_area` meets its contract: what is asked by bytes, which are written once, is what is asked. Assumes nothing.
use Prim.Native.Nat.{ℕ, ◌-◌}
use mathlib.Core.Path.{refl, ap, ◌∙◌}
use mathlib.Core.Bool.{Bool}
use native.Mathlib.Omega.{arith}
use lib.ListN.{length-replicate}
use Rattle.laws.specs.Lists.{put}
use Rattle.layout.specs.Layout.{records}
use Rattle.layout.specs.Marks.{marks_of}
use Rattle.data_model.specs.Path.{field, components}
use Rattle.tree.specs.Stored.{Stored, contents}
use Rattle.tree.proofs.AddressLaws.{front-path}
use Rattle.tree.proofs.SelectionLaws.{area-selected}
use Rattle.tree.proofs.stored.Tree.mark_area.Goals as goal

pub returns : goal.returns
returns c =
    λ ns.
    let a = c.args in
    let w = c.write_path-n in
    let s = c.of_area-selection in
    c.mark_selected.ensures ns
    ∙ ap (λ (p : Stored → Bool). put (marks_of p (contents a.self.order field ns (records a.self.count a.self.dir.now a.self.bytes.now))) a.marks.now)
    (area-selected a.area a.ignore _ s.ensures _ _ (front-path (components a.area.path) w.new.out w.result (w.result - 2) w.ensures.2 (omega (arith, w.ensures.1, w.auto.out, length-replicate {A = ℕ} 298 0)) w.ensures.0 refl))
