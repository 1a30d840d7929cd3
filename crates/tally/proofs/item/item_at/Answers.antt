-- `item_at` meets its contract: the run up to `end` stands in front of what is left. Assumes nothing.
use Prim.Native.Nat.{ℕ, ◌+◌, ◌-◌, ◌<◌}
use mathlib.Core.List.{List, ◌∷◌}
use mathlib.Core.Path.{◌≡◌, refl, sym, ap, subst, ◌∙◌}
use lib.ListN.{drop}
use Rattle.tree.specs.Tree.{Formed, Readable}
use Rattle.tree.specs.Address.{triple_at}
use Rattle.tree.specs.declared.stored.KeyOrder.{KeyOrder}
use Rattle.layout.specs.Layout.{records}
use Rattle.data_model.specs.Path.{field}
use Rattle.tree.specs.Stored.{contents}
use Rattle.tree.specs.declared.stored.KeyOrder.TheVariants.{Spt}
use Rattle.tally.specs.Tally.{tally_of}
use mathlib.Core.Bool.{not}
use native.Mathlib.Omega.{arith}
use Rattle.tree.proofs.FormedLaws.{formed-readable}
use Rattle.tally.proofs.RunLaws.{run_item, run-start, run-done, run_ends, run-turn}
use Rattle.tally.proofs.item.item_at.Goals as goal

pub subspace_at-subspace-requires : goal.subspace_at-subspace-requires
subspace_at-subspace-requires c = formed-readable c.requires.0.formed _ c.requires.1

pub time_at-newest-requires : goal.time_at-newest-requires
time_at-newest-requires c = formed-readable c.requires.0.formed _ c.requires.1

pub loop-end-init : goal.loop-end-init
loop-end-init c = (omega arith, omega (arith, c.requires.1), λ ns. run-start c.requires.0 c.args.tree.fits ns c.args.k c.requires.1 c.subspace_at-subspace.result (c.subspace_at-subspace.ensures) c.time_at-newest.result (c.time_at-newest.ensures), refl)

pub subspace_at-next-requires : goal.subspace_at-next-requires
subspace_at-next-requires c = formed-readable c.requires.0.formed _ (omega arith)

pub returns-then-not-same_subspace : goal.returns-then-not-same_subspace
returns-then-not-same_subspace c =
    let l = c.loop-end in
    let s = c.subspace_at-subspace in
    let n = c.subspace_at-next in (
      omega arith,
      omega arith,
      λ ns. run_ends c.requires.0 c.args.tree.fits ns c.args.k c.requires.1 s.result (s.ensures) l.end l.newest l.invariant.0 (l.invariant.2 ns) (omega arith) n.result (n.ensures) (ap not (sym c.same_subspace.ensures) ∙ c.if-not-same_subspace.true-raw),
    )

pub time_at-requires : goal.time_at-requires
time_at-requires c = formed-readable c.requires.0.formed _ (omega arith)

pub loop-end-preserved : goal.loop-end-preserved
loop-end-preserved c =
    let l = c.loop-end in
    let s = c.subspace_at-subspace in
    let n = c.subspace_at-next in
    let t = c.time_at in
    let u = c.later_of-newest in (
      omega (arith, l.invariant.0),
      omega arith,
      λ ns. run-turn c.requires.0 c.args.tree.fits ns c.args.k c.requires.1 s.result (s.ensures) l.end l.newest l.invariant.0 (l.invariant.2 ns) (omega arith) n.result (n.ensures) (ap not (sym c.same_subspace.ensures) ∙ c.if-not-same_subspace.false-raw) t.result u.result (t.ensures) u.ensures,
      l.invariant.3,
    )

pub returns : goal.returns
returns c =
    let l = c.loop-end in
    let s = c.subspace_at-subspace in
    let n = c.args.tree.count in
    let q : l.end ≡ n = omega (arith, l.invariant.1, l.invariant.3, c.loop-end-test.false) in (
      omega (arith, l.invariant.0),
      omega (arith, l.invariant.0),
      λ ns. subst (λ (e : ℕ). tally_of (drop c.args.k (contents Spt field ns (records n c.args.tree.dir.now c.args.tree.bytes.now))) ≡ run_item s.result c.args.k e l.newest ∷ tally_of (drop (c.args.k + (e - c.args.k)) (contents Spt field ns (records n c.args.tree.dir.now c.args.tree.bytes.now)))) q
          (run-done c.requires.0 c.args.tree.fits ns c.args.k c.requires.1 s.result (s.ensures) l.end l.newest l.invariant.0 (l.invariant.2 ns) (omega arith)),
    )
