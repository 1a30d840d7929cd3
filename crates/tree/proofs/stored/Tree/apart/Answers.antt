-- `apart` meets its contract: by the nearest that covers each. Assumes nothing.
use Prim.Native.Nat.{ℕ, ◌≤◌}
use mathlib.Core.Path.{refl, ◌∙◌}
use mathlib.Core.List.{[]}
use native.Mathlib.Omega.{arith}
use lib.Seq.{length-take-le}
use lib.ListN.{length-set}
use Rattle.tree.proofs.FormedLaws.{formed-readable}
use Rattle.tree.proofs.ApartLaws.{walk_start, walk-stops, walk-room, walk-goes, walk_end, below_next, stacked}
use Rattle.tree.proofs.stored.Tree.apart.Goals as goal
use Rattle.tree.proofs.stored.Tree.apart.Goals.{Else-not-nearest_may, After-covering-depth}

pub loop-k-init : goal.loop-k-init
loop-k-init c = (omega arith, omega arith, refl, λ i h. absurd (omega arith), λ ns. walk_start c.requires c.args.self.fits ns _)

pub covering-depth-requires : goal.covering-depth-requires
covering-depth-requires c =
    let v = c.requires.formed in
    let l = c.loop-k in
    (formed-readable v _ (omega arith), λ i h. formed-readable v _ (omega (arith, stacked l.stack l.depth l.k l.depth l.invariant.3 (omega (arith, l.invariant.2)) (omega arith) i h)))

few : (c : After-covering-depth) → c.covering-depth.result ≤ c.loop-k.depth
few c = let l = c.loop-k in omega (arith, c.covering-depth.ensures.0, length-take-le l.depth l.stack (omega (arith, l.invariant.2)))

pub nearest_may-requires : goal.nearest_may-requires
nearest_may-requires c =
    let v = c.requires.formed in
    let l = c.loop-k in
    let r = c.covering-depth.result in
    (formed-readable v _ (omega arith), λ i h. formed-readable v _ (omega (arith, stacked l.stack l.depth l.k r l.invariant.3 (omega (arith, l.invariant.2)) (few (goal.at.nearest_may-requires c).After-covering-depth) i h)))

pub returns-then-not-nearest_may : goal.returns-then-not-nearest_may
returns-then-not-nearest_may c =
    λ ns.
    let l = c.loop-k in
    let r = c.covering-depth in
    let t = c.nearest_may in
    walk-stops c.requires.formed c.args.self.fits _ _ _ (omega arith) l.invariant.3 (omega (arith, l.invariant.2)) _ r.ensures.0 r.ensures.1 r.ensures.2 _ t.ensures.0 t.ensures.1 ns (l.invariant.4 ns) c.if-not-nearest_may.true-raw

room : (c : Else-not-nearest_may) → c.covering-depth.result ≤ 8
room c =
    let l = c.loop-k in
    let r = c.covering-depth in
    let t = c.nearest_may in
    walk-room c.requires.formed c.args.self.fits _ _ _ (omega arith) l.invariant.3 (omega (arith, l.invariant.2)) _ r.ensures.0 r.ensures.1 r.ensures.2 _ t.ensures.0 t.ensures.1 [] (l.invariant.4 []) c.if-not-nearest_may.false-raw

pub bounds-stack-depth : goal.bounds-stack-depth
bounds-stack-depth c = omega (arith, room c)

pub loop-k-preserved : goal.loop-k-preserved
loop-k-preserved c =
    let l = c.loop-k in
    let r = c.covering-depth in
    let t = c.nearest_may in
    let m = room c in (
      omega arith,
      omega arith,
      length-set {A = ℕ} l.stack r.result l.k ∙ l.invariant.2,
      below_next l.stack l.depth l.k r.result (few (goal.at.loop-k-preserved c).After-covering-depth) (omega (arith, l.invariant.2)) l.invariant.3,
      λ ns. walk-goes c.requires.formed c.args.self.fits l.stack l.depth l.k (omega arith) l.invariant.3 (omega (arith, l.invariant.2)) r.result r.ensures.0 r.ensures.1 r.ensures.2 t.result t.ensures.0 t.ensures.1 ns (l.invariant.4 ns) c.if-not-nearest_may.false-raw (omega (arith, l.invariant.2)),
    )

pub returns : goal.returns
returns c = λ ns. walk_end c.requires.formed ns _ _ _ (omega arith) (c.loop-k.invariant.4 ns)
