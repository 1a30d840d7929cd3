-- `well_formed_trees` meets its contract: the tests one behind the other. Assumes nothing.
use Rattle.std.proofs.Common.{rules}
use mathlib.Core.Path.{◌≡◌, refl, sym, ap₂, ◌∙◌}
use Prim.Native.Nat.{ℕ}
use mathlib.Core.List.{List}
use mathlib.Core.Bool.{Bool, true}
use Rattle.layout.specs.Layout.{records}
use Rattle.tree.specs.Stored.{contents}
use Rattle.tree.specs.declared.stored.KeyOrder.{KeyOrder}
use Rattle.data_model.specs.Path.{field}
use Rattle.tree.specs.Tree.{well_formed, within}
use Rattle.tree.specs.Apart.{apart}
use Rattle.tree.specs.declared.stored.KeyOrder.TheVariants.{Spt, Tsp}
use Rattle.store.specs.Store.{well_formed_trees}
use Rattle.tree.proofs.FormedLaws.{well-formed-tree, well-ordered}
use Rattle.store.proofs.CheckLaws.{trees-same}
use Rattle.store.proofs.check.well_formed_trees.Goals as goal
use Rattle.store.proofs.check.well_formed_trees.Goals.{Then-well_formed-2, then-well_formed, else-well_formed, then-well_formed-2, else-well_formed-2}

-- What a test of a tree says, by the order and the count that the tree has.
told : (dir tree : List ℕ) {o o' : KeyOrder} {n k : ℕ} → o ≡ o' → n ≡ k → well_formed o field n dir tree ≡ true → well_formed o' field k dir tree ≡ true
told dir tree e m q = sym (ap₂ (λ (x : KeyOrder) (y : ℕ). well_formed x field y dir tree) e m) ∙ q

compared : (ns dir tree dir' tree' : List ℕ) {o o' : KeyOrder} {n k : ℕ} {b : Bool} → o ≡ Spt → o' ≡ Tsp → k ≡ n
    → b ≡ within (contents o field ns (records n dir tree)) (contents o' field ns (records k dir' tree'))
    → b ≡ within (contents Spt field ns (records n dir tree)) (contents Tsp field ns (records n dir' tree'))
compared ns dir tree dir' tree' e f m q = q ∙ rw (e, f, m) refl

both : (c : Then-well_formed-2) → (well_formed c.args.spt.order field c.args.spt.count c.args.spt.dir.now c.args.spt.bytes.now ≡ true) × (well_formed c.args.tsp.order field c.args.tsp.count c.args.tsp.dir.now c.args.tsp.bytes.now ≡ true)
both c = elim c.if-well_formed.branch [
  | then-well_formed w ↦ (sym c.well_formed-2.ensures ∙ w.if-well_formed.true, sym w.well_formed-then-well_formed.ensures ∙ sym w.value-is ∙ c.if-well_formed-2.true)
  | else-well_formed w ↦ search rules
]

pub within-requires : goal.within-requires
within-requires c = let b = both (goal.at.within-requires c).Then-well_formed-2 in (well-formed-tree c.requires.3 b.0, well-ordered c.requires.4 b.1)

pub apart-requires : goal.apart-requires
apart-requires c = elim c.if-well_formed-2.branch [
  | then-well_formed-2 w ↦ elim c.if-well_formed.branch [
    | then-well_formed v ↦ well-ordered c.requires.3 (told _ _ c.requires.0 refl (sym c.well_formed-2.ensures ∙ v.if-well_formed.true))
    | else-well_formed v ↦ search rules
  ]
  | else-well_formed-2 w ↦ search rules
]

pub returns-then-within : goal.returns-then-within
unfolding well_formed_trees apart
returns-then-within c = elim c.if-well_formed-2.branch [
  | then-well_formed-2 w ↦ elim c.if-well_formed.branch [
    | then-well_formed v ↦
        let a = told _ _ c.requires.0 refl (sym c.well_formed-2.ensures ∙ v.if-well_formed.true) in
        let b = told _ _ c.requires.1 c.requires.2 (sym v.well_formed-then-well_formed.ensures ∙ sym v.value-is ∙ w.if-well_formed-2.true) in
        simp (a, b, sym (trees-same _ (well-ordered c.requires.3 a) (well-formed-tree c.requires.4 b) c.args.spt.fits c.args.tsp.fits) ∙ sym (compared c.args.namespace _ _ _ _ c.requires.0 c.requires.1 c.requires.2 w.within.ensures) ∙ sym w.value-is ∙ c.if-within.true) (c.apart.ensures c.args.namespace)
    | else-well_formed v ↦ search rules
  ]
  | else-well_formed-2 w ↦ search rules
]

pub returns-else-within : goal.returns-else-within
unfolding well_formed_trees
returns-else-within c = elim c.if-well_formed-2.branch [
  | then-well_formed-2 w ↦ elim c.if-well_formed.branch [
    | then-well_formed v ↦
        let a = told _ _ c.requires.0 refl (sym c.well_formed-2.ensures ∙ v.if-well_formed.true) in
        let b = told _ _ c.requires.1 c.requires.2 (sym v.well_formed-then-well_formed.ensures ∙ sym v.value-is ∙ w.if-well_formed-2.true) in
        c.if-within.false ∙ simp (a, b, sym (trees-same _ (well-ordered c.requires.3 a) (well-formed-tree c.requires.4 b) c.args.spt.fits c.args.tsp.fits) ∙ sym (compared c.args.namespace _ _ _ _ c.requires.0 c.requires.1 c.requires.2 w.within.ensures) ∙ sym w.value-is ∙ c.if-within.false)
    | else-well_formed v ↦ search rules
  ]
  | else-well_formed-2 w ↦ elim c.if-well_formed.branch [
    | then-well_formed v ↦ search rules
    | else-well_formed v ↦ search rules
  ]
]
