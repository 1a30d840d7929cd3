-- `decide` meets its contract: by the marks of what outdates the entry, by whether it is stored already, and by the marks of what it removes. Assumes nothing.
use mathlib.Core.Path.{◌≡◌, sym, ◌∙◌}
use mathlib.Core.Bool.{false, ◌&&◌}
use native.Mathlib.Omega.{arith}
use lib.Dec.{ltb}
use borrow.Author.Tests.{lt-ltb, le-ltb}
use Rattle.laws.specs.Sorted.{any}
use Rattle.layout.specs.Layout.{records}
use Rattle.data_model.specs.Path.{field}
use Rattle.data_model.specs.Entry.{entry_of}
use Rattle.tree.specs.Stored.{contents}
use Rattle.tree.specs.Matching.{repeats}
use Rattle.store.proofs.DecideLaws.{marks-few, marked_by, decided-old, decided-already, decided-prevented, decided-full, decided-take}
use Rattle.store.proofs.decide.decide.Goals as goal
use Rattle.store.proofs.decide.decide.Goals.{Joined-else-prevent_pruning, Else-has_entry, else-prevent_pruning-via-then-prevent_pruning+else-n-gt0, else-prevent_pruning-via-else-prevent_pruning}

pub returns-then-k-count-clause-decision : goal.returns-then-k-count-clause-decision
returns-then-k-count-clause-decision c =
    let f = c.first_marked-k in
    decided-old c.requires.0.formed _ _ _ _ _ _ c.mark_outdating.ensures f.result f.ensures c.if-k-count.true

pub returns-then-has_entry-clause-decision : goal.returns-then-has_entry-clause-decision
returns-then-has_entry-clause-decision c =
    let f = c.first_marked-k in
    decided-already c.requires.0.formed _ _ _ _ _ _ c.mark_outdating.ensures f.result f.ensures c.if-k-count.false (sym c.has_entry.ensures ∙ c.if-has_entry.true)

-- Where the entry is not stored already.
new : (c : Else-has_entry) → any (repeats (entry_of c.args.entry)) (contents c.args.tree.order field c.args.entry.namespace_id (records c.args.tree.count c.args.tree.dir.now c.args.tree.bytes.now)) ≡ false
new c = sym c.has_entry.ensures ∙ c.if-has_entry.false

-- Where no removal is prevented.
allowed : (c : Joined-else-prevent_pruning) → (c.args.prevent_pruning && ltb 0 c.count_marked-n.result) ≡ false
allowed c = elim c.else-prevent_pruning.branch [
  | else-prevent_pruning-via-then-prevent_pruning+else-n-gt0 w ↦ simp (w.if-prevent_pruning.true, le-ltb 0 c.count_marked-n.result w.if-n-gt0.false)
  | else-prevent_pruning-via-else-prevent_pruning w ↦ simp (w.if-prevent_pruning.false)
]

pub returns-then-n-gt0-clause-decision : goal.returns-then-n-gt0-clause-decision
returns-then-n-gt0-clause-decision c =
    let f = c.first_marked-k in
    let m = c.count_marked-n in
    decided-prevented c.requires.0.formed _ _ _ _ _ _ c.mark_outdating.ensures f.result f.ensures c.if-k-count.false (new (goal.at.returns-then-n-gt0-clause-decision c).Else-has_entry) _ _ c.mark_removed.ensures m.result m.ensures
    (simp (c.if-prevent_pruning.true, lt-ltb 0 m.result c.if-n-gt0.true))

pub overflow_sub-count : goal.overflow_sub-count
overflow_sub-count c = omega (arith, c.count_marked-n.ensures, marks-few c.args.tree.count c.mark_removed.new.marks (omega (arith, c.requires.3, c.mark_removed.auto.marks)))

pub returns-then-limit-count-clause-decision : goal.returns-then-limit-count-clause-decision
returns-then-limit-count-clause-decision c =
    let a = goal.at.returns-then-limit-count-clause-decision c in
    let f = c.first_marked-k in
    let m = c.count_marked-n in
    decided-full c.requires.0.formed _ _ _ _ _ _ c.mark_outdating.ensures f.result f.ensures c.if-k-count.false (new a.Else-has_entry) _ _ c.mark_removed.ensures m.result m.ensures (allowed a.Joined-else-prevent_pruning) c.if-limit-count.true

pub returns-clause-decision : goal.returns-clause-decision
returns-clause-decision c =
    let a = goal.at.returns-clause-decision c in
    let f = c.first_marked-k in
    let m = c.count_marked-n in
    decided-take c.requires.0.formed _ _ _ _ _ _ c.mark_outdating.ensures f.result f.ensures c.if-k-count.false (new a.Else-has_entry) _ _ c.mark_removed.ensures m.result m.ensures (allowed a.Joined-else-prevent_pruning) c.if-limit-count.false

pub returns-clause-marks : goal.returns-clause-marks
returns-clause-marks c = λ n q. marked_by _ c.mark_removed.new.marks _ c.mark_removed.ensures
