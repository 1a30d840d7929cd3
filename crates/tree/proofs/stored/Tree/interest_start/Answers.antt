-- `interest_start` meets its contract. Assumes nothing.
use native.Mathlib.Omega.{arith}
use Rattle.tree.proofs.FormedLaws.{formed-bounds, formed-readable}
use Rattle.tree.proofs.RecordParts.{part-long}
use Rattle.tree.proofs.SelectionLaws.{time-read, length-read}
use Rattle.tree.proofs.InterestLaws.{interest-starts, interest-skips, interest-stops, interest-goes, interest-ends}
use Rattle.tree.proofs.stored.Tree.interest_start.Goals as goal

pub loop-k-init : goal.loop-k-init
loop-k-init c = (omega arith, omega arith, λ ns. interest-starts c.requires.0 ns _ c.requires.1 _ _ _)

pub value_at-requires : goal.value_at-requires
value_at-requires c = formed-bounds c.requires.0 _ (omega arith)

pub payload_length-length-requires : goal.payload_length-length-requires
payload_length-length-requires c = part-long _ _ _ _ c.value_at.ensures (formed-bounds c.requires.0 _ (omega arith))

pub time_at-time-requires : goal.time_at-time-requires
time_at-time-requires c = formed-readable c.requires.0 _ (omega arith)

pub returns-then-breaks_one : goal.returns-then-breaks_one
returns-then-breaks_one c =
    λ ns.
    let l = c.loop-k in
    interest-stops c.requires.0 ns _ c.requires.1 l.k _ _ _ _ _ _ (l.invariant.2 ns) (omega arith) (omega arith) c.if-marks-k-eq1.true
    _ (time-read _ _ _ _ c.time_at-time.ensures) _ (length-read _ _ _ _ _ c.value_at.ensures c.payload_length-length.ensures) _ c.breaks_one.ensures c.if-breaks_one.true

pub loop-k-preserved-then-marks-k-eq1 : goal.loop-k-preserved-then-marks-k-eq1
loop-k-preserved-then-marks-k-eq1 c =
    let l = c.loop-k in (
      omega arith,
      omega arith,
      λ ns. interest-goes c.requires.0 ns _ c.requires.1 l.k _ _ _ _ _ _ (l.invariant.2 ns) (omega arith) (omega arith) c.if-marks-k-eq1.true
          _ (time-read _ _ _ _ c.time_at-time.ensures) _ (length-read _ _ _ _ _ c.value_at.ensures c.payload_length-length.ensures) _ c.breaks_one.ensures c.if-breaks_one.false _ c.add_size-size.ensures,
    )

pub loop-k-preserved : goal.loop-k-preserved
loop-k-preserved c =
    let l = c.loop-k in
    (omega arith, omega arith, λ ns. interest-skips c.requires.0 ns _ c.requires.1 l.k _ _ _ _ _ _ (l.invariant.2 ns) (omega arith) (omega arith) c.if-marks-k-eq1.false)

pub returns : goal.returns
returns c =
    λ ns.
    let l = c.loop-k in
    interest-ends c.requires.0 ns _ c.requires.1 l.k _ _ _ _ _ _ (l.invariant.2 ns) (omega arith)
