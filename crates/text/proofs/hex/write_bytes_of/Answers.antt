-- `write_bytes_of` meets its contract. The invariant: the bytes written so far, with those of the digits left, are the bytes of all. Assumes nothing.
use native.Mathlib.Omega.{arith}
use Prim.Native.Nat.{ℕ, ◌+◌, ◌*◌}
use mathlib.Core.Path.{◌≡◌, sym, subst}
use mathlib.Core.List.{◌∷◌}
use lib.ListN.{drop, set}
use Rattle.text.specs.Hex.{hex_of}
use Rattle.laws.proofs.Lists.{Wrote, wrote_none, wrote-length, wrote-all}
use Rattle.text.proofs.Lists.{wrote-store}
use Rattle.text.proofs.HexLaws.{hex-even, hex-digit, bytes-at, bytes-done}
use Rattle.text.proofs.hex.write_bytes_of.Goals as goal

pub loop-i-init : goal.loop-i-init
loop-i-init c = wrote_none _ _

pub pair_value-requires : goal.pair_value-requires
pair_value-requires c =
    let l = c.loop-i in
    let s = c.args.s.now in
    (hex-digit s (2 * l.i) c.requires.0 (omega arith), hex-digit s (2 * l.i + 1) c.requires.0 (omega arith))

pub loop-i-preserved : goal.loop-i-preserved
loop-i-preserved c =
    let l = c.loop-i in
    let s = c.args.s.now in
    let v = c.pair_value in
    let next : 2 * l.i + 2 ≡ 2 * (l.i + 1) = omega arith in
    subst (λ (k : ℕ). Wrote (hex_of s) (hex_of (drop k s)) c.args.out.now (set l.out l.i v.result) (l.i + 1)) next
    (wrote-store _ (hex_of (drop (2 * l.i + 2) s)) _ l.out l.i v.result
    (subst (λ (x : ℕ). Wrote (hex_of s) (x ∷ hex_of (drop (2 * l.i + 2) s)) c.args.out.now l.out l.i) (sym v.ensures)
    (rw (bytes-at s (2 * l.i) (omega arith)) at l.invariant))
    (omega (arith, l.invariant.size)))

pub returns : goal.returns
returns c =
    let l = c.loop-i in
    let d = rw (bytes-done c.args.s.now (2 * l.i) (omega (arith, hex-even _ c.requires.0))) at l.invariant in
    (omega (arith, wrote-length _ _ _ _ d), wrote-all _ _ _ _ d)
