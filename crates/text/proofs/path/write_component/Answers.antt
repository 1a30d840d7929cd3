-- `write_component` meets its contract. Assumes nothing.
use native.Mathlib.Omega.{arith}
use Prim.Native.Nat.{ℕ}
use mathlib.Core.Path.{◌≡◌, sym, ap}
use mathlib.Core.List.{List, []}
use lib.ListN.{length}
use Rattle.laws.specs.Lists.{put}
use Rattle.text.specs.Hex.{hex_of}
use Rattle.text.proofs.HexLaws.{hex-even, bytes_one}
use Rattle.text.proofs.FormLaws.{component-digits}
use Rattle.text.proofs.path.write_component.Goals as goal

pub returns-then-f-eq1 : goal.returns-then-f-eq1
unfolding put
returns-then-f-eq1 c =
    let e : hex_of c.args.f.now ≡ [] = bytes_one c.args.f.now c.if-f-eq1.true in
    (sym (ap length e), sym (ap (λ (x : List ℕ). put x c.args.out.now) e))

pub write_bytes_of-requires : goal.write_bytes_of-requires
write_bytes_of-requires c = let h = component-digits _ c.requires.0 c.if-f-eq1.false in (h, omega (arith, hex-even _ h, c.requires.1))
