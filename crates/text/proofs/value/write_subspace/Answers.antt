-- `write_subspace` meets its contract. Assumes nothing.
use native.Mathlib.Omega.{arith}
use Prim.Native.Nat.{ℕ}
use mathlib.Core.Path.{◌≡◌, sym, ap, ◌∙◌}
use mathlib.Core.List.{List}
use lib.ListN.{length}
use Rattle.laws.specs.Lists.{put}
use Rattle.keys.specs.Encode.{subspace_key}
use Rattle.keys.proofs.Encoding.{subspace-length}
use Rattle.text.specs.Hex.{hex_text}
use Rattle.text.proofs.ValueLaws.{put_whole, short-low, subspace-short, subspace-long}
use Rattle.text.proofs.value.write_subspace.Goals as goal

pub overflow_cast-s : goal.overflow_cast-s
overflow_cast-s c = omega (arith, short-low c.args.s (sym c.is_short.ensures ∙ c.if-is_short.true))

pub returns-then-is_short : goal.returns-then-is_short
returns-then-is_short c =
    let e = subspace-short c.args.s (sym c.is_short.ensures ∙ c.if-is_short.true) in
    (c.write_hex_byte.ensures.0 ∙ ap length e, c.write_hex_byte.ensures.1 ∙ ap (λ (x : List ℕ). put x c.args.out.now) e)

pub returns : goal.returns
returns c =
    let s = c.args.s in
    let w = c.write_subspace in
    let e : hex_text w.new.out ≡ _ = ap hex_text (w.ensures.1 ∙ put_whole (subspace_key s) _ (omega (arith, subspace-length s))) ∙ subspace-long s (sym c.is_short.ensures ∙ c.if-is_short.false) in
    (c.write_hex.ensures.0 ∙ ap length e, c.write_hex.ensures.1 ∙ ap (λ (x : List ℕ). put x c.args.out.now) e)
