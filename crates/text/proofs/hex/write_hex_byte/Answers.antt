-- `write_hex_byte` meets its contract: two stores. Assumes nothing.
use Prim.Native.Nat.{ℕ}
use mathlib.Core.Path.{refl, ap₂, ◌∙◌}
use mathlib.Core.List.{[], ◌∷◌}
use Rattle.laws.specs.Lists.{put}
use Rattle.laws.proofs.Lists.{put-sets}
use Rattle.text.proofs.hex.write_hex_byte.Goals as goal

pub returns : goal.returns
returns c = (
  refl,
  put-sets (c.digit.result ∷ c.digit-2.result ∷ []) c.args.out.now c.requires
      ∙ ap₂ (λ (a b : ℕ). put (a ∷ b ∷ []) c.args.out.now) c.digit.ensures c.digit-2.ensures,
)
