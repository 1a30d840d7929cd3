-- The theorem on the path above, for the values that the calls are handed and hand out. Assumes nothing.
use Prim.Native.Nat.{◌≤◌}
use mathlib.Core.Path.{◌≡◌, subst}
use mathlib.Core.Bool.{true}
use mathlib.Core.Option.{some}
use lib.ListN.{length}
use Rattle.data_model.specs.Path.{Figures, Components, components, legal, path_of}
use Rattle.data_model.specs.Above.{above}
use Rattle.key_laws.specs.Least.{LeastAbove}
use Rattle.data_model.specs.declared.path.Path.{Path}
use Rattle.key_laws.specs.Bytes.{Bytes}
use Rattle.key_laws.proofs.Fits.{legal-fits, legal-of}
use Rattle.key_laws.proofs.AboveLaws.{above-least}

-- A path value as the language has it: at least the figures' bytes, each below 256.
module _ (f : Figures) (p : Path) (room : f.mpl ≤ length p.bytes) (bytes : Bytes p.bytes) (h : legal f p ≡ true) where
  -- The path that is handed out above a legal one is legal.
  pub above-legal : (q : Components) → above f (components p) ≡ some q → legal f (path_of q) ≡ true
  above-legal q e = legal-of f q found.holds.legal
    where
      found : LeastAbove f (components p) (some q)
      found = subst (LeastAbove f (components p)) e (above-least f (components p) (legal-fits f p room bytes h))
