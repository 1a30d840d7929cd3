-- Paths written, as they are read.
use Rattle.std.specs.Prelude.{ℕ, ◌+◌, ◌*◌, List, [], ◌∷◌, ◌++◌}
use Rattle.data_model.specs.Path.{field, Component, Components}
use Rattle.text.specs.Hex.{hex_text}
use Rattle.text.specs.PathField.{dash, dot, slash}

unfoldable pub component_text : Component → List ℕ
component_text [] = dot ∷ []
component_text (b ∷ c) = hex_text (b ∷ c)

-- Components behind the first, each behind its `/`.
unfoldable pub behind_text : Components → List ℕ
behind_text [] = []
behind_text (c ∷ cs) = slash ∷ (component_text c ++ behind_text cs)

unfoldable pub path_text : Components → List ℕ
path_text [] = dash ∷ []
path_text (c ∷ cs) = component_text c ++ behind_text cs

-- The most bytes of a path's text: two a byte, and two a component for its `/` and its `.`.
abbrev pub path_text_most : ℕ
path_text_most = 2 * field.mpl + 2 * field.mcc
