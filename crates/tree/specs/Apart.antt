-- No subspace and path stands twice, and no entry prunes another: all pairs are compared.
use Rattle.std.specs.Prelude.{List, [], ◌∷◌, Bool, true, not, ◌&&◌}
use Rattle.laws.specs.Sorted.{all}
use Rattle.data_model.specs.Path.{same_path}
use Rattle.data_model.specs.Subspace.{same_subspace}
use Rattle.data_model.specs.Entry.{Entry, prunes}
use Rattle.tree.specs.Stored.{Stored}

unfoldable pub same_address : Entry → Entry → Bool
same_address a b = same_subspace a.subspace b.subspace && same_path a.path b.path

-- No two of them are of one subspace and path.
unfoldable pub no_address_twice : List Stored → Bool
no_address_twice [] = true
no_address_twice (a ∷ l) = all (λ (b : Stored). not (same_address a.entry b.entry)) l && no_address_twice l

-- None of them prunes one of them.
unfoldable pub none_prunes : List Stored → Bool
none_prunes l = all (λ (a : Stored). all (λ (b : Stored). not (prunes a.entry b.entry)) l) l

unfoldable pub apart : List Stored → Bool
apart l = no_address_twice l && none_prunes l
