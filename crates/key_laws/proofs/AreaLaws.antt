-- An area includes what its 3d range includes.
-- Assumes nothing.
use Prim.Native.Nat.{ℕ, ◌≤◌}
use mathlib.Core.Path.{◌≡◌, sym, ap₂, ◌∙◌}
use mathlib.Core.Option.{Option, some, none}
use mathlib.Core.Bool.{Bool, true, ◌&&◌}
use native.Mathlib.Omega.{arith}
use lib.ListN.{length}
use Rattle.laws.specs.Order.{is_less}
use Rattle.laws.proofs.Truth.{refute}
use Rattle.laws.proofs.Order.{is-less}
use Rattle.data_model.specs.Path.{Figures, Components, components, legal, is_path, by_components}
use Rattle.data_model.specs.Above.{above}
use Rattle.key_laws.specs.Least.{end_of}
use Rattle.data_model.specs.Subspace.{first_subspace, by_subspace}
use Rattle.data_model.specs.Range.{includes, before_end, end_says, paths_end, subspaces_include, paths_include, times_include}
use Rattle.data_model.specs.Range3d.{range_includes}
use Rattle.data_model.specs.Area.{area_subspace, area_includes, subspaces_of, paths_up_to, area_range}
use Rattle.data_model.specs.declared.path.Path.{Path}
use Rattle.data_model.specs.declared.parameters.Subspace.{Subspace}
use Rattle.data_model.specs.declared.area.AreaSubspace.{AreaSubspace}
use Rattle.data_model.specs.declared.area.AreaSubspace.TheVariants.{Any, Id}
use Rattle.data_model.specs.declared.area.Area.{Area}
use Rattle.key_laws.specs.Bytes.{Bytes}
use Rattle.key_laws.proofs.Fits.{components-of, legal-fits}
use Rattle.key_laws.proofs.AboveLaws.{above-splits}
use Rattle.key_laws.proofs.NextSubspace.{Words, less-cases, next-splits}

-- The halves of an area's subspace, if it has one, are 64-bit numbers.
abbrev pub AreaWords : AreaSubspace → Type 0
AreaWords Any = Unit {0}
AreaWords (Id a) = Words a

area-subspaces : (a : AreaSubspace) (s : Subspace) → AreaWords a → Words s → area_subspace a s ≡ subspaces_include (subspaces_of a) s
unfolding area_subspace subspaces_of subspaces_include
area-subspaces Any s v w = sym (unfold includes before_end end_says in rw (refute (is_less (by_subspace s first_subspace)) λ e.
    less-cases s first_subspace (is-less (by_subspace s first_subspace) e) (omega arith) (omega arith)))
area-subspaces (Id a) s v w = next-splits a s v w

-- A path range up to what was found.
paths-up-to : (cs : Components) (r : Option Components) (p : Components) → paths_include (paths_up_to cs r) p ≡ includes by_components cs (end_of r) p
unfolding paths_up_to paths_include paths_end
paths-up-to cs none p = rw (components-of cs)
paths-up-to cs (some q) p = rw (components-of cs, components-of q)

pub area-range : (f : Figures) (a : Area) (s : Subspace) (p : Components) (t : ℕ)
    → is_path f (components a.path) ≡ true → is_path f p ≡ true → AreaWords a.subspace → Words s
    → area_includes a s p t ≡ range_includes (area_range f a) s p t
unfolding area_includes range_includes area_range
area-range f a s p t h k v w =
    let cs = components a.path in
    ap₂ (λ (x y : Bool). x && (y && times_include a.times t))
    (area-subspaces a.subspace s v w)
    (above-splits f cs p k h ∙ sym (paths-up-to cs (above f cs) p))

-- The same for the values that the calls are handed.
pub area-range-values : (f : Figures) (a : Area) (s : Subspace) (p : Path) (t : ℕ)
    → f.mpl ≤ length a.path.bytes → f.mpl ≤ length p.bytes → Bytes a.path.bytes → Bytes p.bytes → AreaWords a.subspace → Words s
    → legal f a.path ≡ true → legal f p ≡ true
    → area_includes a s (components p) t ≡ range_includes (area_range f a) s (components p) t
area-range-values f a s p t m n b c v w h k = area-range f a s (components p) t (legal-fits f a.path m b h) (legal-fits f p n c k) v w
