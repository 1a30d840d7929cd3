-- A 3d range that was told and is handed in again is the same range. Assumes nothing.
use mathlib.Core.Path.{◌≡◌, refl, ap, ◌∙◌}
use Prim.Native.Nat.{ℕ}
use mathlib.Core.List.{[]}
use Rattle.data_model.specs.Path.{path_of}
use Rattle.data_model.specs.Subspace.{first_subspace}
use Rattle.data_model.specs.declared.parameters.Subspace.{Subspace}
use Rattle.data_model.specs.declared.path.Path.{Path}
use Rattle.data_model.specs.declared.range.RangeEnd.{RangeEnd}
use Rattle.data_model.specs.declared.range.RangeEnd.TheVariants.{Closed, Open}
use Rattle.data_model.specs.declared.range_3d.Range3d.{Range3d}
use Rattle.plain.specs.Input.{end_of, range_of}
use Rattle.plain.specs.RangeAnswer.{plain_end, plain_range}

-- Whatever an open end is told as.
end-back : {A : Type 0} (none : A) (e : RangeEnd A) → end_of (plain_end e none).1 (plain_end e none).0 ≡ e
end-back none (Closed e) = refl
end-back none Open = refl

abbrev with_ends : Range3d → RangeEnd Subspace → RangeEnd Path → RangeEnd ℕ → Range3d
with_ends r s p t = record {
  subspaces = record { start = r.subspaces.start; end = s };
  paths = record { start = r.paths.start; end = p };
  times = record { start = r.times.start; end = t };
}

pub range_back : (r : Range3d) → range_of (plain_range r) ≡ r
range_back r =
    let s = r.subspaces.end in
    let p = r.paths.end in
    let t = r.times.end in
    let p' = end_of (plain_end p (path_of [])).1 (plain_end p (path_of [])).0 in
    let t' = end_of (plain_end t 0).1 (plain_end t 0).0 in
    ap (λ (x : RangeEnd Subspace). with_ends r x p' t') (end-back first_subspace s)
    ∙ ap (λ (x : RangeEnd Path). with_ends r s x t') (end-back (path_of []) p)
    ∙ ap (with_ends r s p) (end-back 0 t)
