-- What a tree says of records that were taken out or picked, by what it said before. Assumes nothing.
use mathlib.Core.Path.{◌≡◌, refl, sym, ap, ◌∙◌}
use mathlib.Core.List.{List, [], ◌∷◌, map}
use mathlib.Core.Bool.{Bool, not}
use Prim.Native.Nat.{ℕ}
use Rattle.laws.specs.Lists.{put}
use Rattle.laws.specs.Sorted.{keep}
use Rattle.layout.specs.Marks.{marks_of, kept, selected}
use Rattle.layout.proofs.MarkLaws.{length-marks, kept-marks, kept_put, marks-map, kept_map, selected-map}
use Rattle.data_model.specs.Path.{Figures}
use Rattle.tree.specs.Stored.{Stored, stored, contents}
use Rattle.tree.specs.declared.stored.KeyOrder.{KeyOrder}

module _ (o : KeyOrder) (f : Figures) (ns : List ℕ) where
  pub contents-map : (recs : List (List ℕ)) → contents o f ns recs ≡ map (stored o f ns) recs
  contents-map [] = refl
  contents-map (r ∷ rs) = ap (stored o f ns r ∷◌) (contents-map rs)

  pub contents-marks : (p : Stored → Bool) (recs : List (List ℕ)) → marks_of p (contents o f ns recs) ≡ marks_of (λ (r : List ℕ). p (stored o f ns r)) recs
  contents-marks p recs = ap (marks_of p) (contents-map recs) ∙ marks-map (stored o f ns) p recs

  pub contents-kept : (ms : List ℕ) (recs : List (List ℕ)) → contents o f ns (kept ms recs) ≡ kept ms (contents o f ns recs)
  contents-kept ms recs = contents-map (kept ms recs) ∙ sym (kept_map (stored o f ns) ms recs) ∙ ap (kept ms) (sym (contents-map recs))

  pub contents-selected : (ms : List ℕ) (recs : List (List ℕ)) → contents o f ns (selected ms recs) ≡ selected ms (contents o f ns recs)
  contents-selected ms recs = contents-map (selected ms recs) ∙ sym (selected-map (stored o f ns) ms recs) ∙ ap (selected ms) (sym (contents-map recs))

  -- With the marks of a test, in a buffer that may be longer.
  module _ (p : Stored → Bool) (recs : List (List ℕ)) (marks old : List ℕ) (e : marks ≡ put (marks_of p (contents o f ns recs)) old) where
    pub left-contents : contents o f ns (kept marks recs) ≡ keep (λ (s : Stored). not (p s)) (contents o f ns recs)
    left-contents =
        contents-kept marks recs
        ∙ ap (λ (ms : List ℕ). kept ms (contents o f ns recs)) e
        ∙ kept_put (marks_of p (contents o f ns recs)) old (contents o f ns recs) (length-marks p (contents o f ns recs))
        ∙ kept-marks p (contents o f ns recs)
