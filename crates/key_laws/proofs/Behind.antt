-- What stands behind a path value's count and its total says nothing: values that agree up to there are legal alike and, if legal, have the same components.
-- So have the values that hold paths. Assumes nothing.
use Prim.Native.Nat.{ℕ, zero, suc, ◌+◌, ◌-◌, ◌≤◌}
use mathlib.Core.Path.{◌≡◌, refl, sym, ap, ap₂, ◌∙◌}
use mathlib.Core.List.{List, [], ◌∷◌, ◌++◌}
use mathlib.Core.Bool.{Bool, true, false, ◌&&◌}
use native.Mathlib.Omega.{arith}
use lib.Dec.{leb}
use lib.ListN.{length, take, drop, replicate}
use lib.Seq.{take-take, take_at, length-take-le}
use borrow.Author.Tests.{leb-true}
use Rattle.laws.proofs.Truth.{and-true}
use Rattle.data_model.specs.Path.{Figures, field, capacity, Components, cut, components, joined, ends_from, by_components, legal_ends, legal, last_end, value_of, path_of}
use Rattle.data_model.specs.Entry.{entry_of, rank_of}
use Rattle.data_model.specs.Range.{End, closed, paths_end, paths_include, legal_end, legal_range, includes}
use Rattle.data_model.specs.Range3d.{range_includes}
use Rattle.data_model.specs.Area.{area_includes, area_range}
use Rattle.data_model.specs.declared.path.Path.{Path}
use Rattle.data_model.specs.declared.parameters.Subspace.{Subspace}
use Rattle.data_model.specs.declared.entry.Entry.{Entry as EntryValue}
use Rattle.data_model.specs.declared.range.Range.{Range}
use Rattle.data_model.specs.declared.range.RangeEnd.{RangeEnd}
use Rattle.data_model.specs.declared.range.RangeEnd.TheVariants.{Closed, Open}
use Rattle.data_model.specs.declared.range_3d.Range3d.{Range3d}
use Rattle.data_model.specs.declared.area.Area.{Area}
use Rattle.data_model.proofs.Values.{legal-count, legal-these, ends-length, components-length, last_within}
use Rattle.data_model.proofs.Raise.{cut-joins, cut-ends}
use Rattle.key_laws.specs.WrittenKeys.{PathIsValue}
use Rattle.key_laws.specs.Agree.{total, PathsAgree, EntriesAgree, AreasAgree, EndsAgree, PathRangesAgree, RangesAgree}

take-drop-take : (m i n : ℕ) (l : List ℕ) → i + m ≤ n → take m (drop i (take n l)) ≡ take m (drop i l)
take-drop-take m zero n l h = take-take m n l (omega arith)
take-drop-take m (suc i) zero l h = absurd (omega arith)
take-drop-take m (suc i) (suc n) [] h = refl
take-drop-take m (suc i) (suc n) (x ∷ l) h = take-drop-take m i n l (omega arith)

module _ (mcl mpl : ℕ) where
  -- Legal ends cut no byte from the total on.
  cut-take : (bytes : List ℕ) (n from : ℕ) (es : List ℕ) → legal_ends mcl mpl from es ≡ true → last_end from es ≤ n → cut (take n bytes) from es ≡ cut bytes from es
  unfolding legal_ends last_end cut
  cut-take bytes n from [] h l = refl
  cut-take bytes n from (e ∷ es) h l =
      let a = and-true (leb from e) (leb (e - from) mcl && legal_ends mcl mpl e es) h in
      let b = and-true (leb (e - from) mcl) (legal_ends mcl mpl e es) a.1 in
      let up : from ≤ e = leb-true from e a.0 in
      let low : e ≤ last_end e es = (last_within mcl mpl e es b.1).0 in
      ap₂ ◌∷◌ (take-drop-take (e - from) from n bytes (omega arith)) (cut-take bytes n e es b.1 l)

module _ (f : Figures) (p q : Path) (h : PathsAgree p q) where
  pub behind-legal : legal f p ≡ legal f q
  unfolding legal
  behind-legal = ap₂ (λ (n : ℕ) (es : List ℕ). leb n f.mcc && legal_ends f.mcl f.mpl 0 es) h.count h.ends

  pub behind-components : legal f p ≡ true → components p ≡ components q
  unfolding components
  behind-components l =
      let es = take p.count p.ends in
      let k = legal-these f p l in
      let t : total p ≡ total q = ap (last_end 0) h.ends in
      sym (cut-take f.mcl f.mpl p.bytes (total p) 0 es k (omega arith))
      ∙ ap (λ (x : List ℕ). cut x 0 es) h.bytes
      ∙ cut-take f.mcl f.mpl q.bytes (total q) 0 es k (omega arith)
      ∙ ap (cut q.bytes 0) h.ends

-- An answer of a test and of what is looked at only where the test holds.
module _ {A B : Type 0} (answer : Bool → A → B) (blind : (x y : A) → answer false x ≡ answer false y) where
  pub guarded : (b c : Bool) (x y : A) → b ≡ c → (b ≡ true → x ≡ y) → answer b x ≡ answer c y
  guarded b c x y e same = go b same ∙ ap (λ (d : Bool). answer d y) e
    where
      go : (d : Bool) → (d ≡ true → x ≡ y) → answer d x ≡ answer d y
      go true s = ap (answer true) (s refl)
      go false s = blind x y

module _ (a b : EntryValue) (h : EntriesAgree a b) where
  pub behind-rank : rank_of a ≡ rank_of b
  unfolding rank_of
  behind-rank = λ i. record { timestamp = h.timestamp i; payload_digest = h.digest i; payload_length = h.payload i }

  pub behind-entry : (f : Figures) → legal f a.path ≡ true → entry_of a ≡ entry_of b
  unfolding entry_of
  behind-entry f l =
      let p = behind-components f a.path b.path h.path l in
      λ i. record { namespace = h.namespace i; subspace = h.subspace i; path = p i; rank = behind-rank i }

module _ (f : Figures) (a b : Area) (h : AreasAgree a b) (l : legal f a.path ≡ true) where
  behind-area-path : components a.path ≡ components b.path
  behind-area-path = behind-components f a.path b.path h.path l

  pub behind-area : (s : Subspace) (p : Components) (t : ℕ) → area_includes a s p t ≡ area_includes b s p t
  unfolding area_includes
  behind-area s p t = rw (h.subspace, behind-area-path, h.times)

  pub behind-area-range : area_range f a ≡ area_range f b
  unfolding area_range
  behind-area-range = rw (h.subspace, behind-area-path, h.times)

module _ (f : Figures) (a b : Range Path) (h : PathRangesAgree a b) where
  pub behind-legal-range : legal_range f a ≡ legal_range f b
  unfolding legal_range legal_end
  behind-legal-range = ap₂ ◌&&◌ (behind-legal f a.start b.start h.start) (ends a.end b.end h.end)
    where
      ends : (x y : RangeEnd Path) → EndsAgree x y → legal_end f x ≡ legal_end f y
      ends (Closed p) (Closed q) e = behind-legal f p q e
      ends (Closed p) Open e = absurd e
      ends Open (Closed q) e = absurd e
      ends Open Open e = refl

  pub behind-paths : legal_range f a ≡ true → (p : Components) → paths_include a p ≡ paths_include b p
  unfolding paths_include paths_end legal_range legal_end
  behind-paths l p =
      let k = and-true (legal f a.start) (legal_end f a.end) l in
      let s = behind-components f a.start b.start h.start k.0 in
      ap₂ (λ (x : Components) (y : End Components). includes by_components x y p) s (ends a.end b.end h.end k.1)
    where
      ends : (x y : RangeEnd Path) → EndsAgree x y → legal_end f x ≡ true → paths_end x ≡ paths_end y
      ends (Closed p) (Closed q) e l = ap closed (behind-components f p q e l)
      ends (Closed p) Open e l = absurd e
      ends Open (Closed q) e l = absurd e
      ends Open Open e l = refl

pub behind-range : (f : Figures) (a b : Range3d) → RangesAgree a b → legal_range f a.paths ≡ true → (s : Subspace) (p : Components) (t : ℕ) → range_includes a s p t ≡ range_includes b s p t
unfolding range_includes
behind-range f a b h l s p t = rw (h.subspaces, behind-paths f a.paths b.paths h.paths l p, h.times)

-- A legal path agrees with the one that is handed out for it, which has zeros behind its total and count.
pub cleaned-agrees : (p : Path) → PathIsValue p → legal field p ≡ true → PathsAgree p (path_of (components p))
unfolding components path_of value_of
cleaned-agrees p v l =
    let es = take p.count p.ends in
    let cs = cut p.bytes 0 es in
    let t : legal_ends field.mcl (length p.bytes) 0 es ≡ true = rw v.room (legal-these field p l) in
    let n : length cs ≡ p.count = components-length p (omega (arith, v.ends, legal-count field p l)) in
    let z : List ℕ = replicate (capacity.mcc - length (ends_from 0 cs)) 0 in
    let y : List ℕ = replicate (capacity.mpl - length (joined cs)) 0 in
    let d : ends_from 0 cs ≡ es = cut-ends p.bytes field.mcl 0 es t in
    let j : joined cs ≡ take (total p) p.bytes = cut-joins p.bytes field.mcl 0 es t in
    let ends : es ≡ take (length cs) (ends_from 0 cs ++ z) = sym (take_at (ends_from 0 cs) z (length cs) (ends-length 0 cs) ∙ d) in
    let m : length (joined cs) ≡ total p = ap length j ∙ length-take-le (total p) p.bytes (omega (arith, v.room, (last_within field.mcl field.mpl 0 es (legal-these field p l)).1)) in
    let k : total p ≡ last_end 0 (take (length cs) (ends_from 0 cs ++ z)) = ap (last_end 0) ends in
    record {
      count = sym n;
      ends = ends;
      bytes = sym j ∙ sym (take_at (joined cs) y (last_end 0 (take (length cs) (ends_from 0 cs ++ z))) (m ∙ k));
    }
