-- No call looks behind a path's total and count, at the path of an open end or at an absent protected area. Each answer depends on whether the paths are legal,
-- and on their components where they are. Assumes nothing.
use Prim.Native.Nat.{ℕ}
use mathlib.Core.Path.{◌≡◌, refl, ap, ap₂, ◌∙◌}
use mathlib.Core.List.{List, []}
use mathlib.Core.Bool.{Bool, true, false, cond, ◌&&◌}
use Rattle.laws.specs.Order.{Order}
use Rattle.laws.proofs.Truth.{and-true}
use Rattle.data_model.specs.Path.{Figures, Components, components, legal, path_of, same_path, by_components, is_prefix}
use Rattle.data_model.specs.Above.{above, above_found, above_answer}
use Rattle.data_model.specs.Entry.{Entry, entry_of, by_rank, prunes}
use Rattle.data_model.specs.Range.{paths_include, legal_range}
use Rattle.data_model.specs.Range3d.{range_includes}
use Rattle.data_model.specs.Area.{area_includes, empty_range, area_range_answer}
use Rattle.data_model.specs.Refusal.{illegal_path, answered}
use Rattle.data_model.specs.declared.path.Path.{Path}
use Rattle.data_model.specs.declared.parameters.Subspace.{Subspace}
use Rattle.data_model.specs.declared.entry.Entry.{Entry as EntryValue}
use Rattle.data_model.specs.declared.area.Area.{Area}
use Rattle.data_model.specs.declared.range.Range.{Range}
use Rattle.data_model.specs.declared.range_3d.Range3d.{Range3d}
use Rattle.keys.specs.Encode.{triple, spt_key, tsp_key, roomy, encoded, encoded_in}
use Rattle.key_laws.specs.Agree.{PathsAgree, EntriesAgree, AreasAgree, PathRangesAgree, RangesAgree, SameFor, SameForBoth}
use Rattle.key_laws.proofs.Behind.{behind-legal, behind-components, guarded, behind-rank, behind-entry, behind-area, behind-area-range, behind-legal-range, behind-paths, behind-range}
use Rattle.tree.specs.Matching.{in_area, in_range}
use Rattle.query.specs.Listing.{is_found, part_of, offset_of}
use Rattle.call_laws.specs.Unseen.{Unseen}
use Rattle.call_laws.proofs.UnseenStore.{area-test, range-test, counted_same, found-same, area-listed-same, range-listed-same, interest-same, ingested-same, pairs-same, forgotten-same, area-forgotten-same, available-same}

answers : {A : Type 0} {b c : Bool} {x y : A} → b ≡ c → (b ≡ true → x ≡ y) → answered b x ≡ answered c y
answers {A} {b} {c} {x} {y} e same = guarded answered (λ x y. refl) b c x y e same

-- Of two paths: legal alike, and the same components where both are legal.
module _ (f : Figures) (p p' q q' : Path) (h : PathsAgree p p') (k : PathsAgree q q') where
  both : (legal f p && legal f q) ≡ (legal f p' && legal f q')
  both = ap₂ ◌&&◌ (behind-legal f p p' h) (behind-legal f q q' k)

  of-both : {A : Type 0} (g : Components → Components → A) → (legal f p && legal f q) ≡ true → g (components p) (components q) ≡ g (components p') (components q')
  of-both g l = let b = and-true (legal f p) (legal f q) l in ap₂ g (behind-components f p p' h b.0) (behind-components f q q' k b.1)

  both-answered : {A : Type 0} (g : Components → Components → A) → answered (legal f p && legal f q) (g (components p) (components q)) ≡ answered (legal f p' && legal f q') (g (components p') (components q'))
  both-answered g = answers both (of-both g)

-- Of two entries.
module _ (f : Figures) (a a' b b' : EntryValue) (h : EntriesAgree a a') (k : EntriesAgree b b') where
  entries-answered : (g : Entry → Entry → Bool) → answered (legal f a.path && legal f b.path) (g (entry_of a) (entry_of b)) ≡ answered (legal f a'.path && legal f b'.path) (g (entry_of a') (entry_of b'))
  entries-answered g = answers (both f a.path a'.path b.path b'.path h.path k.path)
      (λ l. let z = and-true (legal f a.path) (legal f b.path) l in ap₂ g (behind-entry a a' h f z.0) (behind-entry b b' k f z.1))

-- Of an area or a range, and a path.
module _ (f : Figures) (p q : Path) (k : PathsAgree p q) where
  in-paths : (a b : Range Path) → PathRangesAgree a b → answered (legal_range f a && legal f p) (paths_include a (components p)) ≡ answered (legal_range f b && legal f q) (paths_include b (components q))
  in-paths a b h = answers (ap₂ ◌&&◌ (behind-legal-range f a b h) (behind-legal f p q k))
      (λ l. let z = and-true (legal_range f a) (legal f p) l in behind-paths f a b h z.0 (components p) ∙ ap (paths_include b) (behind-components f p q k z.1))

  module _ (s : Subspace) (t : ℕ) where
    in-range : (a b : Range3d) → RangesAgree a b
        → answered (legal_range f a.paths && legal f p) (range_includes a s (components p) t) ≡ answered (legal_range f b.paths && legal f q) (range_includes b s (components q) t)
    in-range a b h = answers (ap₂ ◌&&◌ (behind-legal-range f a.paths b.paths h.paths) (behind-legal f p q k))
        (λ l. let z = and-true (legal_range f a.paths) (legal f p) l in
        behind-range f a b h z.0 s (components p) t ∙ ap (λ (x : Components). range_includes b s x t) (behind-components f p q k z.1))

    in-area : (a b : Area) → AreasAgree a b
        → answered (legal f a.path && legal f p) (area_includes a s (components p) t) ≡ answered (legal f b.path && legal f q) (area_includes b s (components q) t)
    in-area a b h = answers (both f a.path b.path p q h.path k)
        (λ l. let z = and-true (legal f a.path) (legal f p) l in
        behind-area f a b h z.0 s (components p) t ∙ ap (λ (x : Components). area_includes b s x t) (behind-components f p q k z.1))

-- Answers that are made of a path.
above_same : (f : Figures) → SameFor PathsAgree (above_answer f)
unfolding above_answer
above_same f p q h = answers (behind-legal f p q h) (λ l. ap (λ (cs : Components). above_found (above f cs)) (behind-components f p q h l))

area-range-same : (f : Figures) → SameFor AreasAgree (area_range_answer f)
unfolding area_range_answer
area-range-same f a b h = answers (behind-legal f a.path b.path h.path) (behind-area-range f a b h)

module _ (f : Figures) (out : List ℕ) (key : Components → List ℕ) where
  encoded-same : SameFor PathsAgree (λ p. encoded (roomy f out) (legal f p) (key (components p)))
  encoded-same p q h = guarded (λ (c : Bool) (cs : Components). encoded (roomy f out) c (key cs)) (λ x y. blind (roomy f out) x y) _ _ _ _ (behind-legal f p q h) (behind-components f p q h)
    where
      blind : (room : Bool) (x y : Components) → encoded room false (key x) ≡ encoded room false (key y)
      blind true x y = unfold encoded in refl
      blind false x y = unfold encoded in refl

  encoded-in-same : SameFor PathsAgree (λ p. encoded_in (roomy f out) (legal f p) (key (components p)) out)
  encoded-in-same p q h = guarded (λ (c : Bool) (cs : Components). encoded_in (roomy f out) c (key cs) out) (λ x y. blind (roomy f out) x y) _ _ _ _ (behind-legal f p q h) (behind-components f p q h)
    where
      blind : (room : Bool) (x y : Components) → encoded_in room false (key x) out ≡ encoded_in room false (key y) out
      blind true x y = unfold encoded_in in refl
      blind false x y = unfold encoded_in in refl

pub unseen : (f : Figures) → Unseen f
unseen f = record {
  is_legal = behind-legal f;
  both_legal = both f;
  cmp = λ p p' q q' h k. both-answered f p p' q q' h k by_components;
  eq = λ p p' q q' h k. both-answered f p p' q q' h k same_path;
  is_prefix_of = λ p p' q q' h k. both-answered f p p' q q' h k is_prefix;
  is_prefixed_by = λ p p' q q' h k. both-answered f q q' p p' k h is_prefix;
  greater_but_not_prefixed = above_same f;
  rank = behind-rank;
  compare = λ a a' b b' h k. ap₂ answered (both f a.path a'.path b.path b'.path h.path k.path) (ap₂ by_rank (behind-rank a a' h) (behind-rank b b' k));
  prunes_it = λ a a' b b' h k. entries-answered f a a' b b' h k prunes;
  is_pruned_by = λ a a' b b' h k. entries-answered f b b' a a' k h prunes;
  is_legal_range = behind-legal-range f;
  is_legal_with = λ a b p q h k. ap₂ ◌&&◌ (behind-legal-range f a b h) (behind-legal f p q k);
  includes = λ a b p q h k. in-paths f p q k a b h;
  range-includes = λ s t a b p q h k. in-range f p q k s t a b h;
  area-includes = λ s t a b p q h k. in-area f p q k s t a b h;
  from = area-range-same f;
  encode_spt = λ s t out. encoded-same f out (λ cs. spt_key (triple s cs t));
  encode_spt_in = λ s t out. encoded-in-same f out (λ cs. spt_key (triple s cs t));
  encode_tsp = λ s t out. encoded-same f out (λ cs. tsp_key (triple s cs t));
  encode_tsp_in = λ s t out. encoded-in-same f out (λ cs. tsp_key (triple s cs t));
  ingest_entry_numbers = ingested-same f;
  ingest_entry = pairs-same f;
  forget_entry = forgotten-same f;
  forget_area = area-forgotten-same f;
  record_available_length = available-same f;
  forget_payload = λ s subspace expects digest. available-same f s subspace expects digest 0;
  entry = found-same f;
  query_area_found = λ s ignore last a b h. ap is_found (area-listed-same f s ignore last a b h);
  query_area = λ s ignore last a b h. ap part_of (area-listed-same f s ignore last a b h);
  query_area_begins = λ s ignore last a b h. ap (offset_of f s) (area-listed-same f s ignore last a b h);
  query_range_found = λ s ignore last a b h. ap is_found (range-listed-same f s ignore last a b h);
  query_range = λ s ignore last a b h. ap part_of (range-listed-same f s ignore last a b h);
  query_range_begins = λ s ignore last a b h. ap (offset_of f s) (range-listed-same f s ignore last a b h);
  count_area = λ s a b h. counted_same f s (in_area a) (in_area b) (behind-legal f a.path b.path h.path) (area-test f a b h);
  summarise = λ s a b h. counted_same f s (in_range a) (in_range b) (behind-legal-range f a.paths b.paths h.paths) (range-test f a b h);
  area_of_interest_to_range = interest-same f;
}

-- So whatever reads a value first and tells the answer in other words, as the door does, answers values the same that are read as ones that agree.
module _ {A A' C D : Type 0} {Agree : A' → A' → Type 0} (read : A → A') where
  pub told : {answer : A' → C} (tell : C → D) → SameFor Agree answer → SameFor (λ a b. Agree (read a) (read b)) (λ a. tell (answer (read a)))
  told tell same a b h = ap tell (same (read a) (read b) h)

  pub told-both : {B B' : Type 0} {Agree' : B' → B' → Type 0} {answer : A' → B' → C} (read' : B → B') (tell : C → D) → SameForBoth Agree Agree' answer
      → SameForBoth (λ a b. Agree (read a) (read b)) (λ x y. Agree' (read' x) (read' y)) (λ a x. tell (answer (read a) (read' x)))
  told-both read' tell same a b x y h k = ap tell (same (read a) (read b) (read' x) (read' y) h k)
