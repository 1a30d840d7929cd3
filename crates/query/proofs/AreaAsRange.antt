-- A legal area's calls answer as those of its 3d range: the two include the same of what is stored. For values as the language has them: a
-- path has room for the field's figures, its bytes and the tree's are below 256, the halves of a subspace below 2^64. Assumes nothing.
use Prim.Native.Nat.{ℕ, ◌≤◌}
use mathlib.Core.Path.{◌≡◌, refl, sym, ap, ap₂, ◌∙◌}
use mathlib.Core.Option.{Option, some, none}
use mathlib.Core.List.Memᴰ.{head as here}
use mathlib.Core.List.Memᴰ.{tail as there}
use mathlib.Core.List.{List, [], ◌∷◌}
use mathlib.Core.Bool.{Bool, true, cond, ◌&&◌}
use lib.ListN.{length}
use Rattle.laws.specs.First.{lesser, least_that}
use Rattle.laws.specs.Sorted.{◌∈◌, keep}
use Rattle.layout.specs.Layout.{records}
use Rattle.data_model.specs.Path.{Figures, Components, field, legal, components, is_path, path_of}
use Rattle.data_model.specs.Above.{above}
use Rattle.data_model.specs.Range.{legal_range, legal_end}
use Rattle.data_model.specs.Refusal.{no_key}
use Rattle.data_model.specs.Area.{paths_up_to, area_range}
use Rattle.data_model.specs.declared.area.Area.{Area}
use Rattle.key_laws.specs.Bytes.{Bytes}
use Rattle.key_laws.proofs.Fits.{legal-fits, legal-of}
use Rattle.key_laws.proofs.OnValues.{above-legal}
use Rattle.key_laws.proofs.AreaLaws.{AreaWords, area-range}
use Rattle.tree.specs.Stored.{Stored, stored, triple_of, key_below, Lawful}
use Rattle.tree.specs.Matching.{in_area, in_range, let_through, listed_in_area, listed_in_range}
use Rattle.data_model.specs.declared.query_ignore_params.QueryIgnoreParams.{QueryIgnoreParams}
use Rattle.tree.specs.declared.stored.KeyOrder.{KeyOrder}
use Rattle.tree.specs.declared.stored.KeyOrder.TheVariants.{Spt}
use Rattle.tree.proofs.RecordLaws.{record-forth, contents-in, contents-view}
use Rattle.tree.proofs.WithinLaws.{formed-recorded}
use Rattle.store.specs.Store.{Store, tree_of, dir_of, held}
use Rattle.store.specs.Refusal.{unless, ◌or_else◌}
use Rattle.store.proofs.CheckLaws.{Passed}
use Rattle.query.specs.Reading.{read_refusal, area_refusal, range_refusal, is_remembered, list_refusal, area_list_refusal, range_list_refusal}
use Rattle.query.specs.Listing.{spt_records, key_above, qualifies, step_in, step, listed, area_listed, range_listed, part_of, area_part, range_part}
use Rattle.query.specs.Count.{counted, area_counted, summarised}
use Rattle.query.proofs.Tested.{read-tested}

-- Tests that answer the same of each element of a list.
least-alike : {A : Type 0} (below : A → A → Bool) (p q : A → Bool) (l : List A) → ((x : A) → x ∈ l → p x ≡ q x) → least_that below p l ≡ least_that below q l
unfolding least_that
least-alike below p q [] e = refl
least-alike below p q (x ∷ l) e = ap₂ (λ (b : Bool) r. cond b (lesser below x r) r) (e x (here refl)) (least-alike below p q l λ y m. e y (there m))

module _ {A : Type 0} (p q : A → Bool) where
  keep-alike : (l : List A) → ((x : A) → x ∈ l → p x ≡ q x) → keep p l ≡ keep q l
  unfolding keep
  keep-alike [] e = refl
  keep-alike (x ∷ l) e = ap₂ (λ (b : Bool) (r : List A). cond b (x ∷ r) r) (e x (here refl)) (keep-alike l λ y m. e y (there m))

-- What a tree holds is lawful.
held-lawful : (o : KeyOrder) (s : Store) → Passed s → Bytes (tree_of field o s) → (x : Stored) → x ∈ held field o s → Lawful field x
unfolding held
held-lawful o s p b x m =
    let k = contents-view o field s.state.namespace_id (records s.state.count (dir_of o s) (tree_of field o s)) m in
    let r = formed-recorded (p.formed o) b k.0 k.1 in
    rw k.2 (record-forth o field s.state.namespace_id k.0 r.0 r.1).lawful

up-to-legal : (f : Figures) (cs : Components) (r : Option Components) → is_path f cs ≡ true → ((q : Components) → r ≡ some q → legal f (path_of q) ≡ true) → legal_range f (paths_up_to cs r) ≡ true
unfolding legal_range paths_up_to legal_end
up-to-legal f cs none h l = ap₂ ◌&&◌ (legal-of f cs h) refl
up-to-legal f cs (some q) h l = ap₂ ◌&&◌ (legal-of f cs h) (l q refl)

module _ (s : Store) (area : Area) (long : field.mpl ≤ length area.path.bytes) (bytes : Bytes area.path.bytes) (words : AreaWords area.subspace)
    (z : area_refusal field s area ≡ 0) where
  legal_path : legal field area.path ≡ true
  legal_path = (read-tested s (legal field area.path) z).1

  fits : is_path field (components area.path) ≡ true
  fits = legal-fits field area.path long bytes legal_path

  range-legal : legal_range field (area_range field area).paths ≡ true
  unfolding area_range
  range-legal = up-to-legal field (components area.path) (above field (components area.path)) fits (above-legal field area.path long bytes legal_path)

  pub range-refusal : range_refusal field s (area_range field area) ≡ area_refusal field s area
  range-refusal = ap (read_refusal field s) (range-legal ∙ sym legal_path)

  -- The area's own definition and its range, of what a tree holds.
  pub same-included : (o : KeyOrder) → Bytes (tree_of field o s) → (x : Stored) → x ∈ held field o s → in_area area x ≡ in_range (area_range field area) x
  unfolding in_area in_range triple_of
  same-included o tree x m =
      let l = held-lawful o s (read-tested s (legal field area.path) z).0 tree x m in
      area-range field area x.entry.subspace x.entry.path x.entry.rank.timestamp fits l.path words (record { high = l.sized.high; low = l.sized.low })

  module _ (tree : Bytes (tree_of field Spt s)) where
    -- (c)
    same_step : (ignore : QueryIgnoreParams) (last : List ℕ) → step field s (listed_in_area area ignore) last ≡ step field s (listed_in_range (area_range field area) ignore) last
    unfolding step_in listed_in_area listed_in_range held
    same_step ignore last = least-alike key_below
        (qualifies field s.state.namespace_id (listed_in_area area ignore) last)
        (qualifies field s.state.namespace_id (listed_in_range (area_range field area) ignore) last)
        (spt_records field s)
        (λ r m.
        let x = stored Spt field s.state.namespace_id r in
        ap (λ (b : Bool). key_above last r && (b && let_through ignore x)) (same-included Spt tree x (contents-in Spt field s.state.namespace_id (spt_records field s) m)))

    list-refusal : (last : List ℕ) → range_list_refusal field s (area_range field area) last ≡ area_list_refusal field s area last
    unfolding list_refusal
    list-refusal last = ap (λ (n : ℕ). n or_else unless (is_remembered field last) no_key) range-refusal

    pub area-as-range : (ignore : QueryIgnoreParams) (last : List ℕ) → area_listed field s area ignore last ≡ range_listed field s (area_range field area) ignore last
    unfolding listed
    area-as-range ignore last = rw (list-refusal last, same_step ignore last)

    pub area-part-as-range : (ignore : QueryIgnoreParams) (last : List ℕ) → area_part field s area ignore last ≡ range_part field s (area_range field area) ignore last
    area-part-as-range ignore last = ap part_of (area-as-range ignore last)

    pub area-count-as-range : area_counted field s area ≡ summarised field s (area_range field area)
    unfolding counted
    area-count-as-range = rw (range-refusal, keep-alike (in_area area) (in_range (area_range field area)) (held field Spt s) (same-included Spt tree))
