-- What a selection asks by bytes is what an area and a range ask, and what the tests of a record answer, a law for each answer. Assumes nothing.
use Prim.Native.Nat.{ℕ}
use mathlib.Core.Path.{◌≡◌, refl, sym, ap, ap₂, ◌∙◌}
use mathlib.Core.List.{List, [], append-nil}
use mathlib.Core.Bool.{Bool, true, false, not, ◌&&◌}
use Rattle.laws.specs.Order.{is_less, by_elements}
use Rattle.laws.specs.Prefix.{same_number, prefix_of}
use native.Mathlib.Omega.{arith}
use Rattle.laws.proofs.Truth.{refute, and-true, not-true, not-false, clash}
use Rattle.laws.proofs.Order.{is-less, then-end}
use Rattle.data_model.specs.Path.{field, Components, components, is_prefix, legal, by_bytes, by_components}
use Rattle.data_model.specs.Range.{before_end, includes, times_include, subspaces_include, end_says, paths_end, paths_include, legal_end, legal_range}
use Rattle.data_model.specs.Range3d.{range_includes}
use Rattle.data_model.specs.Area.{area_subspace, area_includes}
use Rattle.data_model.specs.Subspace.{first_subspace, by_subspace}
use Rattle.data_model.specs.declared.parameters.Subspace.{Subspace}
use Rattle.data_model.specs.declared.area.Area.{Area}
use Rattle.data_model.specs.declared.range.RangeEnd.{RangeEnd}
use Rattle.data_model.specs.declared.range.RangeEnd.TheVariants.{Closed, Open}
use Rattle.data_model.specs.declared.path.Path.{Path}
use Rattle.data_model.specs.declared.range.Range.{Range}
use Rattle.data_model.specs.declared.range_3d.Range3d.{Range3d}
use Rattle.keys.specs.Encode.{path_key}
use Rattle.key_laws.proofs.NextSubspace.{less-cases}
use Rattle.key_laws.proofs.Ordered.{path-ordered}
use Rattle.tree.specs.Value.{read_value}
use Rattle.tree.specs.Stored.{value_part, Stored, stored, stored_from}
use Rattle.tree.specs.Address.{open_path, triple_at}
use Rattle.tree.specs.Matching.{in_area, in_range, let_through, listed_in_area, listed_in_range}
use Rattle.tree.specs.Selection.{area_selection, range_selection, paths_up_to, selects_path, selects, selects_listed}
use Rattle.tree.specs.declared.selection.Selection.{Selection}
use Rattle.tree.specs.declared.stored.KeyOrder.{KeyOrder}
use Rattle.data_model.specs.declared.query_ignore_params.QueryIgnoreParams.{QueryIgnoreParams}
use Rattle.tree.proofs.AddressLaws.{open-begins}

-- The numbers of a record, each read by itself.
module _ (o : KeyOrder) (ns r : List ℕ) (n : ℕ) where
  pub time-read : n ≡ (triple_at o r).timestamp → n ≡ (stored o field ns r).entry.rank.timestamp
  unfolding stored stored_from
  time-read e = e

  module _ (v : List ℕ) (is : v ≡ value_part r) where
    pub length-read : n ≡ (read_value v).payload_length → n ≡ (stored o field ns r).entry.rank.payload_length
    unfolding stored stored_from
    length-read e = e ∙ ap (λ (v : List ℕ). (read_value v).payload_length) is

    pub available-read : n ≡ (read_value v).available → n ≡ (stored o field ns r).available
    unfolding stored stored_from
    available-read e = e ∙ ap (λ (v : List ℕ). (read_value v).available) is

-- Every subspace is at or above the first.
everywhere : (s : Subspace) → subspaces_include (record { start = first_subspace; end = Open }) s ≡ true
unfolding subspaces_include includes before_end end_says
everywhere s = rw (refute (is_less (by_subspace s first_subspace)) λ e.
    less-cases s first_subspace (is-less (by_subspace s first_subspace) e) (omega arith) (omega arith))

swap : (a b c : Bool) → (a && (b && c)) ≡ (b && (a && c))
swap true true c = refl
swap true false c = refl
swap false true c = refl
swap false false c = refl

all-and : (b : Bool) → b ≡ (b && true)
all-and true = refl
all-and false = refl

-- An area by the bytes of its path is the area.
pub area-selected : (a : Area) (g : QueryIgnoreParams) (s : Selection) → s ≡ area_selection a g → (low high : List ℕ) → low ≡ open_path (components a.path) → selects_listed s low high ≡ listed_in_area a g
unfolding selects_listed selects selects_path listed_in_area in_area area_includes
area-selected a g s is low high e = ap (λ (y : Selection). selects_listed y low high) is ∙ (λ i x. one x i && let_through g x)
  where
    one : (x : Stored)
        → (prefix_of same_number low (path_key x.entry.path)
        && (area_subspace a.subspace x.entry.subspace && (subspaces_include (record { start = first_subspace; end = Open }) x.entry.subspace && times_include a.times x.entry.rank.timestamp)))
        ≡ (area_subspace a.subspace x.entry.subspace && (is_prefix (components a.path) x.entry.path && times_include a.times x.entry.rank.timestamp))
    one x =
        let p = prefix_of same_number low (path_key x.entry.path) in
        let o = area_subspace a.subspace x.entry.subspace in
        let t = times_include a.times x.entry.rank.timestamp in
        ap (λ (b : Bool). p && (o && (b && t))) (everywhere x.entry.subspace)
        ∙ swap p o t
        ∙ ap (λ (b : Bool). o && (b && t)) (ap (λ (f : List ℕ). prefix_of same_number f (path_key x.entry.path)) e ∙ open-begins (components a.path) x.entry.path)

-- A range by the bytes of its paths is the range: they compare as the paths do.
path_order : (p q : Components) → by_bytes (path_key p) (path_key q) ≡ by_components p q
unfolding by_elements
path_order p q = ap₂ by_bytes (sym (append-nil (path_key p))) (sym (append-nil (path_key q))) ∙ path-ordered p q [] [] ∙ then-end (by_components p q)

paths-bytes : (r : Range Path) (start end : List ℕ) → start ≡ path_key (components r.start) → ((q : Path) → r.end ≡ Closed q → end ≡ path_key (components q))
    → (p : Components) → selects_path (paths_up_to r.end) start end (path_key p) ≡ paths_include r p
unfolding selects_path paths_include includes before_end paths_end
paths-bytes r start end es ee p = by_end r.end ee ∙ ap (λ (x : Bool). not x && before_end by_components p (paths_end r.end)) (ap is_less (ap (by_bytes (path_key p)) es ∙ path_order p (components r.start)))
  where
    by_end : (z : RangeEnd Path) → ((q : Path) → z ≡ Closed q → end ≡ path_key (components q))
        → selects_path (paths_up_to z) start end (path_key p) ≡ (not (is_less (by_bytes (path_key p) start)) && before_end by_components p (paths_end z))
    by_end (Closed q) h = ap (λ (b : Bool). not (is_less (by_bytes (path_key p) start)) && b) (ap is_less (ap (by_bytes (path_key p)) (h q refl) ∙ path_order p (components q)))
    by_end Open h = all-and (not (is_less (by_bytes (path_key p) start)))

pub range-selected : (r : Range3d) (g : QueryIgnoreParams) (s : Selection) → s ≡ range_selection r g → (low high : List ℕ) → low ≡ path_key (components r.paths.start) → ((q : Path) → r.paths.end ≡ Closed q → high ≡ path_key (components q))
    → selects_listed s low high ≡ listed_in_range r g
unfolding selects_listed selects area_subspace listed_in_range in_range range_includes
range-selected r g s is low high es ee = ap (λ (y : Selection). selects_listed y low high) is ∙ (λ i x.
    (ap (λ (b : Bool). b && (subspaces_include r.subspaces x.entry.subspace && times_include r.times x.entry.rank.timestamp)) (paths-bytes r.paths low high es ee x.entry.path)
    ∙ swap (paths_include r.paths x.entry.path) (subspaces_include r.subspaces x.entry.subspace) (times_include r.times x.entry.rank.timestamp)) i
    && let_through g x)

-- The paths of a legal range that are looked at.
pub end-legal : (r : Range Path) → legal_range field r ≡ true → (q : Path) → r.end ≡ Closed q → legal field q ≡ true
unfolding legal_range legal_end
end-legal r e q h = sym (ap (legal_end field) h) ∙ (and-true (legal field r.start) (legal_end field r.end) e).1

-- The end of a range: by the path of the end that is closed, and nothing where it is open.
closed_or : Path → RangeEnd Path → Path
closed_or d (Closed p) = p
closed_or d Open = d

is_open : RangeEnd Path → Bool
is_open (Closed p) = false
is_open Open = true

module _ (end : RangeEnd Path) (high : List ℕ) where
  pub end-closed : (p : Path) → end ≡ Closed p → high ≡ path_key (components p) → (q : Path) → end ≡ Closed q → high ≡ path_key (components q)
  unfolding closed_or
  end-closed p e h q f = h ∙ ap (λ (x : Path). path_key (components x)) (ap (closed_or p) (sym e ∙ f))

  pub end-open : end ≡ Open → (q : Path) → end ≡ Closed q → high ≡ path_key (components q)
  unfolding is_open
  end-open e q f = clash (ap is_open e) (ap is_open f)

pub start-legal : (r : Range Path) → legal_range field r ≡ true → legal field r.start ≡ true
unfolding legal_range
start-legal r e = (and-true (legal field r.start) (legal_end field r.end) e).0

-- The test of a record: at another path, of another subspace, outside the subspaces, by the times.
module _ (z : Selection) (low high : List ℕ) (o : KeyOrder) (r : List ℕ) (p : List ℕ) (is : p ≡ path_key (triple_at o r).path)
    (t : Bool) (in-paths : t ≡ selects_path z.paths low high p) where
  on-path : selects_path z.paths low high (path_key (triple_at o r).path) ≡ t
  on-path = sym (in-paths ∙ ap (selects_path z.paths low high) is)

  pub record-elsewhere : not t ≡ true → (ns : List ℕ) → false ≡ selects z low high (stored o field ns r)
  unfolding selects stored stored_from
  record-elsewhere n ns = rw (on-path ∙ not-true t n)

  module _ (y : not t ≡ false) (s : Subspace) (of : s ≡ (triple_at o r).subspace) (q : Bool) (mine : q ≡ (area_subspace z.own s && subspaces_include z.subspaces s)) where
    the-rest : (ns : List ℕ) → selects z low high (stored o field ns r) ≡ (q && times_include z.times (triple_at o r).timestamp)
    unfolding selects stored stored_from
    the-rest ns =
        let T = times_include z.times (triple_at o r).timestamp in
        let a = triple_at o r in
        ap (λ (b : Bool). b && (area_subspace z.own a.subspace && (subspaces_include z.subspaces a.subspace && T))) (on-path ∙ not-false t y)
        ∙ regroup (area_subspace z.own a.subspace) (subspaces_include z.subspaces a.subspace) T
        ∙ ap (λ (b : Bool). b && T) (ap (λ (x : Subspace). area_subspace z.own x && subspaces_include z.subspaces x) (sym of) ∙ sym mine)
      where
        regroup : (a b c : Bool) → (a && (b && c)) ≡ ((a && b) && c)
        regroup true b c = refl
        regroup false b c = refl

    pub record-other : q ≡ false → (ns : List ℕ) → q ≡ selects z low high (stored o field ns r)
    record-other n ns = n ∙ sym (the-rest ns ∙ ap (λ (b : Bool). b && times_include z.times (triple_at o r).timestamp) n)

    pub record-times : q ≡ true → (time : ℕ) → time ≡ (triple_at o r).timestamp → (v : Bool) → v ≡ times_include z.times time
        → (ns : List ℕ) → v ≡ selects z low high (stored o field ns r)
    record-times x time at v e ns =
        e ∙ ap (times_include z.times) at ∙ sym (the-rest ns ∙ ap (λ (b : Bool). b && times_include z.times (triple_at o r).timestamp) x)
