-- What the 3d range of an area of interest includes: the matches from the start of its times on. Assumes nothing.
use Prim.Native.Nat.{ℕ, ◌+◌, ◌≤◌}
use mathlib.Core.Path.{◌≡◌, refl, sym, ap, subst, ◌∙◌}
use mathlib.Core.Logic.{⊎_elim}
use mathlib.Core.List.Memᴰ.{append_cases as in_either}
use mathlib.Core.List.Memᴰ.{cases_cons as uncons}
use mathlib.Core.List.Memᴰ.{eq_of_singleton as only}
use mathlib.Core.List.Memᴰ.{head as here}
use mathlib.Core.List.Memᴰ.{tail as there}
use mathlib.Core.List.{List, [], ◌∷◌, reverse, reverse-append}
use mathlib.Core.Bool.{Bool, true, false, not, ◌&&◌, ◌||◌}
use native.Mathlib.Omega.{arith}
use lib.ListN.{length}
use lib.Dec.{leb}
use borrow.Author.Tests.{leb-true, leb-false, lt-ltb, le-ltb, ltb-false, le-leb}
use Rattle.laws.specs.Order.{by_number, is_less, below}
use Rattle.laws.specs.Sorted.{◌∈◌, keep, Ascends}
use Rattle.laws.proofs.Truth.{split, and-true, not-true}
use Rattle.laws.proofs.Sorted.{keep-view, keep-ascends}
use Rattle.data_model.specs.Path.{field, components, is_prefix}
use Rattle.data_model.specs.Range.{times_include, subspaces_include, paths_include, includes, before_end, end_says}
use Rattle.data_model.specs.Range3d.{range_includes}
use Rattle.data_model.specs.Area.{area_subspace, area_includes, area_range}
use Rattle.data_model.specs.declared.range.RangeEnd.{RangeEnd}
use Rattle.data_model.specs.declared.area.Area.{Area}
use Rattle.data_model.specs.declared.area_of_interest.AreaOfInterest.{AreaOfInterest}
use Rattle.tree.specs.Stored.{Stored, triple_of}
use Rattle.tree.specs.Matching.{in_area, in_range}
use Rattle.tree.specs.Interest.{breaks, add_size, interest_from}
use Rattle.tree.specs.declared.stored.KeyOrder.{KeyOrder}
use Rattle.data_model.proofs.RangeLaws.{number-below}
use Rattle.key_laws.specs.Bytes.{Bytes}
use Rattle.key_laws.proofs.AreaLaws.{AreaWords}
use Rattle.store.specs.Store.{Store, tree_of, held, held_by, well_formed_store}
use Rattle.query.specs.Reading.{area_refusal}
use Rattle.query.specs.Interest.{interest_time, starting_at}
use Rattle.query.proofs.AreaAsRange.{same-included}
use Rattle.laws.proofs.Order.{then-less-view, is-less, number-is-less, number-linear}
use Rattle.key_laws.specs.KeyOrder.{tsp_order}
use Rattle.store.specs.Ingest.{tsp_less}
use Rattle.store.proofs.WellStore.{held-fit}
use Rattle.tree.specs.declared.stored.KeyOrder.TheVariants.{Tsp}

-- It is not before the area's times start.
in-time : (area : Area) (x : Stored) → in_area area x ≡ true → area.times.start ≤ x.entry.rank.timestamp
unfolding in_area area_includes times_include includes
in-time area x e =
    let t = x.entry.rank.timestamp in
    let before = not (is_less (by_number t area.times.start)) in
    let rest = before_end by_number t (end_says area.times.end) in
    let prefix = is_prefix (components area.path) x.entry.path in
    let a = (and-true (area_subspace area.subspace x.entry.subspace) (prefix && (before && rest)) e).1 in
    let b = (and-true prefix (before && rest) a).1 in
    let c = not-true (is_less (by_number t area.times.start)) (and-true before rest b).0 in
    ltb-false t area.times.start (sym (number-below t area.times.start) ∙ c)

reverse-in : {x : Stored} (l : List Stored) → x ∈ reverse l → x ∈ l
reverse-in [] m = m
reverse-in {x} (a ∷ l) m = ⊎_elim (λ k. there (reverse-in l k)) (λ k. here (only k)) (in_either (reverse l) (subst (x ∈◌) (reverse-append (a ∷ []) l) m))

at_least : (max_count max_size n size t start : ℕ) (l : List Stored) → start ≤ t → ((x : Stored) → x ∈ l → start ≤ x.entry.rank.timestamp) → start ≤ interest_from max_count max_size n size t l
unfolding interest_from
at_least max_count max_size n size t start [] h each = h
at_least max_count max_size n size t start (x ∷ l) h each =
    let i = at_least max_count max_size (n + 1) (add_size max_size size x.entry.rank.payload_length) x.entry.rank.timestamp start l (each x (here refl)) (λ y m. each y (there m)) in
    split (breaks max_count (n + 1) || breaks max_size (size + x.entry.rank.payload_length)) (λ q. rw q (each x (here refl))) (λ q. rw q i)

pub interest-late : (a : AreaOfInterest) (tsp : List Stored) → a.area.times.start ≤ interest_time a tsp
interest-late a tsp =
    at_least a.max_count a.max_size 0 0 a.area.times.start a.area.times.start (reverse (keep (in_area a.area) tsp)) (omega arith)
    (λ x m. in-time a.area x (keep-view (in_area a.area) tsp (reverse-in (keep (in_area a.area) tsp) m)).1)

-- Times that start later.
later : (start t ts : ℕ) (end : RangeEnd ℕ) → start ≤ t → times_include (record { start = t; end = end }) ts ≡ (leb t ts && times_include (record { start = start; end = end }) ts)
unfolding times_include includes
later start t ts end h = split (leb t ts)
    (λ q. let w = leb-true t ts q in rw (q, number-below ts t, number-below ts start, le-ltb ts t w, le-ltb ts start (omega arith)))
    (λ q. rw (q, number-below ts t, lt-ltb ts t (leb-false t ts q)))

move-first : (a b c d : Bool) → (a && (b && (c && d))) ≡ (c && (a && (b && d)))
move-first true true c d = refl
move-first true false true d = refl
move-first true false false d = refl
move-first false b true d = refl
move-first false b false d = refl

-- Of what a tree holds, the range that is answered includes the matches from its start on: the one that broke a limit too.
module _ (s : Store) (a : AreaOfInterest) (long : field.mpl ≤ length a.area.path.bytes) (bytes : Bytes a.area.path.bytes) (words : AreaWords a.area.subspace)
    (z : area_refusal field s a.area ≡ 0) (tsp : List Stored) where
  pub interest-includes : (o : KeyOrder) → Bytes (tree_of field o s) → (x : Stored) → x ∈ held field o s
      → in_range (starting_at (interest_time a tsp) (area_range field a.area)) x ≡ (leb (interest_time a tsp) x.entry.rank.timestamp && in_area a.area x)
  unfolding in_range range_includes area_range
  interest-includes o tree x m =
      let r = area_range field a.area in
      let ts = x.entry.rank.timestamp in
      let S = subspaces_include r.subspaces x.entry.subspace in
      let P = paths_include r.paths x.entry.path in
      ap (λ (b : Bool). S && (P && b)) (later a.area.times.start (interest_time a tsp) ts a.area.times.end (interest-late a tsp))
      ∙ move-first S P (leb (interest_time a tsp) ts) (times_include a.area.times ts)
      ∙ ap (λ (b : Bool). leb (interest_time a tsp) ts && b) (sym (same-included s a.area long bytes words z o tree x m))

-- Matches of a well-formed store are met from the latest: in time-first order no later one is of an earlier time, so that the first of them is the least.
time-first : (a b : Stored) → tsp_less a b ≡ true → a.entry.rank.timestamp ≤ b.entry.rank.timestamp
unfolding tsp_order below triple_of
time-first a b e = ⊎_elim
    (λ l. let h = number-is-less a.entry.rank.timestamp b.entry.rank.timestamp l in omega arith)
    (λ l. let h = number-linear.equal a.entry.rank.timestamp b.entry.rank.timestamp l.0 in omega arith)
    (then-less-view (by_number a.entry.rank.timestamp b.entry.rank.timestamp) _ (is-less _ e))

abbrev in_time : Stored → Stored → Bool
in_time a b = leb a.entry.rank.timestamp b.entry.rank.timestamp

ascends-as : {A : Type 0} (test other : A → A → Bool) → ((a b : A) → test a b ≡ true → other a b ≡ true) → (l : List A) → Ascends test l → Ascends other l
unfolding Ascends
ascends-as test other h [] s = tt
ascends-as test other h (a ∷ l) s = ((λ x m. h a x (s.0 x m)), ascends-as test other h l s.1)

module _ (s : Store) (area : Area) (w : well_formed_store field s ≡ true) (tree : (o : KeyOrder) → Bytes (tree_of field o s)) where
  pub matches-ascend : Ascends in_time (keep (in_area area) (held field Tsp s))
  unfolding held_by
  matches-ascend =
      ascends-as tsp_less in_time (λ a b e. le-leb _ _ (time-first a b e)) (keep (in_area area) (held field Tsp s))
      (keep-ascends tsp_less (in_area area) (held field Tsp s) (held-fit field s w tree).sound.tsp_ascends)

  pub least-match : (y : Stored) (behind : List Stored) → keep (in_area area) (held field Tsp s) ≡ y ∷ behind
      → (x : Stored) → x ∈ keep (in_area area) (held field Tsp s) → y.entry.rank.timestamp ≤ x.entry.rank.timestamp
  unfolding Ascends
  least-match y behind e x m =
      let a : Ascends in_time (y ∷ behind) = subst (Ascends in_time) e matches-ascend in
      ⊎_elim (λ (q : x ≡ y). rw q (omega arith)) (λ n. leb-true _ _ (a.0 x n)) (uncons (subst (x ∈◌) e m))
