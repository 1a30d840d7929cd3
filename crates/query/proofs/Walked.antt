-- The theorems about the calls' definitions, over one store that is not refused: a walk over a listing gives exactly the matching records;
-- a count is the length of the listing without flags; what is found is the entry that stands there. Assumes nothing.
use Prim.Native.Nat.{ℕ}
use mathlib.Core.Path.{◌≡◌, refl, sym, ap, ap₂, subst, ◌∙◌}
use mathlib.Core.Logic.{⊎_elim}
use mathlib.Core.List.Memᴰ.{append_cases as unappend}
use mathlib.Core.List.Memᴰ.{append_right as in_right}
use mathlib.Core.List.Memᴰ.{eq_of_singleton as only}
use mathlib.Core.List.Memᴰ.{head as here}
use mathlib.Core.List.Memᴰ.{not-nil as none_in}
use mathlib.Core.List.Memᴰ.{tail as there}
use mathlib.Core.List.{List, [], ◌∷◌, ◌++◌, append_assoc}
use mathlib.Core.Bool.{Bool, true, false, cond, ◌&&◌}
use mathlib.Core.Option.{some, none}
use native.Mathlib.Omega.{arith}
use lib.ListN.{length}
use borrow.Author.Tests.{eq-eqb}
use Rattle.laws.specs.First.{first_that, least_that}
use Rattle.laws.specs.Sorted.{◌∈◌, any, keep, Ascends}
use Rattle.laws.proofs.First.{least_first}
use Rattle.laws.proofs.Truth.{split, clash}
use Rattle.laws.proofs.Sorted.{keep-ascends, any-make}
use Rattle.data_model.specs.Ignore.{no_flags}
use Rattle.data_model.specs.Said.{says}
use Rattle.data_model.specs.Path.{field, legal, components}
use Rattle.data_model.specs.Range.{legal_range}
use Rattle.data_model.specs.declared.path.Path.{Path}
use Rattle.data_model.specs.declared.parameters.Subspace.{Subspace}
use Rattle.data_model.specs.declared.area.Area.{Area}
use Rattle.data_model.specs.declared.range_3d.Range3d.{Range3d}
use Rattle.tree.specs.Stored.{Stored, stored, contents, lengthy, key_of, key_below}
use Rattle.tree.specs.Matching.{stands_at, let_through, in_area, in_range, listed_in_area, listed_in_range}
use Rattle.data_model.specs.declared.query_ignore_params.QueryIgnoreParams.{QueryIgnoreParams}
use Rattle.tree.specs.declared.stored.KeyOrder.TheVariants.{Spt}
use Rattle.tree.proofs.RecordLaws.{contents-length}
use Rattle.tree.proofs.TestLaws.{unflagged-area, unflagged-range}
use Rattle.store.specs.Store.{Store, held}
use Rattle.store.proofs.CheckLaws.{Passed}
use Rattle.store.proofs.IngestLaws.{first_absent}
use Rattle.store.proofs.ForgetLaws.{only_one}
use Rattle.query.specs.Reading.{read_refusal, area_refusal, range_refusal, is_remembered, list_refusal}
use Rattle.query.specs.Listing.{spt_records, key_above, qualifies, step_in, listed, area_listed, range_listed}
use Rattle.query.specs.Count.{counted, area_counted, summarised}
use Rattle.query.specs.Lookup.{not_found, found_of, entry_found}
use Rattle.query.specs.Walk.{Steps, Walked, turns_on, matching, Lists, Finds}
use Rattle.query.specs.Lookup.{EntryFound}
use Rattle.query.proofs.Tested.{read-tested, list-passes}
use Rattle.query.proofs.MarkedLaws.{keep_same}
use Rattle.query.proofs.StartLaws.{record-remembered, start-above}
use Rattle.query.proofs.StepLaws.{key-weak, above-self, below-above, not-above, ascends-around}

-- There is one walk over a store from a key.
pub walks-once : (answer : Steps) (s : Store) (last : List ℕ) (rs rs' : List (List ℕ)) → Walked answer last (turns_on s rs) s → Walked answer last (turns_on s rs') s → rs ≡ rs'
walks-once answer s last [] [] w w' = refl
walks-once answer s last [] (r ∷ rs) w w' = absurd (let q : says none ≡ says (some r) = sym w.1 ∙ w'.0.0 in let z : ◌≡◌ {A = ℕ} 0 1 = cc in omega arith)
walks-once answer s last (r ∷ rs) [] w w' = absurd (let q : says none ≡ says (some r) = sym w'.1 ∙ w.0.0 in let z : ◌≡◌ {A = ℕ} 0 1 = cc in omega arith)
walks-once answer s last (r ∷ rs) (r' ∷ rs') w w' =
    let q : says (some r) ≡ says (some r') = sym w.0.0 ∙ w'.0.0 in
    let g : r ≡ r' = cc in
    ap₂ ◌∷◌ g (walks-once answer s (key_of r) rs rs' (w.0.1, w.1) (subst (λ (x : List ℕ). Walked answer (key_of x) (turns_on s rs') s) (sym g) (w'.0.1, w'.1)))

-- What records say, and the test of an entry as one of its record.
module _ (ns : List ℕ) (test : Stored → Bool) where
  abbrev of-record : List ℕ → Bool
  of-record r = test (stored Spt field ns r)

  contents-keep : (recs : List (List ℕ)) → contents Spt field ns (keep of-record recs) ≡ keep test (contents Spt field ns recs)
  unfolding keep
  contents-keep [] = refl
  contents-keep (r ∷ rs) = let h = contents-keep rs in split (test (stored Spt field ns r)) (λ q. rw q (ap (stored Spt field ns r ∷◌) h)) (λ q. rw q h)

-- The first that a test holds of, where it fails of all before some.
first-behind : {A : Type 0} (p : A → Bool) (pre l : List A) → ((x : A) → x ∈ pre → p x ≡ false) → first_that p (pre ++ l) ≡ first_that p l
unfolding first_that
first-behind p [] l h = refl
first-behind p (a ∷ pre) l h = rw (h a (here refl)) (first-behind p pre l λ x m. h x (there m))

first_alike : {A : Type 0} (p q : A → Bool) (l : List A) → ((x : A) → x ∈ l → p x ≡ q x) → first_that p l ≡ first_that q l
unfolding first_that
first_alike p q [] h = refl
first_alike p q (a ∷ l) h = ap₂ (λ (b : Bool) r. cond b (some a) r) (h a (here refl)) (first_alike p q l λ x m. h x (there m))

-- (a) A listing of one store, of an area or of a range: one law over the test.
module _ (s : Store) (b : Bool) (test : Stored → Bool) (z : read_refusal field s b ≡ 0) where
  abbrev recs : List (List ℕ)
  recs = spt_records field s

  abbrev wants : List ℕ → Bool
  wants = of-record s.state.namespace_id test

  abbrev may : (last : List ℕ) → List ℕ → Bool
  may last = qualifies field s.state.namespace_id test last

  abbrev steps : Steps
  steps s last = listed field s (list_refusal field s b last) test last

  passes : Passed s
  passes = (read-tested s b z).0

  ascends : Ascends key_below recs
  ascends = (passes.ordered Spt).ascends

  -- From a key that may be remembered, where no record before some qualifies and all from there on are above the key: the first of these that is wanted.
  answers : (last : List ℕ) → is_remembered field last ≡ true → (pre rest : List (List ℕ)) → recs ≡ pre ++ rest → ((r : List ℕ) → r ∈ pre → may last r ≡ false) → ((r : List ℕ) → r ∈ rest → key_above last r ≡ true)
      → steps s last ≡ says (first_that wants rest)
  unfolding listed step_in
  answers last k pre rest e low high =
      let n = list-passes s b last (sym z) k in
      let f : least_that key_below (may last) recs ≡ first_that wants rest
      = least_first key_below key-weak (may last) recs ascends ∙ ap (first_that (may last)) e ∙ first-behind (may last) pre rest low
      ∙ first_alike (may last) wants rest (λ r m. ap (◌&& wants r) (high r m)) in
      rw (← n) (ap says f)

  walk_from : (rest pre : List (List ℕ)) (last : List ℕ) → is_remembered field last ≡ true → recs ≡ pre ++ rest → ((r : List ℕ) → r ∈ pre → may last r ≡ false)
      → ((r : List ℕ) → r ∈ rest → key_above last r ≡ true) → Walked steps last (turns_on s (keep wants rest)) s
  unfolding keep first_that
  walk_from [] pre last k e low high = (tt, answers last k pre [] e low high)
  walk_from (x ∷ rest) pre last k e low high =
      let a = answers last k pre (x ∷ rest) e low high in
      let g : recs ≡ (pre ++ x ∷ []) ++ rest = e ∙ sym (append_assoc pre (x ∷ []) rest) in
      let apart = ascends-around key_below pre x rest (subst (Ascends key_below) e ascends) in
      split (wants x)
      (λ q.
      let i = walk_from rest (pre ++ x ∷ []) (key_of x) (record-remembered s passes x (subst (x ∈◌) (sym e) (in_right pre (here refl)))) g
      (λ r m. ⊎_elim
      (λ n. ap (◌&& wants r) (not-above r x (apart.0 r n)))
      (λ n. ap (◌&& wants r) (subst (λ (y : List ℕ). key_above (key_of x) y ≡ false) (sym (only n)) (above-self x)))
      (unappend pre m))
      (λ r m. below-above x r (apart.1 r m)) in
      rw q ((rw q at a, i.0), i.1))
      (λ q.
      let i = walk_from rest (pre ++ x ∷ []) last k g
      (λ r m. ⊎_elim (low r) (λ n. subst (λ (y : List ℕ). may last y ≡ false) (sym (only n)) (ap₂ ◌&&◌ (high x (here refl)) q)) (unappend pre m))
      (λ r m. high r (there m)) in
      rw q i)

  pub lists : Lists field s test steps
  unfolding held
  lists = record {
    walks = walk_from recs [] [] (unfold is_remembered in refl) refl (λ r m. absurd (none_in m)) (λ r m. start-above s passes r m);
    ascends = keep-ascends key_below wants recs ascends;
    entries = contents-keep s.state.namespace_id test recs;
  }

  -- (b) A count is the length of the listing without flags.
  listing-length : length (matching field s test) ≡ length (keep test (held field Spt s))
  listing-length = sym (contents-length Spt field s.state.namespace_id (matching field s test)) ∙ ap length lists.entries

  pub counts : (same : Stored → Bool) → ((x : Stored) → test x ≡ same x) → (counted field s (read_refusal field s b) same).count ≡ length (matching field s test)
  unfolding counted
  counts same alike = rw z (ap length (sym (keep_same test same alike (held field Spt s))) ∙ sym listing-length)

pub area-lists : (s : Store) (area : Area) (ignore : QueryIgnoreParams) → area_refusal field s area ≡ 0
    → Lists field s (listed_in_area area ignore) (λ s last. area_listed field s area ignore last)
area-lists s area ignore z = lists s (legal field area.path) (listed_in_area area ignore) z

pub range-lists : (s : Store) (range : Range3d) (ignore : QueryIgnoreParams) → range_refusal field s range ≡ 0
    → Lists field s (listed_in_range range ignore) (λ s last. range_listed field s range ignore last)
range-lists s range ignore z = lists s (legal_range field range.paths) (listed_in_range range ignore) z

pub area-counts : (s : Store) (area : Area) → area_refusal field s area ≡ 0 → (area_counted field s area).count ≡ length (matching field s (listed_in_area area no_flags))
area-counts s area z = counts s (legal field area.path) (listed_in_area area no_flags) z (in_area area) (unflagged-area no_flags refl area)

pub range-counts : (s : Store) (range : Range3d) → range_refusal field s range ≡ 0 → (summarised field s range).count ≡ length (matching field s (listed_in_range range no_flags))
range-counts s range z = counts s (legal_range field range.paths) (listed_in_range range no_flags) z (in_range range) (unflagged-range no_flags refl range)

-- (d) What is found.
first-view : {A : Type 0} (p : A → Bool) (l : List A) → any p l ≡ true → (x : A) × x ∈ l × (p x ≡ true) × (first_that p l ≡ some x)
unfolding any first_that
first-view p [] e = clash e refl
first-view p (a ∷ l) e = split (p a)
    (λ q. (a, here refl, q, rw q))
    (λ q. let k = first-view p l (rw q at e) in (k.0, there k.1, k.2, rw q k.3))

module _ (s : Store) (subspace : Subspace) (path : Path) (ignore : QueryIgnoreParams) (z : read_refusal field s (legal field path) ≡ 0) where
  abbrev stands : Stored → Bool
  stands = stands_at subspace (components path)

  answer-is : entry_found field s subspace path ignore ≡ found_of ignore (first_that stands (held field Spt s))
  unfolding entry_found
  answer-is = rw (eq-eqb (read_refusal field s (legal field path)) 0 z)

  answer-none : any stands (held field Spt s) ≡ false → entry_found field s subspace path ignore ≡ not_found 0
  unfolding found_of
  answer-none e = answer-is ∙ ap (found_of ignore) (first_absent stands (held field Spt s) e)

  answer-some : (x : Stored) → first_that stands (held field Spt s) ≡ some x
      → entry_found field s subspace path ignore ≡ cond (let_through ignore x) (record { refusal = 0; found = true; lengthy = lengthy x }) (not_found 0)
  unfolding found_of
  answer-some x e = answer-is ∙ ap (found_of ignore) e

  answer-through : (x : Stored) → first_that stands (held field Spt s) ≡ some x → let_through ignore x ≡ true
      → entry_found field s subspace path ignore ≡ record { refusal = 0; found = true; lengthy = lengthy x }
  answer-through x e t = answer-some x e ∙ rw t

  answer-ignored : (x : Stored) → first_that stands (held field Spt s) ≡ some x → let_through ignore x ≡ false → entry_found field s subspace path ignore ≡ not_found 0
  answer-ignored x e t = answer-some x e ∙ rw t

  pub finds : Finds field s subspace path ignore
  finds = record {
    there = λ x m e t.
        let k = first-view stands (held field Spt s) (any-make stands (held field Spt s) m e) in
        let o = only_one subspace (components path) (held field Spt s) (read-tested s (legal field path) z).0.once k.0 x k.1 m k.2 e in
        answer-through x (k.3 ∙ ap some o) t;
    stored = λ e. split (any stands (held field Spt s))
        (λ q.
        let k = first-view stands (held field Spt s) q in
        split (let_through ignore k.0)
        (λ t. (k.0, k.1, k.2, t, ap (λ (r : EntryFound). r.lengthy) (answer-through k.0 k.3 t)))
        (λ t. clash e (ap (λ (r : EntryFound). r.found) (answer-ignored k.0 k.3 t))))
        (λ q. clash e (ap (λ (r : EntryFound). r.found) (answer-none q)));
    absent = λ e. split (any stands (held field Spt s))
        (λ q.
        let k = first-view stands (held field Spt s) q in
        split (let_through ignore k.0)
        (λ t. clash (ap (λ (r : EntryFound). r.found) (answer-through k.0 k.3 t)) e)
        (λ t. answer-ignored k.0 k.3 t))
        answer-none;
  }
