-- A store's calls see of a path whether it is legal and, where it is, its components: so they answer paths that agree the same. Assumes nothing.
use Prim.Native.Nat.{ℕ}
use mathlib.Core.Path.{◌≡◌, refl, ap, ap₂, fun_ext, ◌∙◌}
use mathlib.Core.List.{List, reverse}
use mathlib.Core.Bool.{Bool, true, false, not, cond, ◌&&◌}
use lib.ListN.{length}
use lib.Dec.{leb, eqb}
use Rattle.laws.specs.Prefix.{same_number, same_list}
use Rattle.laws.specs.Sorted.{any, keep}
use Rattle.laws.proofs.Truth.{and-true}
use Rattle.data_model.specs.Path.{Figures, Components, legal}
use Rattle.data_model.specs.Entry.{Entry, entry_of}
use Rattle.data_model.specs.Range.{legal_range}
use Rattle.data_model.specs.Area.{empty_range}
use Rattle.data_model.specs.Refusal.{illegal_path, other_namespace, other_digest}
use Rattle.data_model.specs.declared.entry_origin.EntryOrigin.{EntryOrigin}
use Rattle.data_model.specs.declared.parameters.Subspace.{Subspace}
use Rattle.data_model.specs.declared.area.Area.{Area}
use Rattle.data_model.specs.declared.range_3d.Range3d.{Range3d}
use Rattle.key_laws.specs.Agree.{PathsAgree, AreasAgree, RangesAgree, InterestsAgree, ProtectedAgree, SameFor, SameForBoth}
use Rattle.key_laws.proofs.Behind.{behind-legal, behind-components, guarded, behind-entry, behind-area, behind-area-range, behind-legal-range, behind-range}
use Rattle.tree.specs.Stored.{Stored}
use Rattle.tree.specs.Matching.{stands_at, in_area, in_range, is_forgotten, let_through, listed_in_area, listed_in_range}
use Rattle.tree.specs.Interest.{interest_from}
use Rattle.data_model.specs.declared.query_ignore_params.QueryIgnoreParams.{QueryIgnoreParams}
use Rattle.tree.specs.declared.stored.KeyOrder.TheVariants.{Spt, Tsp}
use Rattle.store.specs.Store.{Store, dir_room, held, held_by, holding, Tallied}
use Rattle.store.specs.Refusal.{unless, ◌or_else◌, store_refusal, tallied_refusal}
use Rattle.store.specs.Ingest.{refuse, decided, ingest_refusal, judged, carried, IngestOutcome, ingested}
use Rattle.store.specs.Forget.{tallied_without, unexpected, forget_entry_refusal, forget_area_refusal, ForgetEntryOutcome, ForgetAreaOutcome, entry_forgotten, area_forgotten}
use Rattle.available.specs.Available.{arrived_at, entry_refusal, available_refusal, AvailableOutcome, available_set}
use Rattle.pairs.specs.Pairs.{numbers_of, in_pairs, pairs_ingested}
use Rattle.pairs.specs.declared.Pair.{Pair}
use Rattle.query.specs.Reading.{read_refusal, list_refusal}
use Rattle.query.specs.Lookup.{found_in, not_found, entry_found}
use Rattle.query.specs.Listing.{listed, area_listed, range_listed}
use Rattle.query.specs.Count.{counted}
use Rattle.query.specs.Interest.{starting_at, interest_range}
use Rattle.call_laws.specs.Unseen.{IngestionsAgree}

-- Of a store's call: 4 is answered, or a refusal before it, where a path is illegal.
illegal-first : (n : ℕ) → eqb (n or_else illegal_path) 0 ≡ false
unfolding ◌or_else◌
illegal-first n = go (eqb n 0) refl
  where
    go : (b : Bool) → eqb n 0 ≡ b → eqb (cond b illegal_path n) 0 ≡ false
    go true e = refl
    go false e = e

-- What is in an area or a range, stored entry by stored entry.
module _ (f : Figures) (a b : Area) (h : AreasAgree a b) (l : legal f a.path ≡ true) where
  pub area-test : (x : Stored) → in_area a x ≡ in_area b x
  unfolding in_area
  area-test x = behind-area f a b h l x.entry.subspace x.entry.path x.entry.rank.timestamp

  area-listed-test : (g : QueryIgnoreParams) (x : Stored) → listed_in_area a g x ≡ listed_in_area b g x
  unfolding listed_in_area
  area-listed-test g x = ap (◌&& let_through g x) (area-test x)

module _ (f : Figures) (a b : Range3d) (h : RangesAgree a b) (l : legal_range f a.paths ≡ true) where
  pub range-test : (x : Stored) → in_range a x ≡ in_range b x
  unfolding in_range
  range-test x = behind-range f a b h l x.entry.subspace x.entry.path x.entry.rank.timestamp

  range-listed-test : (g : QueryIgnoreParams) (x : Stored) → listed_in_range a g x ≡ listed_in_range b g x
  unfolding listed_in_range
  range-listed-test g x = ap (◌&& let_through g x) (range-test x)

-- Readings.
module _ (f : Figures) (s : Store) where
  illegal-read : eqb (read_refusal f s false) 0 ≡ false
  unfolding read_refusal unless
  illegal-read = illegal-first (store_refusal f s true)

  pub counted_same : {b c : Bool} (x y : Stored → Bool) → b ≡ c → (b ≡ true → (z : Stored) → x z ≡ y z) → counted f s (read_refusal f s b) x ≡ counted f s (read_refusal f s c) y
  counted_same {b} {c} x y e same = guarded (λ (d : Bool) (t : Stored → Bool). counted f s (read_refusal f s d) t) blind b c x y e (λ l. fun_ext (same l))
    where
      blind : (x y : Stored → Bool) → counted f s (read_refusal f s false) x ≡ counted f s (read_refusal f s false) y
      blind x y = unfold counted in rw illegal-read refl

  illegal-list : (last : List ℕ) → eqb (list_refusal f s false last) 0 ≡ false
  unfolding list_refusal ◌or_else◌
  illegal-list last = rw illegal-read illegal-read

  listed_same : (last : List ℕ) {b c : Bool} (x y : Stored → Bool) → b ≡ c → (b ≡ true → (z : Stored) → x z ≡ y z) → listed f s (list_refusal f s b last) x last ≡ listed f s (list_refusal f s c last) y last
  listed_same last {b} {c} x y e same = guarded (λ (d : Bool) (t : Stored → Bool). listed f s (list_refusal f s d last) t last) blind b c x y e (λ l. fun_ext (same l))
    where
      blind : (x y : Stored → Bool) → listed f s (list_refusal f s false last) x last ≡ listed f s (list_refusal f s false last) y last
      blind x y = unfold listed in rw (illegal-list last) refl

  pub found-same : (subspace : Subspace) (ignore : QueryIgnoreParams) → SameFor PathsAgree (λ p. entry_found f s subspace p ignore)
  unfolding entry_found
  found-same subspace ignore p q h = guarded
      (λ (c : Bool) (cs : Components). cond (eqb (read_refusal f s c) 0) (found_in subspace cs ignore (held f Spt s)) (not_found (read_refusal f s c)))
      (λ x y. rw illegal-read refl) _ _ _ _ (behind-legal f p q h) (behind-components f p q h)

  pub area-listed-same : (ignore : QueryIgnoreParams) (last : List ℕ) → SameFor AreasAgree (λ a. area_listed f s a ignore last)
  area-listed-same ignore last a b h = listed_same last (listed_in_area a ignore) (listed_in_area b ignore) (behind-legal f a.path b.path h.path) (λ l. area-listed-test f a b h l ignore)

  pub range-listed-same : (ignore : QueryIgnoreParams) (last : List ℕ) → SameFor RangesAgree (λ r. range_listed f s r ignore last)
  range-listed-same ignore last a b h = listed_same last (listed_in_range a ignore) (listed_in_range b ignore) (behind-legal-range f a.paths b.paths h.paths) (λ l. range-listed-test f a b h l ignore)

  pub interest-same : SameFor InterestsAgree (interest_range f s)
  unfolding interest_range
  interest-same a b h = guarded
      (λ (c : Bool) (r : Range3d). cond (eqb (read_refusal f s c) 0) (record { refusal = 0; range = r }) (record { refusal = read_refusal f s c; range = empty_range }))
      (λ x y. rw illegal-read refl) _ _ _ _ (behind-legal f a.area.path b.area.path h.area.path)
      (λ l.
      let t = fun_ext (area-test f a.area b.area h.area l) in
      ap₂ starting_at
      (λ i. interest_from (h.count i) (h.size i) 0 0 (h.area.times i).start (reverse (keep (t i) (held f Tsp s))))
      (behind-area-range f a.area b.area h.area l))

  pub available-same : (subspace : Subspace) (expects : Bool) (digest : List ℕ) (n : ℕ) → SameFor PathsAgree (λ p. available_set f s subspace p expects digest n)
  unfolding available_set available_refusal
  available-same subspace expects digest n p q h = guarded answer blind _ _ _ _ (behind-legal f p q h) (behind-components f p q h)
    where
      number : Bool → Components → ℕ
      number lawful cs = store_refusal f s true or_else unless lawful illegal_path or_else entry_refusal subspace cs expects digest n (held f Spt s)

      answer : Bool → Components → AvailableOutcome
      answer lawful cs = record { answer = record { refusal = number lawful cs; state = s.state }; left = cond (eqb (number lawful cs) 0) (holding f (arrived_at subspace cs n (held_by f s)) s) s }

      blind : (x y : Components) → answer false x ≡ answer false y
      blind x y = unfold unless ◌or_else◌ in rw (illegal-first (store_refusal f s true)) refl

-- Changes.
abbrev entry_answer : Figures → Tallied → (prune token : List ℕ) → (prevent : Bool) → EntryOrigin → (namespace : List ℕ) → (lawful : Bool) → Entry → IngestOutcome
entry_answer f w prune token prevent origin namespace lawful e =
    let n = tallied_refusal f w (leb (dir_room w.store.state.limit) (length prune)) or_else unless lawful illegal_path or_else
    unless (same_list same_number namespace w.store.state.namespace_id) other_namespace in
    carried f w prune (record { entry = e; token = token; available = 0; origin = origin }) (cond (eqb n 0) (decided w.store.state.limit (held f Spt w.store) e prevent) (refuse n))

module _ (f : Figures) (w : Tallied) where
  pub ingested-same : (prune : List ℕ) → SameFor IngestionsAgree (ingested f w prune)
  unfolding ingested judged ingest_refusal
  ingested-same prune a b h =
      guarded (entry_answer f w prune a.token a.prevent_pruning a.origin a.entry.namespace_id) blind _ _ _ _ (behind-legal f a.entry.path b.entry.path h.entry.path) (behind-entry a.entry b.entry h.entry f)
      ∙ (λ i. entry_answer f w prune (h.token i) (h.prevents i) (h.origin i) (h.entry.namespace i) (legal f b.entry.path) (entry_of b.entry))
    where
      blind : (x y : Entry) → entry_answer f w prune a.token a.prevent_pruning a.origin a.entry.namespace_id false x ≡ entry_answer f w prune a.token a.prevent_pruning a.origin a.entry.namespace_id false y
      blind x y = unfold carried unless ◌or_else◌ in rw (illegal-first (tallied_refusal f w (leb (dir_room w.store.state.limit) (length prune)))) refl

  pub pairs-same : (prune : List Pair) → SameFor IngestionsAgree (pairs_ingested f w prune)
  unfolding pairs_ingested
  pairs-same prune a b h = ap in_pairs (ingested-same (numbers_of prune) a b h)

  pub forgotten-same : (subspace : Subspace) (expects : Bool) (digest : List ℕ) → SameFor PathsAgree (λ p. entry_forgotten f w subspace p expects digest)
  unfolding entry_forgotten forget_entry_refusal
  forgotten-same subspace expects digest p q h = guarded answer blind _ _ _ _ (behind-legal f p q h) (behind-components f p q h)
    where
      number : Bool → Components → ℕ
      number lawful cs = tallied_refusal f w true or_else unless lawful illegal_path or_else unless (not (any (unexpected subspace cs expects digest) (held f Spt w.store))) other_digest

      after : Components → Tallied
      after cs = tallied_without f (stands_at subspace cs) w

      answer : Bool → Components → ForgetEntryOutcome
      answer lawful cs =
          cond (eqb (number lawful cs) 0) (record { answer = record { refusal = 0; state = (after cs).store.state }; left = after cs })
          (record { answer = record { refusal = number lawful cs; state = w.store.state }; left = w })

      blind : (x y : Components) → answer false x ≡ answer false y
      blind x y = unfold unless ◌or_else◌ in rw (illegal-first (tallied_refusal f w true)) refl

  pub area-forgotten-same : (protects : Bool) → SameForBoth AreasAgree (ProtectedAgree protects) (λ a protected. area_forgotten f w a protects protected)
  unfolding area_forgotten forget_area_refusal is_forgotten
  area-forgotten-same protects a b x y h k = guarded answer blind _ _ _ _ (ap₂ ◌&&◌ (behind-legal f a.path b.path h.path) (lawful protects k))
      (λ l. let z = and-true (legal f a.path) (cond protects (legal f x.path) true) l in fun_ext (forgotten protects k z.0 z.1))
    where
      lawful : (o : Bool) → ProtectedAgree o x y → cond o (legal f x.path) true ≡ cond o (legal f y.path) true
      lawful true k = behind-legal f x.path y.path k.path
      lawful false k = refl

      forgotten : (o : Bool) → ProtectedAgree o x y → legal f a.path ≡ true → cond o (legal f x.path) true ≡ true → (z : Stored) → is_forgotten a o x z ≡ is_forgotten b o y z
      forgotten true k l m z = ap₂ (λ (c d : Bool). c && not d) (area-test f a b h l z) (area-test f x y k m z)
      forgotten false k l m z = ap (◌&& not false) (area-test f a b h l z)

      number : Bool → ℕ
      number lawful = tallied_refusal f w true or_else unless lawful illegal_path

      after : (Stored → Bool) → Tallied
      after test = tallied_without f test w

      answer : Bool → (Stored → Bool) → ForgetAreaOutcome
      answer lawful test =
          cond (eqb (number lawful) 0)
          (record { answer = record { refusal = 0; state = (after test).store.state; forgotten = length (keep test (held f Spt w.store)) }; left = after test })
          (record { answer = record { refusal = number lawful; state = w.store.state; forgotten = 0 }; left = w })

      blind : (x y : Stored → Bool) → answer false x ≡ answer false y
      blind x y = unfold unless ◌or_else◌ in rw (illegal-first (tallied_refusal f w true)) refl
