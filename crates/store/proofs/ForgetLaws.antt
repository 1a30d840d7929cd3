-- Forgetting: in a store with no place twice the entry at a place is the only one there; what is left and what went; and which refusal
-- comes of which test. Assumes nothing.
use Prim.Native.Nat.{ℕ, suc, ◌+◌, ◌-◌, ◌≤◌, ◌<◌}
use mathlib.Core.Path.{◌≡◌, refl, sym, ap, ap₂, ◌∙◌}
use mathlib.Core.Logic.{⊎_elim}
use mathlib.Core.List.Memᴰ.{cases_cons as uncons}
use mathlib.Core.List.Memᴰ.{not-nil as none_in}
use mathlib.Core.List.{List, [], ◌∷◌, ◌++◌}
use mathlib.Core.Bool.{Bool, true, false, not, cond, ◌&&◌}
use native.Mathlib.Omega.{arith}
use lib.ListN.{length, take, drop, get_or}
use lib.Seq.{drop-cons}
use Rattle.laws.specs.Prefix.{same_number, same_list}
use Rattle.laws.specs.Sorted.{◌∈◌, any, all, keep}
use Rattle.laws.proofs.Truth.{split, clash, refute, and-true, alike}
use Rattle.laws.proofs.Sorted.{any-view, any-make, any_none, all-view, keep-both}
use Rattle.layout.specs.Layout.{records, record_at}
use Rattle.layout.specs.Marks.{marks_of, first_mark}
use Rattle.layout.proofs.LaidLaws.{record-in}
use Rattle.layout.proofs.MarkLaws.{first_holds}
use Rattle.data_model.specs.Refusal.{refusal_number}
use Rattle.data_model.specs.declared.answer.Refusal.{Refusal}
use Rattle.data_model.specs.Path.{Figures, Components, field, legal, components, same_path}
use Rattle.data_model.specs.Subspace.{same_subspace}
use Rattle.data_model.specs.Entry.{entry_of, rank_of}
use Rattle.data_model.specs.declared.path.Path.{Path}
use Rattle.data_model.specs.declared.parameters.Subspace.{Subspace}
use Rattle.data_model.specs.declared.area.Area.{Area}
use Rattle.data_model.proofs.Orders.{path-equality, subspace-equality}
use Rattle.tree.specs.Stored.{Stored, stored, stored_of}
use Rattle.tree.specs.Tree.{Formed, Ordered}
use Rattle.tree.specs.Apart.{same_address, no_address_twice}
use Rattle.tree.specs.Matching.{stands_at, is_forgotten}
use Rattle.tree.specs.declared.stored.KeyOrder.{KeyOrder}
use Rattle.tree.specs.declared.stored.KeyOrder.TheVariants.{Spt, Tsp}
use Rattle.tree.specs.declared.stored.LengthyAuthorisedEntry.{LengthyAuthorisedEntry}
use Rattle.key_laws.specs.Bytes.{Bytes}
use Rattle.tree.proofs.RecordLaws.{record-forth, contents-in}
use Rattle.tree.proofs.WithinLaws.{at-bytes}
use Rattle.tree.proofs.FormedLaws.{formed-record}
use Rattle.tree.proofs.FormedContents.{formed-many, formed-next}
use Rattle.tally.specs.Tally.{tally_room, tally_holding}
use Rattle.store.specs.Store.{state_with, Store, store_of, limit_most, tree_room, dir_room, tree_of, dir_of, held, held_by, holding, Tallied, tallied_of}
use Rattle.store.specs.Refusal.{unless, ◌or_else◌, tallied_refusal}
use Rattle.store.specs.Forget.{without, store_without, tallied_without, unexpected, forget_entry_refusal, forget_entry_outcome, entry_forgotten, forget_area_refusal, forget_area_outcome, area_forgotten}
use Rattle.store.specs.declared.state.State.{State}
use Rattle.store.specs.Change.{in_tree, Changed}
use Rattle.std.proofs.Common.{Some, None, Option, is_some, unwrap_or}
use Rattle.store.specs.Change.{first_place}
use Rattle.store.proofs.PlaceLaws.{place-none, place-some}
use Rattle.store.proofs.CheckLaws.{or-none, unless-none, Passed, number-some}
use Rattle.store.proofs.FitLaws.{fit-without}
use Rattle.store.proofs.TalliedLaws.{TalliedPassed, tallied-passed, passed-fit, retally-asks, retallied}
use Rattle.store.proofs.HoldingLaws.{store-holds}

-- One place.
module _ (s : Subspace) (p : Components) where
  place_view : (x : Stored) → stands_at s p x ≡ true → (x.entry.subspace ≡ s) × (x.entry.path ≡ p)
  unfolding stands_at
  place_view x e =
      let k = and-true (same_subspace x.entry.subspace s) (same_path x.entry.path p) e in
      (subspace-equality.equal x.entry.subspace s k.0, path-equality.equal x.entry.path p k.1)

  both-there : (x y : Stored) → stands_at s p x ≡ true → stands_at s p y ≡ true → same_address x.entry y.entry ≡ true
  unfolding same_address
  both-there x y e f =
      let a = place_view x e in
      let b = place_view y f in
      rw (a.0, a.1, b.0, b.1) (ap₂ ◌&&◌ (subspace-equality.self s) (path-equality.self p))

  pub only_one : (l : List Stored) → no_address_twice l ≡ true → (x y : Stored) → x ∈ l → y ∈ l → stands_at s p x ≡ true → stands_at s p y ≡ true → x ≡ y
  unfolding no_address_twice
  only_one [] h x y m n e f = absurd (none_in m)
  only_one (a ∷ l) h x y m n e f =
      let k = and-true (all (λ (b : Stored). not (same_address a.entry b.entry)) l) (no_address_twice l) h in
      let apart : (z : Stored) → z ∈ l → stands_at s p a ≡ true → stands_at s p z ≡ true → ⊥
      = λ z w g i. clash {b = not (same_address a.entry z.entry)} (all-view (λ (b : Stored). not (same_address a.entry b.entry)) l k.0 w) (ap not (both-there a z g i)) in
      ⊎_elim
      (λ q. ⊎_elim (λ r. q ∙ sym r) (λ r. absurd (apart y r (ap (stands_at s p) (sym q) ∙ e) f)) (uncons n))
      (λ q. ⊎_elim (λ r. absurd (apart x q (ap (stands_at s p) (sym r) ∙ f) e)) (λ r. only_one l k.1 x y q r e f) (uncons n))
      (uncons m)

  -- What else is asked of what stands there: of none, or of the one that does.
  module _ (q : Stored → Bool) (l : List Stored) where
    pub none-such : any (stands_at s p) l ≡ false → any (λ (y : Stored). stands_at s p y && q y) l ≡ false
    none-such h = refute (any (λ (y : Stored). stands_at s p y && q y) l) λ e.
        let k = any-view (λ (y : Stored). stands_at s p y && q y) l e in
        clash (and-true (stands_at s p k.0) (q k.0) k.2).0 (any_none (stands_at s p) l h k.1)

    pub one-such : no_address_twice l ≡ true → (x : Stored) → x ∈ l → stands_at s p x ≡ true → q x ≡ any (λ (y : Stored). stands_at s p y && q y) l
    one-such h x m e = alike (q x) (any (λ (y : Stored). stands_at s p y && q y) l)
        (λ g. any-make (λ (y : Stored). stands_at s p y && q y) l m (ap₂ ◌&&◌ e g))
        (λ g.
        let k = any-view (λ (y : Stored). stands_at s p y && q y) l g in
        let a = and-true (stands_at s p k.0) (q k.0) k.2 in
        ap q (only_one l h x k.0 m k.1 e a.0) ∙ a.1)

-- The place of the first that stands at one, in either tree: none does, or the one at the place.
module _ {o : KeyOrder} {count : ℕ} {dir tree : List ℕ} (v : Formed o count dir tree) (ns : List ℕ) (s : Subspace) (p : Components) where
  pub none_first : None ≡ first_place (stands_at s p) (in_tree o ns count dir tree) → any (stands_at s p) (in_tree o ns count dir tree) ≡ false
  none_first e = place-none (stands_at s p) (in_tree o ns count dir tree) e

  module _ (k : ℕ) (e : Some k ≡ first_place (stands_at s p) (in_tree o ns count dir tree)) where
    pub at_first : (k < length (in_tree o ns count dir tree)) × (k ≡ first_mark (marks_of (stands_at s p) (in_tree o ns count dir tree)))
    at_first = place-some (stands_at s p) (in_tree o ns count dir tree) k e

    pub first-inside : k < count
    first-inside = omega (arith, at_first.0, formed-many v ns)

    abbrev x : Stored
    x = stored o field ns (record_at k dir tree)

    pub is-first : get_or (in_tree o ns count dir tree) k x ≡ x
    is-first =
        let l = in_tree o ns count dir tree in
        let e : get_or l k x ∷ drop (suc k) l ≡ x ∷ drop (k + 1) l = sym (drop-cons l k x (omega (arith, at_first.0))) ∙ formed-next v ns k first-inside in
        cc

    pub stands-first : stands_at s p x ≡ true
    stands-first =
        let l = in_tree o ns count dir tree in
        let f : stands_at s p (get_or l (first_mark (marks_of (stands_at s p) l)) x) ≡ true = first_holds (stands_at s p) l x (omega (arith, at_first.0, at_first.1)) in
        ap (stands_at s p) (sym is-first) ∙ ap (λ (j : ℕ). stands_at s p (get_or l j x)) at_first.1 ∙ f

    pub in-first : x ∈ in_tree o ns count dir tree
    in-first = contents-in o field ns (records count dir tree) (record-in count k dir tree v.few first-inside)

-- So a digest that is expected there is another, or none is.
module _ {o : KeyOrder} {count : ℕ} {dir tree : List ℕ} (v : Formed o count dir tree) (ns : List ℕ) (s : Subspace) (p : Components) (digest : List ℕ) where
  pub digest-absent : None ≡ first_place (stands_at s p) (in_tree o ns count dir tree) → false ≡ any (unexpected s p true digest) (in_tree o ns count dir tree)
  unfolding unexpected
  digest-absent e = sym (none-such s p (λ (y : Stored). not (same_list same_number y.entry.rank.payload_digest digest)) (in_tree o ns count dir tree) (none_first v ns s p e))

  pub digest-there : (k : ℕ) → Some k ≡ first_place (stands_at s p) (in_tree o ns count dir tree) → no_address_twice (in_tree o ns count dir tree) ≡ true
      → (a : LengthyAuthorisedEntry) → stored_of a ≡ stored o field ns (record_at k dir tree)
      → (t : Bool) → t ≡ same_list same_number a.entry.payload_digest digest → not t ≡ any (unexpected s p true digest) (in_tree o ns count dir tree)
  unfolding stored_of entry_of rank_of unexpected
  digest-there k e once a q t r =
      let other : Stored → Bool = λ y. not (same_list same_number y.entry.rank.payload_digest digest) in
      ap not r ∙ ap other q ∙ one-such s p other (in_tree o ns count dir tree) once _ (in-first v ns s p k e) (stands-first v ns s p k e)

-- Where no digest is expected none is another.
pub unasked : (s : Subspace) (p : Components) (digest : List ℕ) (l : List Stored) → any (unexpected s p false digest) l ≡ false
unfolding unexpected
unasked s p digest l = refute (any (unexpected s p false digest) l) λ e.
    let k = any-view (unexpected s p false digest) l e in
    clash (and-true (stands_at s p k.0) false k.2).1 refl

module _ (w : Tallied) (subspace : Subspace) (path : Path) (expects : Bool) (digest : List ℕ) where
  pub entry-refused : (r : Refusal) → refusal_number r ≡ forget_entry_refusal field w subspace path expects digest
      → forget_entry_outcome (record { refusal = refusal_number r; state = w.store.state }) w.store.spt w.store.spt_dir w.store.tsp w.store.tsp_dir w.tally ≡ entry_forgotten field w subspace path expects digest
  unfolding entry_forgotten
  entry-refused r e = rw (← e, number-some r)

  module _ (z : 0 ≡ forget_entry_refusal field w subspace path expects digest) where
    pub entry-tested : (tallied_refusal field w true ≡ 0) × (legal field path ≡ true)
    unfolding forget_entry_refusal
    entry-tested =
        let other = unless (not (any (unexpected subspace (components path) expects digest) (held field Spt w.store))) 9 in
        let k = or-none (tallied_refusal field w true) (unless (legal field path) 4 or_else other) (sym z) in
        (k.0, unless-none (legal field path) 4 (omega arith) (or-none (unless (legal field path) 4) other k.1).0)

    pub entry_done : (r : State) (a b c d t : List ℕ) → tallied_of r a b c d t ≡ tallied_without field (stands_at subspace (components path)) w
        → forget_entry_outcome (record { refusal = 0; state = r }) a b c d t ≡ entry_forgotten field w subspace path expects digest
    unfolding entry_forgotten
    entry_done r a b c d t g =
        let v : forget_entry_refusal field w subspace path expects digest ≡ 0 = sym z in
        rw v (λ i. record { answer = record { refusal = 0; state = (g i).store.state }; left = g i })

-- Where no digest is expected, none is looked at.
pub entry-unlooked : (f : Figures) (w : Tallied) (subspace : Subspace) (path : Path) (digest digest' : List ℕ)
    → entry_forgotten f w subspace path false digest ≡ entry_forgotten f w subspace path false digest'
unfolding entry_forgotten forget_entry_refusal unexpected
entry-unlooked f w subspace path digest digest' = refl

-- Where no area is protected, the area itself stands for it.
pub kept-legal : (area : Area) (protected : Option Area) → legal field area.path ≡ true → cond (is_some protected) (legal field (unwrap_or protected area).path) true ≡ true
    → legal field (unwrap_or protected area).path ≡ true
kept-legal area (Some kept) l k = k
kept-legal area None l k = l

-- The same of an area.
module _ (w : Tallied) (area : Area) (protects : Bool) (protected : Area) where
  pub area-refused : (r : Refusal) → refusal_number r ≡ forget_area_refusal field w area protects protected
      → forget_area_outcome (record { refusal = refusal_number r; state = w.store.state; forgotten = 0 }) w.store.spt w.store.spt_dir w.store.tsp w.store.tsp_dir w.tally ≡ area_forgotten field w area protects protected
  unfolding area_forgotten
  area-refused r e = rw (← e, number-some r)

  module _ (z : 0 ≡ forget_area_refusal field w area protects protected) where
    pub area-tested : (tallied_refusal field w true ≡ 0) × (legal field area.path ≡ true) × (cond protects (legal field protected.path) true ≡ true)
    unfolding forget_area_refusal
    area-tested =
        let k = or-none (tallied_refusal field w true) (unless (legal field area.path && cond protects (legal field protected.path) true) 4) (sym z) in
        let l = and-true (legal field area.path) (cond protects (legal field protected.path) true) (unless-none (legal field area.path && cond protects (legal field protected.path) true) 4 (omega arith) k.1) in
        (k.0, l.0, l.1)

    module _ (r : State) (a b c d : List ℕ) (g : store_of r a b c d ≡ store_without field (is_forgotten area protects protected) w.store) where
      area-count : length (keep (is_forgotten area protects protected) (held field Spt w.store)) + r.count ≡ w.store.state.count
      unfolding holding without held_by held tree_of dir_of
      area-count =
          let m : r.count ≡ length (keep (λ (x : Stored). not (is_forgotten area protects protected x)) (held field Spt w.store)) = ap (λ (t : Store). t.state.count) g in
          let f = formed-many ((tallied-passed w true area-tested.0).0.passes.formed Spt) w.store.state.namespace_id in
          omega (arith, keep-both (is_forgotten area protects protected) (held field Spt w.store))

      pub area-left : r.count ≤ w.store.state.count
      area-left = omega (arith, area-count)

      pub area-done : (t : List ℕ) → tallied_of r a b c d t ≡ tallied_without field (is_forgotten area protects protected) w
          → forget_area_outcome (record { refusal = 0; state = r; forgotten = w.store.state.count - r.count }) a b c d t ≡ area_forgotten field w area protects protected
      unfolding area_forgotten
      area-done t q =
          let v : forget_area_refusal field w area protects protected ≡ 0 = sym z in
          let m : w.store.state.count - r.count ≡ length (keep (is_forgotten area protects protected) (held field Spt w.store)) = omega (arith, area-count) in
          rw v (λ i. record { answer = record { refusal = 0; state = (q i).store.state; forgotten = m i }; left = q i })

-- Where no area is protected, none is looked at.
pub area-unlooked : (f : Figures) (w : Tallied) (area protected protected' : Area) → area_forgotten f w area false protected ≡ area_forgotten f w area false protected'
unfolding area_forgotten forget_area_refusal is_forgotten
area-unlooked f w area protected protected' = refl

-- What a change of both trees of a store leaves of it: what a test holds of is gone.
pub left-without : (s : Store) (p : Stored → Bool) → Passed s → (m k : ℕ) (r : State) → r ≡ state_with s.state m → (spt spt_dir tsp tsp_dir : List ℕ)
    → Changed Spt (keep (λ (x : Stored). not (p x)) (in_tree Spt s.state.namespace_id s.state.count (take (dir_room s.state.limit) s.spt_dir) (take (tree_room field s.state.limit) s.spt))) (take (dir_room s.state.limit) s.spt_dir) (take (tree_room field s.state.limit) s.spt) spt_dir spt m
    → Changed Tsp (keep (λ (x : Stored). not (p x)) (in_tree Tsp s.state.namespace_id s.state.count (take (dir_room s.state.limit) s.tsp_dir) (take (tree_room field s.state.limit) s.tsp))) (take (dir_room s.state.limit) s.tsp_dir) (take (tree_room field s.state.limit) s.tsp) tsp_dir tsp k
    → store_of r
    (spt ++ drop (tree_room field s.state.limit) s.spt) (spt_dir ++ drop (dir_room s.state.limit) s.spt_dir)
    (tsp ++ drop (tree_room field s.state.limit) s.tsp) (tsp_dir ++ drop (dir_room s.state.limit) s.tsp_dir)
    ≡ store_without field p s
unfolding without held_by held tree_of dir_of
left-without s p v m k r e spt spt_dir tsp tsp_dir cs ct =
    ap (λ (t : State). store_of t (spt ++ drop (tree_room field s.state.limit) s.spt) (spt_dir ++ drop (dir_room s.state.limit) s.spt_dir) (tsp ++ drop (tree_room field s.state.limit) s.tsp) (tsp_dir ++ drop (dir_room s.state.limit) s.tsp_dir)) e
    ∙ store-holds s (without p (held_by field s)) v.room m k spt spt_dir tsp tsp_dir cs ct

-- The digest of what a record says is 32 bytes long.
pub digest-long : {count : ℕ} {dir tree : List ℕ} → Formed Spt count dir tree → Bytes tree → (ns : List ℕ) (k : ℕ) → k < count → (a : LengthyAuthorisedEntry)
    → stored_of a ≡ stored Spt field ns (record_at k dir tree) → length a.entry.payload_digest ≡ 32
unfolding stored_of entry_of rank_of
digest-long {count} {dir} {tree} v b ns k h a q =
    ap (λ (y : Stored). length y.entry.rank.payload_digest) q
    ∙ (record-forth Spt field ns (record_at k dir tree) (at-bytes k dir tree b) (formed-record v k h)).lawful.digest

-- Where no digest is expected, none is another.
pub unasked-in : (s : Store) (subspace : Subspace) (p : Components) (digest : List ℕ) → any (unexpected subspace p false digest) (held field Spt s) ≡ false
unasked-in s subspace p digest = unasked subspace p digest (held field Spt s)

-- The tally of what is left without what a test holds of: what writing it asks, and that it is then the definition's.
module _ (w : Tallied) (p : Stored → Bool) (v : TalliedPassed w) (spt-bytes : Bytes w.store.spt) (tsp-bytes : Bytes w.store.tsp) (r : State) (a b c d : List ℕ)
    (g : store_of r a b c d ≡ store_without field p w.store) where
  pub without-asks : Ordered Spt r.count (take (dir_room r.limit) b) (take (tree_room field r.limit) a) × (r.count ≤ r.limit) × (r.limit ≤ limit_most)
      × (tree_room field r.limit ≤ length a) × (dir_room r.limit ≤ length b) × (tally_room r.limit ≤ length w.tally)
  without-asks = retally-asks w v (without p (held_by field w.store)) (fit-without field (passed-fit w.store v.passes spt-bytes tsp-bytes) p) r a b c d g

  pub without-tallied : (t : List ℕ) → ((ns : List ℕ) → t ≡ tally_holding r.limit (in_tree Spt ns r.count (take (dir_room r.limit) b) (take (tree_room field r.limit) a)) w.tally)
      → tallied_of r a b c d t ≡ tallied_without field p w
  without-tallied = retallied w v (without p (held_by field w.store)) (fit-without field (passed-fit w.store v.passes spt-bytes tsp-bytes) p) r a b c d g
