-- What an ingestion refuses, decides and answers: the decision by place and number means the definition's, and each way's answer is the
-- definition's. Assumes nothing.
use mathlib.Core.Path.{◌≡◌, refl, sym, ap, ◌∙◌, subst}
use mathlib.Core.Option.{some, none}
use mathlib.Core.List.{List, [], ◌∷◌}
use mathlib.Core.Bool.{Bool, true, false, not, ◌&&◌}
use Prim.Native.Nat.{ℕ, suc, ◌+◌, ◌-◌, ◌≤◌, ◌<◌}
use native.Mathlib.Omega.{arith}
use lib.ListN.{length, take, drop, get_or}
use lib.Seq.{drop-cons}
use lib.Dec.{ltb, leb}
use borrow.Author.Tests.{ltb-true, ltb-false, leb-true, leb-false, lt-ltb, eq-eqb}
use Rattle.laws.specs.First.{first_that}
use Rattle.laws.specs.Prefix.{same_number, same_list}
use Rattle.laws.specs.Sorted.{any, keep}
use Rattle.laws.proofs.Truth.{split, clash}
use Rattle.layout.specs.Layout.{records, record_at}
use Rattle.layout.specs.Marks.{marks_of, first_mark}
use Rattle.layout.proofs.MarkLaws.{length-marks, kept-marks, count-marks, length-kept, first-none}
use Rattle.data_model.specs.Said.{Said, refuses, says}
use Rattle.data_model.specs.Path.{field, legal}
use Rattle.data_model.specs.Refusal.{refusal_number}
use Rattle.data_model.specs.declared.answer.Refusal.{Refusal}
use Rattle.data_model.specs.Entry.{Entry, entry_of}
use Rattle.data_model.specs.declared.entry.Entry.{Entry as EntryValue}
use Rattle.data_model.proofs.Orders.{component-equality}
use Rattle.tree.specs.Stored.{Stored, stored, contents}
use Rattle.tree.specs.Tree.{Formed, InBounds, Ordered}
use Rattle.tree.specs.Matching.{outdates, removes, repeats}
use Rattle.tree.specs.declared.stored.KeyOrder.TheVariants.{Spt}
use Rattle.tree.proofs.FormedLaws.{formed-bounds}
use Rattle.tree.proofs.FormedContents.{formed-many, formed-next}
use Rattle.store.specs.Store.{state_with, Store, dir_room, tree_of, dir_of, held, held_by, holding, tree_room, Tallied}
use Rattle.store.specs.Refusal.{unless, ◌or_else◌, tallied_refusal}
use Rattle.store.specs.Ingest.{succeeds, is-held, IngestSaid, Decision, refuse, obsolete, already, take_it, decided_of, decided, stays, outdated_at, removed_from, place_decided, ingest_refusal, judged, plain_answer, obsolete_answer, filed, filed_in, filing, carried, ingested}
use Rattle.store.specs.Change.{Marked}
use Rattle.store.specs.declared.ingest.Ingestion.{Ingestion}
use Rattle.store.specs.declared.decide.PlaceDecision.{PlaceDecision}
use Rattle.store.specs.declared.decide.PlaceDecision.TheVariants as place
use Rattle.store.proofs.CheckLaws.{or-none, unless-none, Passed, number-some}
use Rattle.store.proofs.TalliedLaws.{TalliedPassed, tallied-passed}
use Rattle.store.proofs.Counted.{insert-length}

-- What is known where nothing of 1 to 6 is refused.
pub record Ready (s : Store) (prune : List ℕ) (e : EntryValue) : Type 0 where
  pub passes : Passed s
  pub pairs : dir_room s.state.limit ≤ length prune
  pub legal_path : legal field e.path ≡ true
  pub namespace : e.namespace_id ≡ s.state.namespace_id

module _ (w : Tallied) (prune : List ℕ) (e : EntryValue) (z : ingest_refusal field w prune e ≡ 0) where
  abbrev room : Bool
  room = leb (dir_room w.store.state.limit) (length prune)

  abbrev same : Bool
  same = same_list same_number e.namespace_id w.store.state.namespace_id

  tests : (tallied_refusal field w room ≡ 0) × ((unless (legal field e.path) 4 or_else unless same 6) ≡ 0)
  unfolding ingest_refusal
  tests = or-none (tallied_refusal field w room) (unless (legal field e.path) 4 or_else unless same 6) z

  pub ready-first : tallied_refusal field w room ≡ 0
  ready-first = tests.0

  pub ready-tallied : TalliedPassed w × (room ≡ true)
  ready-tallied = tallied-passed w room tests.0

  pub ready : Ready w.store prune e
  ready =
      let m = or-none (unless (legal field e.path) 4) (unless same 6) tests.1 in
      record {
        passes = ready-tallied.0.passes;
        pairs = leb-true (dir_room w.store.state.limit) (length prune) ready-tallied.1;
        legal_path = unless-none (legal field e.path) 4 (omega arith) m.0;
        namespace = component-equality.equal e.namespace_id w.store.state.namespace_id (unless-none same 6 (omega arith) m.1);
      }

-- The first that a test holds of, by its mark; and how many it holds of.
module _ {A : Type 0} (p : A → Bool) where
  pub first_absent : (l : List A) → any p l ≡ false → first_that p l ≡ none
  unfolding first_that any
  first_absent [] e = refl
  first_absent (a ∷ l) e = split (p a) (λ q. clash {b = true} refl (rw q at e)) (λ q. rw q (first_absent l (rw q at e)))

  pub first-there : (l : List A) → any p l ≡ true → (x : A) × (first_that p l ≡ some x)
  unfolding first_that any
  first-there [] e = clash e refl
  first-there (a ∷ l) e = split (p a) (λ q. (a, rw q)) (λ q. let k = first-there l (rw q at e) in (k.0, rw q k.1))

  pub first-at : (l : List A) (d : A) → first_mark (marks_of p l) < length l → first_that p l ≡ some (get_or l (first_mark (marks_of p l)) d)
  unfolding first_that
  first-at [] d h = absurd (omega arith)
  first-at (a ∷ l) d h =
      let i = first-at l d in
      split (p a)
      (λ q. rw q)
      (λ q. let w : suc (first_mark (marks_of p l)) < suc (length l) = rw q at h in rw q (i (omega arith)))

  any-number : (l : List A) → any p l ≡ ltb 0 (length (keep p l))
  unfolding any keep
  any-number [] = refl
  any-number (a ∷ l) = let i = any-number l in split (p a) (λ q. rw q (sym (lt-ltb 0 (suc (length (keep p l))) (omega arith)))) (λ q. rw q i)

  left-number : (l : List A) → length (keep (λ (a : A). not (p a)) l) + length (keep p l) ≡ length l
  left-number l = rw (← kept-marks p l, ← count-marks p l) (length-kept (marks_of p l) l (length-marks p l))

-- What a decision by place means.
unfoldable meant : List Stored → Stored → Said PlaceDecision → Decision
meant l x (refuses k) = refuse k
meant l x (says (place.Old k)) = obsolete (get_or l k x)
meant l x (says place.Already) = already
meant l x (says (place.Take n)) = take_it

module _ (limit : ℕ) (l : List Stored) (e : Entry) (prevent : Bool) where
  stay-number : length (keep (stays e) l) ≡ length l - removed_from l e
  stay-number = omega (arith, left-number (removes e) l)

  place-meant : (x : Stored) → meant l x (place_decided limit l e prevent) ≡ decided limit l e prevent
  unfolding meant place_decided decided decided_of
  place-meant x = split (ltb (outdated_at l e) (length l))
      (λ q. rw (q, first-at (outdates e) l x (ltb-true (outdated_at l e) (length l) q)))
      (λ q. rw (q, first_absent (outdates e) l (first-none (outdates e) l (ltb-false (outdated_at l e) (length l) q)), any-number (removes e) l, stay-number)
      (split (any (repeats e) l)
      (λ a. rw a)
      (λ a. rw a (split (prevent && ltb 0 (removed_from l e))
      (λ r. rw r)
      (λ r. rw r (split (leb limit (length l - removed_from l e)) (λ t. rw t) (λ t. rw t)))))))

  pub place-old : (k : ℕ) → place_decided limit l e prevent ≡ says (place.Old k) → k < length l
  unfolding place_decided
  place-old k d = split (ltb (outdated_at l e) (length l))
      (λ q.
      let w : says (place.Old (outdated_at l e)) ≡ says (place.Old k) = rw q at d in
      let g : outdated_at l e ≡ k = cc in
      let h = ltb-true (outdated_at l e) (length l) q in
      omega arith)
      (λ q. split (any (repeats e) l)
      (λ a. absurd (let w : says place.Already ≡ says (place.Old k) = rw (q, a) at d in let z : ◌≡◌ {A = ℕ} 0 1 = cc in omega arith))
      (λ a. split (prevent && ltb 0 (removed_from l e))
      (λ r. absurd (let w : refuses 7 ≡ says (place.Old k) = rw (q, a, r) at d in let z : ◌≡◌ {A = ℕ} 0 1 = cc in omega arith))
      (λ r. split (leb limit (length l - removed_from l e))
      (λ t. absurd (let w : refuses 8 ≡ says (place.Old k) = rw (q, a, r, t) at d in let z : ◌≡◌ {A = ℕ} 0 1 = cc in omega arith))
      (λ t. absurd (let w : says (place.Take (removed_from l e)) ≡ says (place.Old k) = rw (q, a, r, t) at d in let z : ◌≡◌ {A = ℕ} 0 1 = cc in omega arith)))))

  pub place-take : (n : ℕ) → place_decided limit l e prevent ≡ says (place.Take n) → (removed_from l e ≡ n) × (length l - n < limit)
  unfolding place_decided
  place-take n d = split (ltb (outdated_at l e) (length l))
      (λ q. absurd (let w : says (place.Old (outdated_at l e)) ≡ says (place.Take n) = rw q at d in let z : ◌≡◌ {A = ℕ} 0 1 = cc in omega arith))
      (λ q. split (any (repeats e) l)
      (λ a. absurd (let w : says place.Already ≡ says (place.Take n) = rw (q, a) at d in let z : ◌≡◌ {A = ℕ} 0 1 = cc in omega arith))
      (λ a. split (prevent && ltb 0 (removed_from l e))
      (λ r. absurd (let w : refuses 7 ≡ says (place.Take n) = rw (q, a, r) at d in let z : ◌≡◌ {A = ℕ} 0 1 = cc in omega arith))
      (λ r. split (leb limit (length l - removed_from l e))
      (λ t. absurd (let w : refuses 8 ≡ says (place.Take n) = rw (q, a, r, t) at d in let z : ◌≡◌ {A = ℕ} 0 1 = cc in omega arith))
      (λ t.
      let w : says (place.Take (removed_from l e)) ≡ says (place.Take n) = rw (q, a, r, t) at d in
      let g : removed_from l e ≡ n = cc in
      let h = leb-false limit (length l - removed_from l e) t in
      (g, omega arith)))))

-- What stands at a place of a tree that was tested.
pub stands_at_lem : {count : ℕ} {dir tree : List ℕ} (v : Formed Spt count dir tree) (ns : List ℕ) (k : ℕ) → k < count → (x : Stored)
    → get_or (contents Spt field ns (records count dir tree)) k x ≡ stored Spt field ns (record_at k dir tree)
stands_at_lem {count} {dir} {tree} v ns k h x =
    let l = contents Spt field ns (records count dir tree) in
    let e : get_or l k x ∷ drop (suc k) l ≡ stored Spt field ns (record_at k dir tree) ∷ drop (k + 1) l = sym (drop-cons l k x (omega (arith, formed-many v ns))) ∙ formed-next v ns k h in
    cc

-- The subspace-first tree and its directory in their room.
abbrev pub spt_in : Store → List ℕ
spt_in s = take (tree_room field s.state.limit) s.spt

abbrev pub spt_dir_in : Store → List ℕ
spt_dir_in s = take (dir_room s.state.limit) s.spt_dir

abbrev pub in_spt : Store → List Stored
in_spt s = contents Spt field s.state.namespace_id (records s.state.count (spt_dir_in s) (spt_in s))

pub ready-ordered : (s : Store) (prune : List ℕ) (e : EntryValue) → Ready s prune e → Ordered Spt s.state.count (spt_dir_in s) (spt_in s)
unfolding dir_of tree_of
ready-ordered s prune e v = v.passes.ordered Spt

pub ready-formed : (s : Store) (prune : List ℕ) (e : EntryValue) → Ready s prune e → Formed Spt s.state.count (spt_dir_in s) (spt_in s)
unfolding dir_of tree_of
ready-formed s prune e v = v.passes.formed Spt

-- What is decided in a tree of the entry's namespace is decided in the store's.
pub decided-own : (s : Store) (prune : List ℕ) (e : EntryValue) (prevent : Bool) → Ready s prune e → (d : Said PlaceDecision)
    → d ≡ place_decided s.state.limit (contents Spt field e.namespace_id (records s.state.count (spt_dir_in s) (spt_in s))) (entry_of e) prevent
    → d ≡ place_decided s.state.limit (in_spt s) (entry_of e) prevent
decided-own s prune e prevent v d q = q ∙ ap (λ (ns : List ℕ). place_decided s.state.limit (contents Spt field ns (records s.state.count (spt_dir_in s) (spt_in s))) (entry_of e) prevent) v.namespace

-- What is marked in a tree of the entry's namespace is marked in the store's.
pub marked-own : (s : Store) (prune : List ℕ) (e : EntryValue) → Ready s prune e → (marks : List ℕ)
    → Marked (removes (entry_of e)) (contents Spt field e.namespace_id (records s.state.count (spt_dir_in s) (spt_in s))) marks → Marked (removes (entry_of e)) (held field Spt s) marks
unfolding held tree_of dir_of
marked-own s prune e v marks m = subst (λ (ns : List ℕ). Marked (removes (entry_of e)) (contents Spt field ns (records s.state.count (spt_dir_in s) (spt_in s))) marks) v.namespace m

-- The answers.
module _ (w : Tallied) (prune : List ℕ) (i : Ingestion) where
  abbrev s : Store
  s = w.store

  pub answers-refused : (k : Refusal) → refusal_number k ≡ ingest_refusal field w prune i.entry → (r : IngestSaid) → r ≡ plain_answer (refuses (refusal_number k)) s.state → r ≡ (ingested field w prune i).answer
  unfolding ingested judged carried
  answers-refused k q r er = rw (er, ← q, number-some k)

  module _ (z : ingest_refusal field w prune i.entry ≡ 0) (d : Said PlaceDecision) (ed : d ≡ place_decided s.state.limit (in_spt s) (entry_of i.entry) i.prevent_pruning) where
    formed : Formed Spt s.state.count (spt_dir_in s) (spt_in s)
    formed = ready-formed s prune i.entry (ready w prune i.entry z)

    judged-place : (x : Stored) → judged field w prune i.entry i.prevent_pruning ≡ meant (in_spt s) x d
    unfolding judged held tree_of dir_of
    judged-place x = rw (eq-eqb (ingest_refusal field w prune i.entry) 0 z) (sym (place-meant s.state.limit (in_spt s) (entry_of i.entry) i.prevent_pruning x) ∙ ap (meant (in_spt s) x) (sym ed))

    answers : (x : Stored) → (ingested field w prune i).answer ≡ (carried field w prune (filing i) (meant (in_spt s) x d)).answer
    unfolding ingested
    answers x = ap (λ (j : Decision). (carried field w prune (filing i) j).answer) (judged-place x)

    pub answers-late : (k : ℕ) → d ≡ refuses k → (r : IngestSaid) → r ≡ plain_answer (refuses k) s.state → r ≡ (ingested field w prune i).answer
    unfolding meant carried
    answers-late k q r er =
        let x = stored Spt field s.state.namespace_id [] in
        er ∙ sym (answers x ∙ ap (λ (j : Said PlaceDecision). (carried field w prune (filing i) (meant (in_spt s) x j)).answer) q)

    pub answers-already : d ≡ says place.Already → (r : IngestSaid) → r ≡ plain_answer (says is-held) s.state → r ≡ (ingested field w prune i).answer
    unfolding meant carried
    answers-already q r er =
        let x = stored Spt field s.state.namespace_id [] in
        er ∙ sym (answers x ∙ ap (λ (j : Said PlaceDecision). (carried field w prune (filing i) (meant (in_spt s) x j)).answer) q)

    pub old-bounds : (k : ℕ) → d ≡ says (place.Old k) → InBounds k (spt_dir_in s) (spt_in s)
    old-bounds k q = formed-bounds formed k (omega (arith, place-old s.state.limit (in_spt s) (entry_of i.entry) i.prevent_pruning k (sym ed ∙ q), formed-many formed s.state.namespace_id))

    pub answers-old : (k : ℕ) → d ≡ says (place.Old k) → (r : IngestSaid) → r ≡ obsolete_answer s.state (stored Spt field s.state.namespace_id (record_at k (spt_dir_in s) (spt_in s)))
        → r ≡ (ingested field w prune i).answer
    unfolding meant carried
    answers-old k q r er =
        let x = stored Spt field s.state.namespace_id (record_at k (spt_dir_in s) (spt_in s)) in
        let h = place-old s.state.limit (in_spt s) (entry_of i.entry) i.prevent_pruning k (sym ed ∙ q) in
        let g = stands_at_lem formed s.state.namespace_id k (omega (arith, formed-many formed s.state.namespace_id)) x in
        er ∙ ap (obsolete_answer s.state) (sym g) ∙ sym (answers x ∙ ap (λ (j : Said PlaceDecision). (carried field w prune (filing i) (meant (in_spt s) x j)).answer) q)

    pub take-fits : (n : ℕ) → d ≡ says (place.Take n) → (n ≤ s.state.count) × (s.state.count - n < s.state.limit)
    take-fits n q =
        let k = place-take s.state.limit (in_spt s) (entry_of i.entry) i.prevent_pruning n (sym ed ∙ q) in
        let a = k.0 in
        let b = k.1 in
        let m = formed-many formed s.state.namespace_id in
        (omega (arith, left-number (removes (entry_of i.entry)) (in_spt s)), omega arith)

    pub answers-take : (n : ℕ) → d ≡ says (place.Take n) → (r : IngestSaid) → r ≡ plain_answer (says (succeeds n)) (state_with s.state (s.state.count - n + 1))
        → r ≡ (ingested field w prune i).answer
    unfolding meant carried holding filed filed_in held_by held tree_of dir_of
    answers-take n q r er =
        let x = stored Spt field s.state.namespace_id [] in
        let k = place-take s.state.limit (in_spt s) (entry_of i.entry) i.prevent_pruning n (sym ed ∙ q) in
        let a = k.0 in
        let m = formed-many formed s.state.namespace_id in
        let c : s.state.count - n + 1 ≡ length (filed_in Spt (filing i) (in_spt s)) =
        omega (arith, stay-number s.state.limit (in_spt s) (entry_of i.entry) i.prevent_pruning, files-length (filing i) (in_spt s)) in
        er
        ∙ ap (λ (j : ℕ). plain_answer (says (succeeds n)) (state_with s.state j)) c
        ∙ ap (λ (j : ℕ). plain_answer (says (succeeds j)) (state_with s.state (length (filed_in Spt (filing i) (in_spt s))))) (sym a)
        ∙ sym (answers x ∙ ap (λ (j : Said PlaceDecision). (carried field w prune (filing i) (meant (in_spt s) x j)).answer) q)
      where
        files-length : (y : Stored) (l : List Stored) → length (filed_in Spt y l) ≡ suc (length (keep (stays y.entry) l))
        files-length y l = unfold filed_in in insert-length _ y (keep (stays y.entry) l)
