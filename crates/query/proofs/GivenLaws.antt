-- The record that a step of a listing gives: that it is the least that qualifies, where it lies, and what the calls tell of it. Assumes nothing.
use Prim.Native.Nat.{ℕ, zero, suc, ◌+◌, ◌-◌, ◌≤◌, ◌<◌}
use mathlib.Core.Path.{◌≡◌, refl, sym, ap, subst, ◌∙◌}
use mathlib.Core.List.{List, [], ◌∷◌}
use mathlib.Core.Bool.{Bool, true, false}
use mathlib.Core.Option.{Option, some, none}
use native.Mathlib.Omega.{arith}
use lib.ListN.{length, take, drop, length-drop}
use lib.Seq.{take-take, length-take-le}
use lib.Dec.{eqb}
use borrow.Author.Tests.{lt-ltb, le-ltb, eqb-true, eqb-false, eq-eqb}
use Rattle.laws.specs.Sorted.{◌∈◌}
use Rattle.laws.proofs.Truth.{split, clash}
use Rattle.laws.proofs.First.{LeastIs, least-is}
use Rattle.layout.specs.Layout.{record_at, offset_at, length_at}
use Rattle.layout.proofs.LaidLaws.{records-get}
use Rattle.data_model.specs.Said.{Said, refuses, says, number_of}
use Rattle.data_model.specs.Path.{field}
use Rattle.tree.specs.Stored.{Stored, key_of, key_below, is_record}
use Rattle.tree.specs.Tree.{keys_below}
use Rattle.tree.specs.Value.{value_length}
use Rattle.tree.specs.declared.stored.KeyOrder.TheVariants.{Spt}
use Rattle.tree.proofs.FormedLaws.{formed-count, formed-record, record-long}
use Rattle.tree.proofs.SearchLaws.{key-place}
use Rattle.store.specs.Store.{Store, tree_room, tree_of, dir_of}
use Rattle.store.proofs.CheckLaws.{Passed}
use Rattle.query.specs.Reading.{list_refusal}
use Rattle.query.specs.Listing.{spt_records, qualifies, step_in, step, listed, part_of, offset_of, step_told, place_among, step_at}
use Rattle.query.specs.Listing.{ListingStep, part_told}
use Rattle.query.specs.declared.answer.Part.{Part}
use Rattle.std.specs.Prelude.{Some, None, Ok, Err}
use Rattle.data_model.specs.Refusal.{refusal_number}
use Rattle.data_model.specs.declared.answer.Refusal.{Refusal}
use Rattle.query.proofs.Tested.{list-tested}
use Rattle.store.proofs.CheckLaws.{number-some}
use Rattle.query.proofs.StepLaws.{key-weak}

-- A part of a beginning is a part of the whole.
cut-take : (n o t : ℕ) (l : List ℕ) → o + n ≤ t → take n (drop o (take t l)) ≡ take n (drop o l)
cut-take n zero t l h = take-take n t l (omega arith)
cut-take n (suc o) zero l h = absurd (omega arith)
cut-take n (suc o) (suc t) [] h = refl
cut-take n (suc o) (suc t) (x ∷ l) h = cut-take n o t l (omega arith)

-- A record of a store that was tested: its place, its length, and its bytes in the tree.
module _ (s : Store) (p : Passed s) (r : List ℕ) (m : r ∈ spt_records field s) where
  abbrev place : ℕ
  place = keys_below (key_of r) (spt_records field s)

  pub place-few : place < s.state.count
  place-few =
      let h = (key-place (key_of r) (spt_records field s) (p.ordered Spt).ascends place refl m refl).0 in
      let n = formed-count (p.formed Spt) in
      omega arith

  record_is : record_at place (dir_of Spt s) (tree_of field Spt s) ≡ r
  record_is =
      sym (records-get s.state.count place (dir_of Spt s) (tree_of field Spt s) (p.formed Spt).few place-few)
      ∙ (key-place (key_of r) (spt_records field s) (p.ordered Spt).ascends place refl m refl).1

  size_is : length_at place (dir_of Spt s) ≡ length r
  size_is =
      let i = (p.formed Spt).inside place place-few in
      let d = length-drop (offset_at place (dir_of Spt s)) (tree_of field Spt s) in
      sym (length-take-le (length_at place (dir_of Spt s)) (drop (offset_at place (dir_of Spt s)) (tree_of field Spt s)) (omega arith)) ∙ ap length record_is

  pub given_inside : offset_at place (dir_of Spt s) + length r ≤ tree_room field s.state.limit
  unfolding tree_of
  given_inside =
      let i = (p.formed Spt).inside place place-few in
      let t = length-take-le (tree_room field s.state.limit) s.spt p.room.spt in
      let n = size_is in
      omega arith

  pub given-bytes : take (length r) (drop (offset_at place (dir_of Spt s)) s.spt) ≡ r
  given-bytes =
      sym (cut-take (length r) (offset_at place (dir_of Spt s)) (tree_room field s.state.limit) s.spt given_inside)
      ∙ ap (λ (n : ℕ). take n (drop (offset_at place (dir_of Spt s)) (take (tree_room field s.state.limit) s.spt))) (sym size_is)
      ∙ (unfold tree_of in record_is)

  pub given-long : value_length ≤ length r
  given-long = let e = record_is in record-long Spt field r (subst (λ x. is_record Spt field x ≡ true) e (formed-record (p.formed Spt) place place-few))

-- The step of a place, by its pair.
module _ (count : ℕ) (dir : List ℕ) (k : ℕ) where
  pub at_record : k < count → (o n : ℕ) → o ≡ offset_at k dir → n ≡ length_at k dir → record { refusal = 0; found = true; offset = o; length = n } ≡ step_at count dir k
  unfolding step_at
  at_record h o n eo en = rw (lt-ltb k count h, eo, en) refl

  pub at_none : count ≤ k → record { refusal = 0; found = false; offset = 0; length = 0 } ≡ step_at count dir k
  unfolding step_at
  at_none h = rw (le-ltb k count h) refl

-- What is shorter than a value has no key.
pub key-short : (r : List ℕ) → length r < value_length → [] ≡ key_of r
key-short r h = let z : length r - value_length ≡ 0 = omega arith in ap (λ (n : ℕ). take n r) (sym z)

-- A step on a store that was tested.
module _ (s : Store) (p : Passed s) (test : Stored → Bool) (last : List ℕ) where
  pub step_is : LeastIs key_below (qualifies field s.state.namespace_id test last) (spt_records field s) (step field s test last)
  unfolding step_in
  step_is = least-is key_below key-weak (qualifies field s.state.namespace_id test last) (spt_records field s)

  -- By the place that the inner functions found.
  step-told : (o : Option (List ℕ)) → LeastIs key_below (qualifies field s.state.namespace_id test last) (spt_records field s) o
      → (k : ℕ) → k ≡ place_among (spt_records field s) o → step_at s.state.count (dir_of Spt s) k ≡ step_told field s (says o)
  unfolding place_among step_at number_of
  step-told none v k e =
      let n = formed-count (p.formed Spt) in
      rw (le-ltb k s.state.count (omega arith)) refl
  step-told (some r) v k e =
      let h = place-few s p r v.among in
      rw (e, lt-ltb (keys_below (key_of r) (spt_records field s)) s.state.count h)
      (ap (λ (n : ℕ). record { refusal = 0; found = true; offset = offset_at (keys_below (key_of r) (spt_records field s)) (dir_of Spt s); length = n }) (size_is s p r v.among))

  pub step-at : (k : ℕ) → k ≡ place_among (spt_records field s) (step field s test last) → step_at s.state.count (dir_of Spt s) k ≡ step_told field s (says (step field s test last))
  step-at = step-told (step field s test last) step_is

-- A step by its tests.
module _ (s : Store) (b : Bool) (test : Stored → Bool) (last : List ℕ) where
  pub step_refused : (r : Refusal) → refusal_number r ≡ list_refusal field s b last
      → record { refusal = refusal_number r; found = false; offset = 0; length = 0 } ≡ step_told field s (listed field s (list_refusal field s b last) test last)
  unfolding listed number_of
  step_refused r e = rw (← e, number-some r) refl

  pub step_given : 0 ≡ list_refusal field s b last → (k : ℕ) → k ≡ place_among (spt_records field s) (step field s test last) → (r : ListingStep) → r ≡ step_at s.state.count (dir_of Spt s) k
      → r ≡ step_told field s (listed field s (list_refusal field s b last) test last)
  unfolding listed
  step_given z k ek r er = er ∙ step-at s (list-tested s b last (sym z)).0 test last k ek ∙ ap (step_told field s) (rw (← z) refl)

-- What is answered, refused or not.
module _ (s : Store) (b : Bool) (test : Stored → Bool) (last : List ℕ) where
  abbrev answer : Said (Option (List ℕ))
  answer = listed field s (list_refusal field s b last) test last

  -- A record was answered, so nothing was refused, and it is the least that qualifies.
  pub answered : (o : Option (List ℕ)) → answer ≡ says o → Passed s × (b ≡ true) × LeastIs key_below (qualifies field s.state.namespace_id test last) (spt_records field s) o
  unfolding listed
  answered o e = split (eqb (list_refusal field s b last) 0)
      (λ q.
      let k = list-tested s b last (eqb-true (list_refusal field s b last) 0 q) in
      let w : says (step field s test last) ≡ says o = rw q at e in
      let g : step field s test last ≡ o = cc in
      (k.0, k.1, subst (LeastIs key_below (qualifies field s.state.namespace_id test last) (spt_records field s)) g (step_is s k.0 test last)))
      (λ q. absurd (let w : refuses (list_refusal field s b last) ≡ says o = rw q at e in let z : ◌≡◌ {A = ℕ} 0 1 = cc in omega arith))

  -- Where it lies in the tree that was lent.
  lies : (a : Said (Option (List ℕ))) → answer ≡ a → (offset_of field s a + length (part_of a) ≤ length s.spt) × (take (length (part_of a)) (drop (offset_of field s a) s.spt) ≡ part_of a)
  lies (says (some r)) e =
      let k = answered (some r) e in
      let i = given_inside s k.0 r k.2.among in
      (omega (arith, i, k.0.room.spt), given-bytes s k.0 r k.2.among)
  lies (says none) e = (omega arith, refl)
  lies (refuses n) e = (omega arith, refl)

  pub part_inside : (p : Part) → part_told (Ok (Some p)) ≡ step_told field s answer → p.offset + p.length ≤ length s.spt
  part_inside p e = let l = (lies answer refl).0 in let o = ap (λ (t : ListingStep). t.offset) e in let n = ap (λ (t : ListingStep). t.length) e in omega arith

  -- What is told of a step gives the answer itself.
  refused-not-0 : (n : ℕ) → answer ≡ refuses n → n ≡ 0 → ⊥
  unfolding listed
  refused-not-0 n e z = split (eqb (list_refusal field s b last) 0)
      (λ q. let w : says (step field s test last) ≡ refuses n = rw q at e in let y : ◌≡◌ {A = ℕ} 0 1 = cc in omega arith)
      (λ q. let w : refuses (list_refusal field s b last) ≡ refuses n = rw q at e in let g : list_refusal field s b last ≡ n = cc in eqb-false (list_refusal field s b last) 0 q (g ∙ z))

  numbered : {G : Type 0} (r : Refusal) → refusal_number r ≡ 0 → G
  numbered r e = clash (eq-eqb (refusal_number r) 0 e) (number-some r)

  told-refused : (r : Refusal) (a : Said (Option (List ℕ))) → part_told (Err r) ≡ step_told field s a → refuses (refusal_number r) ≡ a
  unfolding number_of
  told-refused r (says (some x)) q = numbered r (ap (λ (t : ListingStep). t.refusal) q)
  told-refused r (says none) q = numbered r (ap (λ (t : ListingStep). t.refusal) q)
  told-refused r (refuses n) q = ap (λ (t : ListingStep). refuses t.refusal) q

  pub given_refused : (r : Refusal) → part_told (Err r) ≡ step_told field s answer → refuses (refusal_number r) ≡ answer
  given_refused r = told-refused r answer

  told-none : (a : Said (Option (List ℕ))) → ((n : ℕ) → a ≡ refuses n → n ≡ 0 → ⊥) → part_told (Ok None) ≡ step_told field s a → says none ≡ a
  unfolding number_of
  told-none (says (some x)) h q = clash (ap (λ (t : ListingStep). t.found) q) refl
  told-none (says none) h q = refl
  told-none (refuses n) h q = absurd (h n refl (sym (ap (λ (t : ListingStep). t.refusal) q)))

  pub given_none : part_told (Ok None) ≡ step_told field s answer → says none ≡ answer
  given_none = told-none answer refused-not-0

  told-some : (a : Said (Option (List ℕ))) → answer ≡ a → (p : Part) → part_told (Ok (Some p)) ≡ step_told field s a → says (some (take p.length (drop p.offset s.spt))) ≡ a
  told-some (says (some x)) e p q =
      let o : p.offset ≡ offset_of field s (says (some x)) = ap (λ (t : ListingStep). t.offset) q in
      let n : p.length ≡ length x = ap (λ (t : ListingStep). t.length) q in
      rw (o, n, (lies (says (some x)) e).1) refl
  told-some (says none) e p q = clash (ap (λ (t : ListingStep). t.found) (sym q)) refl
  told-some (refuses n) e p q = clash (ap (λ (t : ListingStep). t.found) (sym q)) refl

  pub given_some : (p : Part) → part_told (Ok (Some p)) ≡ step_told field s answer → says (some (take p.length (drop p.offset s.spt))) ≡ answer
  given_some = told-some answer refl

-- The number of what a step answers is the refusal, 0 for none.
pub listed-number : (s : Store) (refusal : ℕ) (test : Stored → Bool) (last : List ℕ) → number_of (listed field s refusal test last) ≡ refusal
unfolding listed number_of
listed-number s refusal test last = split (eqb refusal 0) (λ q. rw q (sym (eqb-true refusal 0 q))) (λ q. rw q)
