-- What marks say of the list that they were made for, and what `decide` answers by them. Assumes nothing.
use mathlib.Core.Path.{◌≡◌, refl, sym, ap, ◌∙◌}
use mathlib.Core.List.{List, ◌++◌}
use mathlib.Core.Bool.{Bool, true, false, ◌&&◌}
use Prim.Native.Nat.{ℕ, ◌+◌, ◌-◌, ◌≤◌, ◌<◌}
use native.Mathlib.Omega.{arith}
use native.Mathlib.Nat.{zero-add}
use lib.ListN.{length, take, drop}
use lib.Seq.{take_at, drop_at, length-take-le}
use lib.Dec.{ltb}
use borrow.Author.Tests.{lt-ltb, le-ltb, le-leb, lt-leb}
use Rattle.laws.specs.Lists.{put}
use Rattle.laws.specs.Sorted.{any, keep}
use Rattle.layout.specs.Layout.{records}
use Rattle.layout.specs.Marks.{marks_of, first_mark, count_marks}
use Rattle.layout.proofs.MarkLaws.{length-marks, count-marks, count_most}
use Rattle.data_model.specs.Path.{field}
use Rattle.data_model.specs.Entry.{Entry}
use Rattle.tree.specs.Stored.{Stored, contents, lengthy}
use Rattle.tree.specs.Tree.{Formed}
use Rattle.tree.specs.Matching.{outdates, removes, repeats}
use Rattle.tree.specs.declared.stored.KeyOrder.{KeyOrder}
use Rattle.tree.specs.declared.stored.LengthyAuthorisedEntry.{LengthyAuthorisedEntry}
use Rattle.tree.proofs.FormedContents.{formed-many}
use Rattle.data_model.specs.Refusal.{pruning_prevented, full}
use Rattle.data_model.specs.Said.{refuses, says}
use Rattle.store.specs.Ingest.{place_decided, removed_from, outdated_at, is-obsolete, obsolete_answer}
use Rattle.store.specs.declared.state.State.{State}
use Rattle.store.specs.declared.decide.PlaceDecision.TheVariants as place

-- The marks of a list at the front of a buffer.
module _ {A : Type 0} (p : A → Bool) (l : List A) (n : ℕ) (many : length l ≡ n) (marks old : List ℕ) (e : marks ≡ put (marks_of p l) old) where
  pub marks-front : take n marks ≡ marks_of p l
  unfolding put
  marks-front = ap (take n) e ∙ take_at (marks_of p l) (drop (length (marks_of p l)) old) n (length-marks p l ∙ many)

  pub marks-first : (k : ℕ) → k ≡ 0 + first_mark (drop 0 (take n marks)) → k ≡ first_mark (marks_of p l)
  marks-first k q = q ∙ zero-add (first_mark (take n marks)) ∙ ap first_mark marks-front

  pub marks-number : (k : ℕ) → k ≡ count_marks (take n marks) → k ≡ length (keep p l)
  marks-number k q = q ∙ ap count_marks marks-front ∙ count-marks p l

-- What was written at the front of a buffer is what it begins with.
pub marked_by : (front marks old : List ℕ) → marks ≡ put front old → marks ≡ put front marks
unfolding put
marked_by front marks old e = e ∙ ap (λ (rest : List ℕ). front ++ rest) (sym (ap (drop (length front)) e ∙ drop_at front (drop (length front) old) (length front) refl))

pub marks-few : (n : ℕ) (marks : List ℕ) → n ≤ length marks → count_marks (take n marks) ≤ n
marks-few n marks h = omega (arith, count_most (take n marks), length-take-le n marks h)

-- The decision, by the first mark of what outdates an entry and the number of marks of what it removes.
module _ {o : KeyOrder} {count : ℕ} {dir tree : List ℕ} (v : Formed o count dir tree) (ns : List ℕ) (limit : ℕ) (e : Entry) (prevent : Bool) where
  abbrev all : List Stored
  all = contents o field ns (records count dir tree)

  module _ (marks old : List ℕ) (em : marks ≡ put (marks_of (outdates e) all) old) (k : ℕ) (ek : k ≡ 0 + first_mark (drop 0 (take count marks))) where
    at_first : k ≡ outdated_at all e
    at_first = marks-first (outdates e) all count (formed-many v ns) marks old em k ek

    pub decided-old : k < count → says (place.Old k) ≡ place_decided limit all e prevent
    unfolding place_decided
    decided-old h = rw (← at_first, lt-ltb k (length all) (omega (arith, formed-many v ns)))

    none : count ≤ k → ltb (outdated_at all e) (length all) ≡ false
    none h = le-ltb (outdated_at all e) (length all) (omega (arith, at_first, formed-many v ns))

    pub decided-already : count ≤ k → any (repeats e) all ≡ true → says place.Already ≡ place_decided limit all e prevent
    unfolding place_decided
    decided-already h a = rw (none h, a)

    module _ (h : count ≤ k) (a : any (repeats e) all ≡ false) (removed old₂ : List ℕ) (er : removed ≡ put (marks_of (removes e) all) old₂) (n : ℕ) (en : n ≡ count_marks (take count removed)) where
      number : removed_from all e ≡ n
      number = sym (marks-number (removes e) all count (formed-many v ns) removed old₂ er n en)

      pub decided-prevented : (prevent && ltb 0 n) ≡ true → refuses pruning_prevented ≡ place_decided limit all e prevent
      unfolding place_decided
      decided-prevented q = rw (none h, a, number, q)

      pub decided-full : (prevent && ltb 0 n) ≡ false → limit ≤ count - n → refuses full ≡ place_decided limit all e prevent
      unfolding place_decided
      decided-full q g = rw (none h, a, number, q, formed-many v ns, le-leb limit (count - n) g)

      pub decided-take : (prevent && ltb 0 n) ≡ false → count - n < limit → says (place.Take n) ≡ place_decided limit all e prevent
      unfolding place_decided
      decided-take q g = rw (none h, a, number, q, formed-many v ns, lt-leb limit (count - n) g)

-- The same on the values of an answer: the newer entry and its token are those of what is stored.
pub shown : (s : State) (x : Stored) (a : LengthyAuthorisedEntry) → a ≡ lengthy x
    → record { verdict = says is-obsolete; state = s; newer = a.entry; token = a.token } ≡ obsolete_answer s x
unfolding lengthy
shown s x a e = ap (λ (b : LengthyAuthorisedEntry). record { verdict = says is-obsolete; state = s; newer = b.entry; token = b.token }) e
