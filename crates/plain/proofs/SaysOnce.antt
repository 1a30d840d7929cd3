-- No two answers say the same number and values, so that a contract on what an answer says settles the answer. Assumes nothing.
use Prim.Native.Nat.{ℕ}
use mathlib.Core.Path.{◌≡◌, refl, sym, ap, ◌∙◌}
use mathlib.Core.List.{List}
use Rattle.std.specs.Prelude.{cond, eqb, Option, Some, None, Result, Ok, Err}
use Rattle.std.specs.declared.cmp.Ordering.{Ordering}
use Rattle.std.specs.declared.cmp.Ordering.TheVariants as ordering
use Rattle.laws.specs.Order.{Order, less, same, greater}
use Rattle.data_model.specs.Said.{Said, refuses, says}
use Rattle.data_model.specs.Refusal.{refusal_number, said, said_by, refused_with, ordering_says, recency_says}
use Rattle.data_model.specs.declared.answer.Refusal.{Refusal}
use Rattle.data_model.specs.declared.answer.Refusal.TheVariants as refusal
use Rattle.data_model.specs.declared.answer.Recency.{Recency}
use Rattle.data_model.specs.declared.answer.Recency.TheVariants as recency
use Rattle.data_model.specs.declared.range_3d.Range3d.{Range3d}
use Rattle.keys.specs.Decode.{Symbol, byte, component_mark, path_mark, token_says, Step, component, end_of_path, StepRead, component_says}
use Rattle.keys.specs.declared.token.Token.{Token}
use Rattle.keys.specs.declared.token.Token.TheVariants as token
use Rattle.keys.specs.declared.decode.Next.{Next}
use Rattle.keys.specs.declared.decode.Next.TheVariants as next
use Rattle.tree.specs.declared.stored.LengthyAuthorisedEntry.{LengthyAuthorisedEntry}
use Rattle.store.specs.Open.{OpenSaid, opened_says}
use Rattle.store.specs.Ingest.{Verdict, succeeds, is-obsolete, is-held, IngestSaid, ingested_says}
use Rattle.store.specs.Forget.{EntryForgottenSaid, entry_forgotten_says, AreaForgottenSaid, area_forgotten_says}
use Rattle.store.specs.declared.state.State.{State}
use Rattle.store.specs.declared.ingest.Ingested.{Ingested}
use Rattle.store.specs.declared.ingest.Ingested.TheVariants as ingest
use Rattle.store.specs.declared.forget.AreaForgotten.{AreaForgotten}
use Rattle.query.specs.Lookup.{EntryFound, entry_told}
use Rattle.query.specs.Listing.{ListingStep, part_told}
use Rattle.query.specs.Count.{Counted, count_told}
use Rattle.query.specs.Interest.{InterestRange, range_told}
use Rattle.query.specs.declared.answer.Part.{Part}

-- Of what is said the case can be told.
once : {A B : Type 0} (f : A → B) (g : B → A) → ((a : A) → g (f a) ≡ a) → (a b : A) → f a ≡ f b → a ≡ b
once f g back a b e = sym (back a) ∙ ap g e ∙ back b

-- The refusal of a number.
abbrev refusal_for : ℕ → Refusal
refusal_for n =
    cond (eqb n 1) refusal.BadLimit
    (cond (eqb n 2) refusal.ShortBuffer
    (cond (eqb n 3) refusal.NotWellFormed
    (cond (eqb n 4) refusal.IllegalPath
    (cond (eqb n 5) refusal.NoKey
    (cond (eqb n 6) refusal.OtherNamespace
    (cond (eqb n 7) refusal.PruningPrevented
    (cond (eqb n 8) refusal.Full
    (cond (eqb n 9) refusal.OtherDigest
    (cond (eqb n 10) refusal.WrongTally
    (cond (eqb n 11) refusal.AbsentEntry refusal.TooMuchAvailable))))))))))

-- An answer by its number: the refusal, or what it is where the number is 0.
abbrev by_refusal : {A : Type 0} → ℕ → Result A Refusal → Result A Refusal
by_refusal n done = cond (eqb n 0) done (Err (refusal_for n))

refused-back : {A : Type 0} (done : Result A Refusal) (r : Refusal) → by_refusal (refusal_number r) done ≡ Err r
refused-back done refusal.BadLimit = refl
refused-back done refusal.ShortBuffer = refl
refused-back done refusal.NotWellFormed = refl
refused-back done refusal.IllegalPath = refl
refused-back done refusal.NoKey = refl
refused-back done refusal.OtherNamespace = refl
refused-back done refusal.PruningPrevented = refl
refused-back done refusal.Full = refl
refused-back done refusal.OtherDigest = refl
refused-back done refusal.WrongTally = refl
refused-back done refusal.AbsentEntry = refl
refused-back done refusal.TooMuchAvailable = refl

-- An answer in 01's words, its values undone by a function.
abbrev said_for : {A B : Type 0} → (B → A) → Said B → Result A Refusal
said_for g (says b) = Ok (g b)
said_for g (refuses n) = by_refusal n (Err (refusal_for n))

-- An answer whose values are told by a function that can be undone.
pub said-by-once : {A B : Type 0} (f : A → B) (g : B → A) → ((a : A) → g (f a) ≡ a) → (a b : Result A Refusal) → said_by f a ≡ said_by f b → a ≡ b
said-by-once {A} {B} f g undone = once (said_by f) (said_for g) back
  where
    back : (a : Result A Refusal) → said_for g (said_by f a) ≡ a
    back (Ok a) = ap Ok (undone a)
    back (Err r) = refused-back (Err (refusal_for (refusal_number r))) r

-- An answer whose values need no telling.
pub said-once : {A : Type 0} (a b : Result A Refusal) → said a ≡ said b → a ≡ b
said-once {A} = once said (said_for (λ (a : A). a)) back
  where
    back : (a : Result A Refusal) → said_for (λ (a : A). a) (said a) ≡ a
    back (Ok a) = refl
    back (Err r) = refused-back (Err (refusal_for (refusal_number r))) r

-- A test's answer, which has no values: its number alone. What a recording and a forgetting of payload answer is one.
pub refused-once : (a b : Result Unit Refusal) → refused_with a ≡ refused_with b → a ≡ b
refused-once = once refused_with (λ (n : ℕ). by_refusal n (Ok tt)) back
  where
    back : (a : Result Unit Refusal) → by_refusal (refused_with a) (Ok tt) ≡ a
    back (Ok u) = refl
    back (Err r) = refused-back (Ok tt) r

-- The cases of a comparison, and of the comparison of two entries.
abbrev ordering_for : Order → Ordering
ordering_for less = ordering.Less
ordering_for same = ordering.Equal
ordering_for greater = ordering.Greater

ordering-back : (a : Ordering) → ordering_for (ordering_says a) ≡ a
ordering-back ordering.Less = refl
ordering-back ordering.Equal = refl
ordering-back ordering.Greater = refl

pub ordering-once : (a b : Ordering) → ordering_says a ≡ ordering_says b → a ≡ b
ordering-once = once ordering_says ordering_for ordering-back

pub compared-once : (a b : Result Ordering Refusal) → said_by ordering_says a ≡ said_by ordering_says b → a ≡ b
compared-once = said-by-once ordering_says ordering_for ordering-back

abbrev recency_for : Order → Recency
recency_for greater = recency.Newer
recency_for less = recency.Older
recency_for same = recency.Same

recency-back : (a : Recency) → recency_for (recency_says a) ≡ a
recency-back recency.Newer = refl
recency-back recency.Older = refl
recency-back recency.Same = refl

pub recency-once : (a b : Recency) → recency_says a ≡ recency_says b → a ≡ b
recency-once = once recency_says recency_for recency-back

pub entries-compared-once : (a b : Result Recency Refusal) → said_by recency_says a ≡ said_by recency_says b → a ≡ b
entries-compared-once = said-by-once recency_says recency_for recency-back

-- What stands at a position of a path's bytes.
abbrev token_for : Symbol → Token
token_for (byte b) = token.Byte b
token_for component_mark = token.ComponentEnd
token_for path_mark = token.PathEnd

pub token-once : (a b : Result Token Refusal) → said_by token_says a ≡ said_by token_says b → a ≡ b
token-once = said-by-once token_says token_for back
  where
    back : (a : Token) → token_for (token_says a) ≡ a
    back (token.Byte b) = refl
    back token.ComponentEnd = refl
    back token.PathEnd = refl

-- A step in a path, and the bytes of its component.
abbrev next_for : Said Step → List ℕ → Result Next Refusal
next_for (says (component len n)) bytes = Ok (next.Component bytes len n)
next_for (says (end_of_path n)) bytes = Ok (next.PathEnd n)
next_for (refuses k) bytes = by_refusal k (Err (refusal_for k))

pub next-once : (a b : Result Next Refusal) → component_says a ≡ component_says b → a ≡ b
next-once = once component_says (λ (s : StepRead). next_for s.next s.bytes) back
  where
    back : (a : Result Next Refusal) → next_for (component_says a).next (component_says a).bytes ≡ a
    back (Ok (next.Component bytes len n)) = unfold component_says in refl
    back (Ok (next.PathEnd n)) = unfold component_says in refl
    back (Err r) = unfold component_says in refused-back (Err (refusal_for (refusal_number r))) r

-- An ingestion that was handed a state.
abbrev ingested_for : Said Verdict → IngestSaid → Result Ingested Refusal
ingested_for (says (succeeds n)) i = Ok (ingest.Success i.state n)
ingested_for (says is-obsolete) i = Ok (ingest.Obsolete i.newer i.token)
ingested_for (says is-held) i = Ok ingest.Held
ingested_for (refuses n) i = by_refusal n (Err (refusal_for n))

pub ingested-once : (handed : State) (a b : Result Ingested Refusal) → ingested_says handed a ≡ ingested_says handed b → a ≡ b
ingested-once handed = once (ingested_says handed) (λ (i : IngestSaid). ingested_for i.verdict i) back
  where
    back : (a : Result Ingested Refusal) → ingested_for (ingested_says handed a).verdict (ingested_says handed a) ≡ a
    back (Ok (ingest.Success state n)) = refl
    back (Ok (ingest.Obsolete newer token)) = refl
    back (Ok ingest.Held) = refl
    back (Err r) = refused-back (Err (refusal_for (refusal_number r))) r

-- An opening, and the two forgettings.
pub opened-once : (a b : Result State Refusal) → opened_says a ≡ opened_says b → a ≡ b
opened-once = once opened_says (λ (o : OpenSaid). by_refusal o.refusal (Ok o.state)) back
  where
    back : (a : Result State Refusal) → by_refusal (opened_says a).refusal (Ok (opened_says a).state) ≡ a
    back (Ok s) = refl
    back (Err r) = refused-back _ r

pub entry-forgotten-once : (handed : State) (a b : Result State Refusal) → entry_forgotten_says handed a ≡ entry_forgotten_says handed b → a ≡ b
entry-forgotten-once handed = once (entry_forgotten_says handed) (λ (o : EntryForgottenSaid). by_refusal o.refusal (Ok o.state)) back
  where
    back : (a : Result State Refusal) → by_refusal (entry_forgotten_says handed a).refusal (Ok (entry_forgotten_says handed a).state) ≡ a
    back (Ok s) = refl
    back (Err r) = refused-back _ r

abbrev left_by : AreaForgottenSaid → AreaForgotten
left_by o = record { state = o.state; forgotten = o.forgotten }

pub area-forgotten-once : (handed : State) (a b : Result AreaForgotten Refusal) → area_forgotten_says handed a ≡ area_forgotten_says handed b → a ≡ b
area-forgotten-once handed = once (area_forgotten_says handed) (λ (o : AreaForgottenSaid). by_refusal o.refusal (Ok (left_by o))) back
  where
    back : (a : Result AreaForgotten Refusal) → by_refusal (area_forgotten_says handed a).refusal (Ok (left_by (area_forgotten_says handed a))) ≡ a
    back (Ok s) = refl
    back (Err r) = refused-back _ r

-- A lookup, a step of a listing, a count and the range of an area of interest.
abbrev found_for : EntryFound → Result (Option LengthyAuthorisedEntry) Refusal
found_for f = by_refusal f.refusal (Ok (cond f.found (Some f.lengthy) None))

pub found-once : (a b : Result (Option LengthyAuthorisedEntry) Refusal) → entry_told a ≡ entry_told b → a ≡ b
found-once = once entry_told found_for back
  where
    back : (a : Result (Option LengthyAuthorisedEntry) Refusal) → found_for (entry_told a) ≡ a
    back (Ok (Some x)) = refl
    back (Ok None) = refl
    back (Err r) = refused-back _ r

abbrev part_for : ListingStep → Result (Option Part) Refusal
part_for s = by_refusal s.refusal (Ok (cond s.found (Some (record { offset = s.offset; length = s.length })) None))

pub part-once : (a b : Result (Option Part) Refusal) → part_told a ≡ part_told b → a ≡ b
part-once = once part_told part_for back
  where
    back : (a : Result (Option Part) Refusal) → part_for (part_told a) ≡ a
    back (Ok (Some p)) = refl
    back (Ok None) = refl
    back (Err r) = refused-back _ r

pub count-once : (a b : Result ℕ Refusal) → count_told a ≡ count_told b → a ≡ b
count-once = once count_told (λ (c : Counted). by_refusal c.refusal (Ok c.count)) back
  where
    back : (a : Result ℕ Refusal) → by_refusal (count_told a).refusal (Ok (count_told a).count) ≡ a
    back (Ok n) = refl
    back (Err r) = refused-back _ r

pub range-once : (a b : Result Range3d Refusal) → range_told a ≡ range_told b → a ≡ b
range-once = once range_told (λ (i : InterestRange). by_refusal i.refusal (Ok i.range)) back
  where
    back : (a : Result Range3d Refusal) → by_refusal (range_told a).refusal (Ok (range_told a).range) ≡ a
    back (Ok x) = refl
    back (Err r) = refused-back _ r
