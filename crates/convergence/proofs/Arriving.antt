-- What is kept with each stored entry along a list of calls, its available length and its origin; and lists without these. Assumes nothing.
use Prim.Native.Nat.{ℕ, suc, ◌+◌, ◌-◌}
use mathlib.Core.Path.{◌≡◌, refl, sym, ap, ap₂, subst, ◌∙◌}
use mathlib.Core.Logic.{⊎_elim}
use mathlib.Core.Bool.{Bool, true, false, not, cond}
use mathlib.Core.List.Memᴰ.{head as here}
use mathlib.Core.List.Memᴰ.{tail as there}
use mathlib.Core.List.{List, [], ◌∷◌, ◌++◌, map, append_assoc}
use mathlib.Core.Option.{some}
use native.Mathlib.Omega.{arith}
use lib.ListN.{length, take, replicate, length-append}
use lib.Seq.{take_at}
use Rattle.laws.specs.Sorted.{◌∈◌, any, keep}
use Rattle.laws.proofs.Truth.{split}
use Rattle.laws.proofs.Sorted.{any_none, keep-view, insert-view}
use Rattle.layout.specs.Layout.{records}
use Rattle.data_model.specs.Path.{Figures, components}
use Rattle.data_model.specs.Entry.{Entry, entry_of}
use Rattle.data_model.specs.Origin.{origin_kind, origin_session}
use Rattle.data_model.specs.declared.entry_origin.EntryOrigin.{EntryOrigin}
use Rattle.data_model.specs.declared.entry_origin.EntryOrigin.TheVariants.{Local}
use Rattle.keys.specs.Encode.{be}
use Rattle.keys.proofs.Encoding.{be-length}
use Rattle.tree.specs.Value.{origin_bytes, value_bytes}
use Rattle.tree.specs.Stored.{Stored, key_in, triple_of, value_for, record_of, Lawful, same_entry}
use Rattle.tree.specs.Matching.{repeats, stands_at}
use Rattle.tree.specs.declared.stored.KeyOrder.{KeyOrder}
use Rattle.tree.proofs.RecordLaws.{entry-equality}
use Rattle.store.specs.Store.{tree_of, dir_of, held, Held, held_by, Tallied}
use Rattle.store.specs.Ingest.{spt_less, stays, filed_in, filed}
use Rattle.store.specs.Forget.{without}
use Rattle.store.proofs.Recorded.{map-view, map-make}
use Rattle.store.proofs.Lifted.{held_in, borne}
use Rattle.available.specs.Available.{arrive}
use Rattle.available.proofs.Arrived.{arrive-record, arrive-there, arrive-elsewhere, arrive-entry, arrive-token, arrive-origin, length-arrive}
use Rattle.call_laws.specs.Calls.{IngestCall, filed_as, Recording, Call, ingest, forget_entry, forget_area, record_available, forget_payload, nothing_at, input, forgets, recording_of, arrives_by, Verdict, done}
use Rattle.call_laws.proofs.Right.{not-forgets, not-records, never_both}
use Rattle.call_laws.proofs.Stands.{Stands, arrivals}
use Rattle.convergence.specs.Demand.{Receipt, receipt_in, is_at, arrives, originates, is_done, own_bytes, origin_length, blank, blank_length}
use Rattle.convergence.proofs.Settled.{Stood}

-- A recording leaves entry and token.
pub receipt-kept : (r : Recording) (x : Stored) → receipt_in (arrives_by r x) ≡ receipt_in x
receipt-kept r x =
    let p = r.target in
    let a = arrive-entry p.subspace (components p.path) r.available x in
    let b = arrive-token p.subspace (components p.path) r.available x in
    λ i. record { entry = a i; token = b i }

-- Something that is kept with each stored entry, by how it is read off and what a call that is done leaves of it: this is what the calls do.
pub record Detail {A : Type 0} (read : Stored → A) (step : Call → Entry → A → A) : Type 0 where
  pub filing : (i : IngestCall) (e : Entry) (a : A) → step (ingest i) e a ≡ cond (same_entry (entry_of i.handed.entry) e) (read (filed_as i)) a
  pub forgetting : (c : Call) (p : Stored → Bool) → forgets c ≡ some p → (e : Entry) (a : A) → step c e a ≡ a
  pub recording : (c : Call) (r : Recording) → recording_of c ≡ some r → (x : Stored) → read (arrives_by r x) ≡ step c x.entry (read x)

-- What a call leaves of it, by its verdict.
abbrev pub left_by : {A : Type 0} → (Call → Entry → A → A) → Call → Verdict → Entry → A → A
left_by step c v e a = cond (is_done v) (step c e a) a

-- What is held has it as a function of entries says.
abbrev pub Kept : {A : Type 0} → (Stored → A) → Held → (Entry → A) → Type 0
Kept read h φ = (x : Stored) → x ∈ h.spt → read x ≡ φ x.entry

module _ {A : Type 0} {read : Stored → A} {step : Call → Entry → A → A} (d : Detail read step) where
  -- An entry that is filed anew.
  pub kept-filed : (i : IngestCall) (h : Held) (φ : Entry → A) → any (repeats (entry_of i.handed.entry)) h.spt ≡ false → Kept read h φ → Kept read (filed (filed_as i) h) (λ e. left_by step (ingest i) done e (φ e))
  unfolding filed filed_in repeats is_done
  kept-filed i h φ absent v y m =
      let x = filed_as i in
      let stepped : (b : Bool) → same_entry x.entry y.entry ≡ b → step (ingest i) y.entry (φ y.entry) ≡ cond b (read x) (φ y.entry) = λ b q.
      d.filing i y.entry (φ y.entry) ∙ ap (λ (c : Bool). cond c (read x) (φ y.entry)) q in
      ⊎_elim
      (λ e. ap (read) e ∙ sym (stepped true (ap (λ (z : Stored). same_entry x.entry z.entry) e ∙ entry-equality.self x.entry)))
      (λ n.
      let k = (keep-view (stays x.entry) h.spt n).0 in
      v y k ∙ sym (stepped false (any_none (λ (z : Stored). same_entry x.entry z.entry) h.spt absent k)))
      (insert-view spt_less x (keep (stays x.entry) h.spt) m)

  -- A forgetting leaves it of the rest.
  pub kept-forgotten : (c : Call) (p : Stored → Bool) → forgets c ≡ some p → (h : Held) (φ : Entry → A) → Kept read h φ → Kept read (without p h) (λ e. left_by step c done e (φ e))
  unfolding without is_done
  kept-forgotten c p q h φ v x m = v x (keep-view (λ (y : Stored). not (p y)) h.spt m).0 ∙ sym (d.forgetting c p q x.entry (φ x.entry))

  pub kept-recorded : (c : Call) (r : Recording) → recording_of c ≡ some r → (h : Held) (φ : Entry → A) → Kept read h φ → Kept read (arrivals r h) (λ e. left_by step c done e (φ e))
  unfolding is_done
  kept-recorded c r q h φ v y m =
      let k = map-view (arrives_by r) h.spt m in
      let x = k.0 in
      let e : y.entry ≡ x.entry = ap (λ (z : Stored). z.entry) k.2 ∙ ap (λ (z : Receipt). z.entry) (receipt-kept r x) in
      ap (read) k.2
      ∙ d.recording c r q x
      ∙ ap (step c x.entry) (v x k.1)
      ∙ ap (λ (z : Entry). step c z (φ z)) (sym e)

-- Available lengths. A forgetting leaves them, a recording sets the one at its place.
forgets-leaves : (c : Call) (p : Stored → Bool) → forgets c ≡ some p → (e : Entry) (n : ℕ) → arrives c e n ≡ n
unfolding arrives
forgets-leaves (ingest i) p q e n = not-forgets i p q
forgets-leaves (forget_entry t) p q e n = refl
forgets-leaves (forget_area t) p q e n = refl
forgets-leaves (record_available r) p q e n = never_both (record_available r) p r q (unfold recording_of in refl)
forgets-leaves (forget_payload t) p q e n = never_both (forget_payload t) p (nothing_at t) q (unfold recording_of in refl)

records-sets : (c : Call) (r : Recording) → recording_of c ≡ some r → (e : Entry) (n : ℕ) → arrives c e n ≡ cond (is_at r.target e) r.available n
unfolding arrives recording_of
records-sets (ingest i) r q e n = not-records i r (unfold recording_of in q)
records-sets (forget_entry t) r q e n = absurd (let z : ◌≡◌ {A = ℕ} 0 1 = cc in omega arith)
records-sets (forget_area t) r q e n = absurd (let z : ◌≡◌ {A = ℕ} 0 1 = cc in omega arith)
records-sets (record_available x) r q e n = let z : x ≡ r = cc in rw z refl
records-sets (forget_payload t) r q e n = let z : record { target = t; available = 0 } ≡ r = cc in ap (λ (y : Recording). cond (is_at y.target e) y.available n) z

at_target : (r : Recording) (x : Stored) → stands_at r.target.subspace (components r.target.path) x ≡ is_at r.target x.entry
unfolding stands_at is_at
at_target r x = refl

arrives-to : (r : Recording) (x : Stored) → (arrives_by r x).available ≡ cond (is_at r.target x.entry) r.available x.available
arrives-to r x =
    let p = r.target in
    split (stands_at p.subspace (components p.path) x)
    (λ q. ap (λ (y : Stored). y.available) (arrive-there p.subspace (components p.path) r.available x q) ∙ rw (sym (at_target r x) ∙ q) refl)
    (λ q. ap (λ (y : Stored). y.available) (arrive-elsewhere p.subspace (components p.path) r.available x q) ∙ rw (sym (at_target r x) ∙ q) refl)

pub lengths : Detail (λ (x : Stored). x.available) arrives
unfolding arrives
lengths = record {
  filing = λ i e n. refl;
  forgetting = forgets-leaves;
  recording = λ c r q x. arrives-to r x ∙ sym (records-sets c r q x.entry x.available);
}

-- Origins. Neither a forgetting nor a recording changes one.
forgets-whence : (c : Call) (p : Stored → Bool) → forgets c ≡ some p → (e : Entry) (o : EntryOrigin) → originates c e o ≡ o
unfolding originates
forgets-whence (ingest i) p q e o = not-forgets i p q
forgets-whence (forget_entry t) p q e o = refl
forgets-whence (forget_area t) p q e o = refl
forgets-whence (record_available r) p q e o = refl
forgets-whence (forget_payload t) p q e o = refl

records-whence : (c : Call) (r : Recording) → recording_of c ≡ some r → (e : Entry) (o : EntryOrigin) → originates c e o ≡ o
unfolding originates
records-whence (ingest i) r q e o = not-records i r q
records-whence (forget_entry t) r q e o = refl
records-whence (forget_area t) r q e o = refl
records-whence (record_available x) r q e o = refl
records-whence (forget_payload t) r q e o = refl

pub origins : Detail (λ (x : Stored). x.origin) originates
unfolding originates
origins = record {
  filing = λ i e o. refl;
  forgetting = forgets-whence;
  recording = λ c r q x. arrive-origin r.target.subspace (components r.target.path) r.available x ∙ sym (records-whence c r q x.entry x.origin);
}

-- A recording hands in no entry.
pub records-nothing : (c : Call) (r : Recording) → recording_of c ≡ some r → (input c).ingestions ≡ []
unfolding input recording_of
records-nothing (ingest i) r q = not-records i r (unfold recording_of in q)
records-nothing (forget_entry t) r q = refl
records-nothing (forget_area t) r q = refl
records-nothing (record_available x) r q = refl
records-nothing (forget_payload t) r q = refl

-- As if filed here; and with nothing available besides.
abbrev pub as-local : Stored → Stored
as-local x = record { entry = x.entry; token = x.token; available = x.available; origin = Local }

abbrev pub bare : Stored → Stored
bare x = as-local (arrive 0 x)

pub receipts-bare : (l : List Stored) → map receipt_in l ≡ map receipt_in (map bare l)
receipts-bare [] = refl
receipts-bare (x ∷ l) = ap (receipt_in x ∷◌) (receipts-bare l)

-- What two lists hold is the same, entry and token, and so is what a function makes of it: then each has what it makes of the other.
pub mapped-there : (g : Stored → Stored) (l m : List Stored) → ((r : Receipt) → Stood l r → Stood m r) → ((x y : Stored) → x ∈ l → y ∈ m → receipt_in y ≡ receipt_in x → g y ≡ g x)
    → (z : Stored) → z ∈ map g l → z ∈ map g m
mapped-there g l m h alike z i =
    let k = map-view g l i in
    let b = h (receipt_in k.0) (k.0, k.1, refl) in
    subst (λ (y : Stored). y ∈ map g m) (alike k.0 b.0 k.1 b.1 b.2 ∙ sym k.2) (map-make g m b.1)

-- In bytes: the record of a lawful entry with some bytes as zeros is that of the entry bared of what they say. Its length stays, and so does the entry.
pub record Blanks (f : Figures) (blanks : List ℕ → List ℕ) (g : Stored → Stored) : Type 0 where
  pub zeroed : (o : KeyOrder) (x : Stored) → Lawful f x → blanks (record_of o x) ≡ record_of o (g x)
  pub long : (o : KeyOrder) (x : Stored) → length (record_of o (g x)) ≡ length (record_of o x)
  pub same-entry : (x : Stored) → (g x).entry ≡ x.entry

-- Zeros for a last part, of whatever length.
blank-last : (front z : List ℕ) (n : ℕ) → length z ≡ n → blank n (front ++ z) ≡ front ++ replicate n 0
blank-last front z n e =
    let l : length (front ++ z) - n ≡ length front = simp length-append (omega (arith, e)) in
    ap (◌++ replicate n 0) (ap (λ (m : ℕ). take m (front ++ z)) l ∙ take_at front z (length front) refl)

same-last : (front z y : List ℕ) → length z ≡ length y → length (front ++ z) ≡ length (front ++ y)
same-last front z y e = length-append front z ∙ ap (length front +◌) e ∙ sym (length-append front y)

origin-long : (kind session : ℕ) → length (origin_bytes kind session) ≡ origin_length
origin-long kind session = ap suc (be-length 8 session)

module _ (o : KeyOrder) (x : Stored) where
  -- A record, in two: all before its available length, and the rest; all before its origin, and that.
  abbrev before-length : List ℕ
  before-length = key_in o (triple_of x.entry) ++ (be 8 x.entry.rank.payload_length ++ (x.entry.rank.payload_digest ++ x.token))

  at_length : (z : List ℕ) → key_in o (triple_of x.entry) ++ (be 8 x.entry.rank.payload_length ++ (x.entry.rank.payload_digest ++ (x.token ++ z))) ≡ before-length ++ z
  at_length z =
      let k = key_in o (triple_of x.entry) in
      let a = be 8 x.entry.rank.payload_length in
      let d = x.entry.rank.payload_digest in
      let t = x.token in
      sym (append_assoc k (a ++ (d ++ t)) z ∙ ap (k ++◌) (append_assoc a (d ++ t) z ∙ ap (a ++◌) (append_assoc d t z)))

  abbrev from-origin : List ℕ
  from-origin = origin_bytes (origin_kind x.origin) (origin_session x.origin)

  from-length : List ℕ
  from-length = be 8 x.available ++ from-origin

  length-long : length from-length ≡ own_bytes
  unfolding from-length
  length-long = length-append (be 8 x.available) from-origin ∙ omega (arith, be-length 8 x.available, origin-long (origin_kind x.origin) (origin_session x.origin))

  record_is : record_of o x ≡ before-length ++ from-length
  unfolding record_of value_bytes value_for triple_of from-length
  record_is = at_length from-length

  bare-is : record_of o (bare x) ≡ before-length ++ replicate own_bytes 0
  unfolding record_of value_bytes value_for triple_of be origin_kind origin_session
  bare-is = at_length (replicate own_bytes 0)

  -- By the origin alone.
  origin-is : record_of o x ≡ (before-length ++ be 8 x.available) ++ from-origin
  unfolding from-length
  origin-is = record_is ∙ sym (append_assoc before-length (be 8 x.available) from-origin)

  local-is : record_of o (as-local x) ≡ (before-length ++ be 8 x.available) ++ replicate origin_length 0
  unfolding record_of value_bytes value_for triple_of be origin_kind origin_session
  local-is = at_length (be 8 x.available ++ replicate origin_length 0) ∙ sym (append_assoc before-length (be 8 x.available) (replicate origin_length 0))

pub bare-blanks : (f : Figures) → Blanks f (blank own_bytes) bare
bare-blanks f = record {
  zeroed = λ o x h. ap (blank own_bytes) (record_is o x) ∙ blank-last (before-length o x) (from-length o x) own_bytes (length-long o x) ∙ sym (bare-is o x);
  long = λ o x. ap length (bare-is o x) ∙ same-last (before-length o x) (replicate own_bytes 0) (from-length o x) (sym (length-long o x)) ∙ ap length (sym (record_is o x));
  same-entry = λ x. refl;
}

pub local-blanks : (f : Figures) → Blanks f (blank origin_length) as-local
local-blanks f = record {
  zeroed = λ o x h.
      let front = before-length o x ++ be 8 x.available in
      ap (blank origin_length) (origin-is o x) ∙ blank-last front (from-origin o x) origin_length (origin-long (origin_kind x.origin) (origin_session x.origin)) ∙ sym (local-is o x);
  long = λ o x.
      let front = before-length o x ++ be 8 x.available in
      ap length (local-is o x) ∙ same-last front (replicate origin_length 0) (from-origin o x) (sym (origin-long (origin_kind x.origin) (origin_session x.origin))) ∙ ap length (sym (origin-is o x));
  same-entry = λ x. refl;
}

pub length-blanks : (f : Figures) → Blanks f blank_length (arrive 0)
unfolding be
length-blanks f = record { zeroed = λ o x h. sym (arrive-record f o 0 x h); long = λ o x. length-arrive o 0 x; same-entry = λ x. refl }

pub blank-records : {f : Figures} {blanks : List ℕ → List ℕ} {g : Stored → Stored} → Blanks f blanks g → (o : KeyOrder) (l : List Stored) → ((x : Stored) → x ∈ l → Lawful f x)
    → map blanks (map (record_of o) l) ≡ map (record_of o) (map g l)
blank-records b o [] h = refl
blank-records b o (x ∷ l) h = ap₂ ◌∷◌ (b.zeroed o x (h x (here refl))) (blank-records b o l λ y m. h y (there m))

-- The records of a store that stands.
pub records-borne : (f : Figures) (u : Tallied) → Stands f u → (k : KeyOrder)
    → records u.store.state.count (dir_of k u.store) (tree_of f k u.store) ≡ map (record_of k) (held f k u.store)
records-borne f u v k = borne f u.store (held_by f u.store) v.fit v.bears k ∙ ap (map (record_of k)) (held_in f k u.store)
