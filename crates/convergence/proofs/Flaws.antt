-- Stores that are as ours but for one flaw, each refuted by the clause of `Contents` that it breaks, on a small run that is computed. Assumes nothing.
use Prim.Native.Nat.{ℕ, ◌+◌}
use mathlib.Core.Path.{◌≡◌, refl, sym, ap, subst, ◌∙◌}
use mathlib.Core.List.Memᴰ.{head as here}
use mathlib.Core.List.Memᴰ.{tail as there}
use mathlib.Core.List.{List, [], ◌∷◌, map}
use mathlib.Core.Bool.{true}
use native.Mathlib.Omega.{arith}
use lib.ListN.{length, replicate, get_or}
use borrow.Author.Tests.{eq-eqb}
use Rattle.laws.specs.Sorted.{◌∈◌, all, Ascends}
use Rattle.laws.proofs.Truth.{clash}
use Rattle.layout.specs.Layout.{tree_bytes, dir_numbers}
use Rattle.data_model.specs.Origin.{origin_kind}
use Rattle.data_model.specs.declared.entry_origin.EntryOrigin.{EntryOrigin}
use Rattle.data_model.specs.declared.entry_origin.EntryOrigin.TheVariants.{Local, Remote}
use Rattle.data_model.specs.Path.{field}
use Rattle.data_model.specs.Entry.{entry_of, prunes}
use Rattle.key_laws.proofs.EntryLaws.{prunes-irrefl}
use Rattle.tree.specs.Value.{value_length}
use Rattle.tree.specs.Stored.{Stored, record_of, key_below}
use Rattle.tree.specs.declared.stored.KeyOrder.{KeyOrder}
use Rattle.tree.specs.declared.stored.KeyOrder.TheVariants.{Spt, Tsp}
use Rattle.tree.proofs.RecordLaws.{entry-equality}
use Rattle.store.specs.Store.{Store, tree_room, dir_room, tree_of, dir_of, held, held_by, Tallied, tallied_holding}
use Rattle.store.specs.Refusal.{limit_ok}
use Rattle.store.specs.Open.{nothing}
use Rattle.store.specs.Ingest.{filed}
use Rattle.available.specs.Available.{available_refusal, available_set}
use Rattle.call_laws.specs.Calls.{IngestCall, Recording, Call, ingest, record_available, filed_as, input, Verdict, obsolete, done, number_verdict}
use Rattle.call_laws.specs.Checks.{asked}
use Rattle.call_laws.specs.Outcomes.{Outcome, outcome, opens}
use Rattle.call_laws.proofs.Did.{so, recorded, Did, was_refused, was_obsolete, was_held, has_filed, has_forgotten, has_recorded, did}
use Rattle.call_laws.proofs.Stands.{opened-store, verdict-done}
use Rattle.call_laws.proofs.Right.{refused-done, obsolete-done, held-done, not-forgets, not-records}
use Rattle.convergence.specs.Demand.{ours, history, after_all, Receipt, receipt_of, not_refused, receipts, received, arrives, originates, is_done, left_from, available, inserted_with, Run, throughout, events, OneToken, Current, receipt_in, Exactly, Contents, Demand3}
use Rattle.convergence.specs.Examples.{from, at_limit, target_of, record_for, having, one, two, later, lower, other_token}
use Rattle.convergence.specs.WrongStores.{if_done, instead, Flaw, counts_only, leaves_bytes, loses_token, files_local, available_1, keeps_length, prunes_nothing, prunes_ties, prunes_one_tree, in_order_of_arrival, makes, length_there, flawed, with_flaw, leaves_after, leaves, Broken, Refuted}
use Rattle.convergence.proofs.Examined.{verdict_in, none-arrived}
use Rattle.convergence.proofs.Computing.{computing, reading}
use Rattle.convergence.proofs.Lines.{fine, lines-values, lines-gather, opens-fine, computed}
use Rattle.convergence.proofs.Mixed.{mixed-values, mixed}
use Rattle.convergence.proofs.Shown.{only, tokens-one, current-by}

pub ok-2 : limit_ok 2 ≡ true
unfolding limit_ok
ok-2 = refl

-- The store that is opened, and one with one entry: of bytes that can be computed.
abbrev begun : Tallied
begun = tallied_holding field nothing (asked (at_limit 2))

abbrev pub t0 : Tallied
t0 = (opens field (at_limit 2)).left

begins : t0 ≡ begun
begins = opened-store field (at_limit 2) (opens-fine 2 ok-2)

abbrev pub next : IngestCall → Tallied
next a = tallied_holding field (record { spt = filed_as a ∷ []; tsp = filed_as a ∷ [] }) begun

-- The verdicts of ours.
pub first_done : (x : IngestCall) → map verdict_in (history (ours field) t0 (ingest x ∷ [])) ≡ done ∷ [] → (outcome field t0 (ingest x)).verdict ≡ done
unfolding history
first_done x e = ap (λ (l : List Verdict). get_or l 0 obsolete) e

pub second-says : (a x : IngestCall) {v : Verdict} → map verdict_in (history (ours field) t0 (ingest a ∷ ingest x ∷ [])) ≡ done ∷ v ∷ [] → (outcome field (outcome field t0 (ingest a)).left (ingest x)).verdict ≡ v
unfolding history
second-says a x e = ap (λ (l : List Verdict). get_or l 1 obsolete) e

pub says-later : map verdict_in (history (ours field) t0 (map ingest (one ∷ later ∷ []))) ≡ done ∷ done ∷ []
unfolding computing
says-later = (computed 2 refl (one ∷ later ∷ []) refl).says_all

pub says_two : map verdict_in (history (ours field) t0 (map ingest (one ∷ two ∷ []))) ≡ done ∷ done ∷ []
unfolding computing
says_two = (computed 2 refl (one ∷ two ∷ []) refl).says_all

pub done-one : (outcome field t0 (ingest one)).verdict ≡ done
unfolding computing
done-one = first_done one (computed 2 refl (one ∷ []) refl).says_all

done-lower : (outcome field t0 (ingest lower)).verdict ≡ done
unfolding computing
done-lower = first_done lower (computed 2 refl (lower ∷ []) refl).says_all

done-token : (outcome field t0 (ingest other_token)).verdict ≡ done
unfolding computing
done-token = first_done other_token (computed 2 refl (other_token ∷ []) refl).says_all

done-from : (outcome field t0 (ingest (from (Remote 7) one))).verdict ≡ done
unfolding computing
done-from = first_done (from (Remote 7) one) (computed 2 refl (from (Remote 7) one ∷ []) refl).says_all

-- What ours files is what it leaves.
pub ours-files : (s : Tallied) (i : IngestCall) → (outcome field s (ingest i)).verdict ≡ done → (outcome field s (ingest i)).left ≡ makes filed i s
ours-files s i d = go (did field s (ingest i))
  where
    told : {a : Verdict} {n : ℕ} {t : Tallied} → outcome field s (ingest i) ≡ so a n t → a ≡ done
    told e = sym (ap (λ (o : Outcome Tallied). o.verdict) e) ∙ d

    same : {j : IngestCall} → ingest i ≡ ingest j → j ≡ i
    same q = cc

    go : Did field s (ingest i) → (outcome field s (ingest i)).left ≡ makes filed i s
    go (was_refused n e) = refused-done (told e)
    go (was_obsolete j q y m o e) = obsolete-done (told e)
    go (was_held j q a e) = held-done (told e)
    go (has_filed j q t e) = ap (λ (o : Outcome Tallied). o.left) e ∙ ap (λ (k : IngestCall). makes filed k s) (same q)
    go (has_forgotten p q e) = not-forgets i p q
    go (has_recorded r q k e) = not-records i r q

makes_one : makes filed one begun ≡ next one
unfolding computing reading held_by
makes_one = refl

makes-lower : makes filed lower begun ≡ next lower
unfolding computing reading held_by
makes-lower = refl

next-by : (a : IngestCall) → (outcome field t0 (ingest a)).verdict ≡ done → makes filed a begun ≡ next a → (outcome field t0 (ingest a)).left ≡ next a
next-by a d q = ours-files t0 a d ∙ ap (makes filed a) begins ∙ q

pub ours_next : (outcome field t0 (ingest one)).left ≡ next one
ours_next = next-by one done-one makes_one

next-verdict : (a x : IngestCall) {v : Verdict} → (outcome field t0 (ingest a)).left ≡ next a → map verdict_in (history (ours field) t0 (ingest a ∷ ingest x ∷ [])) ≡ done ∷ v ∷ [] → (outcome field (next a) (ingest x)).verdict ≡ v
next-verdict a x {v} n e = subst (λ (s : Tallied). (outcome field s (ingest x)).verdict ≡ v) n (second-says a x e)

pub next-says : (x : IngestCall) {v : Verdict} → map verdict_in (history (ours field) t0 (ingest one ∷ ingest x ∷ [])) ≡ done ∷ v ∷ [] → (outcome field (next one) (ingest x)).verdict ≡ v
next-says x = next-verdict one x ours_next

done-later : (outcome field (next one) (ingest later)).verdict ≡ done
done-later = next-says later says-later

done-two : (outcome field (next one) (ingest two)).verdict ≡ done
done-two = next-says two says_two

done-tied : (outcome field (next lower) (ingest one)).verdict ≡ done
unfolding computing
done-tied = next-verdict lower one (next-by lower done-lower makes-lower) (computed 2 refl (lower ∷ one ∷ []) refl).says_all

-- What a store with a flaw leaves after one entry, and after two where the flaw does not show on the first.
step : (w : Flaw) (s : Tallied) (i : IngestCall) → (outcome field s (ingest i)).verdict ≡ done → ((with_flaw w).call s (ingest i)).left ≡ flawed w i s
unfolding instead if_done
step w s i d = rw d refl

after_one : (w : Flaw) (x : IngestCall) → (outcome field t0 (ingest x)).verdict ≡ done → leaves w (x ∷ []) ≡ (flawed w x begun).store
unfolding after_all
after_one w x d = ap (λ (s : Tallied). s.store) (step w t0 x d ∙ ap (flawed w x) begins)

module _ (w : Flaw) (a x : IngestCall) (first : (outcome field t0 (ingest a)).verdict ≡ done) (q : flawed w a begun ≡ next a) (second : (outcome field (next a) (ingest x)).verdict ≡ done) where
  unseen : ((with_flaw w).call t0 (ingest a)).left ≡ next a
  unseen = step w t0 a first ∙ ap (flawed w a) begins ∙ q

  after_two : leaves w (a ∷ x ∷ []) ≡ (flawed w x (next a)).store
  unfolding after_all
  after_two = ap (λ (s : Tallied). ((with_flaw w).call s (ingest x)).left.store) unseen ∙ ap (λ (s : Tallied). s.store) (step w (next a) x second)

  -- Both are received.
  got-two : received (history (with_flaw w) t0 (map ingest (a ∷ x ∷ []))) ≡ map receipt_of (a ∷ x ∷ [])
  unfolding history received receipts not_refused input
  got-two =
      let f : (outcome field ((with_flaw w).call t0 (ingest a)).left (ingest x)).verdict ≡ done = ap (λ (s : Tallied). (outcome field s (ingest x)).verdict) unseen ∙ second in
      rw (f, first) refl

-- The flaws.
alone : (x : IngestCall) → Current (receipt_of x ∷ []) (receipt_of x)
alone x = record { among = here refl; unpruned = λ q n. rw (only n) (prunes-irrefl (entry_of x.handed.entry)) }

only-counted : Exactly (held field Spt (leaves counts_only (one ∷ []))) (map receipt_of (one ∷ [])) → ⊥
unfolding flawed computing reading
only-counted h =
    let m : receipt_of one ∈ map receipt_in (held field Spt (flawed counts_only one begun).store) = rw (after_one counts_only one done-one) at ((h (receipt_of one)).1 (alone one)) in
    let z : ◌≡◌ {A = ℕ} 1 0 = ap (λ (r : Receipt). r.entry.subspace.low) (only m) in
    omega arith

bytes_left : let s = leaves leaves_bytes (one ∷ []) in tree_of field Spt s ≡ tree_bytes (tree_room field 2) (map (record_of Spt) (held field Spt s)) → ⊥
unfolding flawed computing reading held_by
bytes_left h =
    let e = subst (λ (s : Store). tree_of field Spt s ≡ tree_bytes (tree_room field 2) (map (record_of Spt) (held field Spt s))) (after_one leaves_bytes one done-one) h in
    let z : ◌≡◌ {A = ℕ} 1 0 = ap (λ (l : List ℕ). get_or l 200 0) e in
    omega arith

token-lost : Exactly (held field Spt (leaves loses_token (other_token ∷ []))) (map receipt_of (other_token ∷ [])) → ⊥
unfolding flawed computing reading held_by
token-lost h =
    let m : receipt_of other_token ∈ map receipt_in (held field Spt (flawed loses_token other_token begun).store) = rw (after_one loses_token other_token done-token) at ((h (receipt_of other_token)).1 (alone other_token)) in
    let z : ◌≡◌ {A = ℕ} 1 0 = ap (λ (r : Receipt). get_or r.token 0 0) (only m) in
    omega arith

local-filed : filed_as one ∈ held field Spt (leaves files_local (from (Remote 7) one ∷ []))
unfolding flawed computing reading held_by
local-filed = rw (after_one files_local (from (Remote 7) one) done-from) (here refl)

-- By the calls, it came in session 7.
came-in-7 : inserted_with (history (with_flaw files_local) t0 (ingest (from (Remote 7) one) ∷ [])) (filed_as one).entry ≡ Remote 7
unfolding history left_from originates is_done
came-in-7 = rw (done-from, entry-equality.self (filed_as one).entry) refl

not_local : ◌≡◌ {A = EntryOrigin} Local (Remote 7) → ⊥
unfolding origin_kind
not_local e = let z : ◌≡◌ {A = ℕ} 0 1 = ap origin_kind e in omega arith

available-one : ((x : Stored) → x ∈ held field Spt (leaves available_1 (one ∷ [])) → x.available ≡ 0) → ⊥
unfolding flawed computing reading held_by
available-one h =
    let k = subst (λ (s : Store). (x : Stored) → x ∈ held field Spt s → x.available ≡ 0) (after_one available_1 one done-one) h in
    let z : ◌≡◌ {A = ℕ} 1 0 = k (having 1 one) (here refl) in
    omega arith

-- The first entry, how much of it has arrived, and a later one at its place.
abbrev arrives-2 : Call
arrives-2 = record_for one 2

abbrev calls-3 : List Call
calls-3 = ingest one ∷ arrives-2 ∷ ingest later ∷ []

abbrev recorded-2 : Tallied
recorded-2 = recorded field (record { target = target_of one; available = 2 }) (next one)

said-3 : map verdict_in (history (ours field) t0 calls-3) ≡ done ∷ done ∷ done ∷ []
unfolding computing
said-3 = (mixed 2 refl calls-3 refl).says

ours-records : (s : Tallied) (r : Recording) → (outcome field s (record_available r)).verdict ≡ done → (outcome field s (record_available r)).left ≡ recorded field r s
unfolding outcome available_set number_verdict
ours-records s r d =
    let p = r.target in
    let n = available_refusal field s.store p.subspace p.path p.expects p.digest r.available in
    rw (eq-eqb n 0 (verdict-done n d)) refl

done-arrives : (outcome field (next one) arrives-2).verdict ≡ done
unfolding history
done-arrives = subst (λ (s : Tallied). (outcome field s arrives-2).verdict ≡ done) ours_next (ap (λ (l : List Verdict). get_or l 1 obsolete) said-3)

left-arrives : (outcome field (next one) arrives-2).left ≡ recorded-2
left-arrives = ours-records (next one) _ done-arrives

done-replaces : (outcome field recorded-2 (ingest later)).verdict ≡ done
unfolding history
done-replaces =
    subst (λ (s : Tallied). (outcome field s (ingest later)).verdict ≡ done) left-arrives
    (subst (λ (s : Tallied). (outcome field (outcome field s arrives-2).left (ingest later)).verdict ≡ done) ours_next (ap (λ (l : List Verdict). get_or l 2 obsolete) said-3))

next-length : flawed keeps_length one begun ≡ next one
unfolding flawed length_there computing reading held_by
next-length = refl

first-kept : ((with_flaw keeps_length).call t0 (ingest one)).left ≡ next one
first-kept = step keeps_length t0 one done-one ∙ ap (flawed keeps_length one) begins ∙ next-length

second-kept : ((with_flaw keeps_length).call ((with_flaw keeps_length).call t0 (ingest one)).left arrives-2).left ≡ recorded-2
unfolding instead
second-kept = ap (λ (s : Tallied). (outcome field s arrives-2).left) first-kept ∙ left-arrives

after-three : leaves_after keeps_length calls-3 ≡ (flawed keeps_length later recorded-2).store
unfolding after_all
after-three = ap (λ (s : Tallied). ((with_flaw keeps_length).call s (ingest later)).left.store) second-kept ∙ ap (λ (s : Tallied). s.store) (step keeps_length recorded-2 later done-replaces)

length-kept : having 2 later ∈ held field Spt (leaves_after keeps_length calls-3)
unfolding flawed length_there computing reading held_by
length-kept = rw after-three (here refl)

-- By the calls, nothing has arrived of the later one.
none-of-later : available (history (with_flaw keeps_length) t0 calls-3) (filed_as later).entry ≡ 0
unfolding history left_from arrives is_done
none-of-later =
    let d : ((with_flaw keeps_length).call ((with_flaw keeps_length).call ((with_flaw keeps_length).call t0 (ingest one)).left arrives-2).left (ingest later)).verdict ≡ done
    = ap (λ (s : Tallied). (outcome field s (ingest later)).verdict) second-kept ∙ done-replaces in
    rw (d, entry-equality.self (filed_as later).entry) refl

next-nothing : flawed prunes_nothing one begun ≡ next one
unfolding flawed computing reading held_by
next-nothing = refl

next-one-tree : flawed prunes_one_tree one begun ≡ next one
unfolding flawed computing reading held_by
next-one-tree = refl

next-arrival : flawed in_order_of_arrival one begun ≡ next one
unfolding flawed computing reading held_by
next-arrival = refl

next-ties : flawed prunes_ties lower begun ≡ next lower
unfolding flawed computing reading held_by
next-ties = refl

none-pruned : Exactly (held field Spt (leaves prunes_nothing (one ∷ later ∷ []))) (map receipt_of (one ∷ later ∷ [])) → ⊥
unfolding flawed computing reading held_by
none-pruned h =
    let k = subst (λ (s : Store). Exactly (held field Spt s) (map receipt_of (one ∷ later ∷ []))) (after_two prunes_nothing one later done-one next-nothing done-later) h in
    clash {b = prunes (receipt_of later).entry (receipt_of one).entry} refl (((k (receipt_of one)).0 (here refl)).unpruned (receipt_of later) (there (here refl)))

ties-pruned : Exactly (held field Spt (leaves prunes_ties (lower ∷ one ∷ []))) (map receipt_of (lower ∷ one ∷ [])) → ⊥
unfolding flawed computing reading held_by
ties-pruned h =
    let k = subst (λ (s : Store). Exactly (held field Spt s) (map receipt_of (lower ∷ one ∷ []))) (after_two prunes_ties lower one done-lower next-ties done-tied) h in
    let m : receipt_of lower ∈ map receipt_in (held field Spt (flawed prunes_ties one (next lower)).store) = (k (receipt_of lower)).1 (current-by _ (receipt_of lower) (here refl) refl) in
    let z : ◌≡◌ {A = ℕ} 2 1 = ap (λ (r : Receipt). length r.entry.path) (only m) in
    omega arith

one-pruned : let s = leaves prunes_one_tree (one ∷ later ∷ []) in dir_of Tsp s ≡ dir_numbers (dir_room 2) (map (record_of Tsp) (held field Tsp s)) → ⊥
unfolding flawed computing reading held_by
one-pruned h =
    let e = subst (λ (s : Store). dir_of Tsp s ≡ dir_numbers (dir_room 2) (map (record_of Tsp) (held field Tsp s))) (after_two prunes_one_tree one later done-one next-one-tree done-later) h in
    let z : ◌≡◌ {A = ℕ} (29 + value_length) 0 = ap (λ (l : List ℕ). get_or l 3 0) e in
    omega arith

by-arrival : Ascends key_below (map (record_of Tsp) (held field Tsp (leaves in_order_of_arrival (one ∷ two ∷ [])))) → ⊥
unfolding flawed computing reading held_by Ascends
by-arrival h =
    let k = subst (λ (s : Store). Ascends key_below (map (record_of Tsp) (held field Tsp s))) (after_two in_order_of_arrival one two done-one next-arrival done-two) h in
    clash {b = key_below (record_of Tsp (filed_as one)) (record_of Tsp (filed_as two))} (k.0 (record_of Tsp (filed_as two)) (here refl)) refl

pub broken : Broken
broken = record {
  counts_only = only-counted;
  leaves_bytes = bytes_left;
  loses_token = token-lost;
  files_local = local-filed;
  available_1 = available-one;
  keeps_length = length-kept;
  prunes_nothing = none-pruned;
  prunes_ties = ties-pruned;
  prunes_one_tree = one-pruned;
  in_order_of_arrival = by-arrival;
}

-- What is handed in is received, and the premise holds of it.
got-one : (w : Flaw) (x : IngestCall) → (outcome field t0 (ingest x)).verdict ≡ done → received (history (with_flaw w) t0 (map ingest (x ∷ []))) ≡ map receipt_of (x ∷ [])
unfolding history received receipts not_refused input
got-one w x d = rw d refl

one-token-1 : (x : IngestCall) → OneToken (map receipt_of (x ∷ []))
one-token-1 x a b n k e = ap (λ (r : Receipt). r.token) (only n ∙ sym (only k))

-- So demand 3 says of these what each of them breaks.
module _ (w : Flaw) (v : Demand3 (throughout field) (with_flaw w)) (xs : List IngestCall) (h : all (fine 2) xs ≡ true)
    (got : received (history (with_flaw w) t0 (map ingest xs)) ≡ map receipt_of xs) (p : OneToken (map receipt_of xs)) where
  abbrev run : Run (throughout field) (with_flaw w)
  run = record { opening = at_limit 2; accepted = opens-fine 2 ok-2; calls = map ingest xs; values = lines-values 2 xs h }

  whole : (k : KeyOrder) → Contents field k (leaves w xs) (events run)
  whole = v.contents run (lines-gather 2 xs h) (rw got p)

  exactly : (k : KeyOrder) → Exactly (held field k (leaves w xs)) (map receipt_of xs)
  exactly k = subst (Exactly (held field k (leaves w xs))) got (whole k).exactly

  bytes : (k : KeyOrder) → tree_of field k (leaves w xs) ≡ tree_bytes (tree_room field 2) (map (record_of k) (held field k (leaves w xs)))
  bytes k = (whole k).laid.bytes ∙ ap (λ (n : ℕ). tree_bytes (tree_room field n) (map (record_of k) (held field k (leaves w xs)))) (v.keeps run).limit

  numbers : (k : KeyOrder) → dir_of k (leaves w xs) ≡ dir_numbers (dir_room 2) (map (record_of k) (held field k (leaves w xs)))
  numbers k = (whole k).laid.numbers ∙ ap (λ (n : ℕ). dir_numbers (dir_room n) (map (record_of k) (held field k (leaves w xs)))) (v.keeps run).limit

pub having_a_flaw : (w : Flaw) → Refuted (with_flaw w)
unfolding computing
having_a_flaw counts_only v = broken.counts_only (exactly counts_only v (one ∷ []) refl (got-one counts_only one done-one) (one-token-1 one) Spt)
having_a_flaw leaves_bytes v = broken.leaves_bytes (bytes leaves_bytes v (one ∷ []) refl (got-one leaves_bytes one done-one) (one-token-1 one) Spt)
having_a_flaw loses_token v = broken.loses_token (exactly loses_token v (other_token ∷ []) refl (got-one loses_token other_token done-token) (one-token-1 other_token) Spt)
having_a_flaw files_local v =
    let r = run files_local v (from (Remote 7) one ∷ []) refl (got-one files_local (from (Remote 7) one) done-from) (one-token-1 (from (Remote 7) one)) in
    not_local (v.inserted r Spt (filed_as one) broken.files_local ∙ came-in-7)
having_a_flaw available_1 v = broken.available_1 λ x m. v.arrived (run available_1 v (one ∷ []) refl (got-one available_1 one done-one) (one-token-1 one)) Spt x m ∙ none-arrived (with_flaw available_1) t0 _ (one ∷ []) refl x.entry
having_a_flaw keeps_length v =
    let r : Run (throughout field) (with_flaw keeps_length) = record { opening = at_limit 2; accepted = opens-fine 2 ok-2; calls = calls-3; values = mixed-values 2 refl calls-3 refl } in
    let z : ◌≡◌ {A = ℕ} 2 0 = v.arrived r Spt (having 2 later) broken.keeps_length ∙ none-of-later in
    absurd (omega arith)
having_a_flaw prunes_nothing v = broken.prunes_nothing (exactly prunes_nothing v (one ∷ later ∷ []) refl (got-two prunes_nothing one later done-one next-nothing done-later) (tokens-one (replicate 64 0) _ refl) Spt)
having_a_flaw prunes_ties v = broken.prunes_ties (exactly prunes_ties v (lower ∷ one ∷ []) refl (got-two prunes_ties lower one done-lower next-ties done-tied) (tokens-one (replicate 64 0) _ refl) Spt)
having_a_flaw prunes_one_tree v = broken.prunes_one_tree (numbers prunes_one_tree v (one ∷ later ∷ []) refl (got-two prunes_one_tree one later done-one next-one-tree done-later) (tokens-one (replicate 64 0) _ refl) Tsp)
having_a_flaw in_order_of_arrival v = broken.in_order_of_arrival (whole in_order_of_arrival v (one ∷ two ∷ []) refl (got-two in_order_of_arrival one two done-one next-arrival done-two) (tokens-one (replicate 64 0) _ refl) Tsp).laid.ascending
