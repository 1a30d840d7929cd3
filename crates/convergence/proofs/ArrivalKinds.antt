-- A store that records nothing, or in one tree alone, is refuted; and there are such. Assumes nothing.
use Prim.Native.Nat.{ℕ, ◌+◌, ◌-◌}
use mathlib.Core.Path.{◌≡◌, refl, sym, ap, ◌∙◌}
use mathlib.Core.Bool.{true}
use mathlib.Core.List.{List, [], ◌∷◌, map}
use mathlib.Core.Option.{some}
use native.Mathlib.Omega.{arith}
use lib.ListN.{get_or, take}
use Rattle.laws.specs.Sorted.{all}
use Rattle.layout.specs.Layout.{tree_bytes}
use Rattle.data_model.specs.Path.{field}
use Rattle.tree.specs.Value.{origin_at}
use Rattle.tree.specs.Stored.{Stored, record_of}
use Rattle.tree.specs.declared.stored.KeyOrder.TheVariants.{Spt, Tsp}
use Rattle.store.specs.Store.{tree_room, tree_of, held, Held, held_by, Tallied}
use Rattle.store.specs.Open.{nothing}
use Rattle.store.proofs.Lifted.{list_of}
use Rattle.call_laws.specs.Calls.{Recording, Call, ingest, forget_entry, forget_area, record_available, forget_payload, recording_of}
use Rattle.call_laws.specs.Outcomes.{outcome}
use Rattle.call_laws.proofs.Checked.{right-opening}
use Rattle.call_laws.proofs.Right.{not-records}
use Rattle.convergence.specs.Demand.{after_all, throughout, Demand3}
use Rattle.convergence.specs.Examples.{at_limit, record_for, one}
use Rattle.convergence.specs.WrongStores.{AStore, OpensRight, RecordsNothing, RecordsOneTree, on_recording, deaf, half_deaf, Refuted}
use Rattle.convergence.proofs.OnlyOne.{one_store}
use Rattle.convergence.proofs.Computing.{computing, reading}
use Rattle.convergence.proofs.Mixed.{holds_all, fine_call, mixed-values, mixed, mixed-bytes}
use Rattle.convergence.proofs.Flaws.{ok-2}
use Rattle.convergence.proofs.FirstCalls.{c1, t1, t1-holds, limits, s0, accepted, second_store, reached-1}

-- The first entry, and 2 bytes of it have arrived.
abbrev arriving : List Call
arriving = c1 ∷ record_for one 2 ∷ []

fine-arriving : all (fine_call 2) arriving ≡ true
unfolding computing
fine-arriving = refl

abbrev t2 : Tallied
t2 = (outcome field t1 (record_for one 2)).left

-- What ours holds then; and the last byte of the available length in the time-first tree, before and after.
t2-length : map (λ (x : Stored). x.available) (held field Spt t2.store) ≡ 2 ∷ []
unfolding after_all held_by computing
t2-length = ap (λ (h : Held). map (λ (x : Stored). x.available) h.spt) (mixed 2 refl arriving refl).holds

t1-length : map (λ (x : Stored). x.available) (held field Spt t1.store) ≡ 0 ∷ []
unfolding held_by
t1-length = ap (λ (h : Held). map (λ (x : Stored). x.available) h.spt) t1-holds

tsp_bytes : List Call → List ℕ
tsp_bytes cs = tree_bytes (tree_room field 2) (map (record_of Tsp) (list_of Tsp (holds_all 2 nothing cs)))

-- Behind a key of 29 bytes.
abbrev last_byte : ℕ
last_byte = 29 + origin_at - 1

byte-after : get_or (tsp_bytes arriving) last_byte 0 ≡ 2
unfolding computing reading list_of tsp_bytes
byte-after = refl

byte-before : get_or (tsp_bytes (c1 ∷ [])) last_byte 0 ≡ 0
unfolding computing reading list_of tsp_bytes
byte-before = refl

-- Any store that opens as 01 says and meets demand 3 is then as ours is.
second-arrived : (m : AStore) (o : OpensRight m) (v : Demand3 (throughout field) m) → (m.call (m.call (s0 m o v) c1).left (record_for one 2)).left ≡ t2
unfolding after_all
second-arrived m o v = (one_store field m v (at_limit 2) (accepted m o v) arriving (mixed-values 2 ok-2 arriving fine-arriving)).end

pub recording_nothing : (m : AStore) → OpensRight m → RecordsNothing m → Refuted m
unfolding recording_of
recording_nothing m o w v =
    let e : t2 ≡ t1 = sym (second-arrived m o v) ∙ w (m.call (s0 m o v) c1).left (reached-1 m o v) (record_for one 2) _ refl ∙ second_store m o v in
    let z : ◌≡◌ {A = ℕ} 2 0 = ap (λ (l : List ℕ). get_or l 0 0) (sym t2-length ∙ ap (λ (t : Tallied). map (λ (x : Stored). x.available) (held field Spt t.store)) e ∙ t1-length) in
    omega arith

pub recording_one_tree : (m : AStore) → OpensRight m → RecordsOneTree m → Refuted m
unfolding recording_of after_all
recording_one_tree m o w v =
    let a : tree_of field Tsp t2.store ≡ tree_of field Tsp t1.store
    = ap (λ (t : Tallied). tree_of field Tsp t.store) (sym (second-arrived m o v)) ∙ w (m.call (s0 m o v) c1).left (reached-1 m o v) (record_for one 2) _ refl ∙ ap (λ (t : Tallied). tree_of field Tsp t.store) (second_store m o v) in
    let b : tree_of field Tsp t2.store ≡ tsp_bytes arriving = unfold tsp_bytes in mixed-bytes 2 ok-2 arriving fine-arriving Tsp in
    let c : tree_of field Tsp t1.store ≡ tsp_bytes (c1 ∷ []) = unfold tsp_bytes in mixed-bytes 2 ok-2 (c1 ∷ []) fine-one Tsp in
    let z : ◌≡◌ {A = ℕ} 2 0 = sym byte-after ∙ ap (λ (l : List ℕ). get_or l last_byte 0) (sym b ∙ a ∙ c) ∙ byte-before in
    omega arith
  where
    fine-one : all (fine_call 2) (c1 ∷ []) ≡ true
    fine-one = unfold computing in refl

-- There are such.
pub one_records_nothing : OpensRight deaf × RecordsNothing deaf
one_records_nothing = (right-opening field, λ s _ c. same s c)
  where
    same : (s : Tallied) (c : Call) (r : Recording) → recording_of c ≡ some r → (deaf.call s c).left ≡ s
    same s (ingest i) r e = not-records i r e
    same s (forget_entry q) r e = unfold recording_of in absurd (let n : ◌≡◌ {A = ℕ} 0 1 = cc in omega arith)
    same s (forget_area a) r e = unfold recording_of in absurd (let n : ◌≡◌ {A = ℕ} 0 1 = cc in omega arith)
    same s (record_available x) r e = unfold on_recording in refl
    same s (forget_payload p) r e = unfold on_recording in refl

pub one_records_one_tree : OpensRight half_deaf × RecordsOneTree half_deaf
one_records_one_tree = (right-opening field, λ s _ c. same s c)
  where
    same : (s : Tallied) (c : Call) (r : Recording) → recording_of c ≡ some r → tree_of field Tsp (half_deaf.call s c).left.store ≡ tree_of field Tsp s.store
    same s (ingest i) r e = not-records i r e
    same s (forget_entry q) r e = unfold recording_of in absurd (let n : ◌≡◌ {A = ℕ} 0 1 = cc in omega arith)
    same s (forget_area a) r e = unfold recording_of in absurd (let n : ◌≡◌ {A = ℕ} 0 1 = cc in omega arith)
    same s (record_available x) r e = unfold on_recording tree_of in ap (λ (n : ℕ). take (tree_room field n) s.store.tsp) (limits s (record_available x))
    same s (forget_payload p) r e = unfold on_recording tree_of in ap (λ (n : ℕ). take (tree_room field n) s.store.tsp) (limits s (forget_payload p))
