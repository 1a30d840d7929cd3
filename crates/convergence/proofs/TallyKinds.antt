-- A store whose tally is never written, or is written before the change, is refuted: the subspace of the first entry is not in it. Assumes nothing.
use Prim.Native.Nat.{ℕ}
use mathlib.Core.Path.{◌≡◌, refl, sym, ap, ap₂, subst, ◌∙◌}
use mathlib.Core.List.{List, [], ◌∷◌}
use native.Mathlib.Omega.{arith}
use lib.ListN.{get_or, take}
use Rattle.data_model.specs.Path.{field}
use Rattle.tree.specs.Stored.{Stored}
use Rattle.tree.specs.declared.stored.KeyOrder.TheVariants.{Spt}
use Rattle.tally.specs.Tally.{tally_room, tally_bytes, tally_holding}
use Rattle.store.specs.Store.{held, Held, held_by, Tallied}
use Rattle.call_laws.specs.Calls.{filed_as}
use Rattle.call_laws.proofs.TallyKept.{tally-held}
use Rattle.convergence.specs.Demand.{throughout, Demand3}
use Rattle.convergence.specs.Examples.{at_limit, one}
use Rattle.convergence.specs.WrongStores.{AStore, OpensRight, TalliesNothing, TalliesBefore, Refuted}
use Rattle.convergence.proofs.Computing.{computing, reading, tallying}
use Rattle.convergence.proofs.Flaws.{t0}
use Rattle.convergence.proofs.FirstCalls.{c1, t1, t0-stands, t0-holds, t0-limit, t1-stands, t1-holds, limits, s0, first_store, second_store, reached-0, first-verdict}

-- The last byte of the first subspace, in the tally of none and in that of the first entry.
none-byte : get_or (tally_bytes 2 []) 15 0 ≡ 0
unfolding reading tallying
none-byte = refl

one_byte : get_or (tally_bytes 2 (filed_as one ∷ [])) 15 0 ≡ 1
unfolding computing reading tallying
one_byte = refl

-- No store that meets demand 3 has, after the first entry, the tally of none.
none-tallied : (m : AStore) → OpensRight m → Demand3 (throughout field) m → take (tally_room 2) (m.call (m.opening (at_limit 2)).left c1).left.tally ≡ tally_bytes 2 [] → ⊥
unfolding held_by
none-tallied m o v e =
    let l : t1.store.state.limit ≡ 2 = limits t0 c1 ∙ t0-limit in
    let h : held field Spt t1.store ≡ filed_as one ∷ [] = ap (λ (h : Held). h.spt) t1-holds in
    let q : take (tally_room 2) t1.tally ≡ tally_bytes 2 (filed_as one ∷ [])
    = subst (λ (n : ℕ). take (tally_room n) t1.tally ≡ tally_bytes n (filed_as one ∷ [])) l (t1-stands.tallied ∙ ap (tally_bytes t1.store.state.limit) h) in
    let z : ◌≡◌ {A = ℕ} 1 0 = sym one_byte ∙ ap (λ (l : List ℕ). get_or l 15 0) (sym q ∙ ap (λ (t : Tallied). take (tally_room 2) t.tally) (sym (second_store m o v)) ∙ e) ∙ none-byte in
    omega arith

-- The tally with which it was opened.
tally-begun : take (tally_room 2) t0.tally ≡ tally_bytes 2 []
tally-begun = subst (λ (n : ℕ). take (tally_room n) t0.tally ≡ tally_bytes n []) t0-limit (t0-stands.stands.tallied ∙ ap (tally_bytes t0.store.state.limit) t0-holds)

pub tallying_nothing : (m : AStore) → OpensRight m → TalliesNothing m → Refuted m
tallying_nothing m o w v = none-tallied m o v
    (ap (take (tally_room 2)) (w (s0 m o v) (reached-0 m o v) c1 ∙ ap (λ (t : Tallied). t.tally) (first_store m o v)) ∙ tally-begun)

pub tallying_before : (m : AStore) → OpensRight m → TalliesBefore m → Refuted m
tallying_before m o w v =
    let s = s0 m o v in
    let l : s.store.state.limit ≡ 2 = ap (λ (t : Tallied). t.store.state.limit) (first_store m o v) ∙ t0-limit in
    let h : held field Spt s.store ≡ [] = ap (λ (t : Tallied). held field Spt t.store) (first_store m o v) ∙ t0-holds in
    none-tallied m o v
    (ap (take (tally_room 2)) (w s (reached-0 m o v) c1 (first-verdict m o v) ∙ ap₂ (λ (n : ℕ) (x : List Stored). tally_holding n x s.tally) l h) ∙ tally-held 2 [] (omega arith) s.tally)
