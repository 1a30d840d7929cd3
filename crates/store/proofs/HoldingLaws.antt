-- A store whose trees were changed in their rooms holds what they were changed to; an opened store holds nothing. Assumes nothing.
use Prim.Native.Nat.{ℕ, ◌≤◌}
use mathlib.Core.Path.{◌≡◌, refl, sym, ap, ◌∙◌}
use mathlib.Core.List.{List, [], ◌++◌, map}
use mathlib.Core.Bool.{◌&&◌}
use lib.ListN.{length, take, drop}
use lib.Seq.{length-take-le}
use lib.Dec.{lit<}
use borrow.Author.Tests.{leb-true}
use Rattle.laws.proofs.Truth.{and-true}
use Rattle.layout.specs.Buffers.{cleared, filled}
use Rattle.layout.specs.Layout.{tree_bytes, dir_numbers}
use Rattle.data_model.specs.Path.{field}
use Rattle.data_model.specs.Refusal.{refusal_number}
use Rattle.data_model.specs.declared.answer.Refusal.{Refusal}
use Rattle.tree.specs.Stored.{Stored, record_of}
use Rattle.tree.specs.declared.stored.KeyOrder.{KeyOrder}
use Rattle.tree.specs.declared.stored.KeyOrder.TheVariants.{Spt, Tsp}
use Rattle.tally.specs.Tally.{tally_room, tally_of, tally_in, tally_holding}
use Rattle.store.specs.Store.{Store, store_of, limit_most, tree_room, dir_room, Held, tree_holding, dir_holding, holding, Tallied, tallied_of}
use Rattle.store.specs.Refusal.{unless, limit_ok, roomy, tally_fits}
use Rattle.store.specs.Open.{empty_state, no_state, nothing, open_refusal, open_answer, open_outcome, opened, opening}
use Rattle.store.specs.Change.{Changed}
use Rattle.store.proofs.Lifted.{Rooms, rooms}
use Rattle.store.proofs.CheckLaws.{or-none, unless-none, limit-most, number-some}

-- One buffer: its front was rewritten, its rest is as it was.
pub tree-holds : (o : KeyOrder) (limit : ℕ) (l : List Stored) (old front : List ℕ) → tree_room field limit ≤ length old
    → front ≡ tree_bytes (length (take (tree_room field limit) old)) (map (record_of o) l) → front ++ drop (tree_room field limit) old ≡ tree_holding field o limit l old
unfolding tree_holding
tree-holds o limit l old front h e =
    ap (◌++ drop (tree_room field limit) old) (e ∙ ap (λ (n : ℕ). tree_bytes n (map (record_of o) l)) (length-take-le (tree_room field limit) old h))

pub dir-holds : (o : KeyOrder) (limit : ℕ) (l : List Stored) (old front : List ℕ) → dir_room limit ≤ length old
    → front ≡ dir_numbers (length (take (dir_room limit) old)) (map (record_of o) l) → front ++ drop (dir_room limit) old ≡ dir_holding o limit l old
unfolding dir_holding
dir-holds o limit l old front h e =
    ap (◌++ drop (dir_room limit) old) (e ∙ ap (λ (n : ℕ). dir_numbers n (map (record_of o) l)) (length-take-le (dir_room limit) old h))

-- The whole store, its two trees changed.
module _ (s : Store) (h : Held) (r : Rooms field s) (n k : ℕ) (spt spt_dir tsp tsp_dir : List ℕ)
    (cs : Changed Spt h.spt (take (dir_room s.state.limit) s.spt_dir) (take (tree_room field s.state.limit) s.spt) spt_dir spt n)
    (ct : Changed Tsp h.tsp (take (dir_room s.state.limit) s.tsp_dir) (take (tree_room field s.state.limit) s.tsp) tsp_dir tsp k) where
  pub store-holds : store_of (record { namespace_id = s.state.namespace_id; count = n; limit = s.state.limit })
      (spt ++ drop (tree_room field s.state.limit) s.spt) (spt_dir ++ drop (dir_room s.state.limit) s.spt_dir)
      (tsp ++ drop (tree_room field s.state.limit) s.tsp) (tsp_dir ++ drop (dir_room s.state.limit) s.tsp_dir)
      ≡ holding field h s
  unfolding holding
  store-holds =
      let a = tree-holds Spt s.state.limit h.spt s.spt spt r.spt cs.bytes in
      let b = dir-holds Spt s.state.limit h.spt s.spt_dir spt_dir r.spt_dir cs.numbers in
      let c = tree-holds Tsp s.state.limit h.tsp s.tsp tsp r.tsp ct.bytes in
      let d = dir-holds Tsp s.state.limit h.tsp s.tsp_dir tsp_dir r.tsp_dir ct.numbers in
      let e = cs.count in
      λ i. record {
        state = record { namespace_id = s.state.namespace_id; count = e i; limit = s.state.limit };
        spt = a i;
        spt_dir = b i;
        tsp = c i;
        tsp_dir = d i;
      }

-- Opening.
module _ (ns : List ℕ) (limit : ℕ) (spt spt_dir tsp tsp_dir tally : List ℕ) where
  abbrev asked : Tallied
  asked = tallied_of (empty_state ns limit) spt spt_dir tsp tsp_dir tally

  pub open-refused : (r : Refusal) → refusal_number r ≡ open_refusal field asked
      → open_outcome (record { refusal = refusal_number r; state = no_state }) spt spt_dir tsp tsp_dir tally ≡ opening field ns limit spt spt_dir tsp tsp_dir tally
  unfolding opened open_answer
  open-refused r e = rw (← e, number-some r)

  module _ (z : 0 ≡ open_refusal field asked) where
    -- What an opening that is not refused has room for.
    pub open-passed : (limit ≤ limit_most) × Rooms field asked.store × (tally_room limit ≤ length tally)
    unfolding open_refusal
    open-passed =
        let s = asked.store in
        let k = or-none (unless (limit_ok limit) 1) (unless (roomy field limit s && tally_fits asked) 2) (sym z) in
        let r = and-true (roomy field limit s) (tally_fits asked) (unless-none (roomy field limit s && tally_fits asked) 2 (lit< tt) k.1) in
        ((limit-most limit (unless-none (limit_ok limit) 1 (lit< tt) k.0)).1, rooms field s r.0, leb-true (tally_room limit) (length tally) r.1)

    pub open_done : (a b c d t : List ℕ)
        → a ≡ tree_bytes (length (take (tree_room field limit) spt)) [] → b ≡ dir_numbers (length (take (dir_room limit) spt_dir)) []
        → c ≡ tree_bytes (length (take (tree_room field limit) tsp)) [] → d ≡ dir_numbers (length (take (dir_room limit) tsp_dir)) []
        → t ≡ cleared 0 (tally_room limit) tally
        → open_outcome (record { refusal = 0; state = empty_state ns limit }) (a ++ drop (tree_room field limit) spt) (b ++ drop (dir_room limit) spt_dir) (c ++ drop (tree_room field limit) tsp) (d ++ drop (dir_room limit) tsp_dir) t
        ≡ opening field ns limit spt spt_dir tsp tsp_dir tally
    unfolding opened open_answer tally_holding tally_in tally_of filled cleared
    open_done a b c d t ea eb ec ed et =
        let m : open_refusal field asked ≡ 0 = sym z in
        let g = store-holds asked.store nothing open-passed.1 0 0 a b c d (record { bytes = ea; numbers = eb; count = refl }) (record { bytes = ec; numbers = ed; count = refl }) in
        rw m (λ i. record { answer = record { refusal = 0; state = empty_state ns limit }; left = record { store = g i; tally = et i } })
