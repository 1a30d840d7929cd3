-- Our listings answer right and nothing else is right, so that a listing finished before a match is shut out. Assumes nothing.
use Prim.Native.Nat.{ℕ}
use mathlib.Core.Path.{◌≡◌, refl, sym, ap, ap₂, subst, ◌∙◌}
use mathlib.Core.Logic.{◌↔◌}
use mathlib.Core.List.Memᴰ.{eq_of_singleton}
use mathlib.Core.List.Memᴰ.{head as here}
use mathlib.Core.List.{List, [], ◌∷◌}
use mathlib.Core.Bool.{Bool, true, false, ◌&&◌}
use mathlib.Core.Option.{Option, some, none}
use native.Mathlib.Omega.{arith}
use lib.ListN.{replicate}
use lib.Dec.{eqb}
use borrow.Author.Tests.{eqb-true, eqb-false}
use Rattle.laws.specs.Order.{is_less, below, by_number}
use Rattle.laws.specs.Prefix.{prefix_of}
use Rattle.laws.specs.Sorted.{◌∈◌, any, all, keep, insert}
use Rattle.laws.proofs.Truth.{split, clash, and-true}
use Rattle.laws.proofs.Order.{below_total}
use Rattle.laws.proofs.First.{LeastIs}
use Rattle.data_model.specs.Origin.{origin_session}
use Rattle.data_model.specs.Ignore.{no_flags}
use Rattle.data_model.specs.Said.{Said, refuses, says}
use Rattle.data_model.specs.Path.{field, cut, components, legal, joined, ends_from, is_path, value_of, path_of, by_bytes}
use Rattle.data_model.specs.Subspace.{first_subspace}
use Rattle.data_model.specs.Range.{before_end, includes, end_says, times_include, legal_range}
use Rattle.data_model.specs.Area.{area_subspace, area_includes}
use Rattle.data_model.specs.declared.entry_origin.EntryOrigin.TheVariants.{Local}
use Rattle.data_model.specs.declared.range.RangeEnd.TheVariants as times
use Rattle.data_model.specs.declared.area.AreaSubspace.TheVariants.{Any}
use Rattle.data_model.specs.declared.area.Area.{Area}
use Rattle.data_model.proofs.Orders.{bytes-linear}
use Rattle.key_laws.proofs.Fits.{legal-of}
use Rattle.tree.specs.Stored.{Stored, stored, key_of, key_below, triple_of, Lawful}
use Rattle.tree.specs.Tree.{keys_below}
use Rattle.tree.specs.Matching.{in_area, let_through, listed_in_area}
use Rattle.tree.specs.declared.stored.KeyOrder.TheVariants.{Spt}
use Rattle.tree.proofs.RecordLaws.{contents-view}
use Rattle.tree.proofs.SearchLaws.{key-place}
use Rattle.store.specs.Store.{tree_room, dir_room, Store, store_of, held, well_formed_store, Held, holding}
use Rattle.store.specs.Refusal.{limit_ok, roomy}
use Rattle.store.specs.Open.{empty_state, nothing}
use Rattle.store.specs.Ingest.{filed_in, filed}
use Rattle.store.proofs.Meaning.{SoundHeld, sound-nothing, sound-filed}
use Rattle.store.proofs.Lifted.{Fit, list_of, bears-held, bears-well, holding-bears, holding-roomy}
use Rattle.store.proofs.CheckLaws.{Passed}
use Rattle.query.specs.Reading.{is_remembered, area_list_refusal}
use Rattle.query.specs.Listing.{spt_records, key_above, qualifies, step, listed}
use Rattle.query.specs.EarlyFinish.{Wanted, of_area, of_range, refusal_of, is_wanted, Comes, RightAnswer, EarlyFinish}
use Rattle.query.proofs.Tested.{store-passes, read-passes, list-passes, list-tested}
use Rattle.query.proofs.StartLaws.{refused_keys, start-above}
use Rattle.query.proofs.GivenLaws.{step_is}

-- Of a store.
tested : (s : Store) (w : Wanted) (last : List ℕ) → refusal_of s w last ≡ 0 → Passed s
tested s (of_area area ignore) last z = (list-tested s (legal field area.path) last z).0
tested s (of_range range ignore) last z = (list-tested s (legal_range field range.paths) last z).0

module _ (s : Store) (w : Wanted) (last : List ℕ) where
  abbrev may : List ℕ → Bool
  may = qualifies field s.state.namespace_id (is_wanted w) last

  comes : (r : List ℕ) → r ∈ spt_records field s → may r ≡ true → Comes s w last r
  comes r m e = let k = and-true (key_above last r) (is_wanted w (stored Spt field s.state.namespace_id r)) e in record { stands = m; above = k.0; wanted = k.1 }

  may-come : (r : List ℕ) → Comes s w last r → may r ≡ true
  may-come r h = ap₂ ◌&&◌ h.above h.wanted

  said-right : refusal_of s w last ≡ 0 → (o : Option (List ℕ)) → LeastIs key_below may (spt_records field s) o → RightAnswer s w last (says o)
  said-right z (some r) v = record {
    refused = λ n. (λ e. absurd (let y : ◌≡◌ {A = ℕ} 0 1 = cc in omega arith), λ e. absurd (e.1 (sym e.0 ∙ z)));
    found = λ q e. let g : r ≡ q = cc in subst (λ x. Comes s w last x × ((y : List ℕ) → Comes s w last y → key_below y x ≡ false)) g (comes r v.among v.holds, λ y h. v.none_below y h.stands (may-come y h));
    finished = λ e. absurd (let y : ◌≡◌ {A = ℕ} 0 1 = cc in omega arith);
  }
  said-right z none v = record {
    refused = λ n. (λ e. absurd (let y : ◌≡◌ {A = ℕ} 0 1 = cc in omega arith), λ e. absurd (e.1 (sym e.0 ∙ z)));
    found = λ q e. absurd (let y : ◌≡◌ {A = ℕ} 0 1 = cc in omega arith);
    finished = λ e r h. clash (may-come r h) (v r h.stands);
  }

  refused-right : (refusal_of s w last ≡ 0 → ⊥) → RightAnswer s w last (refuses (refusal_of s w last))
  refused-right z = record {
    refused = λ n. (λ e. let g : refusal_of s w last ≡ n = cc in (g, λ y. z (g ∙ y)), λ e. ap refuses e.0);
    found = λ q e. absurd (let y : ◌≡◌ {A = ℕ} 0 1 = cc in omega arith);
    finished = λ e. absurd (let y : ◌≡◌ {A = ℕ} 0 1 = cc in omega arith);
  }

  ours-right : RightAnswer s w last (listed field s (refusal_of s w last) (is_wanted w) last)
  unfolding listed
  ours-right = split (eqb (refusal_of s w last) 0)
      (λ q. let z = eqb-true (refusal_of s w last) 0 q in rw q (said-right z (step field s (is_wanted w) last) (step_is s (tested s w last z) (is_wanted w) last)))
      (λ q. rw q (refused-right (eqb-false (refusal_of s w last) 0 q)))

  -- Records of the tree that are not below one another are one.
  one-record : Passed s → (a b : List ℕ) → Comes s w last a → Comes s w last b → key_below a b ≡ false → key_below b a ≡ false → a ≡ b
  unfolding below
  one-record p a b x y e f =
      let k : key_of a ≡ key_of b = below_total by_bytes bytes-linear (key_of a) (key_of b) e f in
      let u = (key-place (key_of b) (spt_records field s) (p.ordered Spt).ascends (keys_below (key_of b) (spt_records field s)) refl x.stands k).1 in
      let v = (key-place (key_of b) (spt_records field s) (p.ordered Spt).ascends (keys_below (key_of b) (spt_records field s)) refl y.stands refl).1 in
      sym u ∙ v

  none-refused : (a : Option (List ℕ)) → RightAnswer s w last (says a) → Passed s
  none-refused a v = split (eqb (refusal_of s w last) 0)
      (λ q. tested s w last (eqb-true (refusal_of s w last) 0 q))
      (λ q. absurd (let e : says a ≡ refuses (refusal_of s w last) = (v.refused (refusal_of s w last)).1 (refl, eqb-false (refusal_of s w last) 0 q) in let y : ◌≡◌ {A = ℕ} 0 1 = cc in omega arith))

  one_answer : (a b : Said (Option (List ℕ))) → RightAnswer s w last a → RightAnswer s w last b → a ≡ b
  one_answer (says (some n)) (says (some k)) p q =
      let u = p.found n refl in
      let v = q.found k refl in
      ap (λ (x : List ℕ). says (some x)) (one-record (none-refused (some n) p) n k u.0 v.0 (v.1 n u.0) (u.1 k v.0))
  one_answer (says (some n)) (says none) p q = absurd (q.finished refl n (p.found n refl).0)
  one_answer (says (some n)) (refuses k) p q = (p.refused k).1 ((q.refused k).0 refl)
  one_answer (says none) (says (some k)) p q = absurd (p.finished refl k (q.found k refl).0)
  one_answer (says none) (says none) p q = refl
  one_answer (says none) (refuses k) p q = (p.refused k).1 ((q.refused k).0 refl)
  one_answer (refuses n) (says (some k)) p q = sym ((q.refused n).1 ((p.refused n).0 refl))
  one_answer (refuses n) (says none) p q = sym ((q.refused n).1 ((p.refused n).0 refl))
  one_answer (refuses n) (refuses k) p q = (p.refused k).1 ((q.refused k).0 refl)

  only-ours : (r : Said (Option (List ℕ))) → RightAnswer s w last r ↔ (r ≡ listed field s (refusal_of s w last) (is_wanted w) last)
  only-ours r = (λ v. one_answer r _ v ours-right, λ e. rw e ours-right)

-- A store of limit 1 that holds an entry of zeros, and the area of everything.
abbrev zeros : Stored
zeros = record {
  entry = record { namespace = replicate 16 0; subspace = first_subspace; path = []; rank = record { timestamp = 0; payload_digest = replicate 32 0; payload_length = 0 } };
  token = replicate 64 0;
  available = 0;
  origin = Local;
}

abbrev holds-zeros : Held
holds-zeros = record { spt = zeros ∷ []; tsp = zeros ∷ [] }

abbrev empty : Store
empty = store_of (empty_state (replicate 16 0) 1) (replicate (tree_room field 1) 0) (replicate (dir_room 1) 0) (replicate (tree_room field 1) 0) (replicate (dir_room 1) 0)

abbrev one-held : Store
one-held = holding field holds-zeros empty

abbrev everything : Area
everything = record { subspace = Any; path = path_of []; times = record { start = 0; end = times.Open } }

zeros-lawful : Lawful field zeros
unfolding is_path all joined triple_of origin_session
zeros-lawful = record {
  path = refl;
  sized = record { high = omega arith; low = omega arith; time = omega arith };
  payload = omega arith;
  digest = refl;
  token = refl;
  available = omega arith;
  session = omega arith;
}

sound : SoundHeld (replicate 16 0) holds-zeros
unfolding filed filed_in insert keep any
sound = sound-filed zeros nothing (sound-nothing (replicate 16 0)) refl (record { current = refl; absent = refl })

fit : Fit field (replicate 16 0) 1 holds-zeros
fit = record { sound = sound; proper = λ x m. rw (eq_of_singleton m) (record { lawful = zeros-lawful; available = omega arith }); few = omega arith }

well : well_formed_store field one-held ≡ true
unfolding holding
well = bears-well field one-held holds-zeros fit (holding-bears field empty holds-zeros fit)

held-is : held field Spt one-held ≡ zeros ∷ []
unfolding holding list_of
held-is = bears-held field one-held holds-zeros fit (holding-bears field empty holds-zeros fit) Spt

roomy-one : roomy field 1 one-held ≡ true
roomy-one = holding-roomy field empty holds-zeros fit (unfold roomy in refl)

legal-all : legal field (path_of []) ≡ true
legal-all = legal-of field [] (unfold is_path all joined in refl)

not-refused : area_list_refusal field one-held everything [] ≡ 0
unfolding holding limit_ok is_remembered
not-refused =
    let e = store-passes one-held refl roomy-one well in
    rw legal-all (sym (list-passes one-held true [] (read-passes one-held true e refl) refl))

wants-zeros : listed_in_area everything no_flags zeros ≡ true
unfolding listed_in_area in_area let_through area_includes area_subspace components cut path_of value_of ends_from joined prefix_of times_include includes end_says before_end is_less by_number
wants-zeros = refl

comes-zeros : (r : List ℕ) × Comes one-held (of_area everything no_flags) [] r
unfolding held
comes-zeros =
    let p = tested one-held (of_area everything no_flags) [] not-refused in
    let m : zeros ∈ held field Spt one-held = rw held-is (here refl) in
    let k = contents-view Spt field one-held.state.namespace_id (spt_records field one-held) m in (
      k.0,
      record {
        stands = k.1;
        above = start-above one-held p k.0 k.1;
        wanted = ap (listed_in_area everything no_flags) (sym k.2) ∙ wants-zeros;
      },
    )

pub early-finish : EarlyFinish
early-finish = record {
  refused_keys = refused_keys;
  from_the_start = λ s w z r m. start-above s (tested s w [] z) r m;
  only_ours_area = λ s area ignore last. only-ours s (of_area area ignore) last;
  only_ours_range = λ s range ignore last. only-ours s (of_range range ignore) last;
  finishing_early = λ l f right. (right f.0 f.1 f.2).finished f.4 f.3 f.5;
  one_finishes_early = (one-held, of_area everything no_flags, [], comes-zeros.0, rw not-refused, comes-zeros.1);
}
