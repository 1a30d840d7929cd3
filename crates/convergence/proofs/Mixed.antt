-- Runs of ingestions, forgettings of entries and recordings, computed over the lists that the store holds. Assumes nothing.
use Prim.Native.Nat.{ℕ}
use mathlib.Core.Path.{◌≡◌, refl, sym, ap, ap₂, subst, ◌∙◌}
use mathlib.Core.Bool.{Bool, true, false, not, cond}
use mathlib.Core.List.Memᴰ.{not-nil as none_in}
use mathlib.Core.List.{List, [], ◌∷◌, map}
use Rattle.laws.specs.Sorted.{◌∈◌, any, all}
use Rattle.laws.proofs.Truth.{clash, and-true}
use Rattle.laws.proofs.Sorted.{all-view}
use Rattle.layout.specs.Layout.{tree_bytes}
use Rattle.data_model.specs.Path.{field, components, legal}
use Rattle.data_model.specs.Entry.{entry_of}
use Rattle.tree.specs.Stored.{record_of}
use Rattle.tree.specs.Matching.{stands_at}
use Rattle.tree.specs.declared.stored.KeyOrder.{KeyOrder}
use Rattle.store.specs.Store.{tree_room, tree_of, Held, held_by, Tallied}
use Rattle.store.specs.Refusal.{unless, ◌or_else◌, limit_ok, store_refusal, tallied_refusal}
use Rattle.store.specs.Open.{nothing}
use Rattle.store.specs.Ingest.{decided}
use Rattle.store.specs.Forget.{without, unexpected, forget_entry_refusal}
use Rattle.store.proofs.Lifted.{list_of}
use Rattle.available.specs.Available.{entry_refusal, available_refusal}
use Rattle.call_laws.specs.Calls.{IngestCall, Target, Recording, Call, ingest, forget_entry, forget_area, record_available, forget_payload, nothing_at, filed_as, input, forgets, recording_of, Verdict, refused, obsolete, already_held, done, number_verdict, IsValue}
use Rattle.call_laws.specs.Outcomes.{outcome, opens, Keeps}
use Rattle.call_laws.proofs.Checked.{decision_verdict, tally-words, entry-verdict, recording-verdict}
use Rattle.call_laws.proofs.Stands.{Stands, stands-well, stands_after, keeps-after, arrivals, ingestion-value, opens-stands}
use Rattle.call_laws.proofs.Right.{refused-done, obsolete-done, held-done, call-right, forgets-right, records-right}
use Rattle.convergence.specs.Demand.{ours, history, after_all, is_done, Run, throughout, end, Admitted}
use Rattle.convergence.specs.Examples.{at_limit}
use Rattle.convergence.proofs.Proved.{run-stands, run-keeps}
use Rattle.convergence.proofs.Examined.{verdict_in, holds_then, verdict-so, holds-so}
use Rattle.convergence.proofs.Lines.{fine, line-value, line-admitted, opens-fine}

-- What is answered by a store that holds these lists, and what it then holds. (An area's forgetting is not computed here.)
unfoldable pub tells_next : (limit : ℕ) → Held → Call → Verdict
tells_next limit h (ingest i) = decision_verdict (decided limit h.spt (entry_of i.handed.entry) i.handed.prevent_pruning)
tells_next limit h (forget_entry p) = number_verdict (unless (not (any (unexpected p.subspace (components p.path) p.expects p.digest) h.spt)) 9)
tells_next limit h (forget_area a) = done
tells_next limit h (record_available r) = let p = r.target in number_verdict (entry_refusal p.subspace (components p.path) p.expects p.digest r.available h.spt)
tells_next limit h (forget_payload p) = number_verdict (entry_refusal p.subspace (components p.path) p.expects p.digest 0 h.spt)

unfoldable pub holds_next : (limit : ℕ) → Held → Call → Held
holds_next limit h (ingest i) = holds_then (filed_as i) h (decided limit h.spt (entry_of i.handed.entry) i.handed.prevent_pruning)
holds_next limit h (forget_entry p) = cond (is_done (tells_next limit h (forget_entry p))) (without (stands_at p.subspace (components p.path)) h) h
holds_next limit h (forget_area a) = h
holds_next limit h (record_available r) = cond (is_done (tells_next limit h (record_available r))) (arrivals r h) h
holds_next limit h (forget_payload p) = cond (is_done (tells_next limit h (forget_payload p))) (arrivals (nothing_at p) h) h

unfoldable pub tells_all : (limit : ℕ) → Held → List Call → List Verdict
tells_all limit h [] = []
tells_all limit h (c ∷ cs) = tells_next limit h c ∷ tells_all limit (holds_next limit h c) cs

unfoldable pub holds_all : (limit : ℕ) → Held → List Call → Held
holds_all limit h [] = h
holds_all limit h (c ∷ cs) = holds_all limit (holds_next limit h c) cs

-- Calls that such a store refuses for what it holds alone.
unfoldable pub fine_call : (limit : ℕ) → Call → Bool
fine_call limit (ingest i) = fine limit i
fine_call limit (forget_entry p) = legal field p.path
fine_call limit (forget_area a) = false
fine_call limit (record_available r) = legal field r.target.path
fine_call limit (forget_payload p) = legal field p.path

pub fine-value : (limit : ℕ) (c : Call) → fine_call limit c ≡ true → IsValue field c
unfolding fine_call input
fine-value limit (ingest i) h = ingestion-value field i (line-value limit i h)
fine-value limit (forget_entry p) h = λ i m. absurd (none_in m)
fine-value limit (forget_area a) h = λ i m. absurd (none_in m)
fine-value limit (record_available r) h = λ i m. absurd (none_in m)
fine-value limit (forget_payload p) h = λ i m. absurd (none_in m)

-- One call, on a store that stands.
module _ (limit : ℕ) (s : Tallied) (v : Stands field s) (k : Keeps field (at_limit limit) s) where
  abbrev h : Held
  h = held_by field s.store

  recording-so : (r : Recording) → legal field r.target.path ≡ true
      → number_verdict (available_refusal field s.store r.target.subspace r.target.path r.target.expects r.target.digest r.available)
      ≡ number_verdict (entry_refusal r.target.subspace (components r.target.path) r.target.expects r.target.digest r.available h.spt)
  unfolding held_by available_refusal store_refusal unless ◌or_else◌
  recording-so r l = rw (v.limit, v.room, stands-well field s v, l) refl

  forget-so : (p : Target) → legal field p.path ≡ true
      → number_verdict (forget_entry_refusal field s p.subspace p.path p.expects p.digest)
      ≡ number_verdict (unless (not (any (unexpected p.subspace (components p.path) p.expects p.digest) h.spt)) 9)
  unfolding held_by forget_entry_refusal tallied_refusal store_refusal unless ◌or_else◌
  forget-so p l = rw (v.limit, v.room, v.tally-room, stands-well field s v, (tally-words field s).1 v.tallied, l) refl

  admitted : (i : IngestCall) → fine limit i ≡ true → Admitted field s.store.state.namespace_id s.store.state.limit i
  admitted i l = rw (k.namespace, k.limit) (line-admitted limit i l)

  tells-so : (c : Call) → fine_call limit c ≡ true → (outcome field s c).verdict ≡ tells_next limit h c
  unfolding tells_next fine_call outcome
  tells-so (ingest i) l = verdict-so field s v i (admitted i l) ∙ ap (λ (n : ℕ). decision_verdict (decided n h.spt (entry_of i.handed.entry) i.handed.prevent_pruning)) k.limit
  tells-so (forget_entry p) l = entry-verdict field s p ∙ forget-so p l
  tells-so (forget_area a) l = clash {b = false} l refl
  tells-so (record_available r) l = recording-verdict field s r ∙ recording-so r l
  tells-so (forget_payload p) l = recording-verdict field s (nothing_at p) ∙ recording-so (nothing_at p) l

  -- Done, or nothing changes.
  if-done : (c : Call) (after : Held) → ((outcome field s c).verdict ≡ done → held_by field (outcome field s c).left.store ≡ after) → held_by field (outcome field s c).left.store ≡ cond (is_done (outcome field s c).verdict) after h
  if-done c after g = go (outcome field s c).verdict refl
    where
      stays : ((outcome field s c).verdict ≡ done → ⊥) → held_by field (outcome field s c).left.store ≡ h
      stays n = ap (λ (t : Tallied). held_by field t.store) ((call-right field s c).unchanged n).0

      go : (w : Verdict) → (outcome field s c).verdict ≡ w → held_by field (outcome field s c).left.store ≡ cond (is_done w) after h
      go (refused n) e = unfold is_done in stays λ d. refused-done (sym e ∙ d)
      go obsolete e = unfold is_done in stays λ d. obsolete-done (sym e ∙ d)
      go already_held e = unfold is_done in stays λ d. held-done (sym e ∙ d)
      go done e = unfold is_done in g e

  by-verdict : (c : Call) → fine_call limit c ≡ true → (after : Held) → ((outcome field s c).verdict ≡ done → held_by field (outcome field s c).left.store ≡ after)
      → held_by field (outcome field s c).left.store ≡ cond (is_done (tells_next limit h c)) after h
  by-verdict c l after g = if-done c after g ∙ ap (λ (w : Verdict). cond (is_done w) after h) (tells-so c l)

  held-so : (c : Call) → fine_call limit c ≡ true → held_by field (outcome field s c).left.store ≡ holds_next limit h c
  unfolding holds_next
  held-so (ingest i) l =
      holds-so field s v i (admitted i (unfold fine_call in l)) (line-value limit i (unfold fine_call in l))
      ∙ ap (λ (n : ℕ). holds_then (filed_as i) h (decided n h.spt (entry_of i.handed.entry) i.handed.prevent_pruning)) k.limit
  held-so (forget_entry p) l = by-verdict (forget_entry p) l _ λ d. forgets-right field s (forget_entry p) v (stands_at p.subspace (components p.path)) (unfold forgets in refl) d
  held-so (forget_area a) l = clash {b = false} (unfold fine_call in l) refl
  held-so (record_available r) l = by-verdict (record_available r) l _ λ d. records-right field s (record_available r) v r (unfold recording_of in refl) d
  held-so (forget_payload p) l = by-verdict (forget_payload p) l _ λ d. records-right field s (forget_payload p) v (nothing_at p) (unfold recording_of in refl) d

-- A list of them.
pub record Computed (limit : ℕ) (s : Tallied) (h : Held) (cs : List Call) : Type 0 where
  pub holds : held_by field (after_all (ours field) s cs).store ≡ holds_all limit h cs
  pub says : map verdict_in (history (ours field) s cs) ≡ tells_all limit h cs

mixed-from : (limit : ℕ) (s : Tallied) (cs : List Call) → Stands field s → Keeps field (at_limit limit) s → all (fine_call limit) cs ≡ true → Computed limit s (held_by field s.store) cs
unfolding after_all history holds_all tells_all all
mixed-from limit s [] v k l = record { holds = refl; says = refl }
mixed-from limit s (c ∷ cs) v k l =
    let a = and-true (fine_call limit c) (all (fine_call limit) cs) l in
    let w = fine-value limit c a.0 in
    let t = (outcome field s c).left in
    let n = mixed-from limit t cs (stands_after field s v c w) (keeps-after field s v (at_limit limit) k c w) a.1 in
    let e = held-so limit s v k c a.0 in
    record {
      holds = n.holds ∙ ap (λ (h : Held). holds_all limit h cs) e;
      says = ap₂ ◌∷◌ (tells-so limit s v k c a.0) (n.says ∙ ap (λ (h : Held). tells_all limit h cs) e);
    }

module _ (limit : ℕ) (ok : limit_ok limit ≡ true) (cs : List Call) (l : all (fine_call limit) cs ≡ true) where
  pub mixed-values : (c : Call) → c ∈ cs → IsValue field c
  mixed-values c m = fine-value limit c (all-view (fine_call limit) cs l m)

  abbrev pub mixed_run : Run (throughout field) (ours field)
  mixed_run = record { opening = at_limit limit; accepted = opens-fine limit ok; calls = cs; values = mixed-values }

  pub mixed : Computed limit (opens field (at_limit limit)).left nothing cs
  mixed =
      let v = opens-stands field (at_limit limit) (opens-fine limit ok) in
      subst (λ (h : Held). Computed limit (opens field (at_limit limit)).left h cs) v.empty (mixed-from limit (opens field (at_limit limit)).left cs v.stands v.keeps l)

  -- The bytes of a tree.
  pub mixed-bytes : (k : KeyOrder) → tree_of field k (end mixed_run).store ≡ tree_bytes (tree_room field limit) (map (record_of k) (list_of k (holds_all limit nothing cs)))
  mixed-bytes k =
      (run-stands field mixed_run).bears.bytes k
      ∙ ap (λ (n : ℕ). tree_bytes (tree_room field n) (map (record_of k) (list_of k (held_by field (end mixed_run).store)))) (run-keeps field mixed_run).limit
      ∙ ap (λ (g : Held). tree_bytes (tree_room field limit) (map (record_of k) (list_of k g))) mixed.holds
