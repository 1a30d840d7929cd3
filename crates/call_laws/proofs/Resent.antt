-- A stored entry that comes again is held, and nothing changes. Assumes nothing.
use mathlib.Core.Path.{◌≡◌, refl, subst}
use mathlib.Core.Bool.{false}
use borrow.Author.Tests.{eq-eqb}
use Rattle.laws.specs.Sorted.{any}
use Rattle.laws.proofs.Truth.{clash, refute}
use Rattle.data_model.specs.Path.{Figures}
use Rattle.data_model.specs.Entry.{Entry, entry_of, prunes}
use Rattle.key_laws.proofs.EntryLaws.{prunes-make, prunes-trans}
use Rattle.tree.specs.Matching.{outdates}
use Rattle.tree.specs.declared.stored.KeyOrder.TheVariants.{Spt}
use Rattle.store.specs.Store.{Store, held, Tallied}
use Rattle.store.specs.Ingest.{already, decided_of, decided, ingest_refusal, judged, carried, ingested}
use Rattle.store.proofs.IngestLaws.{first_absent}
use Rattle.call_laws.specs.Calls.{IngestCall}
use Rattle.call_laws.specs.Checks.{AlreadyStored}
use Rattle.call_laws.specs.Resend.{HeldNotObsolete, ObsoleteNotPrevented, HeldNotPrevented, Resent, HeldAgain}
use Rattle.call_laws.proofs.WellFormedFacts.{well-formed-store}
use Rattle.call_laws.proofs.Checked.{old-words, held-tested}
use Rattle.call_laws.proofs.Did.{passed}

-- What outdates a stored entry would prune it.
pub held-not-obsolete : (f : Figures) (s : Store) → HeldNotObsolete f s
held-not-obsolete f s apart e h o = clash (prunes-make o.0.entry e o.2 o.3) (subst (λ (z : Entry). prunes o.0.entry z ≡ false) h.2 (apart o.0 h.0 o.1 h.1))

-- What outdates an entry would prune what that entry removes, and so would the entry itself, if it were stored.
pub obsolete-not-prevented : (f : Figures) (s : Store) → ObsoleteNotPrevented f s
obsolete-not-prevented f s apart e o r =
    clash (prunes-trans o.0.entry e r.0.entry (prunes-make o.0.entry e o.2 o.3) (prunes-make e r.0.entry r.2 r.3)) (apart o.0 r.0 o.1 r.1)

pub held-not-prevented : (f : Figures) (s : Store) → HeldNotPrevented f s
held-not-prevented f s apart e h r = clash (prunes-make e r.0.entry r.2 r.3) (subst (λ (z : Entry). prunes z r.0.entry ≡ false) h.2 (apart h.0 r.0 h.1 r.1))

module _ (f : Figures) (w : Tallied) (i : IngestCall) (z : ingest_refusal f w i.prune i.handed.entry ≡ 0) (h : AlreadyStored f w.store (entry_of i.handed.entry)) where
  current : any (outdates (entry_of i.handed.entry)) (held f Spt w.store) ≡ false
  current = refute _ λ q. held-not-obsolete f w.store ((well-formed-store f w.store).0 (passed f w i z).0).apart (entry_of i.handed.entry) h ((old-words f w i).0 q)

  is-already : judged f w i.prune i.handed.entry i.handed.prevent_pruning ≡ already
  unfolding judged decided decided_of
  is-already = rw (eq-eqb (ingest_refusal f w i.prune i.handed.entry) 0 z, first_absent (outdates (entry_of i.handed.entry)) (held f Spt w.store) current, held-tested f w i h) refl

  is-resent : Resent f w i
  unfolding ingested carried
  is-resent = record { answer = rw is-already refl; unchanged = rw is-already refl; unwritten = rw is-already refl }

pub resent : (f : Figures) → HeldAgain f
resent = is-resent
