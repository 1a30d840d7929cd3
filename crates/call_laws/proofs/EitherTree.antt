-- A well-formed store gives one tally, whichever of its trees it is worked out from: no entry stands twice in the subspace-first tree, and the time-first tree
-- has the same entries and as many. Assumes a well-formed store, and nothing of its bytes.
use Prim.Native.Nat.{◌≤◌}
use mathlib.Core.Path.{◌≡◌, refl, ap, ◌∙◌}
use mathlib.Core.Bool.{Bool, not}
use mathlib.Core.List.{List, [], ◌∷◌}
use native.Mathlib.Omega.{arith}
use lib.ListN.{length}
use Rattle.laws.specs.Sorted.{keep}
use Rattle.laws.proofs.Truth.{split}
use Rattle.laws.proofs.Sorted.{keep-view, keep-make, keep-both}
use Rattle.layout.specs.Layout.{records}
use Rattle.data_model.specs.Path.{Figures}
use Rattle.tree.specs.Stored.{Stored}
use Rattle.tree.specs.declared.stored.KeyOrder.{KeyOrder}
use Rattle.tree.specs.declared.stored.KeyOrder.TheVariants.{Spt, Tsp}
use Rattle.tree.proofs.RecordLaws.{contents-length}
use Rattle.tally.specs.Tally.{tally_of}
use Rattle.tally.proofs.TallyLaws.{is_of}
use Rattle.tally.proofs.OneTally.{one-tally}
use Rattle.store.specs.Store.{Store, tree_of, dir_of, held}
use Rattle.store.proofs.Counted.{Differ, differ-length}
use Rattle.call_laws.specs.Checks.{NoTwice, WellFormedStore}

kept-differ : (p : Stored → Bool) (l : List Stored) → NoTwice l → Differ (λ (x : Stored). x) (keep p l)
unfolding Differ keep
kept-differ p [] h = tt
kept-differ p (a ∷ l) h = split (p a)
    (λ q. rw q (
      λ x m e. h.0 x (keep-view p l m).0 (ap (λ (y : Stored). y.entry.subspace) e) (ap (λ (y : Stored). y.entry.path) e),
      kept-differ p l h.1,
    ))
    (λ q. rw q (kept-differ p l h.1))

module _ (f : Figures) (s : Store) (v : WellFormedStore f s) where
  fewer : (p : Stored → Bool) → length (keep p (held f Spt s)) ≤ length (keep p (held f Tsp s))
  fewer p = differ-length (λ (x : Stored). x) (keep p (held f Spt s)) (keep p (held f Tsp s)) (kept-differ p (held f Spt s) v.no_twice)
      λ x m. let k = keep-view p (held f Spt s) m in keep-make p (held f Tsp s) ((v.same x).0 k.0) k.1

  counted : (k : KeyOrder) → length (held f k s) ≡ s.state.count
  unfolding held
  counted k = contents-length k f s.state.namespace_id (records s.state.count (dir_of k s) (tree_of f k s)) ∙ (v.each k).many

  as_many : (p : Stored → Bool) → length (keep p (held f Tsp s)) ≡ length (keep p (held f Spt s))
  as_many p = omega (
    arith,
    fewer p,
    fewer (λ (x : Stored). not (p x)),
    keep-both p (held f Spt s),
    keep-both p (held f Tsp s),
    counted Spt,
    counted Tsp,
  )

  pub either-tree : (k : KeyOrder) → tally_of (held f k s) ≡ tally_of (held f Spt s)
  either-tree Spt = refl
  either-tree Tsp = one-tally (held f Tsp s) (held f Spt s) (record { members = λ x. ((v.same x).1, (v.same x).0); many = λ subspace. as_many (is_of subspace) })
