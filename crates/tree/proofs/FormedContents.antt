-- What the records of a tree that was tested say: how many they are, which is the next, that they are of one namespace; and what the walk
-- over a subspace-first tree finds. Assumes nothing.
use mathlib.Core.Path.{◌≡◌, sym, ap, ◌∙◌}
use mathlib.Core.List.{List, [], ◌∷◌}
use Prim.Native.Nat.{ℕ, ◌+◌, ◌≤◌, ◌<◌}
use native.Mathlib.Omega.{arith}
use lib.ListN.{length, drop, drop_of_length-le}
use Rattle.layout.specs.Layout.{records, record_at}
use Rattle.layout.proofs.LaidLaws.{records-many, records-at}
use Rattle.data_model.specs.Path.{Figures, field}
use Rattle.key_laws.specs.Bytes.{Bytes}
use Rattle.tree.specs.Stored.{order_in, Stored, stored_from, stored, contents}
use Rattle.tree.specs.Tree.{Formed, Ordered}
use Rattle.tree.specs.Apart.{apart}
use Rattle.tree.specs.declared.stored.KeyOrder.{KeyOrder}
use Rattle.tree.specs.declared.stored.KeyOrder.TheVariants.{Spt}
use Rattle.tree.proofs.RecordLaws.{contents-length, contents-drop, contents-view}
use Rattle.tree.proofs.WithinLaws.{formed-recorded}
use Rattle.tree.proofs.AgreeLaws.{contents-ascends}
use Rattle.tree.proofs.WalkLaws.{OfOne, all_clear, apart-walk}

pub contents-one : (o : KeyOrder) (f : Figures) (ns : List ℕ) (recs : List (List ℕ)) → OfOne ns (contents o f ns recs)
unfolding stored stored_from
contents-one o f ns recs x m = ap (λ (s : Stored). s.entry.namespace) (contents-view o f ns recs m).2

module _ {o : KeyOrder} {count : ℕ} {dir tree : List ℕ} (v : Formed o count dir tree) (ns : List ℕ) where
  pub formed-many : length (contents o field ns (records count dir tree)) ≡ count
  formed-many = contents-length o field ns (records count dir tree) ∙ records-many count dir tree v.few

  pub formed-next : (k : ℕ) → k < count
      → drop k (contents o field ns (records count dir tree)) ≡ stored o field ns (record_at k dir tree) ∷ drop (k + 1) (contents o field ns (records count dir tree))
  formed-next k h =
      contents-drop o field ns k (records count dir tree)
      ∙ ap (contents o field ns) (records-at count k dir tree v.few h)
      ∙ ap (stored o field ns (record_at k dir tree) ∷◌) (sym (contents-drop o field ns (k + 1) (records count dir tree)))

  pub formed-done : (k : ℕ) → count ≤ k → drop k (contents o field ns (records count dir tree)) ≡ []
  formed-done k h = drop_of_length-le (contents o field ns (records count dir tree)) {i = k} (omega (arith, formed-many))

-- In a subspace-first tree the walk finds what the comparison of all pairs does.
pub formed-walk : {count : ℕ} {dir tree : List ℕ} → Ordered Spt count dir tree → (ns : List ℕ) → Bytes tree
    → apart (contents Spt field ns (records count dir tree)) ≡ all_clear (contents Spt field ns (records count dir tree))
unfolding order_in
formed-walk {count} {dir} {tree} v ns b =
    apart-walk ns (contents Spt field ns (records count dir tree))
    (contents-ascends Spt field ns (records count dir tree) (formed-recorded v.formed b) v.ascends)
    (contents-one Spt field ns (records count dir tree))
