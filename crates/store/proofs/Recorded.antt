-- Lists of what may be stored, as records in one tree: they are read back, fit its room, are records and ascend by their keys; a tree that
-- bears them is well-formed. Assumes nothing.
use Prim.Native.Nat.{ℕ, ◌*◌, ◌≤◌}
use mathlib.Core.Path.{◌≡◌, refl, sym, ap, ap₂, ◌∙◌}
use mathlib.Core.Logic.{⊎_elim}
use mathlib.Core.Bool.{Bool, true}
use mathlib.Core.List.Memᴰ.{cases_cons as uncons}
use mathlib.Core.List.Memᴰ.{head as here}
use mathlib.Core.List.Memᴰ.{not-nil as none_in}
use mathlib.Core.List.Memᴰ.{tail as there}
use mathlib.Core.List.{List, [], ◌∷◌, map}
use native.Mathlib.Omega.{arith}
use native.Mathlib.Nat.{mul-suc}
use lib.ListN.{length, length-append}
use Rattle.laws.specs.Order.{below, on}
use Rattle.laws.specs.Sorted.{◌∈◌, Ascends}
use Rattle.layout.specs.Layout.{records, joined, tree_bytes, dir_numbers}
use Rattle.layout.proofs.LaidLaws.{length-tree, length-dir, after-records, after-laid}
use Rattle.data_model.specs.Path.{Figures}
use Rattle.tree.specs.Stored.{Stored, contents, record_of, triple_of, order_in, key_below, is_record, Lawful}
use Rattle.tree.specs.Tree.{well_formed}
use Rattle.tree.specs.declared.stored.KeyOrder.{KeyOrder}
use Rattle.tree.proofs.RecordLaws.{stored_back, record-most, record-lawful, record-ordered}
use Rattle.tree.proofs.WellFormedLaws.{well-formed}
use Rattle.store.specs.Store.{record_most}

-- What may be stored: lawful, and no more available than there is.
pub record Proper (f : Figures) (x : Stored) : Type 0 where
  pub lawful : Lawful f x
  pub available : x.available ≤ x.entry.rank.payload_length

-- Members of a list whose elements are changed, each by itself.
pub map-view : {A B : Type 0} {y : B} (g : A → B) (l : List A) → y ∈ map g l → (x : A) × x ∈ l × (y ≡ g x)
map-view g [] m = absurd (none_in m)
map-view g (a ∷ l) m = ⊎_elim (λ e. (a, here refl, e)) (λ n. let k = map-view g l n in (k.0, there k.1, k.2)) (uncons m)

pub map-make : {A B : Type 0} {x : A} (g : A → B) (l : List A) → x ∈ l → g x ∈ map g l
map-make g [] m = absurd (none_in m)
map-make g (a ∷ l) m = ⊎_elim (λ e. here (ap g e)) (λ n. there (map-make g l n)) (uncons m)

abbrev pub below_in : KeyOrder → Stored → Stored → Bool
below_in o = below (on (λ (x : Stored). triple_of x.entry) (order_in o))

module _ (f : Figures) (o : KeyOrder) where
  pub contents-back : (ns : List ℕ) (l : List Stored) → ((x : Stored) → x ∈ l → Proper f x) → ((x : Stored) → x ∈ l → x.entry.namespace ≡ ns)
      → contents o f ns (map (record_of o) l) ≡ l
  contents-back ns [] p n = refl
  contents-back ns (a ∷ l) p n =
      ap₂ ◌∷◌ (stored_back f a (p a (here refl)).lawful o ns (n a (here refl))) (contents-back ns l (λ x m. p x (there m)) λ x m. n x (there m))

  pub records-room : (l : List Stored) → ((x : Stored) → x ∈ l → Proper f x) → length (joined (map (record_of o) l)) ≤ record_most f * length l
  records-room [] p = omega arith
  records-room (a ∷ l) p =
      let r = records-room l λ x m. p x (there m) in
      let m = record-most f a (p a (here refl)).lawful o in
      omega (arith, length-append (record_of o a) (joined (map (record_of o) l)), mul-suc (record_most f) (length l))

  pub records-each : (l : List Stored) → ((x : Stored) → x ∈ l → Proper f x) → (r : List ℕ) → r ∈ map (record_of o) l → is_record o f r ≡ true
  records-each l p r m =
      let k = map-view (record_of o) l m in
      let q = p k.0 k.1 in
      ap (is_record o f) k.2 ∙ record-lawful f k.0 q.lawful o q.available

  pub records-ascend : (l : List Stored) → ((x : Stored) → x ∈ l → Proper f x) → Ascends (below_in o) l → Ascends key_below (map (record_of o) l)
  unfolding Ascends below
  records-ascend [] p a = tt
  records-ascend (x ∷ l) p a = (
    λ r m.
        let k = map-view (record_of o) l m in
        ap (key_below (record_of o x)) k.2
        ∙ record-ordered o f x k.0 (p x (here refl)).lawful (p k.0 (there k.1)).lawful
        ∙ a.0 k.0 k.1,
    records-ascend l (λ y m. p y (there m)) a.1,
  )

-- One tree that bears these records.
module _ (f : Figures) (o : KeyOrder) (n m : ℕ) (X : List (List ℕ)) (dir tree : List ℕ) (ed : dir ≡ dir_numbers m X) (et : tree ≡ tree_bytes n X)
    (few : 2 * length X ≤ m) (room : length (joined X) ≤ n) where
  dir-length : length dir ≡ m
  dir-length = ap length ed ∙ length-dir m X few

  tree-length : length tree ≡ n
  tree-length = ap length et ∙ length-tree n X room

  ed' : dir ≡ dir_numbers (length dir) X
  ed' = ed ∙ ap (λ (k : ℕ). dir_numbers k X) (sym dir-length)

  et' : tree ≡ tree_bytes (length tree) X
  et' = et ∙ ap (λ (k : ℕ). tree_bytes k X) (sym tree-length)

  pub bears-records : records (length X) dir tree ≡ X
  bears-records = after-records X dir tree (rw dir-length few) (rw tree-length room) dir tree ed' et'

  pub bears-tree : ((r : List ℕ) → r ∈ X → is_record o f r ≡ true) → Ascends key_below X → well_formed o f (length X) dir tree ≡ true
  bears-tree each ascends =
      let v = after-laid X dir tree (rw dir-length few) (rw tree-length room) dir tree ed' et' in
      (well-formed o f (length X) dir tree).1 (record {
        many = v.many;
        few = v.few;
        numbers = v.numbers;
        bytes = v.bytes;
        each = rw bears-records each;
        ascends = rw bears-records ascends;
      })
