-- The test of a tree says what the record of facts does; and a tree is well-formed again after records were taken out or one was put in.
-- Assumes nothing.
use mathlib.Core.Path.{◌≡◌, ap, ap₂}
use mathlib.Core.Logic.{◌↔◌}
use mathlib.Core.List.{List}
use mathlib.Core.Bool.{true, false, ◌&&◌}
use Prim.Native.Nat.{ℕ, ◌-◌, ◌*◌, ◌≤◌}
use native.Mathlib.Omega.{arith}
use lib.ListN.{length, replicate, length-append, length-replicate}
use Rattle.laws.specs.Order.{is_less, is_same, below}
use Rattle.laws.specs.Sorted.{◌∈◌, Ascends, insert}
use Rattle.laws.proofs.Truth.{clash}
use Rattle.laws.proofs.Order.{three, greater-less}
use Rattle.laws.proofs.Sorted.{all-view, any_none}
use Rattle.layout.specs.Buffers.{filled}
use Rattle.layout.specs.Layout.{records, joined, laid_out, Editable, tree_bytes, dir_numbers, inserted}
use Rattle.layout.specs.Marks.{kept}
use Rattle.layout.proofs.LaidLaws.{Laid, laid, laid-pair, laid_out_lem, after-dir, after-tree, after-records, after_test}
use Rattle.laws.proofs.Sorted.{ascending-ascends, ascends-ascending, all-make}
use Rattle.layout.proofs.MarkLaws.{kept_in, kept-ascends, length-kept-most, joined-kept}
use Rattle.layout.proofs.PlaceLaws.{inserted-insert}
use Rattle.data_model.specs.Path.{Figures, field, by_bytes}
use Rattle.data_model.proofs.Orders.{bytes-linear}
use Rattle.tree.specs.Stored.{key_of, key_below, is_record}
use Rattle.tree.specs.Tree.{well_formed, WellFormed, Formed, Searchable, Whole, keys_below, has_key}
use Rattle.tree.specs.declared.stored.KeyOrder.{KeyOrder}
use Rattle.tree.proofs.FormedLaws.{key-trans, well-laid, well-all, well-ascending, formed-count, formed-all, ordered-searchable}

-- The test from its three parts.
well-make : (o : KeyOrder) (f : Figures) (count : ℕ) (dir tree : List ℕ) → laid_out count dir tree ≡ true → ((r : List ℕ) → r ∈ records count dir tree → is_record o f r ≡ true)
    → Ascends key_below (records count dir tree) → well_formed o f count dir tree ≡ true
unfolding well_formed
well-make o f count dir tree l e a = ap₂ ◌&&◌ l (ap₂ ◌&&◌ (all-make (is_record o f) (records count dir tree) e) (ascends-ascending key_below (records count dir tree) a))

-- Records fit into a buffer that they fill up with zeros behind.
bytes-room : (recs : List (List ℕ)) (tree : List ℕ) → tree ≡ tree_bytes (length tree) recs → length (joined recs) ≤ length tree
unfolding tree_bytes filled
bytes-room recs tree e =
    let z : List ℕ = replicate (length tree - length (joined recs)) 0 in
    omega (arith, ap length e, length-append (joined recs) z, length-replicate {A = ℕ} (length tree - length (joined recs)) 0)

pub well-formed : (o : KeyOrder) (f : Figures) (count : ℕ) (dir tree : List ℕ) → (well_formed o f count dir tree ≡ true) ↔ WellFormed o f count dir tree
well-formed o f count dir tree = (there, back)
  where
    there : well_formed o f count dir tree ≡ true → WellFormed o f count dir tree
    there w =
        let v = laid count dir tree (well-laid o f count dir tree w) in
        record {
          many = v.many;
          few = v.few;
          numbers = v.numbers;
          bytes = v.bytes;
          each = λ r m. all-view (is_record o f) (records count dir tree) (well-all o f count dir tree w) m;
          ascends = ascending-ascends key_below key-trans (records count dir tree) (well-ascending o f count dir tree w);
        }

    back : WellFormed o f count dir tree → well_formed o f count dir tree ≡ true
    back w =
        let v : Laid count dir tree = record { many = w.many; few = w.few; room = bytes-room (records count dir tree) tree w.bytes; numbers = w.numbers; bytes = w.bytes } in
        well-make o f count dir tree (laid_out_lem v) w.each w.ascends

-- A tree of other records in the same buffers.
module _ {o : KeyOrder} {count : ℕ} {dir tree : List ℕ} (v : Formed o count dir tree) (recs : List (List ℕ)) (few : 2 * length recs ≤ length dir) (room : length (joined recs) ≤ length tree)
    (each : (r : List ℕ) → r ∈ recs → is_record o field r ≡ true)
    (dir' tree' : List ℕ) (ed : dir' ≡ dir_numbers (length dir) recs) (et : tree' ≡ tree_bytes (length tree) recs) where
  again-records : records (length recs) dir' tree' ≡ recs
  again-records = after-records recs dir tree few room dir' tree' ed et

  pub formed-again : Formed o (length recs) dir' tree'
  formed-again =
      let ld = after-dir recs dir tree few room dir' tree' ed et in
      let lt = after-tree recs dir tree few room dir' tree' ed et in
      let s = v.small in
      let l = laid (length recs) dir' tree' (after_test recs dir tree few room dir' tree' ed et) in
      record {
        few = omega arith;
        small = omega arith;
        inside = λ k h. (laid-pair l k h).1;
        each = all-make (is_record o field) (records (length recs) dir' tree') (λ r m. each r (rw again-records at m));
      }

  pub editable-again : Editable (length recs) dir' tree'
  editable-again = record { laid = after_test recs dir tree few room dir' tree' ed et; small = formed-again.small }

  pub searchable-again : Ascends key_below recs → Searchable (length recs) dir' tree'
  searchable-again a = ordered-searchable (record { formed = formed-again; ascends = rw again-records a })

module _ {o : KeyOrder} {count : ℕ} {dir tree : List ℕ} (v : Whole o count dir tree) (marks : List ℕ) where
  -- Records taken out.
  kept-few : 2 * length (kept marks (records count dir tree)) ≤ length dir
  kept-few =
      let a = formed-count v.formed in
      let b = v.formed.few in
      omega (arith, length-kept-most marks (records count dir tree))

  kept-room : length (joined (kept marks (records count dir tree))) ≤ length tree
  kept-room = let a = (laid count dir tree v.laid).room in omega (arith, joined-kept marks (records count dir tree))

  module _ (dir' tree' : List ℕ) (ed : dir' ≡ dir_numbers (length dir) (kept marks (records count dir tree))) (et : tree' ≡ tree_bytes (length tree) (kept marks (records count dir tree))) where
    kept-each : (r : List ℕ) → r ∈ kept marks (records count dir tree) → is_record o field r ≡ true
    kept-each r m = all-view (is_record o field) (records count dir tree) (formed-all v.formed) (kept_in marks (records count dir tree) m)

    pub retain-editable : Editable (length (kept marks (records count dir tree))) dir' tree'
    retain-editable = editable-again v.formed (kept marks (records count dir tree)) kept-few kept-room kept-each dir' tree' ed et

    pub retain-searchable : Ascends key_below (records count dir tree) → Searchable (length (kept marks (records count dir tree))) dir' tree'
    retain-searchable a = searchable-again v.formed (kept marks (records count dir tree)) kept-few kept-room kept-each dir' tree' ed et (kept-ascends key_below marks (records count dir tree) a)

    pub retain-records : records (length (kept marks (records count dir tree))) dir' tree' ≡ kept marks (records count dir tree)
    retain-records = after-records (kept marks (records count dir tree)) dir tree kept-few kept-room dir' tree' ed et

    pub retain-dir : length dir' ≡ length dir
    retain-dir = after-dir (kept marks (records count dir tree)) dir tree kept-few kept-room dir' tree' ed et

    pub retain-tree : length tree' ≡ length tree
    retain-tree = after-tree (kept marks (records count dir tree)) dir tree kept-few kept-room dir' tree' ed et

-- Keys that are neither below nor the same are above.
pub key_above_lem : (x r : List ℕ) → key_below x r ≡ false → is_same (by_bytes (key_of x) (key_of r)) ≡ false → key_below r x ≡ true
unfolding below is_less is_same
key_above_lem x r e s = three (by_bytes (key_of x) (key_of r))
    (λ h. clash (ap is_less h) e)
    (λ h. clash (ap is_same h) s)
    (λ h. ap is_less (greater-less by_bytes bytes-linear (key_of x) (key_of r) h))

pub key-irrefl : (a : List ℕ) → key_below a a ≡ false
unfolding below is_less
key-irrefl a = ap is_less (bytes-linear.self (key_of a))

pub record_apart : (r : List ℕ) (recs : List (List ℕ)) → has_key (key_of r) recs ≡ false → (x : List ℕ) → x ∈ recs → key_below x r ≡ false → key_below r x ≡ true
unfolding has_key
record_apart r recs h x m e = key_above_lem x r e (any_none (λ (y : List ℕ). is_same (by_bytes (key_of y) (key_of r))) recs h m)

-- A record at the place of its key is inserted by keys.
pub insert-place : (r : List ℕ) (recs : List (List ℕ)) → Ascends key_below recs → has_key (key_of r) recs ≡ false → inserted (keys_below (key_of r) recs) r recs ≡ insert key_below r recs
unfolding keys_below below
insert-place r recs a h = inserted-insert key_below key-trans key-irrefl r recs a (record_apart r recs h)
