-- What a tree that was tested gives to the functions: its layout, each record and its bounds, ascending keys. Assumes nothing.
use mathlib.Core.Path.{◌≡◌, ap}
use mathlib.Core.List.{List}
use mathlib.Core.Bool.{true, ◌&&◌}
use Prim.Native.Nat.{ℕ, ◌+◌, ◌*◌, ◌≤◌, ◌<◌, ◌^◌}
use native.Mathlib.Omega.{arith}
use lib.ListN.{length, drop, get_or, length-drop}
use lib.Seq.{length-take-le}
use lib.Dec.{leb}
use borrow.Author.Tests.{leb-true}
use Rattle.laws.specs.Order.{is_less, below}
use Rattle.laws.specs.Sorted.{all, ascending}
use Rattle.laws.proofs.Truth.{and-true}
use Rattle.laws.proofs.Order.{is-less}
use Rattle.laws.proofs.Sorted.{all-view}
use Rattle.layout.specs.Layout.{records, record_at, laid_out, CutsOut, Editable}
use Rattle.layout.proofs.LaidLaws.{laid, laid-pair, record-in, records-many}
use Rattle.laws.proofs.Sorted.{ascending-ascends}
use Rattle.data_model.specs.Path.{Figures, field}
use Rattle.data_model.proofs.Orders.{bytes-linear}
use Rattle.tree.specs.Value.{value_length, read_value, is_value}
use Rattle.tree.specs.Stored.{key_of, value_part, key_below, is_key, is_record}
use Rattle.tree.specs.Tree.{well_formed, InBounds, Readable, Formed, Searchable, Ordered, Whole}
use Rattle.tree.specs.declared.stored.KeyOrder.{KeyOrder}

-- Keys are ordered as bytes are.
pub key-trans : (a b c : List ℕ) → key_below a b ≡ true → key_below b c ≡ true → key_below a c ≡ true
unfolding below is_less
key-trans a b c e f = ap is_less (bytes-linear.trans (key_of a) (key_of b) (key_of c) (is-less _ e) (is-less _ f))

-- A record has room for a value.
pub record-long : (o : KeyOrder) (f : Figures) (r : List ℕ) → is_record o f r ≡ true → value_length ≤ length r
unfolding is_record
record-long o f r e = leb-true value_length (length r) (and-true (leb value_length (length r)) (is_key o f (key_of r) && is_value (read_value (value_part r))) e).0

-- The three tests of a tree.
module _ (o : KeyOrder) (f : Figures) (count : ℕ) (dir tree : List ℕ) (w : well_formed o f count dir tree ≡ true) where
  pub well-laid : laid_out count dir tree ≡ true
  unfolding well_formed
  well-laid = (and-true (laid_out count dir tree) (all (is_record o f) (records count dir tree) && ascending key_below (records count dir tree)) w).0

  well-others : all (is_record o f) (records count dir tree) && ascending key_below (records count dir tree) ≡ true
  unfolding well_formed
  well-others = (and-true (laid_out count dir tree) (all (is_record o f) (records count dir tree) && ascending key_below (records count dir tree)) w).1

  pub well-all : all (is_record o f) (records count dir tree) ≡ true
  well-all = (and-true (all (is_record o f) (records count dir tree)) (ascending key_below (records count dir tree)) well-others).0

  pub well-ascending : ascending key_below (records count dir tree) ≡ true
  well-ascending = (and-true (all (is_record o f) (records count dir tree)) (ascending key_below (records count dir tree)) well-others).1

module _ {o : KeyOrder} {count : ℕ} {dir tree : List ℕ} (v : Formed o count dir tree) where
  pub formed-all : all (is_record o field) (records count dir tree) ≡ true
  formed-all = v.each

  pub formed-count : length (records count dir tree) ≡ count
  formed-count = records-many count dir tree v.few

  module _ (k : ℕ) (h : k < count) where
    pub formed-record : is_record o field (record_at k dir tree) ≡ true
    formed-record = all-view (is_record o field) (records count dir tree) formed-all (record-in count k dir tree v.few h)

    cut-length : length (record_at k dir tree) ≡ get_or dir (2 * k + 1) 0
    cut-length =
        let i = v.inside k h in
        length-take-le (get_or dir (2 * k + 1) 0) (drop (get_or dir (2 * k) 0) tree) (simp length-drop (omega arith))

    pub formed-bounds : InBounds k dir tree
    formed-bounds =
        let f = v.few in
        record {
          pair = omega arith;
          least = omega (arith, record-long o field (record_at k dir tree) formed-record, cut-length);
          inside = v.inside k h;
        }

    pub formed-readable : Readable o k dir tree
    formed-readable = record { bounds = formed-bounds; is = formed-record }

-- What the layer below and the search ask.
pub bounds-cut : {k : ℕ} {dir tree : List ℕ} → InBounds k dir tree → CutsOut k dir tree
bounds-cut b = record { pair = b.pair; inside = b.inside }

pub whole-editable : {o : KeyOrder} {count : ℕ} {dir tree : List ℕ} → Whole o count dir tree → Editable count dir tree
whole-editable v = record { laid = v.laid; small = v.formed.small }

pub ordered-searchable : {o : KeyOrder} {count : ℕ} {dir tree : List ℕ} → Ordered o count dir tree → Searchable count dir tree
ordered-searchable v = record { few = v.formed.few; bounds = formed-bounds v.formed; ascends = v.ascends }

-- What a tree that was tested whole gives.
module _ {o : KeyOrder} {count : ℕ} {dir tree : List ℕ} (small : length tree < 2 ^ 32) (w : well_formed o field count dir tree ≡ true) where
  pub well-formed-tree : Formed o count dir tree
  well-formed-tree =
      let l = laid count dir tree (well-laid o field count dir tree w) in
      record { few = l.few; small = small; inside = λ k h. (laid-pair l k h).1; each = well-all o field count dir tree w }

  pub well-ordered : Ordered o count dir tree
  well-ordered = record { formed = well-formed-tree; ascends = ascending-ascends key_below key-trans (records count dir tree) (well-ascending o field count dir tree w) }

  pub well-whole : Whole o count dir tree
  well-whole = record { formed = well-formed-tree; laid = well-laid o field count dir tree w }
