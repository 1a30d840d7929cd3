-- Changes of one tree by what it says: what a test holds of taken out, and an entry filed at its key's place. Assumes nothing.
use Prim.Native.Nat.{ℕ, ◌+◌, ◌-◌, ◌*◌, ◌≤◌, ◌<◌, ◌^◌}
use mathlib.Core.Path.{◌≡◌, refl, sym, ap, ap₂, subst, ◌∙◌}
use mathlib.Core.List.Memᴰ.{head as here}
use mathlib.Core.List.Memᴰ.{tail as there}
use mathlib.Core.List.{List, [], ◌∷◌, ◌++◌, map, append_assoc, append-nil}
use mathlib.Core.Bool.{Bool, true, false, not, ◌&&◌}
use native.Mathlib.Omega.{arith}
use native.Mathlib.Nat.{mul-suc}
use lib.ListN.{length, take, drop, replicate, length-append}
use lib.Seq.{take-append_seam, take-append-le, take_at, drop_at}
use Rattle.laws.specs.Lists.{put}
use Rattle.laws.specs.Order.{below, is_less, is_same}
use Rattle.laws.specs.Sorted.{◌∈◌, any, keep, insert}
use Rattle.laws.proofs.Truth.{split, refute, not-true}
use Rattle.laws.proofs.Order.{is_same_lem}
use Rattle.laws.proofs.Sorted.{any-view, keep-view, keep-length}
use Rattle.layout.specs.Layout.{Editable, records, joined, tree_bytes, dir_numbers, inserted}
use Rattle.layout.specs.Marks.{marks_of, kept, unmarked}
use Rattle.layout.proofs.MarkLaws.{kept_in, kept-ascends}
use Rattle.layout.proofs.UnmarkLaws.{marks-unmarked}
use Rattle.layout.specs.Buffers.{filled}
use Rattle.layout.proofs.LaidLaws.{records-many, joined-append}
use Rattle.data_model.specs.Origin.{origin_session}
use Rattle.data_model.specs.Path.{Figures, field, legal, components, by_bytes}
use Rattle.keys.specs.Encode.{be, subspace_key, path_key, spt_key, tsp_key, Triple}
use Rattle.data_model.specs.Entry.{entry_of, rank_of}
use Rattle.data_model.proofs.Orders.{bytes-linear}
use Rattle.key_laws.specs.Bytes.{Bytes}
use Rattle.key_laws.specs.KeyOrder.{Sized}
use Rattle.key_laws.proofs.Fits.{bytes-all, bytes_take, bytes_drop, legal-bytes}
use Rattle.key_laws.proofs.Inverse.{path_bytes}
use Rattle.tree.specs.Value.{value_length, value_bytes}
use Rattle.tree.specs.Stored.{key_in, order_in, key_of, key_below, Stored, stored, contents, triple_of, value_for, record_of, Lawful, stored_of}
use Rattle.tree.specs.Tree.{Searchable, Whole, keys_below, has_key}
use Rattle.data_model.specs.Ignore.{no_flags}
use Rattle.data_model.specs.declared.area.Area.{Area}
use Rattle.tree.specs.Matching.{removes, in_area, is_forgotten, listed_in_area}
use Rattle.data_model.specs.declared.query_ignore_params.QueryIgnoreParams.{QueryIgnoreParams}
use Rattle.tree.proofs.TestLaws.{unflagged-area}
use Rattle.tree.specs.declared.stored.KeyOrder.{KeyOrder}
use Rattle.tree.specs.declared.stored.KeyOrder.TheVariants.{Spt, Tsp}
use Rattle.tree.specs.declared.stored.LengthyAuthorisedEntry.{LengthyAuthorisedEntry}
use Rattle.tree.proofs.RecordLaws.{value-length, key-ordered, key_apart, key-first, key-of-record, record-forth, contents-length, contents-in}
use Rattle.tree.proofs.RecordParts.{key_fits}
use Rattle.tree.proofs.WithinLaws.{Recorded, formed-recorded}
use Rattle.tree.proofs.ContentLaws.{left-contents}
use Rattle.tree.proofs.WellFormedLaws.{retain-editable, retain-searchable, retain-records, retain-dir, retain-tree, insert-place}
use Rattle.store.specs.Store.{record_most}
use Rattle.store.specs.Ingest.{less_in, stays, filed_in, NewTo}
use Rattle.store.specs.Change.{in_tree, Changed, FilesIn}
use Rattle.store.proofs.Counted.{insert-length}
use Rattle.store.proofs.Meaning.{elsewhere, triple-beside}

-- Both orders of a tree, on what is stored.
less-in : (o : KeyOrder) (x y : Stored) → below (order_in o) (triple_of x.entry) (triple_of y.entry) ≡ less_in o x y
unfolding below order_in
less-in Spt x y = refl
less-in Tsp x y = refl

-- What is handed in as a value: numbers and arrays as the language has them. Its record is its key and its value.
pub record Handed (x : Stored) : Type 0 where
  pub sized : Sized (triple_of x.entry)
  pub payload : x.entry.rank.payload_length < 2 ^ 64
  pub digest : length x.entry.rank.payload_digest ≡ 32
  pub token : length x.token ≡ 64
  pub available : x.available < 2 ^ 64

module _ (o : KeyOrder) (x : Stored) (h : Handed x) where
  handed-value : length (value_bytes (value_for x)) ≡ value_length
  unfolding value_for
  handed-value = value-length (value_for x) h.digest h.token

  handed-key : key_of (record_of o x) ≡ key_in o (triple_of x.entry)
  unfolding record_of
  handed-key = key-first (key_in o (triple_of x.entry)) (value_bytes (value_for x)) handed-value

  handed-length : length (record_of o x) ≡ length (key_in o (triple_of x.entry)) + value_length
  unfolding record_of
  handed-length = simp (length-append, handed-value)

  handed-ordered : (f : Figures) (y : Stored) → Lawful f y → key_below (record_of o x) (record_of o y) ≡ less_in o x y
  unfolding below
  handed-ordered f y w =
      ap₂ (λ (a b : List ℕ). is_less (by_bytes a b)) handed-key (key-of-record f y w o)
      ∙ ap is_less (key-ordered (triple_of x.entry) (triple_of y.entry) h.sized w.sized o)
      ∙ less-in o x y

-- A record that is written has a value, and is no longer than the most.
pub written-least : (o : KeyOrder) (a : LengthyAuthorisedEntry) → Handed (stored_of a) → value_length ≤ length (record_of o (stored_of a))
written-least o a h = omega (arith, handed-length o (stored_of a) h)

pub written-most : (o : KeyOrder) (a : LengthyAuthorisedEntry) → Handed (stored_of a) → legal field a.entry.path ≡ true → length (record_of o (stored_of a)) ≤ record_most field
unfolding stored_of entry_of rank_of triple_of
written-most o a h l = omega (arith, handed-length o (stored_of a) h, key_fits o field a.entry.subspace_id a.entry.path a.entry.timestamp l)

-- A part of bytes is bytes.
bytes-part : (a b c : List ℕ) → Bytes (a ++ (b ++ c)) → Bytes b
bytes-part a b c h =
    let q : take (length b) (drop (length a) (a ++ (b ++ c))) ≡ b = ap (take (length b)) (drop_at a (b ++ c) (length a) refl) ∙ take_at b c (length b) refl in
    subst Bytes q (bytes_take (length b) (drop (length a) (a ++ (b ++ c))) (bytes_drop (length a) (a ++ (b ++ c)) h))

path-part : (o : KeyOrder) (t : Triple) → Bytes (key_in o t) → Bytes (path_key t.path)
unfolding key_in spt_key tsp_key
path-part Spt t h = bytes-part (subspace_key t.subspace) (path_key t.path) (be 8 t.timestamp) h
path-part Tsp t h =
    let b = bytes-part (be 8 t.timestamp) (subspace_key t.subspace ++ path_key t.path) [] (subst (λ (l : List ℕ). Bytes (be 8 t.timestamp ++ l)) (sym (append-nil (subspace_key t.subspace ++ path_key t.path))) h) in
    bytes-part (subspace_key t.subspace) (path_key t.path) [] (subst (λ (l : List ℕ). Bytes (subspace_key t.subspace ++ l)) (sym (append-nil (path_key t.path))) b)

-- What was handed in and is written as bytes is lawful.
pub written-lawful : (o : KeyOrder) (a : LengthyAuthorisedEntry) → Handed (stored_of a) → field.mpl ≤ length a.entry.path.bytes → legal field a.entry.path ≡ true
    → origin_session a.origin < 2 ^ 64 → Bytes (record_of o (stored_of a)) → Lawful field (stored_of a)
unfolding stored_of entry_of rank_of triple_of record_of
written-lawful o a h room l session b =
    let key : Bytes (key_in o (triple_of (stored_of a).entry)) = bytes-part [] (key_in o (triple_of (stored_of a).entry)) (value_bytes (value_for (stored_of a))) b in
    record {
      path = legal-bytes field a.entry.path room l (path_bytes (components a.entry.path) (bytes-all (path_key (components a.entry.path)) (path-part o (triple_of (stored_of a).entry) key)));
      sized = h.sized;
      payload = h.payload;
      digest = h.digest;
      token = h.token;
      available = h.available;
      session = session;
    }

-- In bytes, a record that was put in is bytes.
pub inserted-lawful : (o : KeyOrder) (a : LengthyAuthorisedEntry) → Handed (stored_of a) → field.mpl ≤ length a.entry.path.bytes → legal field a.entry.path ≡ true
    → origin_session a.origin < 2 ^ 64 → (r : List ℕ) → r ≡ record_of o (stored_of a) → (n at : ℕ) (recs : List (List ℕ)) (tree : List ℕ) → Bytes tree → tree ≡ tree_bytes n (inserted at r recs) → Lawful field (stored_of a)
unfolding tree_bytes filled
inserted-lawful o a h long l session r er n at recs tree bs et =
    let z : List ℕ = replicate (n - length (joined (inserted at r recs))) 0 in
    let q : tree ≡ joined (take at recs) ++ (r ++ (joined (drop at recs) ++ z)) =
    et
    ∙ ap (◌++ z) (joined-append (take at recs) (r ∷ drop at recs))
    ∙ append_assoc (joined (take at recs)) (r ++ joined (drop at recs)) z
    ∙ ap (joined (take at recs) ++◌) (append_assoc r (joined (drop at recs)) z) in
    written-lawful o a h long l session (subst Bytes er (bytes-part (joined (take at recs)) r (joined (drop at recs) ++ z) (subst Bytes q bs)))

-- Records of bytes, by what they say.
module _ (o : KeyOrder) (f : Figures) (ns : List ℕ) where
  pub records-again : (recs : List (List ℕ)) → Recorded o f recs → map (record_of o) (contents o f ns recs) ≡ recs
  records-again [] each = refl
  records-again (r ∷ rs) each =
      ap₂ ◌∷◌ (record-forth o f ns r (each r (here refl)).0 (each r (here refl)).1).again (records-again rs λ q m. each q (there m))

  records-most : (recs : List (List ℕ)) → Recorded o f recs → length (joined recs) ≤ record_most f * length recs
  records-most [] each = omega arith
  records-most (r ∷ rs) each =
      let h = records-most rs λ q m. each q (there m) in
      let k = (record-forth o f ns r (each r (here refl)).0 (each r (here refl)).1).most in
      omega (arith, length-append r (joined rs), mul-suc (record_most f) (length rs))

  module _ (x : Stored) (h : Handed x) where
    insert-again : (recs : List (List ℕ)) → Recorded o f recs → map (record_of o) (insert (less_in o) x (contents o f ns recs)) ≡ insert key_below (record_of o x) recs
    unfolding insert
    insert-again [] each = refl
    insert-again (r ∷ rs) each =
        let w = record-forth o f ns r (each r (here refl)).0 (each r (here refl)).1 in
        let again : map (record_of o) (contents o f ns rs) ≡ rs = records-again rs λ q m. each q (there m) in
        let e : key_below (record_of o x) r ≡ less_in o x (stored o f ns r)
        = ap (key_below (record_of o x)) (sym w.again) ∙ handed-ordered o x h f (stored o f ns r) w.lawful in
        split (less_in o x (stored o f ns r))
        (λ q. rw (q, e ∙ q) (ap₂ (λ (a : List ℕ) (b : List (List ℕ)). record_of o x ∷ a ∷ b) w.again again))
        (λ q. rw (q, e ∙ q) (ap₂ ◌∷◌ w.again (insert-again rs λ q m. each q (there m))))

    -- The key of an entry is not there, where all are of a list that it is new to, and it removes none of them.
    key-absent : x.entry.namespace ≡ ns → (l : List Stored) → NewTo l x.entry → (recs : List (List ℕ)) → Recorded o f recs
        → ((y : Stored) → y ∈ contents o f ns recs → y ∈ l × (removes x.entry y ≡ false))
        → has_key (key_of (record_of o x)) recs ≡ false
    unfolding has_key
    key-absent name l new recs each apart = refute (any (λ (r : List ℕ). is_same (by_bytes (key_of r) (key_of (record_of o x)))) recs) λ e.
        let k = any-view (λ (r : List ℕ). is_same (by_bytes (key_of r) (key_of (record_of o x)))) recs e in
        let w = record-forth o f ns k.0 (each k.0 k.1).0 (each k.0 k.1).1 in
        let y = stored o f ns k.0 in
        let q : key_of k.0 ≡ key_of (record_of o x) = bytes-linear.equal (key_of k.0) (key_of (record_of o x)) (is_same_lem _ k.2) in
        let t : key_in o (triple_of y.entry) ≡ key_in o (triple_of x.entry)
        = sym (key-of-record f y w.lawful o) ∙ ap key_of w.again ∙ q ∙ handed-key o x h in
        let g : triple_of y.entry ≡ triple_of x.entry = key_apart (triple_of y.entry) (triple_of x.entry) w.lawful.sized h.sized o t in
        let a = apart y (contents-in o f ns recs k.1) in
        elsewhere x y l new a.0 a.1 (triple-beside x y (name ∙ sym w.named) (sym g))

-- What an area includes, without what a protected area does.
and-all : (b : Bool) → (b && true) ≡ b
and-all true = refl
and-all false = refl

module _ (g : QueryIgnoreParams) (e : g ≡ no_flags) (area protected : Area) (l : List Stored) where
  pub unprotected-marks : (m m₀ : List ℕ) → m ≡ put (marks_of (listed_in_area area g) l) m₀ → m ≡ put (marks_of (is_forgotten area false protected) l) m₀
  unfolding is_forgotten
  unprotected-marks m m₀ q = q ∙ ap (λ (p : Stored → Bool). put (marks_of p l) m₀) (λ i x. alike x i)
    where
      alike : (x : Stored) → listed_in_area area g x ≡ (in_area area x && not false)
      alike x = unflagged-area g e area x ∙ sym (and-all (in_area area x))

  pub protected-marks : (count : ℕ) → length l ≡ count → (m m₁ m₀ shield s₀ : List ℕ) → m₁ ≡ put (marks_of (listed_in_area area g) l) m₀
      → shield ≡ put (marks_of (listed_in_area protected g) l) s₀ → m ≡ unmarked m₁ (take count shield) → m ≡ put (marks_of (is_forgotten area true protected) l) m₀
  unfolding is_forgotten
  protected-marks count n m m₁ m₀ shield s₀ q r z =
      z
      ∙ ap₂ (λ (a b : List ℕ). unmarked a (take count b)) q r
      ∙ marks-unmarked (listed_in_area area g) (listed_in_area protected g) l count m₀ s₀ (sym n)
      ∙ ap (λ (p : Stored → Bool). put (marks_of p l) m₀) (λ i x. alike x i)
    where
      alike : (x : Stored) → (listed_in_area area g x && not (listed_in_area protected g x)) ≡ (in_area area x && not (in_area protected x))
      alike x = ap₂ (λ (a b : Bool). a && not b) (unflagged-area g e area x) (unflagged-area g e protected x)

-- What the marks of a test leave.
module _ {o : KeyOrder} {count : ℕ} {dir tree : List ℕ} (v : Whole o count dir tree) (bytes : Bytes tree) (ns : List ℕ) (p : Stored → Bool)
    (marks old : List ℕ) (em : marks ≡ put (marks_of p (in_tree o ns count dir tree)) old) where
  kept-recorded : Recorded o field (kept marks (records count dir tree))
  kept-recorded r m = formed-recorded v.formed bytes r (kept_in marks (records count dir tree) m)

  kept-contents : contents o field ns (kept marks (records count dir tree)) ≡ keep (λ (x : Stored). not (p x)) (in_tree o ns count dir tree)
  kept-contents = left-contents o field ns p (records count dir tree) marks old em

  kept-says : kept marks (records count dir tree) ≡ map (record_of o) (keep (λ (x : Stored). not (p x)) (in_tree o ns count dir tree))
  kept-says = sym (records-again o field ns (kept marks (records count dir tree)) kept-recorded) ∙ ap (map (record_of o)) kept-contents

  kept-length : length (kept marks (records count dir tree)) ≡ length (keep (λ (x : Stored). not (p x)) (in_tree o ns count dir tree))
  kept-length = sym (contents-length o field ns (kept marks (records count dir tree))) ∙ ap length kept-contents

  pub dropped : (n : ℕ) (dir' tree' : List ℕ) → n ≡ length (kept marks (records count dir tree)) → tree' ≡ tree_bytes (length tree) (kept marks (records count dir tree))
      → dir' ≡ dir_numbers (length dir) (kept marks (records count dir tree))
      → Changed o (keep (λ (x : Stored). not (p x)) (in_tree o ns count dir tree)) dir tree dir' tree' n
  dropped n dir' tree' en et ed = record {
    bytes = et ∙ ap (tree_bytes (length tree)) kept-says;
    numbers = ed ∙ ap (dir_numbers (length dir)) kept-says;
    count = en ∙ kept-length;
  }

-- The front of a buffer that was written to.
module _ (r old out : List ℕ) (n : ℕ) (en : n ≡ length r) (eo : out ≡ put r old) where
  pub front-written : take n out ≡ r
  unfolding put
  front-written = ap₂ take en eo ∙ take-append_seam r (drop (length r) old)

  pub front-key : take (n - value_length) out ≡ key_of r
  unfolding put
  front-key = ap₂ (λ (k : ℕ) (l : List ℕ). take (k - value_length) l) en eo ∙ take-append-le (length r - value_length) r (drop (length r) old) (omega arith)

-- An entry filed: what it removes is taken out, then its record is put in.
module _ {o : KeyOrder} {ns : List ℕ} {count : ℕ} {dir tree : List ℕ} {a : LengthyAuthorisedEntry} (v : FilesIn o ns count dir tree a)
    (h : Handed (stored_of a)) (bytes : Bytes tree)
    (marks old : List ℕ) (em : marks ≡ put (marks_of (removes (entry_of a.entry)) (in_tree o ns count dir tree)) old)
    (left : ℕ) (dir' tree' : List ℕ) (el : left ≡ length (kept marks (records count dir tree)))
    (et : tree' ≡ tree_bytes (length tree) (kept marks (records count dir tree))) (ed : dir' ≡ dir_numbers (length dir) (kept marks (records count dir tree))) where
  others : Recorded o field (kept marks (records count dir tree))
  others = kept-recorded v.whole bytes ns (removes (entry_of a.entry)) marks old em

  others-contents : contents o field ns (kept marks (records count dir tree)) ≡ keep (stays (entry_of a.entry)) (in_tree o ns count dir tree)
  others-contents = kept-contents v.whole bytes ns (removes (entry_of a.entry)) marks old em

  others-length : left ≡ length (keep (stays (entry_of a.entry)) (in_tree o ns count dir tree))
  others-length = el ∙ kept-length v.whole bytes ns (removes (entry_of a.entry)) marks old em

  others_apart : (y : Stored) → y ∈ contents o field ns (kept marks (records count dir tree)) → y ∈ in_tree o ns count dir tree × (removes (entry_of a.entry) y ≡ false)
  others_apart y m =
      let k = keep-view (stays (entry_of a.entry)) (in_tree o ns count dir tree) (subst (λ (l : List Stored). y ∈ l) others-contents m) in
      (k.0, not-true _ k.1)

  others-records : records left dir' tree' ≡ kept marks (records count dir tree)
  others-records = ap (λ (n : ℕ). records n dir' tree') el ∙ retain-records v.whole marks dir' tree' ed et

  pub filing-editable : Editable left dir' tree'
  filing-editable = subst (λ (n : ℕ). Editable n dir' tree') (sym el) (retain-editable v.whole marks dir' tree' ed et)

  pub filing-searchable : Searchable left dir' tree'
  filing-searchable = subst (λ (n : ℕ). Searchable n dir' tree') (sym el) (retain-searchable v.whole marks dir' tree' ed et v.ordered.ascends)

  pub filing-numbers : 2 * (left + 1) ≤ length dir'
  filing-numbers = let r = v.numbers in omega (arith, others-length, retain-dir v.whole marks dir' tree' ed et)

  pub filing-many : left ≤ count
  filing-many = omega (arith, others-length, keep-length (stays (entry_of a.entry)) (in_tree o ns count dir tree), contents-length o field ns (records count dir tree), records-many count dir tree v.whole.formed.few)

  module _ (r : List ℕ) (er : r ≡ record_of o (stored_of a)) where
    pub filing-bytes : length (joined (records left dir' tree')) + length r ≤ length tree'
    filing-bytes =
        let b = v.bytes in
        let k = records-most o field ns (kept marks (records count dir tree)) others in
        let m = written-most o a h v.path in
        omega (arith, el, others-length, ap length er, ap (λ (l : List (List ℕ)). length (joined l)) others-records, retain-tree v.whole marks dir' tree' ed et)

    module _ (key : List ℕ) (ek : key ≡ key_of (record_of o (stored_of a))) (at : ℕ) (place : at ≡ keys_below key (records left dir' tree')) where
      pub filing-place : at ≤ left
      unfolding keys_below
      filing-place = omega (
        arith,
        place,
        keep-length (λ (r : List ℕ). is_less (by_bytes (key_of r) key)) (records left dir' tree'),
        ap length others-records,
        el,
      )

      filing-inserted : inserted at r (records left dir' tree') ≡ map (record_of o) (filed_in o (stored_of a) (in_tree o ns count dir tree))
      unfolding filed_in stored_of entry_of
      filing-inserted =
          let K = kept marks (records count dir tree) in
          let R = record_of o (stored_of a) in
          let e : at ≡ keys_below (key_of R) K = place ∙ ap₂ keys_below ek others-records in
          (λ i. inserted (e i) (er i) (others-records i))
          ∙ insert-place R K (kept-ascends key_below marks (records count dir tree) v.ordered.ascends) (key-absent o field ns (stored_of a) h v.named (in_tree o ns count dir tree) v.new K others others_apart)
          ∙ sym (insert-again o field ns (stored_of a) h K others)
          ∙ ap (λ (l : List Stored). map (record_of o) (insert (less_in o) (stored_of a) l)) others-contents

      pub filing-done : (dir'' tree'' : List ℕ) → tree'' ≡ tree_bytes (length tree') (inserted at r (records left dir' tree'))
          → dir'' ≡ dir_numbers (length dir') (inserted at r (records left dir' tree'))
          → Changed o (filed_in o (stored_of a) (in_tree o ns count dir tree)) dir tree dir'' tree'' (left + 1)
      unfolding filed_in stored_of
      filing-done dir'' tree'' et2 ed2 = record {
        bytes = et2 ∙ ap₂ tree_bytes (retain-tree v.whole marks dir' tree' ed et) filing-inserted;
        numbers = ed2 ∙ ap₂ dir_numbers (retain-dir v.whole marks dir' tree' ed et) filing-inserted;
        count = omega (arith, others-length, insert-length (less_in o) (stored_of a) (keep (stays (entry_of a.entry)) (in_tree o ns count dir tree)));
      }
