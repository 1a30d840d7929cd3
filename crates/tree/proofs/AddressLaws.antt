-- The address of a record in its key, and what addresses that do not begin alike say: the one entry does not cover the other.
-- Assumes nothing.
use Prim.Native.Nat.{ℕ, zero, suc, ◌+◌, ◌-◌, ◌≤◌, ◌<◌}
use mathlib.Core.Path.{◌≡◌, refl, sym, ap, ap₂, ◌∙◌}
use mathlib.Core.List.{List, [], ◌∷◌, ◌++◌, append_assoc, append-nil}
use mathlib.Core.Bool.{Bool, true, false, not, ◌&&◌}
use native.Mathlib.Omega.{arith}
use lib.Dec.{leb, eqb}
use borrow.Author.Tests.{lt-leb, le-leb, eq-eqb, ne_eqb}
use lib.ListN.{length, take, drop, get_or, length-append, length-drop}
use lib.Seq.{take_all, take_at, drop_at, take-take, get_or-take, length-take-le}
use Rattle.laws.specs.Lists.{put}
use Rattle.laws.specs.Prefix.{same_number, same_list, prefix_of}
use Rattle.laws.proofs.Truth.{and-true, not-true, clash, refute}
use Rattle.laws.proofs.Prefix.{number-equality, prefix-cons, prefix-take}
use Rattle.layout.specs.Layout.{record_at}
use Rattle.data_model.specs.Path.{field, Components, components, legal, same_component, is_prefix}
use Rattle.data_model.specs.Entry.{Entry, covers, prunes}
use Rattle.data_model.specs.declared.parameters.Subspace.{Subspace}
use Rattle.data_model.specs.declared.path.Path.{Path}
use Rattle.data_model.proofs.Orders.{component-equality}
use Rattle.keys.specs.Encode.{be, escaped, component_key, path_key, path_end, subspace_key, triple, spt_key, tsp_key, key_most}
use Rattle.keys.specs.Decode.{number, subspace_at}
use Rattle.keys.proofs.Encoding.{be-length, subspace-length}
use Rattle.keys.proofs.Reading.{rest}
use Rattle.key_laws.specs.Bytes.{Bytes}
use Rattle.key_laws.specs.KeyOrder.{Sized}
use Rattle.key_laws.proofs.BigEndian.{number-back, subspace-back}
use Rattle.key_laws.proofs.EntryLaws.{covers_view}
use Rattle.key_laws.proofs.Fits.{bytes_take}
use Rattle.tree.specs.Value.{value_length, read_value, is_value}
use Rattle.tree.specs.Stored.{key_in, key_of, value_part, is_key, is_record, stored_from, stored}
use Rattle.tree.specs.Tree.{Readable}
use Rattle.tree.specs.Matching.{outdates, removes}
use Rattle.tree.specs.Address.{address_key, open_path, open_key, triple_at, address_at, open_at}
use Rattle.tree.specs.declared.stored.KeyOrder.{KeyOrder}
use Rattle.tree.specs.declared.stored.KeyOrder.TheVariants.{Spt, Tsp}
use Rattle.tree.proofs.RecordLaws.{key-is-forth, key_least}
use Rattle.tree.proofs.RecordParts.{drop-cut, key_fits}
use Rattle.tree.proofs.WithinLaws.{at-bytes}

-- A path's end stands behind its components.
path-open : (cs : Components) → path_key cs ≡ open_path cs ++ path_end
unfolding path_key open_path
path-open [] = refl
path-open (c ∷ cs) = ap (component_key c ++◌) (path-open cs) ∙ sym (append_assoc (component_key c) (open_path cs) path_end)

pub address-open : (s : Subspace) (p : Components) → address_key s p ≡ open_key s p ++ path_end
unfolding address_key open_key
address-open s p = ap (subspace_key s ++◌) (path-open p) ∙ sym (append_assoc (subspace_key s) (open_path p) path_end)

-- An address without its last two bytes.
pub open-part : (s : Subspace) (p : Components) (n : ℕ) (l : List ℕ) → l ≡ address_key s p → n ≡ length l - 2 → (2 ≤ length l) × (take n l ≡ open_key s p)
open-part s p n l e h =
    let q : l ≡ open_key s p ++ path_end = e ∙ address-open s p in
    let m : length l ≡ length (open_key s p) + 2 = ap length q ∙ length-append (open_key s p) path_end in
    (omega arith, ap (take n) q ∙ take_at (open_key s p) path_end n (omega arith))

-- What begins alike is told apart behind it.
prefix-behind : (k x y : List ℕ) → prefix_of same_number (k ++ x) (k ++ y) ≡ prefix_of same_number x y
prefix-behind [] x y = refl
prefix-behind (b ∷ k) x y = prefix-cons same_number number-equality b (k ++ x) (k ++ y) ∙ prefix-behind k x y

-- A path prefixes another exactly if its bytes without their end begin the other's.
component-begins : (c d x y : List ℕ) → prefix_of same_number (component_key c ++ x) (component_key d ++ y) ≡ (same_component c d && prefix_of same_number x y)
unfolding component_key escaped prefix_of same_list same_number
component-begins [] [] x y = refl
component-begins [] (zero ∷ d) x y = refl
component-begins [] (suc b ∷ d) x y = rw (ne_eqb 0 (suc b) (λ e. omega arith))
component-begins (zero ∷ c) [] x y = refl
component-begins (suc a ∷ c) [] x y = rw (ne_eqb (suc a) 0 (λ e. omega arith))
component-begins (zero ∷ c) (zero ∷ d) x y = component-begins c d x y
component-begins (zero ∷ c) (suc b ∷ d) x y = rw (ne_eqb 0 (suc b) (λ e. omega arith))
component-begins (suc a ∷ c) (zero ∷ d) x y = rw (ne_eqb (suc a) 0 (λ e. omega arith))
component-begins (suc a ∷ c) (suc b ∷ d) x y = ap (eqb (suc a) (suc b) &&◌) (component-begins c d x y) ∙ and_assoc (eqb (suc a) (suc b)) (same_component c d) (prefix_of same_number x y)
  where
    and_assoc : (p q r : Bool) → (p && (q && r)) ≡ ((p && q) && r)
    and_assoc true q r = refl
    and_assoc false q r = refl

component-end : (c x : List ℕ) → prefix_of same_number (component_key c ++ x) path_end ≡ false
unfolding component_key escaped prefix_of same_number
component-end [] x = refl
component-end (zero ∷ c) x = refl
component-end (suc b ∷ c) x = rw (ne_eqb (suc b) 0 (λ e. omega arith))

pub open-begins : (cs ds : Components) → prefix_of same_number (open_path cs) (path_key ds) ≡ is_prefix cs ds
unfolding open_path path_key prefix_of
open-begins [] ds = refl
open-begins (c ∷ cs) [] = component-end c (open_path cs)
open-begins (c ∷ cs) (d ∷ ds) = component-begins c d (open_path cs) (path_key ds) ∙ ap (same_component c d &&◌) (open-begins cs ds)

pub covers-begins : (a b : Entry) → covers a b ≡ true → prefix_of same_number (open_key a.subspace a.path) (address_key b.subspace b.path) ≡ true
unfolding address_key open_key
covers-begins a b e =
    let v = covers_view a b e in
    ap (λ (s : Subspace). prefix_of same_number (subspace_key s ++ open_path a.path) (subspace_key b.subspace ++ path_key b.path)) v.subspace
    ∙ prefix-behind (subspace_key b.subspace) (open_path a.path) (path_key b.path)
    ∙ open-begins a.path b.path
    ∙ v.path

pub covers-not : (a b : Entry) (front address : List ℕ) → front ≡ open_key a.subspace a.path → address ≡ address_key b.subspace b.path
    → (t : Bool) → t ≡ prefix_of same_number front address → not t ≡ true → covers a b ≡ false
covers-not a b front address eo ep t e h = refute (covers a b) λ c. clash (e ∙ ap₂ (prefix_of same_number) eo ep ∙ covers-begins a b c) (not-true t h)

-- Two answers of a test for a beginning.
module _ (front address : List ℕ) where
  pub begins-short : length address < length front → false ≡ prefix_of same_number front address
  begins-short h = sym (prefix-take same_number front address ∙ ap (λ (b : Bool). b && same_list same_number front (take (length front) address)) (lt-leb (length front) (length address) h))

  pub begins-long : length front ≤ length address → (t : Bool) → t ≡ same_list same_number front (take (length front) address) → t ≡ prefix_of same_number front address
  begins-long h t e = e ∙ sym (prefix-take same_number front address ∙ ap (λ (b : Bool). b && same_list same_number front (take (length front) address)) (le-leb (length front) (length address) h))

-- What differs at an index does not begin alike.
pub begins-not : (front address : List ℕ) (i : ℕ) → i < length front → eqb (get_or address i 0) (get_or front i 0) ≡ false → prefix_of same_number front address ≡ false
begins-not front address i h e = refute (prefix_of same_number front address) λ t.
    let k = and-true (leb (length front) (length address)) (same_list same_number front (take (length front) address)) (sym (prefix-take same_number front address) ∙ t) in
    let q : front ≡ take (length front) address = component-equality.equal front (take (length front) address) k.1 in
    let d : get_or address i 0 ≡ get_or front i 0 = sym (get_or-take (length front) address i 0 h) ∙ ap (λ (l : List ℕ). get_or l i 0) (sym q) in
    clash (eq-eqb (get_or address i 0) (get_or front i 0) d) e

-- The key of a record that was tested is that of what it says.
pub key-says : (o : KeyOrder) (r : List ℕ) → Bytes r → is_record o field r ≡ true → (key_of r ≡ key_in o (triple_at o r)) × Sized (triple_at o r)
unfolding is_record
key-says o r b e =
    let k = and-true (leb value_length (length r)) (is_key o field (key_of r) && is_value (read_value (value_part r))) e in
    let m = and-true (is_key o field (key_of r)) (is_value (read_value (value_part r))) k.1 in
    let f = key-is-forth o field (key_of r) (bytes_take (length r - value_length) r b) m.0 in
    (sym f.0, f.2)

-- The parts of an address.
module _ (s : Subspace) (p : Components) (l : List ℕ) (e : l ≡ address_key s p) where
  pub address-long : 18 ≤ length l
  unfolding address_key
  address-long =
      omega (arith, ap length (e ∙ ap (subspace_key s ++◌) (path-open p)), length-append (subspace_key s) (open_path p ++ path_end), length-append (open_path p) path_end, subspace-length s)

  pub address-path : drop 16 l ≡ path_key p
  unfolding address_key
  address-path = ap (drop 16) e ∙ drop_at (subspace_key s) (path_key p) 16 (subspace-length s)

-- The subspace of record k, read off its address.
pub subspace-read : {o : KeyOrder} {k : ℕ} {dir tree : List ℕ} → Readable o k dir tree → Bytes tree → (l : List ℕ) → l ≡ address_at o (record_at k dir tree)
    → (m n : ℕ) → m ≡ number l → n ≡ number (take (length l - 8) (drop 8 l)) → record { high = m; low = n } ≡ (triple_at o (record_at k dir tree)).subspace
unfolding address_key subspace_at
subspace-read {o} {k} {dir} {tree} v b l e m n q r =
    let t = triple_at o (record_at k dir tree) in
    let z = (key-says o (record_at k dir tree) (at-bytes k dir tree b) v.is).1 in
    let low : n ≡ number (drop 8 l) = r ∙ ap number (rest l 8) in
    let is : subspace_at l ≡ t.subspace = ap subspace_at e ∙ subspace-back t.subspace (path_key t.path) z.high z.low in
    (λ i. record { high = q i; low = low i }) ∙ is

-- In the key of record k: its address, and its time.
module _ {o : KeyOrder} {k : ℕ} {dir tree : List ℕ} (v : Readable o k dir tree) (b : Bytes tree) (key : List ℕ) (e : key ≡ key_of (record_at k dir tree)) where
  says : (key_of (record_at k dir tree) ≡ key_in o (triple_at o (record_at k dir tree))) × Sized (triple_at o (record_at k dir tree))
  says = key-says o (record_at k dir tree) (at-bytes k dir tree b) v.is

  pub key-long : 26 ≤ length key
  key-long = omega (arith, ap length (e ∙ says.0), key_least o (triple_at o (record_at k dir tree)))

  spt-is : o ≡ Spt → key ≡ address_at o (record_at k dir tree) ++ be 8 (triple_at o (record_at k dir tree)).timestamp
  unfolding key_in spt_key address_key
  spt-is q =
      let t = triple_at o (record_at k dir tree) in
      e ∙ says.0 ∙ ap (λ (x : KeyOrder). key_in x t) q ∙ sym (append_assoc (subspace_key t.subspace) (path_key t.path) (be 8 t.timestamp))

  tsp-is : o ≡ Tsp → key ≡ be 8 (triple_at o (record_at k dir tree)).timestamp ++ address_at o (record_at k dir tree)
  unfolding key_in tsp_key address_key
  tsp-is q = e ∙ says.0 ∙ ap (λ (x : KeyOrder). key_in x (triple_at o (record_at k dir tree))) q

  pub address-spt : o ≡ Spt → (n : ℕ) → n ≡ length key - 8 → take n key ≡ address_at o (record_at k dir tree)
  address-spt q n m =
      let p = address_at o (record_at k dir tree) in
      let z = be 8 (triple_at o (record_at k dir tree)).timestamp in
      ap (take n) (spt-is q) ∙ take_at p z n (omega (arith, ap length (spt-is q), length-append p z, be-length 8 (triple_at o (record_at k dir tree)).timestamp))

  pub address-tsp : o ≡ Tsp → take (length key - 8) (drop 8 key) ≡ address_at o (record_at k dir tree)
  address-tsp q =
      let p = address_at o (record_at k dir tree) in
      let z = be 8 (triple_at o (record_at k dir tree)).timestamp in
      take_all (length key - 8) (drop 8 key) (omega (arith, length-drop 8 key))
      ∙ ap (drop 8) (tsp-is q) ∙ drop_at z p 8 (be-length 8 (triple_at o (record_at k dir tree)).timestamp)

  pub time-spt : o ≡ Spt → (n : ℕ) → n ≡ length key - 8 → (x : ℕ) → x ≡ number (take (length key - n) (drop n key)) → x ≡ (triple_at o (record_at k dir tree)).timestamp
  time-spt q n m x f =
      let p = address_at o (record_at k dir tree) in
      let y = (triple_at o (record_at k dir tree)).timestamp in
      f ∙ ap number (take_all (length key - n) (drop n key) (omega (arith, length-drop n key))
      ∙ ap (drop n) (spt-is q) ∙ drop_at p (be 8 y) n (omega (arith, ap length (spt-is q), length-append p (be 8 y), be-length 8 y)) ∙ sym (append-nil (be 8 y)))
      ∙ number-back y [] says.1.time

  pub time-tsp : o ≡ Tsp → (x : ℕ) → x ≡ number key → x ≡ (triple_at o (record_at k dir tree)).timestamp
  time-tsp q x f = f ∙ ap number (tsp-is q) ∙ number-back (triple_at o (record_at k dir tree)).timestamp (address_at o (record_at k dir tree)) says.1.time

-- A key that was written, less its time.
pub address-wrote : (s : Subspace) (p : Path) (old out : List ℕ) (n m : ℕ) → legal field p ≡ true → n ≡ length (key_in Spt (triple s (components p) 0)) → out ≡ put (key_in Spt (triple s (components p) 0)) old
    → n ≡ m + 8 → (2 ≤ m) × (m ≤ key_most field) × (take m out ≡ address_key s (components p))
unfolding key_in spt_key address_key put
address-wrote s p old out n m l en eo h =
    let k = key_in Spt (triple s (components p) 0) in
    let w = address_key s (components p) in
    let q : k ≡ w ++ be 8 0 = sym (append_assoc (subspace_key s) (path_key (components p)) (be 8 0)) in
    let z : length k ≡ length w + 8 = ap length q ∙ length-append w (be 8 0) ∙ ap (length w +◌) (be-length 8 0) in (
      omega (arith, key_least Spt (triple s (components p) 0)),
      omega (arith, key_fits Spt field s p 0 l),
      ap (take m) (eo ∙ ap (◌++ drop (length k) old) q ∙ append_assoc w (be 8 0) (drop (length k) old)) ∙ take_at w (be 8 0 ++ drop (length k) old) m (omega arith),
    )

-- What bytes alone tell of a record.
module _ (o : KeyOrder) (ns r : List ℕ) where
  pub removes-not : (e : Entry) (front address : List ℕ) → front ≡ open_key e.subspace e.path → address ≡ address_at o r → (t : Bool) → t ≡ prefix_of same_number front address → not t ≡ true
      → false ≡ removes e (stored o field ns r)
  unfolding removes prunes stored stored_from
  removes-not e front address eo ep t h n = rw (covers-not e (stored o field ns r).entry front address eo ep t h n)

  pub outdates-not : (e : Entry) (front address : List ℕ) → front ≡ open_at o r → address ≡ address_key e.subspace e.path → (t : Bool) → t ≡ prefix_of same_number front address → not t ≡ true
      → false ≡ outdates e (stored o field ns r)
  unfolding outdates prunes stored stored_from
  outdates-not e front address eo ep t h n = rw (covers-not (stored o field ns r).entry e front address eo ep t h n)

-- An address that was written, without its end.
pub front-wrote : (s : Subspace) (p : Components) (buf : List ℕ) (r n : ℕ) → take r buf ≡ address_key s p → r ≤ length buf → n ≡ r - 2 → take n buf ≡ open_key s p
front-wrote s p buf r n e h q =
    sym (take-take n r buf (omega arith)) ∙ (open-part s p n (take r buf) e (q ∙ ap (◌- 2) (sym (length-take-le r buf h)))).1

-- The bytes of a path that was written behind its subspace, and these without their end.
pub path-wrote : (s : Subspace) (p : Components) (buf : List ℕ) (r : ℕ) → take r buf ≡ address_key s p → r ≤ length buf → (18 ≤ r) × (take (r - 16) (drop 16 buf) ≡ path_key p)
path-wrote s p buf r e h = (omega (arith, address-long s p (take r buf) e, length-take-le r buf h), sym (drop-cut 16 r buf) ∙ address-path s p (take r buf) e)

pub front-path : (p : Components) (buf : List ℕ) (r m : ℕ) → take (r - 16) (drop 16 buf) ≡ path_key p → r ≤ length buf → 18 ≤ r → m ≡ r - 2 → take (m - 16) (drop 16 buf) ≡ open_path p
front-path p buf r m e h w q =
    let n : length (drop 16 buf) ≡ length buf - 16 = length-drop 16 buf in
    let l : length (take (r - 16) (drop 16 buf)) ≡ r - 16 = length-take-le (r - 16) (drop 16 buf) (omega arith) in
    let k : take (r - 16) (drop 16 buf) ≡ open_path p ++ path_end = e ∙ path-open p in
    sym (take-take (m - 16) (r - 16) (drop 16 buf) (omega arith)) ∙ ap (take (m - 16)) k
    ∙ take_at (open_path p) path_end (m - 16) (omega (arith, ap length k, length-append (open_path p) path_end))
