-- Where a key stands among records whose keys ascend: those before the place are below it, those from there on are not. Assumes nothing.
use mathlib.Core.Path.{◌≡◌, refl, sym, ap, subst, ◌∙◌}
use mathlib.Core.Logic.{⊎_elim}
use mathlib.Core.List.Memᴰ.{cases_cons as uncons}
use mathlib.Core.List.Memᴰ.{head as here}
use mathlib.Core.List.Memᴰ.{not-nil as none_in}
use mathlib.Core.List.Memᴰ.{tail as there}
use mathlib.Core.List.{List, [], ◌∷◌}
use mathlib.Core.Bool.{Bool, true, false, cond, ◌&&◌}
use Prim.Native.Nat.{ℕ, zero, suc, ◌+◌, ◌≤◌, ◌<◌, suc-le-suc}
use native.Mathlib.Omega.{arith}
use native.Mathlib.Nat.{not-suc-le-zero, le_of_suc-le-suc, eq-or-lt_of_le}
use lib.ListN.{length, get_or}
use Rattle.laws.specs.Order.{is_less, is_same, below}
use Rattle.laws.specs.Prefix.{same_number, same_list}
use Rattle.laws.specs.Sorted.{◌∈◌, keep, Ascends}
use Rattle.laws.proofs.Truth.{split, clash, refute, and-true, alike}
use Rattle.laws.proofs.Order.{Tri, under, equal, over, tri, is-less, is_same_lem}
use Rattle.laws.proofs.Prefix.{list-equality, number-equality}
use Rattle.laws.proofs.Sorted.{any-view, any-make}
use Rattle.layout.specs.Layout.{records, record_at}
use Rattle.layout.proofs.LaidLaws.{records-get, records-many}
use Rattle.data_model.specs.Path.{by_bytes}
use Rattle.data_model.proofs.Orders.{bytes-linear}
use Rattle.tree.specs.Stored.{key_of, value_part, key_below}
use Rattle.tree.specs.Tree.{Searchable, keys_below, has_key, has_record}

-- The key of a record is below a key.
abbrev pub less_than : List ℕ → List ℕ → Bool
less_than key r = is_less (by_bytes (key_of r) key)

abbrev pub less_at : List ℕ → List (List ℕ) → ℕ → Bool
less_at key recs k = less_than key (get_or recs k [])

less-before : (key a b : List ℕ) → key_below a b ≡ true → less_than key b ≡ true → less_than key a ≡ true
unfolding below is_less
less-before key a b e f = ap is_less (bytes-linear.trans (key_of a) (key_of b) key (is-less _ e) (is-less _ f))

less-self : (key r : List ℕ) → key_of r ≡ key → less_than key r ≡ false
unfolding is_less
less-self key r e = ap (λ (k : List ℕ). is_less (by_bytes k key)) e ∙ ap is_less (bytes-linear.self key)

less-to : (a b : List ℕ) {key : List ℕ} → key_below a b ≡ true → key_of b ≡ key → less_than key a ≡ true
unfolding below
less-to a b e q = sym (ap (λ (k : List ℕ). is_less (by_bytes (key_of a) k)) q) ∙ e

-- Keys that compare the same are the same, by either test.
pub same_key : (key r : List ℕ) → is_same (by_bytes (key_of r) key) ≡ true → key_of r ≡ key
same_key key r e = bytes-linear.equal (key_of r) key (is_same_lem _ e)

pub key-same : (key r : List ℕ) → key_of r ≡ key → is_same (by_bytes (key_of r) key) ≡ true
unfolding is_same
key-same key r e = ap (λ (k : List ℕ). is_same (by_bytes k key)) e ∙ ap is_same (bytes-linear.self key)

equal-lists : (a b : List ℕ) → same_list same_number a b ≡ true → a ≡ b
equal-lists a b e = (list-equality same_number number-equality).equal a b e

same_lists : (a b : List ℕ) → a ≡ b → same_list same_number a b ≡ true
same_lists a b e = sym (ap (same_list same_number a) e) ∙ (list-equality same_number number-equality).self a

-- Members by their places.
get_in : (l : List (List ℕ)) (k : ℕ) → k < length l → get_or l k [] ∈ l
get_in [] k h = absurd (not-suc-le-zero h)
get_in (a ∷ l) zero h = here refl
get_in (a ∷ l) (suc k) h = there (get_in l k (le_of_suc-le-suc h))

in-get : {x : List ℕ} (l : List (List ℕ)) → x ∈ l → (k : ℕ) × (k < length l) × (get_or l k [] ≡ x)
in-get [] m = absurd (none_in m)
in-get {x} (a ∷ l) m = ⊎_elim
    (λ (e : x ≡ a). (0, omega arith, sym e))
    (λ n. let k = in-get l n in (suc k.0, suc-le-suc k.1, k.2))
    (uncons m)

-- Each key is below each later one.
pub sorted : (recs : List (List ℕ)) → Ascends key_below recs → (j k : ℕ) → j < k → k < length recs → key_below (get_or recs j []) (get_or recs k []) ≡ true
unfolding Ascends
sorted [] s j k l m = absurd (not-suc-le-zero m)
sorted (r ∷ rs) s j zero l m = absurd (not-suc-le-zero l)
sorted (r ∷ rs) s zero (suc k) l m = s.0 (get_or rs k []) (get_in rs k (le_of_suc-le-suc m))
sorted (r ∷ rs) s (suc j) (suc k) l m = sorted rs s.1 j k (le_of_suc-le-suc l) (le_of_suc-le-suc m)

-- Keys before lo are below the key, keys from hi on are not.
pub record Bracket (key : List ℕ) (recs : List (List ℕ)) (lo hi : ℕ) : Type 0 where
  pub ordered : lo ≤ hi
  pub within : hi ≤ length recs
  pub lower : (k : ℕ) → k < lo → less_at key recs k ≡ true
  pub upper : (k : ℕ) → hi ≤ k → k < length recs → less_at key recs k ≡ false

pub bracket-start : (key : List ℕ) (recs : List (List ℕ)) (n : ℕ) → length recs ≡ n → Bracket key recs 0 n
bracket-start key recs n e = record {
  ordered = omega arith;
  within = omega arith;
  lower = λ k l. absurd (not-suc-le-zero l);
  upper = λ k l m. absurd (omega arith);
}

module _ (key : List ℕ) (recs : List (List ℕ)) (asc : Ascends key_below recs) (lo hi mid : ℕ) (b : Bracket key recs lo hi) (h : lo ≤ mid) (k : mid < hi) where
  inside : mid < length recs
  inside = omega (arith, b.within)

  pub bracket-up : less_at key recs mid ≡ true → Bracket key recs (mid + 1) hi
  bracket-up t = record {
    ordered = omega arith;
    within = b.within;
    lower = λ j l. ⊎_elim
        (λ (e : j ≡ mid). ap (λ (x : ℕ). less_at key recs x) e ∙ t)
        (λ (m : j < mid). less-before key (get_or recs j []) (get_or recs mid []) (sorted recs asc j mid m inside) t)
        (eq-or-lt_of_le {n = j} {m = mid} (omega arith));
    upper = b.upper;
  }

  pub bracket-down : less_at key recs mid ≡ false → Bracket key recs lo mid
  bracket-down f = record {
    ordered = h;
    within = omega arith;
    lower = b.lower;
    upper = λ j l w. refute (less_at key recs j) λ t. ⊎_elim
        (λ (e : mid ≡ j). clash (ap (λ (x : ℕ). less_at key recs x) e ∙ t) f)
        (λ (m : mid < j). clash (less-before key (get_or recs mid []) (get_or recs j []) (sorted recs asc mid j m w) t) f)
        (eq-or-lt_of_le {n = mid} {m = j} l);
  }

-- As many are below as stand before the place.
below-is : (key : List ℕ) (recs : List (List ℕ)) (m : ℕ) → m ≤ length recs → ((k : ℕ) → k < m → less_at key recs k ≡ true)
    → ((k : ℕ) → m ≤ k → k < length recs → less_at key recs k ≡ false) → keys_below key recs ≡ m
unfolding keys_below keep
below-is key [] zero h u o = refl
below-is key [] (suc m) h u o = absurd (not-suc-le-zero h)
below-is key (r ∷ rs) zero h u o =
    ap (λ (x : Bool). length (cond x (r ∷ keep (λ (s : List ℕ). less_than key s) rs) (keep (λ (s : List ℕ). less_than key s) rs))) (o zero (omega arith) (omega arith))
    ∙ below-is key rs zero (omega arith) (λ k l. absurd (not-suc-le-zero l)) (λ k l w. o (suc k) (omega arith) (suc-le-suc w))
below-is key (r ∷ rs) (suc m) h u o =
    ap (λ (x : Bool). length (cond x (r ∷ keep (λ (s : List ℕ). less_than key s) rs) (keep (λ (s : List ℕ). less_than key s) rs))) (u zero (omega arith))
    ∙ ap suc (below-is key rs m (le_of_suc-le-suc h) (λ k l. u (suc k) (suc-le-suc l)) (λ k l w. o (suc k) (suc-le-suc l) (suc-le-suc w)))

pub bracket-end : (key : List ℕ) (recs : List (List ℕ)) (lo hi : ℕ) → Bracket key recs lo hi → hi ≤ lo → lo ≡ keys_below key recs
bracket-end key recs lo hi b h =
    sym (below-is key recs lo (omega (arith, b.ordered, b.within)) b.lower (λ k l w. b.upper k (omega arith) w))

-- There is a place that splits the list.
module _ (key : List ℕ) where
  split-more : (r : List ℕ) (rs : List (List ℕ)) (m : ℕ) → less_than key r ≡ true → Bracket key rs m m → Bracket key (r ∷ rs) (suc m) (suc m)
  split-more r rs m t b = record { ordered = omega arith; within = suc-le-suc b.within; lower = u; upper = o }
    where
      u : (k : ℕ) → k < suc m → less_at key (r ∷ rs) k ≡ true
      u zero l = t
      u (suc k) l = b.lower k (le_of_suc-le-suc l)

      o : (k : ℕ) → suc m ≤ k → k < suc (length rs) → less_at key (r ∷ rs) k ≡ false
      o zero l w = absurd (not-suc-le-zero l)
      o (suc k) l w = b.upper k (le_of_suc-le-suc l) (le_of_suc-le-suc w)

  split-none : (r : List ℕ) (rs : List (List ℕ)) → Ascends key_below (r ∷ rs) → less_than key r ≡ false → Bracket key (r ∷ rs) 0 0
  unfolding Ascends
  split-none r rs s f = record { ordered = omega arith; within = omega arith; lower = λ k l. absurd (not-suc-le-zero l); upper = o }
    where
      o : (k : ℕ) → 0 ≤ k → k < suc (length rs) → less_at key (r ∷ rs) k ≡ false
      o zero l w = f
      o (suc k) l w = refute (less_at key rs k) λ t. clash (less-before key r (get_or rs k []) (s.0 (get_or rs k []) (get_in rs k (le_of_suc-le-suc w))) t) f

  place : (recs : List (List ℕ)) → Ascends key_below recs → (m : ℕ) × Bracket key recs m m
  unfolding Ascends
  place [] s = (0, bracket-start key [] 0 refl)
  place (r ∷ rs) s = split (less_than key r)
      (λ t. let p = place rs s.1 in (suc p.0, split-more r rs p.0 t p.1))
      (λ f. (0, split-none r rs s f))

  module _ (recs : List (List ℕ)) (asc : Ascends key_below recs) (n : ℕ) (e : n ≡ keys_below key recs) where
    -- The count of keys below a key splits the list.
    pub below-splits : Bracket key recs n n
    below-splits =
        let s = place recs asc in
        subst (λ (m : ℕ). Bracket key recs m m) (bracket-end key recs s.0 s.0 s.1 (omega arith) ∙ sym e) s.1

    -- A record of the key stands at the place, and there only.
    pub key-place : {x : List ℕ} → x ∈ recs → key_of x ≡ key → (n < length recs) × (get_or recs n [] ≡ x)
    key-place {x} m q =
        let i = in-get recs m in
        place-only x q i.0 i.1 i.2 (tri i.0 n)
      where
        place-only : (x : List ℕ) → key_of x ≡ key → (k : ℕ) → k < length recs → get_or recs k [] ≡ x → Tri k n → (n < length recs) × (get_or recs n [] ≡ x)
        place-only x q k w g (under l) = clash (below-splits.lower k l) (less-self key (get_or recs k []) (ap key_of g ∙ q))
        place-only x q k w g (equal l) = subst (λ (j : ℕ). (j < length recs) × (get_or recs j [] ≡ x)) l (w, g)
        place-only x q k w g (over l) =
            clash (less-to (get_or recs n []) (get_or recs k []) (sorted recs asc n k l w) (ap key_of g ∙ q)) (below-splits.upper n (omega arith) (omega arith))

    -- Whether the key is there, by the record at the place.
    pub found_none : length recs ≤ n → false ≡ has_key key recs
    unfolding has_key
    found_none h = sym (refute (has_key key recs) λ t.
        let v = any-view (λ (r : List ℕ). is_same (by_bytes (key_of r) key)) recs t in
        let k = (key-place v.1 (same_key key v.0 v.2)).0 in
        omega arith)

    pub found-is : n < length recs → same_list same_number (key_of (get_or recs n [])) key ≡ has_key key recs
    unfolding has_key
    found-is h = alike (same_list same_number (key_of (get_or recs n [])) key) (has_key key recs)
        (λ t. any-make (λ (r : List ℕ). is_same (by_bytes (key_of r) key)) recs (get_in recs n h) (key-same key (get_or recs n []) (equal-lists _ _ t)))
        (λ t.
        let v = any-view (λ (r : List ℕ). is_same (by_bytes (key_of r) key)) recs t in
        let q = same_key key v.0 v.2 in
        same_lists _ _ (ap key_of (key-place v.1 q).1 ∙ q))

    module _ (value : List ℕ) where
      pub record-none : has_key key recs ≡ false → false ≡ has_record key value recs
      unfolding has_key has_record
      record-none f = sym (refute (has_record key value recs) λ t.
          let v = any-view (λ (r : List ℕ). same_list same_number (key_of r) key && same_list same_number (value_part r) value) recs t in
          let b = and-true (same_list same_number (key_of v.0) key) (same_list same_number (value_part v.0) value) v.2 in
          clash (any-make (λ (r : List ℕ). is_same (by_bytes (key_of r) key)) recs v.1 (key-same key v.0 (equal-lists _ _ b.0))) f)

      pub record_is : has_key key recs ≡ true → (n < length recs) × (same_list same_number (value_part (get_or recs n [])) value ≡ has_record key value recs)
      unfolding has_key has_record
      record_is t =
          let v = any-view (λ (r : List ℕ). is_same (by_bytes (key_of r) key)) recs t in
          let q = same_key key v.0 v.2 in
          let p = key-place v.1 q in (
            p.0,
            alike (same_list same_number (value_part (get_or recs n [])) value) (has_record key value recs)
                (λ s.
                any-make (λ (r : List ℕ). same_list same_number (key_of r) key && same_list same_number (value_part r) value) recs (get_in recs n p.0)
                (ap (λ (b : Bool). b && same_list same_number (value_part (get_or recs n [])) value) (same_lists _ _ (ap key_of p.1 ∙ q)) ∙ s))
                (λ s.
                let w = any-view (λ (r : List ℕ). same_list same_number (key_of r) key && same_list same_number (value_part r) value) recs s in
                let b = and-true (same_list same_number (key_of w.0) key) (same_list same_number (value_part w.0) value) w.2 in
                ap (λ (r : List ℕ). same_list same_number (value_part r) value) (key-place w.1 (equal-lists _ _ b.0)).1 ∙ b.1),
          )

-- Over a tree that can be searched, each step with what the calls answered.
module _ {count : ℕ} {dir tree : List ℕ} (v : Searchable count dir tree) (key : List ℕ) where
  many : length (records count dir tree) ≡ count
  many = records-many count dir tree v.few

  pub search-start : Bracket key (records count dir tree) 0 count
  search-start = bracket-start key (records count dir tree) count many

  -- One comparison, of record `mid`.
  module _ (lo hi mid : ℕ) (b : Bracket key (records count dir tree) lo hi) (h : lo ≤ mid) (k : mid < hi) (a : List ℕ) (t : Bool)
      (e : a ≡ key_of (record_at mid dir tree)) (f : t ≡ is_less (by_bytes a key)) where
    compared : less_at key (records count dir tree) mid ≡ t
    compared =
        let w = b.within in
        let m = many in
        rw (f, e, records-get count mid dir tree v.few (omega arith))

    pub search-up : t ≡ true → Bracket key (records count dir tree) (mid + 1) hi
    search-up y = bracket-up key (records count dir tree) v.ascends lo hi mid b h k (compared ∙ y)

    pub search-down : t ≡ false → Bracket key (records count dir tree) lo mid
    search-down n = bracket-down key (records count dir tree) v.ascends lo hi mid b h k (compared ∙ n)

  -- What the record at the place says.
  module _ (n : ℕ) (e : n ≡ keys_below key (records count dir tree)) where
    pub find_none : count ≤ n → false ≡ has_key key (records count dir tree)
    find_none h = let m = many in found_none key (records count dir tree) v.ascends n e (omega arith)

    pub find-is : n < count → (a : List ℕ) (t : Bool) → a ≡ key_of (record_at n dir tree) → t ≡ same_list same_number a key → t ≡ has_key key (records count dir tree)
    find-is h a t f g =
        let m = many in
        rw (g, f, ← records-get count n dir tree v.few h) (found-is key (records count dir tree) v.ascends n e (omega arith))

    module _ (t : Bool) (q : t ≡ has_key key (records count dir tree)) where
      pub has-place : t ≡ true → n < count
      has-place y = let m = many in let k = (record_is key (records count dir tree) v.ascends n e key (sym q ∙ y)).0 in omega arith

      pub has-is : (value a : List ℕ) (r : Bool) → t ≡ true → a ≡ value_part (record_at n dir tree) → r ≡ same_list same_number a value → r ≡ has_record key value (records count dir tree)
      has-is value a r y f g =
          rw (g, f, ← records-get count n dir tree v.few (has-place y)) (record_is key (records count dir tree) v.ascends n e value (sym q ∙ y)).1

      pub has-none : (value : List ℕ) → t ≡ false → false ≡ has_record key value (records count dir tree)
      has-none value f = record-none key (records count dir tree) v.ascends n e value (sym q ∙ f)
