-- The bytes of a tally: how many they are, an item at a time, written and compared. Assumes nothing.
use Prim.Native.Nat.{ℕ, suc, ◌+◌, ◌-◌, ◌*◌, ◌/◌, ◌%◌, ◌^◌, ◌≤◌, ◌<◌}
use mathlib.Core.Path.{◌≡◌, refl, sym, ap, ap₂, subst, ◌∙◌}
use mathlib.Core.Bool.{Bool, true, false, not, ◌&&◌}
use mathlib.Core.List.{List, [], ◌∷◌, ◌++◌, map, append_assoc, append-nil}
use native.Mathlib.Omega.{arith}
use native.Mathlib.Nat.{sub-zero, div-one}
use lib.ListN.{length, take, drop, replicate, length-append, length-drop, take-append-drop, drop_of_length-le}
use lib.Seq.{drop-drop, length-take-le}
use borrow.Rule.Slice.PartMut.{put_mid, mid_of}
use lib.Dec.{eqb}
use Rattle.laws.specs.Lists.{put}
use Rattle.laws.specs.Order.{◌then◌, by_number, by_elements}
use Rattle.laws.specs.Prefix.{same_number, same_list}
use Rattle.laws.proofs.Truth.{not-true, not-false}
use Rattle.laws.proofs.Order.{three, then-end}
use Rattle.laws.proofs.Lists.{Wrote, wrote-first, wrote-lent, wrote-last, wrote-length}
use Rattle.layout.specs.Buffers.{filled, cleared, all_zero}
use Rattle.layout.specs.Layout.{joined, records}
use Rattle.layout.proofs.LaidLaws.{length-filled}
use Rattle.layout.proofs.RetainLaws.{clear_filled}
use Rattle.data_model.specs.Path.{field, by_bytes}
use Rattle.data_model.specs.Subspace.{by_subspace}
use Rattle.data_model.specs.declared.parameters.Subspace.{Subspace}
use Rattle.keys.specs.Encode.{be, subspace_key}
use Rattle.keys.proofs.Encoding.{be-length, subspace-length}
use Rattle.key_laws.proofs.Ordered.{number-ordered}
use Rattle.tree.specs.Stored.{Stored, contents}
use Rattle.tree.specs.Tree.{Formed}
use Rattle.tree.specs.declared.stored.KeyOrder.TheVariants.{Spt}
use Rattle.tree.proofs.FormedContents.{formed-done}
use Rattle.tally.specs.Tally.{enter, tally_of, item_bytes, item_length, tally_in}
use Rattle.tally.specs.declared.item.Item.{Item}

-- A number as 4 bytes.
abbrev pub four_bytes : ℕ → List ℕ
four_bytes x = x / 0x100_0000 % 256 ∷ x / 0x1_0000 % 256 ∷ x / 0x100 % 256 ∷ x % 256 ∷ []

pub be-4 : (x : ℕ) → be 4 x ≡ four_bytes x
unfolding be
be-4 x = simp (div-one x)

-- The items of entries, as bytes.
abbrev pub items_bytes : List Item → List ℕ
items_bytes l = joined (map item_bytes l)

item-length : (i : Item) → length (item_bytes i) ≡ item_length
unfolding item_bytes
item-length i = simp (length-append, be-length, subspace-length)

items-length : (l : List Item) → length (items_bytes l) ≡ item_length * length l
items-length [] = refl
items-length (i ∷ l) = length-append (item_bytes i) (items_bytes l) ∙ (omega (arith, item-length i, items-length l))

-- No more items than entries.
enter-few : (x : Stored) (l : List Item) → length (enter x l) ≤ suc (length l)
unfolding enter
enter-few x [] = omega arith
enter-few x (i ∷ l) = three (by_subspace x.entry.subspace i.subspace)
    (λ e. rw e (omega arith))
    (λ e. rw e (omega arith))
    (λ e. rw e (omega (arith, enter-few x l)))

tally-few : (l : List Stored) → length (tally_of l) ≤ length l
unfolding tally_of
tally-few [] = omega arith
tally-few (x ∷ l) = omega (arith, enter-few x (tally_of l), tally-few l)

tally-fits : (l : List Stored) → length (items_bytes (tally_of l)) ≤ item_length * length l
tally-fits l = omega (arith, items-length (tally_of l), tally-few l)

pub tally-length : (n : ℕ) (l : List Stored) → item_length * length l ≤ n → length (tally_in n l) ≡ n
unfolding tally_in
tally-length n l h = length-filled n (items_bytes (tally_of l)) (omega (arith, tally-fits l))

pub tally-none : (n : ℕ) → tally_in n [] ≡ replicate n 0
unfolding tally_in tally_of filled
tally-none n = ap (λ (m : ℕ). replicate {A = ℕ} m 0) (sub-zero n)

-- The three parts of an item, as calls leave them that were lent the buffer and its parts.
pub item-wrote : (i : Item) (old out last last' : List ℕ) → item_length ≤ length old → out ≡ put (subspace_key i.subspace) old → last ≡ put (be 4 i.count) (mid_of 16 (length out - 16) out)
    → last' ≡ put (be 8 i.newest) (mid_of 20 (length (put_mid 16 (length out - 16) out last) - 20) (put_mid 16 (length out - 16) out last))
    → put_mid 20 (length (put_mid 16 (length out - 16) out last) - 20) (put_mid 16 (length out - 16) out last) last' ≡ put (item_bytes i) old
unfolding item_bytes
item-wrote i old out last last' h e f g =
    let whole : List ℕ = subspace_key i.subspace ++ (be 4 i.count ++ be 8 i.newest) in
    let a : Wrote whole (be 4 i.count ++ be 8 i.newest) old out 16
    = wrote-first (subspace_key i.subspace) (be 4 i.count ++ be 8 i.newest) old out 16 (omega arith) (sym (subspace-length i.subspace)) e in
    let b : Wrote whole (be 8 i.newest) old (put_mid 16 (length out - 16) out last) 20
    = wrote-lent whole (be 4 i.count) (be 8 i.newest) old out last 16 4 a (omega (arith, a.size)) (sym (be-length 4 i.count)) f in
    (wrote-last whole (be 8 i.newest) old (put_mid 16 (length out - 16) out last) last' 20 8 b (omega (arith, b.size)) (sym (be-length 8 i.newest)) g).1

-- One item more is written: what a call leaves that was lent the part from `at` on.
pub item-turn : (whole old out last : List ℕ) (i : Item) (l m : List Item) (at : ℕ) → l ≡ i ∷ m → Wrote whole (items_bytes l) old out at → at + item_length ≤ length out
    → last ≡ put (item_bytes i) (mid_of at (length out - at) out) → Wrote whole (items_bytes m) old (put_mid at (length out - at) out last) (at + item_length)
item-turn whole old out last i l m at e w h f =
    wrote-lent whole (item_bytes i) (items_bytes m) old out last at item_length (subst (λ (l : List Item). Wrote whole (items_bytes l) old out at) e w) h (sym (item-length i)) f

-- All are written, and what is behind them is cleared.
items-cleared : (whole old out : List ℕ) (at n : ℕ) → Wrote whole [] old out at → n ≡ length out → cleared at n out ≡ filled (length old) whole
items-cleared whole old out at n w e =
    let z : 0 ≡ length old - n = omega (arith, w.size) in
    clear_filled whole out at n (length old) (omega (arith, w.room)) (omega (arith, w.size)) (sym (wrote-length whole old out at w))
    (sym (append-nil (take at out)) ∙ w.done)
    (drop_of_length-le out {i = n} (omega arith) ∙ ap (λ (m : ℕ). replicate {A = ℕ} m 0) z)

-- Lists are compared in two parts.
same_parts : (p q r s : List ℕ) → length p ≡ length r → same_list same_number (p ++ q) (r ++ s) ≡ (same_list same_number p r && same_list same_number q s)
unfolding same_list
same_parts [] q [] s e = refl
same_parts [] q (b ∷ r) s e = absurd (omega arith)
same_parts (a ∷ p) q [] s e = absurd (omega arith)
same_parts (a ∷ p) q (b ∷ r) s e = ap (same_number a b &&◌) (same_parts p q r s (omega arith)) ∙ assoc (same_number a b) (same_list same_number p r) (same_list same_number q s)
  where
    assoc : (x y z : Bool) → (x && (y && z)) ≡ ((x && y) && z)
    assoc true y z = refl
    assoc false y z = refl

same-zeros : (l : List ℕ) → same_list same_number l (replicate (length l) 0) ≡ all_zero l
unfolding same_list same_number all_zero
same-zeros [] = refl
same-zeros (a ∷ l) = ap (eqb a 0 &&◌) (same-zeros l)

filled_more : (n : ℕ) (p q : List ℕ) → filled n (p ++ q) ≡ p ++ filled (n - length p) q
unfolding filled
filled_more n p q =
    let m : n - length (p ++ q) ≡ n - length p - length q = omega (arith, length-append p q) in
    append_assoc p q (replicate (n - length (p ++ q)) 0) ∙ ap (λ (m : ℕ). p ++ (q ++ replicate m 0)) m

-- A buffer against items that are left to come.
abbrev pub same_left : List ℕ → ℕ → List Item → Bool
same_left tally at l = same_list same_number (drop at tally) (filled (length tally - at) (items_bytes l))

module _ (tally bytes old : List ℕ) (at n : ℕ) (i : Item) (l m : List Item) (e : l ≡ i ∷ m) (h : at + item_length ≤ length tally) (k : n ≡ item_length) (o : length old ≡ item_length) (f : bytes ≡ put (item_bytes i) old) (t : Bool) (g : t ≡ same_list same_number (take n (drop at tally)) bytes) where
  item-bytes : bytes ≡ item_bytes i
  unfolding put
  item-bytes = f ∙ ap (item_bytes i ++◌) (drop_of_length-le old {i = length (item_bytes i)} (omega (arith, item-length i))) ∙ append-nil (item_bytes i)

  item-same : same_left tally at l ≡ (t && same_left tally (at + item_length) m)
  item-same =
      let p : List ℕ = take n (drop at tally) in
      let z : length p ≡ length (item_bytes i) = length-take-le n (drop at tally) (omega (arith, length-drop at tally)) ∙ k ∙ sym (item-length i) in
      let w : length tally - at - length (item_bytes i) ≡ length tally - (at + item_length) = omega (arith, item-length i) in
      ap (same_left tally at) e
      ∙ ap₂ (same_list same_number)
      (sym (take-append-drop n (drop at tally)) ∙ ap (p ++◌) (drop-drop n at tally ∙ ap (λ (j : ℕ). drop (at + j) tally) k))
      (filled_more (length tally - at) (item_bytes i) (items_bytes m) ∙ ap (λ (j : ℕ). item_bytes i ++ filled j (items_bytes m)) w)
      ∙ same_parts p (drop (at + item_length) tally) (item_bytes i) (filled (length tally - (at + item_length)) (items_bytes m)) z
      ∙ ap (λ (x : Bool). x && same_left tally (at + item_length) m) (ap (same_list same_number p) (sym item-bytes) ∙ sym g)

  pub item-differs : not t ≡ true → false ≡ same_left tally at l
  item-differs n = sym (item-same ∙ ap (λ (x : Bool). x && same_left tally (at + item_length) m) (not-true t n))

  pub item-agrees : not t ≡ false → same_left tally at l ≡ same_left tally (at + item_length) m
  item-agrees n = item-same ∙ ap (λ (x : Bool). x && same_left tally (at + item_length) m) (not-false t n)

none_left : (tally : List ℕ) (at : ℕ) → same_left tally at [] ≡ all_zero (drop at tally)
unfolding filled
none_left tally at =
    let z : length tally - at - 0 ≡ length (drop at tally) = omega (arith, length-drop at tally) in
    ap (λ (m : ℕ). same_list same_number (drop at tally) (replicate m 0)) z ∙ same-zeros (drop at tally)

-- The tally of a subspace-first tree, written or compared up to what stands from record k on, whatever the namespace.
abbrev pub TallyWrote : (count : ℕ) (dir tree old out : List ℕ) (k at : ℕ) → Type 0
TallyWrote count dir tree old out k at = (ns : List ℕ)
    → Wrote (items_bytes (tally_of (contents Spt field ns (records count dir tree)))) (items_bytes (tally_of (drop k (contents Spt field ns (records count dir tree))))) old out at

abbrev pub TallyCompared : (count : ℕ) (dir tree tally : List ℕ) (k at : ℕ) → Type 0
TallyCompared count dir tree tally k at = (ns : List ℕ)
    → same_list same_number tally (tally_in (length tally) (contents Spt field ns (records count dir tree))) ≡ same_left tally at (tally_of (drop k (contents Spt field ns (records count dir tree))))

pub compared-none : (count : ℕ) (dir tree tally : List ℕ) → TallyCompared count dir tree tally 0 0
unfolding tally_in
compared-none count dir tree tally ns =
    ap (λ (m : ℕ). same_list same_number tally (filled m (items_bytes (tally_of (contents Spt field ns (records count dir tree)))))) (sym (sub-zero (length tally)))

module _ {count : ℕ} {dir tree : List ℕ} (v : Formed Spt count dir tree) (k at : ℕ) (h : count ≤ k) where
  nothing_left : (ns : List ℕ) → tally_of (drop k (contents Spt field ns (records count dir tree))) ≡ []
  unfolding tally_of
  nothing_left ns = ap tally_of (formed-done v ns k h)

  pub tally-wrote : (old out : List ℕ) (n : ℕ) → TallyWrote count dir tree old out k at → n ≡ length out → (ns : List ℕ)
      → cleared at n out ≡ tally_in (length old) (contents Spt field ns (records count dir tree))
  unfolding tally_in
  tally-wrote old out n w e ns =
      let whole : List ℕ = items_bytes (tally_of (contents Spt field ns (records count dir tree))) in
      items-cleared whole old out at n (subst (λ (l : List Item). Wrote whole (items_bytes l) old out at) (nothing_left ns) (w ns)) e

  pub tally-compared : (tally : List ℕ) (r : Bool) → TallyCompared count dir tree tally k at → r ≡ all_zero (drop at tally) → (ns : List ℕ)
      → r ≡ same_list same_number tally (tally_in (length tally) (contents Spt field ns (records count dir tree)))
  tally-compared tally r m e ns = e ∙ sym (m ns ∙ ap (same_left tally at) (nothing_left ns) ∙ none_left tally at)

-- Subspaces ascend as their 16 bytes do.
pub subspace-bytes : (a b : Subspace) → a.high < 2 ^ 64 → b.high < 2 ^ 64 → a.low < 2 ^ 64 → b.low < 2 ^ 64 → by_bytes (subspace_key a) (subspace_key b) ≡ by_subspace a b
unfolding subspace_key by_subspace by_elements
subspace-bytes a b h k l m =
    number-ordered a.high b.high h k (be 8 a.low) (be 8 b.low)
    ∙ ap (by_number a.high b.high then◌)
    (ap₂ by_bytes (sym (append-nil (be 8 a.low))) (sym (append-nil (be 8 b.low))) ∙ number-ordered a.low b.low l m [] [] ∙ then-end (by_number a.low b.low))
