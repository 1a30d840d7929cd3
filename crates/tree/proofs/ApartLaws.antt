-- The walk of `apart` over a tree, turn by turn: the stack is a chain, and what is left to walk decides. Assumes nothing.
use Prim.Native.Nat.{ℕ, zero, suc, ◌+◌, ◌-◌, ◌≤◌, ◌<◌}
use mathlib.Core.Path.{◌≡◌, refl, sym, ap, ap₂, subst, ◌∙◌}
use mathlib.Core.List.{List, [], ◌∷◌}
use mathlib.Core.Bool.{Bool, true, false, not, ◌&&◌}
use native.Mathlib.Omega.{arith}
use lib.Dec.{leb}
use borrow.Author.Tests.{leb-true, leb-false}
use lib.ListN.{length, take, drop, set, get_or}
use lib.Seq.{get_or-set_same, get_or-set_other, get_or-take, length-take-le}
use Rattle.laws.specs.Order.{is_greater}
use Rattle.laws.specs.Prefix.{same_number, same_list, prefix_of}
use Rattle.laws.specs.Sorted.{all}
use Rattle.laws.proofs.Truth.{split, and-true, not-true, not-false}
use Rattle.layout.specs.Layout.{records, record_at}
use Rattle.data_model.specs.Path.{field, Components, is_component, is_path, joined}
use Rattle.data_model.specs.Entry.{Entry, by_rank, covers}
use Rattle.key_laws.specs.Bytes.{Bytes}
use Rattle.tree.specs.Stored.{stored, contents}
use Rattle.tree.specs.Tree.{Formed, Ordered}
use Rattle.tree.specs.Apart.{apart}
use Rattle.tree.specs.Address.{address_at, open_at, rank_at}
use Rattle.tree.specs.declared.stored.KeyOrder.TheVariants.{Spt}
use Rattle.tree.proofs.FormedLaws.{formed-record, formed-readable}
use Rattle.tree.proofs.FormedContents.{formed-next, formed-done, formed-walk}
use Rattle.tree.proofs.RecordLaws.{record-forth}
use Rattle.tree.proofs.WalkLaws.{fine}
use Rattle.tree.proofs.WithinLaws.{at-bytes}
use Rattle.tree.proofs.CoverLaws.{covers_at, same_at, newer-at}
use Rattle.tree.proofs.NearestLaws.{Chain, Covered, popped, popped-chain, nearest_fine, walk_by, all_behind, chain_more, chain-short, walk-nearest, stack_of, stack-length, stack_push, stack-popped}

-- A legal path has at most 8 components.
path-short : (p : Components) → is_path field p ≡ true → length p ≤ 8
unfolding is_path
path-short p e = leb-true (length p) 8 (and-true (leb (length p) 8) (all (is_component field) p && leb (length (joined p)) 128) e).0

-- The entry at record i, for a namespace.
abbrev pub entry_at : (dir tree ns : List ℕ) → ℕ → Entry
entry_at dir tree ns i = (stored Spt field ns (record_at i dir tree)).entry

-- Before record k, with so many numbers on the stack.
pub record Walked (count : ℕ) (dir tree ns stack : List ℕ) (depth k : ℕ) : Type 0 where
  pub chain : Chain (stack_of (entry_at dir tree ns) stack depth)
  pub left : apart (contents Spt field ns (records count dir tree)) ≡ walk_by (stack_of (entry_at dir tree ns) stack depth) (drop k (contents Spt field ns (records count dir tree)))

pub walk_start : {count : ℕ} {dir tree : List ℕ} → Ordered Spt count dir tree → Bytes tree → (ns stack : List ℕ) → Walked count dir tree ns stack 0 0
unfolding Chain stack_of all_behind
walk_start {count} {dir} {tree} v b ns stack = record {
  chain = tt;
  left = formed-walk v ns b ∙ sym (walk-nearest [] (contents Spt field ns (records count dir tree)) tt);
}

pub walk_end : {count : ℕ} {dir tree : List ℕ} → Formed Spt count dir tree → (ns stack : List ℕ) (depth k : ℕ) → count ≤ k → Walked count dir tree ns stack depth k
    → true ≡ apart (contents Spt field ns (records count dir tree))
unfolding walk_by
walk_end {count} {dir} {tree} v ns stack depth k h w = sym (w.left ∙ ap (walk_by (stack_of (entry_at dir tree ns) stack depth)) (formed-done v ns k h))

-- Whether record j may stand before record k, which it covers.
abbrev pub may_stand : (dir tree : List ℕ) (j k : ℕ) → Bool
may_stand dir tree j k =
    not (same_list same_number (address_at Spt (record_at j dir tree)) (address_at Spt (record_at k dir tree))) && not (is_greater (by_rank (rank_at Spt (record_at j dir tree)) (rank_at Spt (record_at k dir tree))))

-- A turn: r are left of the first `depth` on the stack, and t says whether the nearest may stand before record k.
module _ {count : ℕ} {dir tree : List ℕ} (v : Formed Spt count dir tree) (b : Bytes tree) (stack : List ℕ) (depth k : ℕ) (there : k < count)
    (below : (i : ℕ) → i < depth → get_or stack i 0 < k) (room : depth ≤ length stack) (r : ℕ) (few-taken : r ≤ length (take depth stack))
    (off-taken : (i : ℕ) → r ≤ i → i < length (take depth stack) → prefix_of same_number (open_at Spt (record_at (get_or (take depth stack) i 0) dir tree)) (address_at Spt (record_at k dir tree)) ≡ false)
    (on-taken : 0 < r → prefix_of same_number (open_at Spt (record_at (get_or (take depth stack) (r - 1) 0) dir tree)) (address_at Spt (record_at k dir tree)) ≡ true)
    (t : Bool) (none-taken : length (take r stack) ≡ 0 → t ≡ true)
    (some-taken : 0 < length (take r stack) → t ≡ may_stand dir tree (get_or (take r stack) (length (take r stack) - 1) 0) k)
    (ns : List ℕ) (w : Walked count dir tree ns stack depth k) where
  taken-long : length (take depth stack) ≡ depth
  taken-long = length-take-le depth stack room

  pub few : r ≤ depth
  few = omega (arith, few-taken, taken-long)

  left-long : length (take r stack) ≡ r
  left-long = length-take-le r stack (omega (arith, few))

  off : (i : ℕ) → r ≤ i → i < depth → prefix_of same_number (open_at Spt (record_at (get_or stack i 0) dir tree)) (address_at Spt (record_at k dir tree)) ≡ false
  off i x y =
      ap (λ (j : ℕ). prefix_of same_number (open_at Spt (record_at j dir tree)) (address_at Spt (record_at k dir tree))) (sym (get_or-take depth stack i 0 y))
      ∙ off-taken i x (omega (arith, taken-long))

  on : 0 < r → prefix_of same_number (open_at Spt (record_at (get_or stack (r - 1) 0) dir tree)) (address_at Spt (record_at k dir tree)) ≡ true
  on h =
      ap (λ (j : ℕ). prefix_of same_number (open_at Spt (record_at j dir tree)) (address_at Spt (record_at k dir tree))) (sym (get_or-take depth stack (r - 1) 0 (omega (arith, few))))
      ∙ on-taken h

  none : r ≡ 0 → t ≡ true
  none e = none-taken (left-long ∙ e)

  some : 0 < r → t ≡ may_stand dir tree (get_or stack (r - 1) 0) k
  some h =
      some-taken (omega (arith, left-long))
      ∙ ap (λ (n : ℕ). may_stand dir tree (get_or (take r stack) (n - 1) 0) k) left-long
      ∙ ap (λ (j : ℕ). may_stand dir tree j k) (get_or-take r stack (r - 1) 0 (omega arith))

  covers-is : (i : ℕ) → i < depth → prefix_of same_number (open_at Spt (record_at (get_or stack i 0) dir tree)) (address_at Spt (record_at k dir tree)) ≡ covers (entry_at dir tree ns (get_or stack i 0)) (entry_at dir tree ns k)
  covers-is i h = let j = below i h in covers_at (formed-readable v (get_or stack i 0) (omega arith)) (formed-readable v k there) b ns

  popped-is : popped (entry_at dir tree ns k) (stack_of (entry_at dir tree ns) stack depth) ≡ stack_of (entry_at dir tree ns) stack r
  popped-is = stack-popped (entry_at dir tree ns) (entry_at dir tree ns k) stack depth r few
      (λ i x y. sym (covers-is i y) ∙ off i x y)
      (λ h. sym (covers-is (r - 1) (omega (arith, few))) ∙ on h)

  fine-is : (d : ℕ) → d ≡ r → t ≡ nearest_fine (stack_of (entry_at dir tree ns) stack d) (entry_at dir tree ns k)
  unfolding stack_of nearest_fine fine
  fine-is zero e = none (sym e)
  fine-is (suc d) e =
      let i : r - 1 ≡ d = omega arith in
      let j = below d (omega (arith, few)) in
      let x = formed-readable v (get_or stack d 0) (omega arith) in
      let y = formed-readable v k there in
      some (omega arith)
      ∙ ap (λ (n : ℕ). not (same_list same_number (address_at Spt (record_at (get_or stack n 0) dir tree)) (address_at Spt (record_at k dir tree))) && not (is_greater (by_rank (rank_at Spt (record_at (get_or stack n 0) dir tree)) (rank_at Spt (record_at k dir tree))))) i
      ∙ ap₂ (λ (p q : Bool). not p && not q) (same_at x y b ns) (newer-at x y b ns)

  next_is : apart (contents Spt field ns (records count dir tree)) ≡ (t && walk_by (entry_at dir tree ns k ∷ stack_of (entry_at dir tree ns) stack r) (drop (k + 1) (contents Spt field ns (records count dir tree))))
  unfolding walk_by
  next_is =
      let rest = drop (k + 1) (contents Spt field ns (records count dir tree)) in
      w.left
      ∙ ap (walk_by (stack_of (entry_at dir tree ns) stack depth)) (formed-next v ns k there)
      ∙ ap (λ (s : List Entry). nearest_fine s (entry_at dir tree ns k) && walk_by (entry_at dir tree ns k ∷ s) rest) popped-is
      ∙ ap (λ (x : Bool). x && walk_by (entry_at dir tree ns k ∷ stack_of (entry_at dir tree ns) stack r) rest) (sym (fine-is r refl))

  pub walk-stops : not t ≡ true → false ≡ apart (contents Spt field ns (records count dir tree))
  walk-stops n = sym (next_is ∙ ap (λ (x : Bool). x && walk_by (entry_at dir tree ns k ∷ stack_of (entry_at dir tree ns) stack r) (drop (k + 1) (contents Spt field ns (records count dir tree)))) (not-true t n))

  module _ (n : not t ≡ false) where
    chain_next : Chain (entry_at dir tree ns k ∷ stack_of (entry_at dir tree ns) stack r)
    chain_next =
        let c = popped-chain (entry_at dir tree ns k) (stack_of (entry_at dir tree ns) stack depth) w.chain in
        chain_more (entry_at dir tree ns k) (stack_of (entry_at dir tree ns) stack r)
        (subst (λ (s : List Entry). Chain s) popped-is c.0)
        (subst (λ (s : List Entry). Covered s (entry_at dir tree ns k)) popped-is c.1)
        (sym (fine-is r refl) ∙ not-false t n)

    pub walk-room : r ≤ 8
    walk-room =
        let f = record-forth Spt field ns (record_at k dir tree) (at-bytes k dir tree b) (formed-record v k there) in
        omega (arith, chain-short (entry_at dir tree ns k) (stack_of (entry_at dir tree ns) stack r) chain_next, stack-length (entry_at dir tree ns) stack r, path-short (entry_at dir tree ns k).path f.lawful.path)

    pub walk-goes : r < length stack → Walked count dir tree ns (set stack r k) (r + 1) (k + 1)
    walk-goes h =
        let s : stack_of (entry_at dir tree ns) (set stack r k) (r + 1) ≡ entry_at dir tree ns k ∷ stack_of (entry_at dir tree ns) stack r = stack_push (entry_at dir tree ns) stack r k h in
        record {
          chain = subst (λ (l : List Entry). Chain l) (sym s) chain_next;
          left = next_is
              ∙ ap (λ (x : Bool). x && walk_by (entry_at dir tree ns k ∷ stack_of (entry_at dir tree ns) stack r) (drop (k + 1) (contents Spt field ns (records count dir tree)))) (not-false t n)
              ∙ ap (λ (l : List Entry). walk_by l (drop (k + 1) (contents Spt field ns (records count dir tree)))) (sym s);
        }

-- The first numbers on the stack are of records before record k.
pub stacked : (stack : List ℕ) (depth k n : ℕ) → ((i : ℕ) → i < depth → get_or stack i 0 < k) → depth ≤ length stack → n ≤ depth → (i : ℕ) → i < length (take n stack) → get_or (take n stack) i 0 < k
stacked stack depth k n below room few i h =
    let long : i < n = omega (arith, length-take-le n stack (omega arith)) in
    omega (arith, get_or-take n stack i 0 long, below i (omega arith))

-- The numbers on the stack are of records before the next.
pub below_next : (stack : List ℕ) (depth k r : ℕ) → r ≤ depth → r < length stack → ((i : ℕ) → i < depth → get_or stack i 0 < k) → (i : ℕ) → i < r + 1 → get_or (set stack r k) i 0 < k + 1
below_next stack depth k r few room below i h = split (leb r i)
    (λ q.
    let z = leb-true r i q in
    let w : i ≡ r = omega arith in
    let s : get_or (set stack r k) i 0 ≡ k = ap (λ (j : ℕ). get_or (set stack r k) j 0) w ∙ get_or-set_same stack r k 0 room in
    omega arith)
    (λ q.
    let z = leb-false r i q in
    let j = below i (omega arith) in
    omega (arith, get_or-set_other stack r i k 0 (λ e. omega arith)))
