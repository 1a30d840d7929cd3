-- The marks of a walk over a tree, for any test: what is left to mark makes up the whole. Assumes nothing.
use mathlib.Core.Path.{◌≡◌, refl, sym, ap, ap₂, ◌∙◌}
use mathlib.Core.List.{List, [], ◌∷◌, ◌++◌, append_assoc}
use mathlib.Core.Bool.{Bool, true, false, cond}
use Prim.Native.Nat.{ℕ, suc, ◌+◌, ◌≤◌, ◌<◌}
use native.Mathlib.Omega.{arith}
use native.Mathlib.Numerals.{add-one}
use lib.ListN.{length, take, drop, set, length-set, take-append-drop, drop_of_length-le}
use mir.Val.{bool_byte}
use lib.Seq.{drop-cons, drop-set-lt, take-suc-set}
use Rattle.laws.specs.Lists.{put}
use Rattle.layout.specs.Layout.{records, record_at}
use Rattle.layout.specs.Marks.{marks_of}
use Rattle.data_model.specs.Path.{field}
use Rattle.tree.specs.Stored.{Stored, stored, contents}
use Rattle.tree.specs.Tree.{Formed}
use Rattle.tree.specs.declared.stored.KeyOrder.{KeyOrder}
use Rattle.tree.proofs.FormedContents.{formed-many, formed-next}

-- After k marks: those, and the marks of the rest over what stands behind them.
pub record Marking {A : Type 0} (p : A → Bool) (l : List A) (m₀ m : List ℕ) (k : ℕ) : Type 0 where
  pub long : length m ≡ length m₀
  pub left : put (marks_of p l) m₀ ≡ take k m ++ put (marks_of p (drop k l)) (drop k m)

-- A test as a number.
byte-mark : (b : Bool) → bool_byte b ≡ cond b 1 0
byte-mark true = refl
byte-mark false = refl

module _ {A : Type 0} (p : A → Bool) (l : List A) where
  pub marking-start : (m : List ℕ) → Marking p l m m 0
  marking-start m = record { long = refl; left = refl }

  next-left : (m₀ m : List ℕ) (k : ℕ) (x : A) (rest : List A) → drop k l ≡ x ∷ rest → k < length m
      → put (marks_of p l) m₀ ≡ take k m ++ put (marks_of p (drop k l)) (drop k m)
      → put (marks_of p l) m₀ ≡ take (suc k) (set m k (cond (p x) 1 0)) ++ put (marks_of p rest) (drop (suc k) (set m k (cond (p x) 1 0)))
  unfolding put
  next-left m₀ m k x rest e h v =
      let w : ℕ = cond (p x) 1 0 in
      let ms = marks_of p rest in
      v
      ∙ ap (λ (d : List A). take k m ++ put (marks_of p d) (drop k m)) e
      ∙ ap (λ (d : List ℕ). take k m ++ put (w ∷ ms) d) (drop-cons m k 0 h)
      ∙ sym (append_assoc (take k m) (w ∷ []) (put ms (drop (suc k) m)))
      ∙ ap₂ (λ (a d : List ℕ). a ++ put ms d) (sym (take-suc-set m k w h)) (sym (drop-set-lt (suc k) m k w (omega arith)))

  marking-next : (m₀ m : List ℕ) (k : ℕ) (x : A) (b : Bool) → drop k l ≡ x ∷ drop (k + 1) l → k < length m → b ≡ p x → Marking p l m₀ m k
      → Marking p l m₀ (set m k (bool_byte b)) (k + 1)
  marking-next m₀ m k x b e h q v = record {
    long = simp length-set v.long;
    left = rw (q, byte-mark (p x), add-one k) (next-left m₀ m k x (drop (suc k) l) (rw (add-one k) at e) h v.left);
  }

  marking-end : (m₀ m : List ℕ) (k : ℕ) → length l ≤ k → Marking p l m₀ m k → m ≡ put (marks_of p l) m₀
  unfolding put
  marking-end m₀ m k h v =
      sym (v.left ∙ ap (λ (d : List A). take k m ++ put (marks_of p d) (drop k m)) (drop_of_length-le l {i = k} h) ∙ take-append-drop k m)

-- The same over a tree.
module _ {o : KeyOrder} {count : ℕ} {dir tree : List ℕ} (v : Formed o count dir tree) (ns : List ℕ) (p : Stored → Bool) (m₀ m : List ℕ) (k : ℕ) where
  pub mark-next : k < count → count ≤ length m₀ → (b : Bool) → b ≡ p (stored o field ns (record_at k dir tree))
      → Marking p (contents o field ns (records count dir tree)) m₀ m k
      → Marking p (contents o field ns (records count dir tree)) m₀ (set m k (bool_byte b)) (k + 1)
  mark-next h w b e i =
      marking-next p (contents o field ns (records count dir tree)) m₀ m k (stored o field ns (record_at k dir tree)) b (formed-next v ns k h) (omega (arith, i.long)) e i

  pub mark-end : count ≤ k → Marking p (contents o field ns (records count dir tree)) m₀ m k → m ≡ put (marks_of p (contents o field ns (records count dir tree))) m₀
  mark-end h i = marking-end p (contents o field ns (records count dir tree)) m₀ m k (omega (arith, formed-many v ns)) i
