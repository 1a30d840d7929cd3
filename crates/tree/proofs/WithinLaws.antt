-- Whether a record of a key and a value is there is whether what they say is among what the tree says; and what the one tree says is
-- asked of the other, a record at a time. Assumes nothing.
use Prim.Native.Nat.{ℕ, zero, suc, ◌+◌, ◌*◌, ◌<◌, ◌≤◌}
use mathlib.Core.Path.{◌≡◌, refl, sym, ap, ap₂, subst, ◌∙◌}
use mathlib.Core.Logic.{⊎_elim}
use mathlib.Core.List.Memᴰ.{cases_cons as uncons}
use mathlib.Core.List.Memᴰ.{head as here}
use mathlib.Core.List.Memᴰ.{not-nil as none_in}
use mathlib.Core.List.Memᴰ.{tail as there}
use mathlib.Core.List.{List, [], ◌∷◌}
use mathlib.Core.Bool.{Bool, true, false, ◌&&◌, ◌||◌}
use native.Mathlib.Omega.{arith}
use native.Mathlib.Numerals.{add-one}
use lib.ListN.{length, take, drop, get_or, drop_of_length-le}
use lib.Seq.{take-append_seam}
use Rattle.laws.specs.Lists.{put}
use Rattle.laws.specs.Prefix.{same_number, same_list}
use Rattle.laws.specs.Sorted.{◌∈◌, any, all}
use Rattle.laws.proofs.Truth.{and-true, alike}
use Rattle.laws.proofs.Sorted.{all-view}
use Rattle.layout.specs.Layout.{records, record_at}
use Rattle.layout.proofs.LaidLaws.{records-get}
use Rattle.data_model.specs.Path.{Figures, field}
use Rattle.data_model.specs.Entry.{entry_of, rank_of}
use Rattle.data_model.proofs.Orders.{component-equality}
use Rattle.key_laws.specs.Bytes.{Bytes}
use Rattle.key_laws.proofs.Fits.{bytes_take, bytes_drop}
use Rattle.tree.specs.Value.{value_bytes}
use Rattle.tree.specs.Stored.{key_in, key_of, value_part, is_record, Stored, stored, contents, triple_of, value_for, record_of, Lawful, stored_of, same_stored}
use Rattle.tree.specs.Tree.{Formed, has_record, within}
use Rattle.tree.specs.declared.stored.KeyOrder.{KeyOrder}
use Rattle.tree.specs.declared.stored.LengthyAuthorisedEntry.{LengthyAuthorisedEntry}
use Rattle.tree.proofs.FormedLaws.{formed-count, formed-all}
use Rattle.tree.proofs.RecordLaws.{key-of-record, value-of-record, stored-parts, record-forth, stored-equality, contents-length, contents-at}
use Rattle.tree.proofs.RecordParts.{key_for}

-- The records of bytes are of bytes.
pub records-bytes : (n : ℕ) (dir tree : List ℕ) → Bytes tree → (r : List ℕ) → r ∈ records n dir tree → Bytes r
records-bytes zero dir tree b r m = absurd (none_in m)
records-bytes (suc n) [] tree b r m = absurd (none_in m)
records-bytes (suc n) (o ∷ []) tree b r m = absurd (none_in m)
records-bytes (suc n) (o ∷ l ∷ dir) tree b r m = ⊎_elim
    (λ e. subst (λ (x : List ℕ). Bytes x) (sym e) (bytes_take l (drop o tree) (bytes_drop o tree b)))
    (λ k. records-bytes n dir tree b r k)
    (uncons m)

pub at-bytes : (k : ℕ) (dir tree : List ℕ) → Bytes tree → Bytes (record_at k dir tree)
at-bytes k dir tree b = bytes_take (get_or dir (2 * k + 1) 0) (drop (get_or dir (2 * k) 0) tree) (bytes_drop (get_or dir (2 * k) 0) tree b)

-- Records of bytes, each a key and a value, as those of a tree that was tested are.
abbrev pub Recorded : KeyOrder → Figures → List (List ℕ) → Type 0
Recorded o f recs = (r : List ℕ) → r ∈ recs → Bytes r × (is_record o f r ≡ true)

pub formed-recorded : {o : KeyOrder} {count : ℕ} {dir tree : List ℕ} → Formed o count dir tree → Bytes tree → Recorded o field (records count dir tree)
formed-recorded {o} {count} {dir} {tree} v b r m = (records-bytes count dir tree b r m, all-view (is_record o field) (records count dir tree) (formed-all v) m)

-- A record has the key and the value of what is stored exactly if it says that.
module _ (o : KeyOrder) (f : Figures) (ns : List ℕ) (x : Stored) (h : Lawful f x) (named : x.entry.namespace ≡ ns) where
  module _ (r : List ℕ) (b : Bytes r) (is : is_record o f r ≡ true) where
    says_same : same_list same_number (key_of r) (key_in o (triple_of x.entry)) && same_list same_number (value_part r) (value_bytes (value_for x)) ≡ true → same_stored x (stored o f ns r) ≡ true
    unfolding stored
    says_same e =
        let k = and-true (same_list same_number (key_of r) (key_in o (triple_of x.entry))) (same_list same_number (value_part r) (value_bytes (value_for x))) e in
        let s : stored o f ns r ≡ x
        = stored-parts f x h o ns (key_of r) (value_part r) named
        (component-equality.equal (key_of r) (key_in o (triple_of x.entry)) k.0)
        (component-equality.equal (value_part r) (value_bytes (value_for x)) k.1) in
        ap (same_stored x) s ∙ stored-equality.self x

    same-says : same_stored x (stored o f ns r) ≡ true → same_list same_number (key_of r) (key_in o (triple_of x.entry)) && same_list same_number (value_part r) (value_bytes (value_for x)) ≡ true
    same-says e =
        let key = key_in o (triple_of x.entry) in
        let value = value_bytes (value_for x) in
        let g : r ≡ record_of o x = sym (record-forth o f ns r b is).again ∙ ap (record_of o) (sym (stored-equality.equal x (stored o f ns r) e)) in
        let p : key_of r ≡ key = ap key_of g ∙ key-of-record f x h o in
        let q : value_part r ≡ value = ap value_part g ∙ value-of-record f x h o in
        ap₂ ◌&&◌
        (ap (λ (k : List ℕ). same_list same_number k key) p ∙ component-equality.self key)
        (ap (λ (v : List ℕ). same_list same_number v value) q ∙ component-equality.self value)

  pub has-stored : (recs : List (List ℕ)) → Recorded o f recs → has_record (key_in o (triple_of x.entry)) (value_bytes (value_for x)) recs ≡ any (same_stored x) (contents o f ns recs)
  unfolding has_record any
  has-stored [] each = refl
  has-stored (r ∷ rs) each = ap₂ ◌||◌
      (let k = each r (here refl) in alike _ _ (says_same r k.0 k.1) (same-says r k.0 k.1))
      (has-stored rs λ q m. each q (there m))

-- What was written at the front of a buffer stands there.
pub written-front : (k buf old : List ℕ) (n : ℕ) → n ≡ length k → buf ≡ put k old → take n buf ≡ k
unfolding put
written-front k buf old n en eb = ap₂ take en eb ∙ take-append_seam k (drop (length k) old)

-- The question as it is put: by the key that is written for what a record of the one tree says, and by its value.
pub stands : (o q : KeyOrder) (ns r : List ℕ) (recs : List (List ℕ)) (a : LengthyAuthorisedEntry) (old buf value : List ℕ) (n : ℕ) (b : Bool) → Bytes r → is_record o field r ≡ true → Recorded q field recs
    → stored_of a ≡ stored o field ns r → n ≡ length (key_for q a) → buf ≡ put (key_for q a) old → value ≡ value_part r → b ≡ has_record (take n buf) value recs
    → b ≡ any (same_stored (stored o field ns r)) (contents q field ns recs)
unfolding stored_of entry_of rank_of triple_of
stands o q ns r recs a old buf value n b bytes is each s en eb ev e =
    let x = stored o field ns r in
    let w = record-forth o field ns r bytes is in
    let k : take n buf ≡ key_in q (triple_of x.entry)
    = written-front (key_for q a) buf old n en eb ∙ ap (λ (y : Stored). key_in q (triple_of y.entry)) s in
    let v : value ≡ value_bytes (value_for x) = ev ∙ ap value_part (sym w.again) ∙ value-of-record field x w.lawful o in
    e ∙ ap₂ (λ (k v : List ℕ). has_record k v recs) k v ∙ has-stored q field ns x w.lawful w.named recs each

-- The walk: what is left to ask.
module _ {o : KeyOrder} {count : ℕ} {dir tree : List ℕ} (v : Formed o count dir tree) (ns : List ℕ) (m : List Stored) (k : ℕ)
    (inv : within (contents o field ns (records count dir tree)) m ≡ within (drop k (contents o field ns (records count dir tree))) m) where
  module _ (h : k < count) (b : Bool) (e : b ≡ any (same_stored (stored o field ns (record_at k dir tree))) m) where
    within-next : within (contents o field ns (records count dir tree)) m ≡ b && within (drop (suc k) (contents o field ns (records count dir tree))) m
    unfolding within all
    within-next =
        let recs = records count dir tree in
        let at : get_or recs k [] ≡ record_at k dir tree = records-get count k dir tree v.few h in
        inv
        ∙ ap (λ (l : List Stored). within l m) (contents-at o field ns k recs (omega (arith, formed-count v)))
        ∙ ap (λ (b : Bool). b && within (drop (suc k) (contents o field ns recs)) m) (ap (λ (r : List ℕ). any (same_stored (stored o field ns r)) m) at ∙ sym e)

    pub within-turn : b ≡ true → within (contents o field ns (records count dir tree)) m ≡ within (drop (k + 1) (contents o field ns (records count dir tree))) m
    within-turn t = rw add-one (within-next ∙ ap (λ (b : Bool). b && within (drop (suc k) (contents o field ns (records count dir tree))) m) t)

    pub within-stop : b ≡ false → false ≡ within (contents o field ns (records count dir tree)) m
    within-stop t = sym (within-next ∙ ap (λ (b : Bool). b && within (drop (suc k) (contents o field ns (records count dir tree))) m) t)

  pub within_end : count ≤ k → true ≡ within (contents o field ns (records count dir tree)) m
  unfolding within all
  within_end h =
      let c = contents o field ns (records count dir tree) in
      let z : drop k c ≡ [] = drop_of_length-le c {i = k} (omega (arith, contents-length o field ns (records count dir tree), formed-count v)) in
      sym (inv ∙ ap (λ (l : List Stored). within l m) z)
