-- What a listing shows that is walked to its end while the store may change between its steps. Nothing is asked of how one store came from the one before.
-- Assumes nothing.
use Prim.Native.Nat.{ℕ}
use mathlib.Core.Path.{◌≡◌, refl, sym, ap, ap₂, subst, ◌∙◌}
use mathlib.Core.Logic.{⊎_elim}
use mathlib.Core.List.Memᴰ.{append_cases as unappend}
use mathlib.Core.List.Memᴰ.{append_right as in_right}
use mathlib.Core.List.Memᴰ.{cases_cons as uncons}
use mathlib.Core.List.Memᴰ.{head as here}
use mathlib.Core.List.Memᴰ.{not-nil as none_in}
use mathlib.Core.List.Memᴰ.{tail as there}
use mathlib.Core.List.{List, [], ◌∷◌, ◌++◌}
use mathlib.Core.Bool.{Bool, true, false, ◌&&◌}
use mathlib.Core.Option.{some, none}
use Rattle.laws.specs.Order.{is_less, below}
use Rattle.laws.specs.Sorted.{◌∈◌, Ascends}
use Rattle.laws.proofs.Truth.{split, clash, and-true}
use Rattle.laws.proofs.Order.{below_total}
use Rattle.data_model.specs.Said.{says}
use Rattle.data_model.specs.Path.{field, legal, by_bytes}
use Rattle.data_model.specs.Range.{legal_range}
use Rattle.data_model.specs.Entry.{Entry}
use Rattle.data_model.specs.declared.area.Area.{Area}
use Rattle.data_model.specs.declared.range_3d.Range3d.{Range3d}
use Rattle.data_model.specs.declared.query_ignore_params.QueryIgnoreParams.{QueryIgnoreParams}
use Rattle.data_model.proofs.Orders.{bytes-linear}
use Rattle.key_laws.specs.Bytes.{Bytes}
use Rattle.tree.specs.Stored.{Stored, stored, key_of, key_below}
use Rattle.tree.specs.Tree.{keys_below}
use Rattle.tree.specs.Matching.{listed_in_area, listed_in_range}
use Rattle.tree.specs.declared.stored.KeyOrder.TheVariants.{Spt}
use Rattle.tree.proofs.RecordLaws.{key-of-record, record-forth, contents-in, contents-view}
use Rattle.tree.proofs.SearchLaws.{key-place}
use Rattle.tree.proofs.WithinLaws.{formed-recorded}
use Rattle.store.specs.Store.{Store, tree_of, held}
use Rattle.store.proofs.CheckLaws.{Passed}
use Rattle.query.specs.Reading.{list_refusal}
use Rattle.query.specs.Listing.{spt_records, key_above, listed, area_listed, range_listed}
use Rattle.query.specs.Walk.{Steps, Turn, Stepped, remembered, Walked, shown, entry_key, StoredIn, MatchesIn, ShownOnce, ListingGives, ListingShows, OfBytes}
use Rattle.query.proofs.StartLaws.{start-above}
use Rattle.query.proofs.StepLaws.{key-weak, above-next, above-below, ascends-around}
use Rattle.query.proofs.GivenLaws.{answered}

-- Each record has the key of the entry that it says: so where the tree's bytes are bytes.
abbrev pub Keyed : Store → Type 0
Keyed s = (r : List ℕ) → r ∈ spt_records field s → key_of r ≡ entry_key (stored Spt field s.state.namespace_id r).entry

pub keyed : (s : Store) → Passed s → Bytes (tree_of field Spt s) → Keyed s
keyed s p b r m =
    let k = formed-recorded (p.formed Spt) b r m in
    let v = record-forth Spt field s.state.namespace_id r k.0 k.1 in
    ap key_of (sym v.again) ∙ key-of-record field (stored Spt field s.state.namespace_id r) v.lawful Spt

same-not-below : (x y : List ℕ) → key_of x ≡ key_of y → key_below x y ≡ false
unfolding below
same-not-below x y k = ap (λ z. is_less (by_bytes z (key_of y))) k ∙ key-weak.irrefl y

-- Records of one store and one key are one.
same-record : (s : Store) → Passed s → (a b : List ℕ) → a ∈ spt_records field s → b ∈ spt_records field s → key_of a ≡ key_of b → a ≡ b
same-record s p a b m n e =
    let at = keys_below (key_of b) (spt_records field s) in
    sym (key-place (key_of b) (spt_records field s) (p.ordered Spt).ascends at refl m e).1 ∙ (key-place (key_of b) (spt_records field s) (p.ordered Spt).ascends at refl n refl).1

-- A member, with what stands before and behind it.
around : {A : Type 0} {x : A} (l : List A) → x ∈ l → (before : List A) × (after : List A) × (l ≡ before ++ x ∷ after)
around [] m = absurd (none_in m)
around {A} {x} (a ∷ l) m = ⊎_elim
    (λ e. ([], l, ap (◌∷ l) (sym e)))
    (λ n. let k = around l n in (a ∷ k.0, k.1, ap (a ∷◌) k.2))
    (uncons m)

module _ (b : Bool) (test : Stored → Bool) where
  abbrev steps : Steps
  steps s last = listed field s (list_refusal field s b last) test last

  -- What a step that gave a record says.
  pub record Gave (s : Store) (last r : List ℕ) : Type 0 where
    pub passed : Passed s
    pub stands : r ∈ spt_records field s
    pub above : key_above last r ≡ true
    pub matches : test (stored Spt field s.state.namespace_id r) ≡ true
    pub least : (q : List ℕ) → q ∈ spt_records field s → key_above last q ≡ true → test (stored Spt field s.state.namespace_id q) ≡ true → key_below q r ≡ false

  gave : (s : Store) (last r : List ℕ) → steps s last ≡ says (some r) → Gave s last r
  gave s last r e =
      let k = answered s b test last (some r) e in
      let h = and-true (key_above last r) (test (stored Spt field s.state.namespace_id r)) k.2.holds in
      record { passed = k.0; stands = k.2.among; above = h.0; matches = h.1; least = λ q m x y. k.2.none_below q m (ap₂ ◌&&◌ x y) }

  -- Each turn, from some key.
  turn : (last : List ℕ) (turns : List Turn) → Stepped steps last turns → (t : Turn) → t ∈ turns → (from : List ℕ) × Gave t.store from t.given
  turn last [] w t m = absurd (none_in m)
  turn last (u ∷ turns) w t m = ⊎_elim
      (λ e. (last, subst (λ (x : Turn). Gave x.store last x.given) (sym e) (gave u.store last u.given w.0)))
      (λ n. turn (key_of u.given) turns w.1 t n)
      (uncons m)

  -- Whatever is given is above the key that was remembered.
  given_above : (last : List ℕ) (turns : List Turn) → Stepped steps last turns → (t : Turn) → t ∈ turns → key_above last t.given ≡ true
  given_above last [] w t m = absurd (none_in m)
  given_above last (u ∷ turns) w t m =
      let g = (gave u.store last u.given w.0).above in
      ⊎_elim
      (λ e. subst (λ (x : Turn). key_above last x.given ≡ true) (sym e) g)
      (λ n. above-next last u.given t.given g (above-below u.given t.given (given_above (key_of u.given) turns w.1 t n)))
      (uncons m)

  rest-stepped : (last : List ℕ) (before after : List Turn) → Stepped steps last (before ++ after) → Stepped steps (remembered last before) after
  rest-stepped last [] after w = w
  rest-stepped last (u ∷ before) after w = rest-stepped (key_of u.given) before after w.1

  rest-remembered : (last : List ℕ) (before after : List Turn) → remembered last (before ++ after) ≡ remembered (remembered last before) after
  rest-remembered last [] after = refl
  rest-remembered last (u ∷ before) after = rest-remembered (key_of u.given) before after

  abbrev lower : Turn → Turn → Bool
  lower t u = key_below t.given u.given

  given-ascends : (last : List ℕ) (turns : List Turn) → Stepped steps last turns → Ascends lower turns
  unfolding Ascends
  given-ascends last [] w = tt
  given-ascends last (u ∷ turns) w = (λ t m. above-below u.given t.given (given_above (key_of u.given) turns w.1 t m), given-ascends (key_of u.given) turns w.1)

  -- A record of this key matches.
  abbrev HasKey : List ℕ → Store → Type 0
  HasKey κ s = (r : List ℕ) × r ∈ spt_records field s × (key_of r ≡ κ) × (test (stored Spt field s.state.namespace_id r) ≡ true)

  -- What matches at every step, above what is remembered, is given.
  all-the-while : (last : List ℕ) (turns : List Turn) (end : Store) → Stepped steps last turns → steps end (remembered last turns) ≡ says none → (κ : List ℕ) → is_less (by_bytes last κ) ≡ true
      → ((t : Turn) → t ∈ turns → HasKey κ t.store) → HasKey κ end → (t : Turn) × t ∈ turns × (key_of t.given ≡ κ)
  all-the-while last [] end w f κ a s e =
      let k = answered end b test last none f in
      let p : key_above last e.0 ≡ true = ap (λ x. is_less (by_bytes last x)) e.2 ∙ a in
      clash (ap₂ ◌&&◌ p e.3) (k.2 e.0 e.1)
  all-the-while last (u ∷ turns) end w f κ a s e =
      let y = s u (here refl) in
      let p : key_above last y.0 ≡ true = ap (λ x. is_less (by_bytes last x)) y.2 ∙ a in
      let g = gave u.store last u.given w.0 in
      let n : is_less (by_bytes κ (key_of u.given)) ≡ false = ap (λ x. is_less (by_bytes x (key_of u.given))) (sym y.2) ∙ not_lower y.0 u.given (g.least y.0 y.1 p y.3) in
      split (is_less (by_bytes (key_of u.given) κ))
      (λ c. let r = all-the-while (key_of u.given) turns end w.1 f κ c (λ t m. s t (there m)) e in (r.0, there r.1, r.2))
      (λ c. (u, here refl, total (key_of u.given) κ c n))
    where
      not_lower : (q r : List ℕ) → key_below q r ≡ false → is_less (by_bytes (key_of q) (key_of r)) ≡ false
      not_lower q r x = unfold below in x

      total : (x y : List ℕ) → is_less (by_bytes x y) ≡ false → is_less (by_bytes y x) ≡ false → x ≡ y
      total x y p q = unfold below in below_total by_bytes bytes-linear x y p q

  -- The steps from the empty key.
  module _ (turns : List Turn) (w : Stepped steps [] turns) (own : (t : Turn) → t ∈ turns → Keyed t.store) where
    own_key : (t : Turn) → t ∈ turns → key_of t.given ≡ entry_key (shown field t).entry
    own_key t m = own t m t.given (turn [] turns w t m).1.stands

    is-stored : (t : Turn) → t ∈ turns → (x : Entry) → (shown field t).entry ≡ x → StoredIn field x t.store
    unfolding held
    is-stored t m x e = (shown field t, contents-in Spt field t.store.state.namespace_id (spt_records field t.store) (turn [] turns w t m).1.stands, e)

    onwards : (before after : List Turn) → turns ≡ before ++ after → (t : Turn) → t ∈ after → key_above (remembered [] before) t.given ≡ true
    onwards before after e t m = given_above (remembered [] before) after (rest-stepped [] before after (subst (Stepped steps []) e w)) t m

    once : (before : List Turn) (t : Turn) (after : List Turn) → turns ≡ before ++ t ∷ after → (u : Turn) → u ∈ before ++ after → key_of u.given ≡ key_of t.given → ⊥
    once before t after e u m q =
        let a = ascends-around lower before t after (subst (Ascends lower) e (given-ascends [] turns w)) in
        ⊎_elim (λ n. clash (a.0 u n) (same-not-below u.given t.given q)) (λ n. clash (a.1 u n) (same-not-below t.given u.given (sym q))) (unappend before m)

    behind : (x : Entry) (before after : List Turn) → turns ≡ before ++ after → ((t : Turn) → t ∈ before → StoredIn field x t.store → ⊥)
        → is_less (by_bytes (remembered [] before) (entry_key x)) ≡ false → (t : Turn) → t ∈ turns → (shown field t).entry ≡ x → ⊥
    behind x before after e none_before low t m q = ⊎_elim
        (λ n. none_before t n (is-stored t m x q))
        (λ n. clash (onwards before after e t n) (ap (λ k. is_less (by_bytes (remembered [] before) k)) (own_key t m ∙ ap entry_key q) ∙ low))
        (unappend before (subst (t ∈◌) e m))

    gone : (x : Entry) (before after : List Turn) → turns ≡ before ++ after → ((t : Turn) → t ∈ before → (shown field t).entry ≡ x → ⊥)
        → ((t : Turn) → t ∈ after → StoredIn field x t.store → ⊥) → (t : Turn) → t ∈ turns → (shown field t).entry ≡ x → ⊥
    gone x before after e unshown absent t m q = ⊎_elim (λ n. unshown t n q) (λ n. absent t n (is-stored t m x q)) (unappend before (subst (t ∈◌) e m))

    pub gives : ListingGives field test turns
    gives = record {
      stands = λ t m. let v = (turn [] turns w t m).1 in (v.stands, v.matches);
      own_key = own_key;
      onwards = onwards;
      ascends = given-ascends [] turns w;
      behind = behind;
      gone = gone;
      once = once;
    }

    has_key : (s : Store) → Keyed s → (x : Entry) → MatchesIn field test x s → HasKey (entry_key x) s
    unfolding held
    has_key s own x h =
        let k = contents-view Spt field s.state.namespace_id (spt_records field s) h.1 in
        (k.0, k.1, own k.0 k.1 ∙ ap entry_key (ap (λ (y : Stored). y.entry) (sym k.2) ∙ h.2), ap test (sym k.2) ∙ h.3)

    -- The record of its key is its own.
    says-it : (s : Store) → Passed s → Keyed s → (x : Entry) → MatchesIn field test x s → (r : List ℕ) → r ∈ spt_records field s → key_of r ≡ entry_key x → (stored Spt field s.state.namespace_id r).entry ≡ x
    unfolding held
    says-it s p own x h r m q =
        let k = contents-view Spt field s.state.namespace_id (spt_records field s) h.1 in
        let e : key_of k.0 ≡ entry_key x = own k.0 k.1 ∙ ap entry_key (ap (λ (y : Stored). y.entry) (sym k.2) ∙ h.2) in
        ap (λ (y : List ℕ). (stored Spt field s.state.namespace_id y).entry) (same-record s p r k.0 m k.1 (q ∙ sym e)) ∙ ap (λ (y : Stored). y.entry) (sym k.2) ∙ h.2

    -- To the end.
    module _ (end : Store) (f : steps end (remembered [] turns) ≡ says none) (own-end : Keyed end) where
      ahead : (x : Entry) (before after : List Turn) → turns ≡ before ++ after → is_less (by_bytes (remembered [] before) (entry_key x)) ≡ true
          → ((t : Turn) → t ∈ after → MatchesIn field test x t.store) → MatchesIn field test x end → ShownOnce field x turns
      ahead x before after e up h z =
          let inside : (t : Turn) → t ∈ after → t ∈ turns = λ t m. subst (t ∈◌) (sym e) (in_right before m) in
          let last : steps end (remembered (remembered [] before) after) ≡ says none = ap (steps end) (sym (rest-remembered [] before after) ∙ ap (remembered []) (sym e)) ∙ f in
          let g = all-the-while (remembered [] before) after end (rest-stepped [] before after (subst (Stepped steps []) e w)) last (entry_key x) up
          (λ t m. has_key t.store (own t (inside t m)) x (h t m)) (has_key end own-end x z) in
          let m = inside g.0 g.1 in
          let k = around turns m in
          let v = (turn [] turns w g.0 m).1 in (
            k.0,
            g.0,
            k.1,
            k.2,
            says-it g.0.store v.passed (own g.0 m) x (h g.0 g.1) g.0.given v.stands g.2,
            λ u n q. once k.0 g.0 k.1 k.2 u n (q ∙ sym g.2),
          )

      shown_once : (x : Entry) → ((t : Turn) → t ∈ turns → MatchesIn field test x t.store) → MatchesIn field test x end → ShownOnce field x turns
      shown_once x h z =
          let p = (answered end b test (remembered [] turns) none f).0 in
          let r = has_key end own-end x z in
          let start : is_less (by_bytes [] (entry_key x)) ≡ true = ap (λ k. is_less (by_bytes [] k)) (sym r.2) ∙ start-above end p r.0 r.1 in
          ahead x [] turns refl start h z

      pub shows : ListingShows field test turns end
      shows = record { gives = gives; shown_once = shown_once; ahead = ahead }

-- Of areas and of 3d ranges.
module _ (b : Bool) (test : Stored → Bool) (turns : List Turn) (end : Store) (w : Walked (steps b test) [] turns end) where
  walk-passed : (t : Turn) → t ∈ turns → Passed t.store
  walk-passed t m = (turn b test [] turns w.0 t m).1.passed

  end-passed : Passed end
  end-passed = (answered end b test (remembered [] turns) none w.1).0

  bytes-shows : OfBytes field turns end → ListingShows field test turns end
  bytes-shows o = shows b test turns w.0 (λ t m. keyed t.store (walk-passed t m) (o.0 t m)) end w.1 (keyed end end-passed o.1)

pub area-shows : (area : Area) (ignore : QueryIgnoreParams) (turns : List Turn) (end : Store) → Walked (λ s last. area_listed field s area ignore last) [] turns end → OfBytes field turns end
    → ListingShows field (listed_in_area area ignore) turns end
area-shows area ignore turns end w o = bytes-shows (legal field area.path) (listed_in_area area ignore) turns end w o

pub range-shows : (range : Range3d) (ignore : QueryIgnoreParams) (turns : List Turn) (end : Store) → Walked (λ s last. range_listed field s range ignore last) [] turns end → OfBytes field turns end
    → ListingShows field (listed_in_range range ignore) turns end
range-shows range ignore turns end w o = bytes-shows (legal_range field range.paths) (listed_in_range range ignore) turns end w o
