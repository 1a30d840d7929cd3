-- Where the times of an area of interest start, in 01's words. Assumes nothing.
use Prim.Native.Nat.{ℕ, ◌+◌}
use mathlib.Core.Path.{◌≡◌, refl, sym, ap, subst, ◌∙◌}
use mathlib.Core.Logic.{◌⊎◌, inl, inr, ⊎_elim}
use mathlib.Core.List.{List, [], ◌∷◌, ◌++◌, reverse, reverse-append, append-nil, append_assoc}
use mathlib.Core.Bool.{Bool, true, false, not, ◌||◌}
use native.Mathlib.Omega.{arith}
use lib.ListN.{length, length-append}
use lib.Dec.{eqb, ltb}
use borrow.Author.Tests.{ltb-true, lt-ltb, eqb-false, ne_eqb}
use Rattle.laws.specs.Prefix.{same_number}
use Rattle.laws.specs.Sorted.{keep}
use Rattle.laws.proofs.Truth.{split, clash, and-true, not-true}
use Rattle.data_model.specs.declared.area_of_interest.AreaOfInterest.{AreaOfInterest}
use Rattle.tree.specs.Stored.{Stored}
use Rattle.tree.specs.Matching.{in_area}
use Rattle.tree.specs.Interest.{no_limit, breaks, add_size, interest_from}
use Rattle.query.specs.Interest.{interest_time, payload, Over, Breaks, Starts, broke, least, as_given}

-- The time of the last that is met.
unfoldable last-time : ℕ → List Stored → ℕ
last-time t [] = t
last-time t (x ∷ l) = last-time x.entry.rank.timestamp l

last-met : (t : ℕ) (l : List Stored) (x : Stored) → last-time t (l ++ x ∷ []) ≡ x.entry.rank.timestamp
unfolding last-time
last-met t [] x = refl
last-met t (y ∷ l) x = last-met y.entry.rank.timestamp l x

last-reverse : (t : ℕ) (x : Stored) (l : List Stored) → last-time t (reverse (x ∷ l)) ≡ x.entry.rank.timestamp
last-reverse t x l = ap (last-time t) (reverse-append (x ∷ []) l) ∙ last-met t (reverse l) x

-- A limit that is broken.
over-true : (limit n : ℕ) → breaks limit n ≡ true → Over limit n
unfolding breaks same_number
over-true limit n e =
    let k = and-true (not (eqb limit no_limit)) (ltb limit n) e in
    (eqb-false limit no_limit (not-true _ k.0), ltb-true limit n k.1)

over_false : (limit n : ℕ) → breaks limit n ≡ false → Over limit n → ⊥
unfolding breaks same_number
over_false limit n e o = clash (rw (ne_eqb limit no_limit o.0, lt-ltb limit n o.1)) e

payload-last : (l : List Stored) (x : Stored) → payload (l ++ x ∷ []) ≡ payload l + x.entry.rank.payload_length
unfolding payload
payload-last [] x = omega arith
payload-last (y ∷ l) x = let h = payload-last l x in omega arith

no_front : (p : List Stored) (x : Stored) (q : List Stored) → [] ≡ p ++ x ∷ q → ⊥
no_front [] x q e = let z : ◌≡◌ {A = ℕ} 0 1 = cc in omega arith
no_front (y ∷ p) x q e = let z : ◌≡◌ {A = ℕ} 0 1 = cc in omega arith

module _ (a : AreaOfInterest) where
  -- What the walk carries along: how many were met, and their payload where a sum is kept.
  record Carries (before : List Stored) (n size : ℕ) : Type 0 where
    number : n ≡ length before
    sum : (a.max_size ≡ no_limit → ⊥) → size ≡ payload before

  abbrev breaks-one : (n size : ℕ) → Stored → Bool
  breaks-one n size x = breaks a.max_count (n + 1) || breaks a.max_size (size + x.entry.rank.payload_length)

  one-breaks : (before : List Stored) (n size : ℕ) (x : Stored) → Carries before n size → breaks-one n size x ≡ true → Breaks a before x
  one-breaks before n size x c e = split (breaks a.max_count (n + 1))
      (λ q. let o = over-true a.max_count (n + 1) q in inl (o.0, (let h = c.number in let k = o.1 in omega arith)))
      (λ q. let o = over-true a.max_size (size + x.entry.rank.payload_length) (rw q at e) in inr (o.0, (let h = c.sum o.0 in let k = o.1 in omega arith)))

  none-breaks : (before : List Stored) (n size : ℕ) (x : Stored) → Carries before n size → breaks-one n size x ≡ false → Breaks a before x → ⊥
  none-breaks before n size x c e = split (breaks a.max_count (n + 1))
      (λ q. let z : true ≡ false = rw q at e in clash refl z)
      (λ q. ⊎_elim
      (λ o. over_false a.max_count (n + 1) q (o.0, (let h = c.number in let k = o.1 in omega arith)))
      (λ o. over_false a.max_size (size + x.entry.rank.payload_length) (rw q at e) (o.0, (let h = c.sum o.0 in let k = o.1 in omega arith))))

  carries-on : (before : List Stored) (n size : ℕ) (x : Stored) → Carries before n size
      → Carries (before ++ x ∷ []) (n + 1) (add_size a.max_size size x.entry.rank.payload_length)
  unfolding add_size same_number
  carries-on before n size x c = record {
    number = let h = c.number in simp length-append (omega arith);
    sum = λ k. let h = c.sum k in rw (ne_eqb a.max_size no_limit k, payload-last) (omega arith);
  }

  -- Of those that are met after others.
  abbrev NoneAfter : (before met : List Stored) → Type 0
  NoneAfter before met = (p : List Stored) (x : Stored) (q : List Stored) → met ≡ p ++ x ∷ q → Breaks a (before ++ p) x → ⊥

  none_more : (before : List Stored) (x : Stored) (l : List Stored) → (Breaks a before x → ⊥) → NoneAfter (before ++ x ∷ []) l → NoneAfter before (x ∷ l)
  none_more before x l kept rest [] y q e b =
      let h : y ≡ x = cc in
      kept (subst (Breaks a before) h (subst (λ k. Breaks a k y) (append-nil before) b))
  none_more before x l kept rest (z ∷ p) y q e b =
      let h : z ≡ x = cc in
      let g : l ≡ p ++ y ∷ q = cc in
      rest p y q g (subst (λ k. Breaks a k y) (ap (λ (z : Stored). before ++ z ∷ p) h ∙ sym (append_assoc before (x ∷ []) p)) b)

  record FirstAfter (before met : List Stored) (time : ℕ) : Type 0 where
    front : List Stored
    at : Stored
    behind : List Stored
    met_so : met ≡ front ++ at ∷ behind
    none_yet : NoneAfter before front
    breaks_now : Breaks a (before ++ front) at
    its_time : time ≡ at.entry.rank.timestamp

  walks : (before : List Stored) (n size t : ℕ) (l : List Stored) → Carries before n size
      → FirstAfter before l (interest_from a.max_count a.max_size n size t l)
      ⊎ (NoneAfter before l × (interest_from a.max_count a.max_size n size t l ≡ last-time t l))
  unfolding interest_from last-time
  walks before n size t [] c = inr ((λ p x q e. absurd (no_front p x q e)), refl)
  walks before n size t (x ∷ l) c =
      let i = walks (before ++ x ∷ []) (n + 1) (add_size a.max_size size x.entry.rank.payload_length) x.entry.rank.timestamp l (carries-on before n size x c) in
      split (breaks-one n size x)
      (λ q. rw q (inl (record {
        front = [];
        at = x;
        behind = l;
        met_so = refl;
        none_yet = λ p y r e. absurd (no_front p y r e);
        breaks_now = rw append-nil (one-breaks before n size x c q);
        its_time = refl;
      })))
      (λ q. rw q (⊎_elim
      (λ r. inl (record {
        front = x ∷ r.front;
        at = r.at;
        behind = r.behind;
        met_so = ap (x ∷◌) r.met_so;
        none_yet = none_more before x r.front (none-breaks before n size x c q) r.none_yet;
        breaks_now = subst (λ k. Breaks a k r.at) (append_assoc before (x ∷ []) r.front) r.breaks_now;
        its_time = r.its_time;
      }))
      (λ r. inr (none_more before x l (none-breaks before n size x c q) r.0, r.1))
      i))

  -- There is one first that breaks a limit.
  first-once : (before p p' : List Stored) (x x' : Stored) (q q' : List Stored) → p ++ x ∷ q ≡ p' ++ x' ∷ q' → NoneAfter before p → NoneAfter before p'
      → Breaks a (before ++ p) x → Breaks a (before ++ p') x' → x ≡ x'
  first-once before [] [] x x' q q' e n n' b b' = cc
  first-once before [] (z ∷ p') x x' q q' e n n' b b' =
      let h : x ≡ z = cc in
      absurd (n' [] z p' refl (subst (Breaks a (before ++ [])) h b))
  first-once before (z ∷ p) [] x x' q q' e n n' b b' =
      let h : x' ≡ z = cc in
      absurd (n [] z p refl (subst (Breaks a (before ++ [])) h b'))
  first-once before (z ∷ p) (z' ∷ p') x x' q q' e n n' b b' =
      let h : z' ≡ z = cc in
      let g : p ++ x ∷ q ≡ p' ++ x' ∷ q' = cc in
      first-once (before ++ z ∷ []) p p' x x' q q' g (behind z p n) (behind z p' (subst (λ (y : Stored). NoneAfter before (y ∷ p')) h n'))
      (subst (λ k. Breaks a k x) (sym (append_assoc before (z ∷ []) p)) b)
      (subst (λ k. Breaks a k x') (ap (λ (y : Stored). before ++ y ∷ p') h ∙ sym (append_assoc before (z ∷ []) p')) b')
    where
      behind : (z : Stored) (p : List Stored) → NoneAfter before (z ∷ p) → NoneAfter (before ++ z ∷ []) p
      behind z p n k y r e b = n (z ∷ k) y r (ap (z ∷◌) e) (subst (λ l. Breaks a l y) (append_assoc before (z ∷ []) k) b)

  -- Where the times start.
  said : (matches : List Stored) → Starts a matches (interest_from a.max_count a.max_size 0 0 a.area.times.start (reverse matches))
  unfolding interest_from
  said [] = as_given refl refl
  said (x ∷ l) = ⊎_elim
      (λ r. broke r.front r.at r.behind r.met_so r.none_yet r.breaks_now r.its_time)
      (λ r. least x l refl r.0 (r.1 ∙ last-reverse a.area.times.start x l))
      (walks [] 0 0 a.area.times.start (reverse (x ∷ l)) (record { number = refl; sum = λ k. unfold payload in refl }))

  -- There is one such time.
  pub starts-once : (matches : List Stored) (t u : ℕ) → Starts a matches t → Starts a matches u → t ≡ u
  starts-once matches t u (broke p x q m n b e) (broke p' x' q' m' n' b' e') =
      e ∙ ap (λ (y : Stored). y.entry.rank.timestamp) (first-once [] p p' x x' q q' (sym m ∙ m') n n' b b') ∙ sym e'
  starts-once matches t u (broke p x q m n b e) (least x' q' m' n' e') = absurd (n' p x q m b)
  starts-once matches t u (broke p x q m n b e) (as_given m' e') = absurd (no_front p x q (sym (ap reverse m') ∙ m))
  starts-once matches t u (least x q m n e) (broke p' x' q' m' n' b' e') = absurd (n p' x' q' m' b')
  starts-once matches t u (least x q m n e) (least x' q' m' n' e') =
      let h : x ≡ x' = cc in
      e ∙ ap (λ (y : Stored). y.entry.rank.timestamp) h ∙ sym e'
  starts-once matches t u (least x q m n e) (as_given m' e') = absurd (no_front [] x q (sym m' ∙ m))
  starts-once matches t u (as_given m e) (broke p' x' q' m' n' b' e') = absurd (no_front p' x' q' (sym (ap reverse m) ∙ m'))
  starts-once matches t u (as_given m e) (least x' q' m' n' e') = absurd (no_front [] x' q' (sym m ∙ m'))
  starts-once matches t u (as_given m e) (as_given m' e') = e ∙ sym e'

-- That of the first entry met that broke a limit, else of the least match, else as given.
pub interest-said : (a : AreaOfInterest) (tsp : List Stored) → Starts a (keep (in_area a.area) tsp) (interest_time a tsp)
interest-said a tsp = said a (keep (in_area a.area) tsp)
