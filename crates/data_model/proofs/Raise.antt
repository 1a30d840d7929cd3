-- Laws for the code that finds the least path above: path values by their front, and the search from the last component and byte. Assumes nothing.
use Prim.Native.Nat.{ℕ, zero, suc, ◌+◌, ◌-◌, ◌≤◌, ◌<◌, min}
use mathlib.Core.Path.{◌≡◌, refl, sym, ap, ◌∙◌}
use mathlib.Core.List.{List, [], ◌∷◌, ◌++◌, append_assoc, append-nil}
use mathlib.Core.Option.{Option, some, none, map}
use mathlib.Core.Bool.{true, false, ◌&&◌}
use native.Mathlib.Omega.{arith}
use native.Mathlib.Nat.{sub-zero}
use native.Mathlib.Numerals.{add-one}
use lib.Dec.{leb, ltb}
use borrow.Author.Tests.{lt-ltb, le-ltb, leb-true, ltb-true}
use lib.ListN.{length, take, drop, get_or, set, replicate, length-replicate, length-append, length-take, drop_of_length-le}
use lib.Seq.{drop-cons, take-suc, length-take-le, take-take, take-add, get_or-take, get_or-drop}
use Rattle.laws.specs.Lists.{piece}
use Rattle.laws.proofs.Lists.{put-zeros, put-snoc}
use Rattle.laws.proofs.Truth.{and-true}
use Rattle.data_model.specs.Path.{Figures, field, capacity, Component, Components, cut, components, joined, ends_from, legal_ends, legal, path_of, value_of, last_end}
use Rattle.data_model.specs.Above.{or_else, raised_byte, raised_bytes, raised, above_in, above, raised_at, above_found}
use Rattle.data_model.specs.declared.path.Path.{Path}
use Rattle.std.specs.Prelude.{Some, None}
use Rattle.data_model.proofs.Values.{last_within, ends-top, ends-fewer, legal-these, legal-within, cut-take, joined-more, ends_more, length-piece, cut-length}

-- The last of the first ends.
pub last_none : (from : ℕ) (es : List ℕ) → last_end from (take 0 es) ≡ from
unfolding last_end
last_none from es = refl

pub last_some : (from i : ℕ) (es : List ℕ) → i < length es → last_end from (take (i + 1) es) ≡ get_or es i 0
unfolding last_end
last_some from i [] h = absurd (omega arith)
last_some from zero (e ∷ es) h = refl
last_some from (suc i) (e ∷ es) h = let k : suc i + 1 ≡ suc (i + 1) = omega arith in rw k (last_some e i es (omega arith))

-- Legal ends cut the bytes up to the last of them, and the pieces end there.
pub cut-joins : (bytes : List ℕ) (mcl from : ℕ) (es : List ℕ) → legal_ends mcl (length bytes) from es ≡ true → take from bytes ++ joined (cut bytes from es) ≡ take (last_end from es) bytes
unfolding legal_ends cut joined last_end
cut-joins bytes mcl from [] h = append-nil (take from bytes)
cut-joins bytes mcl from (e ∷ es) h =
    let a = and-true (leb from e) (leb (e - from) mcl && legal_ends mcl (length bytes) e es) h in
    let b = and-true (leb (e - from) mcl) (legal_ends mcl (length bytes) e es) a.1 in
    let up : from ≤ e = leb-true from e a.0 in
    let s : from + (e - from) ≡ e = omega arith in
    sym (append_assoc (take from bytes) (piece from e bytes) (joined (cut bytes e es)))
    ∙ ap (◌++ joined (cut bytes e es)) (sym (take-add from (e - from) bytes) ∙ ap (λ (n : ℕ). take n bytes) s)
    ∙ cut-joins bytes mcl e es b.1

pub cut-ends : (bytes : List ℕ) (mcl from : ℕ) (es : List ℕ) → legal_ends mcl (length bytes) from es ≡ true → ends_from from (cut bytes from es) ≡ es
unfolding legal_ends cut ends_from
cut-ends bytes mcl from [] h = refl
cut-ends bytes mcl from (e ∷ es) h =
    let a = and-true (leb from e) (leb (e - from) mcl && legal_ends mcl (length bytes) e es) h in
    let b = and-true (leb (e - from) mcl) (legal_ends mcl (length bytes) e es) a.1 in
    let up : from ≤ e = leb-true from e a.0 in
    let n : from + length (piece from e bytes) ≡ e = omega (arith, length-piece from e bytes (ends-top mcl (length bytes) e es b.1)) in
    rw n (ap (e ∷◌) (cut-ends bytes mcl e es b.1))

-- The value of components whose bytes and ends are known.
pub front-value : (cs : Components) (bytes ends : List ℕ) (n : ℕ) → joined cs ≡ bytes → ends_from 0 cs ≡ ends → length cs ≡ n → value_of bytes ends n ≡ path_of cs
unfolding path_of
front-value cs bytes ends n b e l = rw (b, e, l)

-- One more behind, where zeros were.
zeros-more : (xs : List ℕ) (m n v : ℕ) → n ≡ length xs → n < m → set (xs ++ replicate (m - length xs) 0) n v ≡ (xs ++ v ∷ []) ++ replicate (m - length (xs ++ v ∷ [])) 0
zeros-more xs m n v e h =
    ap (λ (l : List ℕ). set l n v) (sym (put-zeros xs m))
    ∙ put-snoc xs (replicate m 0) n v e (rw length-replicate h)
    ∙ put-zeros (xs ++ v ∷ []) m

pub front-more : (r : Path) (xs es : List ℕ) (n e v w : ℕ) → r ≡ value_of xs es n → e ≡ length xs → n ≡ length es → e < capacity.mpl → n < capacity.mcc
    → ◌≡◌ {A = Path} (record { bytes = set r.bytes e v; ends = set r.ends n w; count = n + 1 }) (value_of (xs ++ v ∷ []) (es ++ w ∷ []) (n + 1))
unfolding value_of
front-more r xs es n e v w q a b g h =
    let x : set r.bytes e v ≡ _ = ap (λ (p : Path). set p.bytes e v) q ∙ zeros-more xs capacity.mpl e v a g in
    let y : set r.ends n w ≡ _ = ap (λ (p : Path). set p.ends n w) q ∙ zeros-more es capacity.mcc n w b h in
    rw (x, y)

-- The first i components of a path that is cut by legal ends.
module _ (bytes : List ℕ) (mcl : ℕ) (es : List ℕ) (h : legal_ends mcl (length bytes) 0 es ≡ true) (i : ℕ) where
  few-legal : legal_ends mcl (length bytes) 0 (take i es) ≡ true
  few-legal = ends-fewer mcl (length bytes) 0 i es h

  pub few-joined : joined (take i (cut bytes 0 es)) ≡ take (last_end 0 (take i es)) bytes
  few-joined = ap joined (cut-take i bytes 0 es) ∙ cut-joins bytes mcl 0 (take i es) few-legal

  pub few_ends : ends_from 0 (take i (cut bytes 0 es)) ≡ take i es
  few_ends = ap (ends_from 0) (cut-take i bytes 0 es) ∙ cut-ends bytes mcl 0 (take i es) few-legal

  pub few-total : length (joined (take i (cut bytes 0 es))) ≡ last_end 0 (take i es)
  few-total = ap length few-joined ∙ length-take-le (last_end 0 (take i es)) bytes (last_within mcl (length bytes) 0 (take i es) few-legal).1

-- The i-th component of a path that is cut by legal ends.
pub cut-nth : (bytes : List ℕ) (from i : ℕ) (es : List ℕ) → i < length es → get_or (cut bytes from es) i [] ≡ piece (last_end from (take i es)) (get_or es i 0) bytes
unfolding cut last_end
cut-nth bytes from i [] h = absurd (omega arith)
cut-nth bytes from zero (e ∷ es) h = refl
cut-nth bytes from (suc i) (e ∷ es) h = cut-nth bytes e i es (omega arith)

pub canonical-value : (p : Path) → field.mpl ≤ length p.bytes → p.count ≤ length p.ends → legal field p ≡ true
    → value_of (take (last_end 0 (take p.count p.ends)) p.bytes) (take p.count p.ends) p.count ≡ path_of (components p)
unfolding components
canonical-value p b n h =
    let es = take p.count p.ends in
    let l = legal-within field p h (omega arith) b in
    front-value (cut p.bytes 0 es) _ _ _ (cut-joins p.bytes (length p.bytes) 0 es l) (cut-ends p.bytes (length p.bytes) 0 es l)
    (cut-length p.bytes 0 es ∙ length-take-le p.count p.ends n)

-- The last byte that can be raised: those behind it can't.
raised-skip : (j : ℕ) (c d : Component) → raised_bytes (drop j c) ≡ some d → raised_bytes c ≡ some (take j c ++ d)
unfolding raised_bytes or_else
raised-skip zero c d h = h
raised-skip (suc j) [] d h = h
raised-skip (suc j) (b ∷ c) d h = ap (λ (o : Option Component). or_else (map (b ∷◌) o) (raised_byte b)) (raised-skip j c d h)

module _ (c : Component) (j : ℕ) (l : j < length c) (h : raised_bytes (drop (j + 1) c) ≡ none) where
  step : raised_bytes (drop j c) ≡ raised_byte (get_or c j 0)
  unfolding raised_bytes or_else
  step = rw (drop-cons c j 0 l) (ap (λ (o : Option Component). or_else (map (get_or c j 0 ∷◌) o) (raised_byte (get_or c j 0))) (ap (λ (n : ℕ). raised_bytes (drop n c)) (sym (add-one j)) ∙ h))

  pub raised-here : get_or c j 0 < 255 → raised_bytes c ≡ some (take j c ++ (get_or c j 0 + 1) ∷ [])
  unfolding raised_byte
  raised-here k = raised-skip j c ((get_or c j 0 + 1) ∷ []) (step ∙ rw (lt-ltb (get_or c j 0) 255 k))

  pub raised-next : 255 ≤ get_or c j 0 → raised_bytes (drop j c) ≡ none
  unfolding raised_byte
  raised-next k = step ∙ rw (le-ltb (get_or c j 0) 255 k)

pub raised-none : (c : Component) (j : ℕ) → length c ≤ j → raised_bytes (drop j c) ≡ none
unfolding raised_bytes
raised-none c j h = rw (drop_of_length-le c h)

-- The last component that can be replaced.
above-skip : (mcl room i : ℕ) (cs ds : Components) → above_in mcl (room - length (joined (take i cs))) (drop i cs) ≡ some ds → above_in mcl room cs ≡ some (take i cs ++ ds)
unfolding above_in joined or_else
above-skip mcl room zero cs ds h = rw sub-zero at h
above-skip mcl room (suc i) [] ds h = h
above-skip mcl room (suc i) (c ∷ cs) ds h =
    let e : room - length (c ++ joined (take i cs)) ≡ room - length c - length (joined (take i cs)) = simp length-append (omega arith) in
    ap (λ (o : Option Components). or_else (map (c ∷◌) o) (map (◌∷ []) (raised (min mcl room) c))) (above-skip mcl (room - length c) i cs ds (rw e at h))

-- What is left to be searched: the components from i on.
abbrev pub above_from : Figures → Components → ℕ → Option Components
above_from f cs i = above_in f.mcl (f.mpl - length (joined (take i cs))) (drop i cs)

module _ (f : Figures) (cs : Components) (i : ℕ) (l : i < length cs) (h : above_from f cs (i + 1) ≡ none) where
  here : above_from f cs i ≡ map (◌∷ []) (raised (min f.mcl (f.mpl - length (joined (take i cs)))) (get_or cs i []))
  unfolding above_in or_else
  here =
      let c = get_or cs i [] in
      let room = f.mpl - length (joined (take i cs)) in
      let t : take (i + 1) cs ≡ take i cs ++ c ∷ [] = ap (λ (n : ℕ). take n cs) (add-one i) ∙ take-suc cs i [] l in
      let e : f.mpl - length (joined (take (i + 1) cs)) ≡ room - length c
      = ap (λ (x : Components). f.mpl - length (joined x)) t ∙ rw (joined-more (take i cs) c, length-append) (omega arith) in
      let g : above_in f.mcl (room - length c) (drop (suc i) cs) ≡ none
      = ap (λ (n : ℕ). above_in f.mcl n (drop (suc i) cs)) (sym e) ∙ ap (λ (n : ℕ). above_in f.mcl (f.mpl - length (joined (take (i + 1) cs))) (drop n cs)) (sym (add-one i)) ∙ h in
      rw (drop-cons cs i [] l) (ap (λ (o : Option Components). or_else (map (c ∷◌) o) (map (◌∷ []) (raised (min f.mcl room) c))) g)

  pub above-here : (q : Components) → raised_at f cs i ≡ some q → above f cs ≡ some q
  unfolding above raised_at
  above-here q e = go (raised (min f.mcl (f.mpl - length (joined (take i cs)))) (get_or cs i [])) refl
    where
      go : (o : Option Component) → raised (min f.mcl (f.mpl - length (joined (take i cs)))) (get_or cs i []) ≡ o → above_in f.mcl f.mpl cs ≡ some q
      go none r = absurd (let z : ◌≡◌ {A = ℕ} 0 1 = let w : ◌≡◌ {A = Option Components} none (some q) = sym (ap (map (λ d. take i cs ++ d ∷ [])) r) ∙ e in cc in omega arith)
      go (some d) r =
          above-skip f.mcl f.mpl i cs (d ∷ []) (here ∙ ap (map (◌∷ [])) r)
          ∙ sym (ap (map (λ d. take i cs ++ d ∷ [])) r)
          ∙ e

  pub above-next : raised_at f cs i ≡ none → above_from f cs i ≡ none
  unfolding raised_at
  above-next e = here ∙ go (raised (min f.mcl (f.mpl - length (joined (take i cs)))) (get_or cs i [])) refl
    where
      go : (o : Option Component) → raised (min f.mcl (f.mpl - length (joined (take i cs)))) (get_or cs i []) ≡ o → map {B = Components} (◌∷ []) (raised (min f.mcl (f.mpl - length (joined (take i cs)))) (get_or cs i [])) ≡ none
      go none r = ap (map (◌∷ [])) r
      go (some d) r = absurd (let z : ◌≡◌ {A = ℕ} 0 1 = let w : ◌≡◌ {A = Option Components} (some (take i cs ++ d ∷ [])) none = sym (ap (map (λ d. take i cs ++ d ∷ [])) r) ∙ e in cc in omega arith)

pub above-begins : (f : Figures) (cs : Components) (i : ℕ) → length cs ≤ i → above_from f cs i ≡ none
unfolding above_in
above-begins f cs i h = rw (drop_of_length-le cs h)

pub above-ends : (f : Figures) (cs : Components) → above_from f cs 0 ≡ none → above f cs ≡ none
unfolding above joined
above-ends f cs h = rw sub-zero at h

-- What an answer says of the search that it answers.
pub found_some : (o : Option Components) (p : Path) → Some p ≡ above_found o → (q : Components) × (o ≡ some q)
unfolding above_found
found_some none p e = absurd (let z : ◌≡◌ {A = ℕ} 0 1 = cc in omega arith)
found_some (some q) p e = (q, refl)

pub found_none : (o : Option Components) → None ≡ above_found o → o ≡ none
unfolding above_found
found_none none e = refl
found_none (some q) e = absurd (let z : ◌≡◌ {A = ℕ} 0 1 = cc in omega arith)

-- The i-th of legal ends and where its component begins.
ends_at : (mcl mpl from i : ℕ) (es : List ℕ) → i < length es → legal_ends mcl mpl from es ≡ true
    → (last_end from (take i es) ≤ get_or es i 0) × (get_or es i 0 - last_end from (take i es) ≤ mcl) × (get_or es i 0 ≤ mpl)
unfolding legal_ends last_end
ends_at mcl mpl from i [] l h = absurd (omega arith)
ends_at mcl mpl from zero (e ∷ es) l h =
    let a = and-true (leb from e) (leb (e - from) mcl && legal_ends mcl mpl e es) h in
    let b = and-true (leb (e - from) mcl) (legal_ends mcl mpl e es) a.1 in
    (leb-true from e a.0, leb-true (e - from) mcl b.0, ends-top mcl mpl e es b.1)
ends_at mcl mpl from (suc i) (e ∷ es) l h =
    let a = and-true (leb from e) (leb (e - from) mcl && legal_ends mcl mpl e es) h in
    let b = and-true (leb (e - from) mcl) (legal_ends mcl mpl e es) a.1 in
    ends_at mcl mpl e i es (omega arith) b.1

pub grow-room : (s t m n : ℕ) → s ≤ t → ltb (t - s) (min m (n - s)) ≡ true → t < n
grow-room s t m n l h = omega (arith, ltb-true (t - s) (min m (n - s)) h)

pub piece-at : (s t j : ℕ) (l : List ℕ) → j < length (piece s t l) → get_or (piece s t l) j 0 ≡ get_or l (s + j) 0
piece-at s t j l h = get_or-take (t - s) (drop s l) j 0 (omega (arith, length-take (t - s) (drop s l))) ∙ get_or-drop s l j 0

-- A legal path, and its i-th component, which is the piece from one place to another.
module _ (p : Path) (b : field.mpl ≤ length p.bytes) (n : p.count ≤ length p.ends) (h : legal field p ≡ true) (i : ℕ) (k : i < p.count)
    (from : ℕ) (begins : from ≡ last_end 0 (take i p.ends)) where
  abbrev to : ℕ
  to = get_or p.ends i 0

  within : legal_ends (length p.bytes) (length p.bytes) 0 (take p.count p.ends) ≡ true
  within = legal-within field p h (omega arith) b

  first_ends : take i (take p.count p.ends) ≡ take i p.ends
  first_ends = take-take i p.count p.ends (omega arith)

  this-end : get_or (take p.count p.ends) i 0 ≡ get_or p.ends i 0
  this-end = get_or-take p.count p.ends i 0 k

  few : i < length (take p.count p.ends)
  few = omega (arith, length-take-le p.count p.ends n)

  -- Its bounds.
  pub nth-bounds : (from ≤ to) × (to - from ≤ field.mcl) × (to ≤ field.mpl)
  nth-bounds = rw (first_ends, this-end, ← begins) at (ends_at field.mcl field.mpl 0 i (take p.count p.ends) few (legal-these field p h))

  nth-long : length (piece from to p.bytes) ≡ to - from
  nth-long = length-piece from to p.bytes (omega (arith, nth-bounds.2))

  nth-is : get_or (components p) i [] ≡ piece from to p.bytes
  unfolding components
  nth-is = cut-nth p.bytes 0 i (take p.count p.ends) few ∙ rw (first_ends, this-end, ← begins)

  first-total : length (joined (take i (components p))) ≡ from
  unfolding components
  first-total = few-total p.bytes (length p.bytes) (take p.count p.ends) within i ∙ ap (last_end 0) first_ends ∙ sym begins

  -- The component can be replaced as its own bytes can.
  raised_is : raised_at field (components p) i ≡ map (λ d. take i (components p) ++ d ∷ []) (raised (min field.mcl (field.mpl - from)) (piece from to p.bytes))
  unfolding raised_at
  raised_is = rw (first-total, nth-is)

  -- The value with the component replaced by d, whose bytes are the path's up to m and one more.
  raised-value : (d : Component) (m v : ℕ) → take from p.bytes ++ d ≡ take m p.bytes ++ v ∷ [] → from + length d ≡ m + 1
      → value_of (take m p.bytes ++ v ∷ []) (take i p.ends ++ (m + 1) ∷ []) (i + 1) ≡ path_of (take i (components p) ++ d ∷ [])
  unfolding components
  raised-value d m v e l =
      let cs = components p in
      front-value (take i cs ++ d ∷ []) _ _ _
      (joined-more (take i cs) d
      ∙ ap (◌++ d) (few-joined p.bytes (length p.bytes) (take p.count p.ends) within i ∙ ap (λ (x : List ℕ). take (last_end 0 x) p.bytes) first_ends ∙ ap (λ (x : ℕ). take x p.bytes) (sym begins))
      ∙ e)
      (ends_more 0 (take i cs) d
      ∙ ap (λ (x : List ℕ). x ++ (0 + length (joined (take i cs)) + length d) ∷ []) (few_ends p.bytes (length p.bytes) (take p.count p.ends) within i ∙ first_ends)
      ∙ ap (λ (x : ℕ). take i p.ends ++ x ∷ []) (omega (arith, first-total)))
      (length-append (take i cs) (d ∷ [])
      ∙ ap (◌+ 1) (length-take-le i cs (omega (arith, cut-length p.bytes 0 (take p.count p.ends), few))))

  -- The three ways out.
  pub grown : ltb (to - from) (min field.mcl (field.mpl - from)) ≡ true
      → Some (value_of (take to p.bytes ++ 0 ∷ []) (take i p.ends ++ (to + 1) ∷ []) (i + 1)) ≡ above_found (raised_at field (components p) i)
  unfolding above_found raised
  grown g =
      let c = piece from to p.bytes in
      let q : raised (min field.mcl (field.mpl - from)) c ≡ some (c ++ 0 ∷ []) = rw (nth-long, g) in
      let s : from + (to - from) ≡ to = omega (arith, nth-bounds.0) in
      let t : take from p.bytes ++ (c ++ 0 ∷ []) ≡ take to p.bytes ++ 0 ∷ []
      = sym (append_assoc (take from p.bytes) c (0 ∷ [])) ∙ ap (◌++ 0 ∷ []) (sym (take-add from (to - from) p.bytes) ∙ ap (λ (x : ℕ). take x p.bytes) s) in
      let v = raised-value (c ++ 0 ∷ []) to 0 t (rw length-append (omega (arith, nth-long, s))) in
      rw (raised_is, q, v)

  pub lifted : (j : ℕ) → ltb (to - from) (min field.mcl (field.mpl - from)) ≡ false → j < length (piece from to p.bytes)
      → raised_bytes (piece from to p.bytes) ≡ some (take j (piece from to p.bytes) ++ (get_or p.bytes (from + j) 0 + 1) ∷ [])
      → Some (value_of (take (from + j) p.bytes ++ (get_or p.bytes (from + j) 0 + 1) ∷ []) (take i p.ends ++ (from + j + 1) ∷ []) (i + 1))
      ≡ above_found (raised_at field (components p) i)
  unfolding above_found raised
  lifted j g l r =
      let c = piece from to p.bytes in
      let w = get_or p.bytes (from + j) 0 + 1 in
      let q : raised (min field.mcl (field.mpl - from)) c ≡ some (take j c ++ w ∷ []) = rw (nth-long, g) r in
      let u : take j c ≡ take j (drop from p.bytes) = take-take j (to - from) (drop from p.bytes) (omega (arith, nth-long)) in
      let t : take from p.bytes ++ (take j c ++ w ∷ []) ≡ take (from + j) p.bytes ++ w ∷ []
      = sym (append_assoc (take from p.bytes) (take j c) (w ∷ [])) ∙ ap (◌++ w ∷ []) (ap (take from p.bytes ++◌) u ∙ sym (take-add from j p.bytes)) in
      let v = raised-value (take j c ++ w ∷ []) (from + j) w t (rw length-append (omega (arith, length-take-le j c (omega arith)))) in
      rw (raised_is, q, v)

  pub stuck : ltb (to - from) (min field.mcl (field.mpl - from)) ≡ false → raised_bytes (piece from to p.bytes) ≡ none → raised_at field (components p) i ≡ none
  unfolding raised
  stuck g r =
      let q : raised (min field.mcl (field.mpl - from)) (piece from to p.bytes) ≡ none = rw (nth-long, g) r in
      rw (raised_is, q)
