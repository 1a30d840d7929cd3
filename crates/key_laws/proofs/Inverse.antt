-- Decoding undoes encoding, and what decodes is the key that an encoder writes for what it decodes to.
-- Assumes nothing.
use Prim.Native.Nat.{ℕ, zero, suc, ◌+◌, ◌-◌, ◌≤◌, min}
use mathlib.Core.Path.{◌≡◌, refl, sym, ap, subst, ◌∙◌}
use mathlib.Core.List.{List, [], ◌∷◌, ◌++◌, append_assoc, append-nil}
use mathlib.Core.Bool.{Bool, true, false, cond}
use native.Mathlib.Omega.{arith}
use native.Mathlib.Numerals.{one-add}
use lib.Dec.{leb}
use borrow.Author.Tests.{le-leb, leb-true}
use lib.ListN.{length, take, drop, length-append, length-drop, take-append-drop}
use lib.Seq.{take_all, drop_at, take-add, drop-append_seam, drop-drop}
use Rattle.laws.specs.Sorted.{all}
use Rattle.laws.proofs.Truth.{clash, and-true}
use Rattle.data_model.specs.Path.{Figures, Component, Components, is_path}
use Rattle.keys.specs.Encode.{escaped, component_key, path_key, path_end, be, subspace_key, Triple, spt_key, tsp_key}
use Rattle.keys.specs.Decode.{Taken, refused, took, more, bind, token_of, mark, ends_path, by_token, read_component, read_components, read_path, number, subspace_at, read_spt, read_tsp}
use Rattle.key_laws.specs.KeyOrder.{Sized}
use Rattle.keys.proofs.Encoding.{be-length, subspace-length}
use Rattle.key_laws.specs.Bytes.{Bytes}
use Rattle.key_laws.proofs.Fits.{is_byte, bytes-all, bytes_take, bytes_drop, fitting, path-fits, fits-path}
use Rattle.key_laws.proofs.BigEndian.{number-back, subspace-back, number-forth, number-sized, subspace-forth}
use Rattle.keys.proofs.Reading.{step_component, component-step}
use Rattle.keys.proofs.Walking.{path-ends, path-goes}
use Rattle.keys.proofs.Decoding.{whole-took, whole_is}

-- A component and a path that are written are read back.
component-back : (lim : ℕ) (c r : List ℕ) → length c ≤ lim → read_component lim (component_key c ++ r) ≡ took c (length (component_key c))
unfolding by_token read_component token_of mark component_key escaped more
component-back lim [] r h = component-step lim (0 ∷ 1 ∷ r)
component-back zero (b ∷ c) r h = absurd (omega arith)
component-back (suc lim) (zero ∷ c) r h =
    ap (more (0 ∷◌) 2) (component-back lim c r (omega arith)) ∙ ap (took (0 ∷ c)) (omega arith)
component-back (suc lim) (suc b ∷ c) r h =
    ap (more (suc b ∷◌) 1) (component-back lim c r (omega arith)) ∙ ap (took (suc b ∷ c)) (omega arith)

component-goes : (c r : List ℕ) → ends_path (token_of (component_key c ++ r)) ≡ false
unfolding component_key escaped token_of mark ends_path
component-goes [] r = refl
component-goes (zero ∷ c) r = refl
component-goes (suc b ∷ c) r = refl

components-back : (mcl room n : ℕ) (cs : Components) (r : List ℕ) → fitting mcl room n cs ≡ true → read_components mcl room n (path_key cs ++ r) ≡ took cs (length (path_key cs))
unfolding path_key fitting token_of mark ends_path more
components-back mcl room n [] r h = path-ends mcl room n (0 ∷ 0 ∷ r) refl
components-back mcl room zero (c ∷ cs) r h = clash h refl
components-back mcl room (suc n) (c ∷ cs) r h =
    let g = and-true (leb (length c) (min mcl room)) (fitting mcl (room - length c) n cs) h in
    let u = length (component_key c) in
    let x = path_key cs ++ r in
    ap (read_components mcl room (suc n)) (append_assoc (component_key c) (path_key cs) r)
    ∙ path-goes mcl room n (component_key c ++ x) c u (component-goes c x) (component-back (min mcl room) c x (leb-true (length c) (min mcl room) g.0))
    ∙ ap (λ (k : List ℕ). more (c ∷◌) u (read_components mcl (room - length c) n k)) (drop-append_seam (component_key c) x)
    ∙ ap (more (c ∷◌) u) (components-back mcl (room - length c) n cs r g.1)
    ∙ ap (took (c ∷ cs)) (sym (length-append (component_key c) (path_key cs)))

pub path-back : (f : Figures) (cs : Components) (r : List ℕ) → is_path f cs ≡ true → read_path f (path_key cs ++ r) ≡ took cs (length (path_key cs))
unfolding read_path
path-back f cs r h = components-back f.mcl f.mpl f.mcc cs r (path-fits f cs h)

module _ (f : Figures) (t : Triple) (legal : is_path f t.path ≡ true) (sized : Sized t) where
  pub spt-back : read_spt f (spt_key t) ≡ took t (length (spt_key t))
  unfolding read_spt spt_key
  spt-back =
      let s = subspace_key t.subspace in
      let x = path_key t.path ++ be 8 t.timestamp in
      let k = s ++ x in
      let u = length (path_key t.path) in
      let e : read_path f (drop 16 k) ≡ took t.path u
      = ap (read_path f) (drop_at s x 16 (subspace-length t.subspace))
      ∙ path-back f t.path (be 8 t.timestamp) legal in
      let n : 16 + u + 8 ≡ length k = simp (length-append, subspace-length, be-length) (omega arith) in
      let d : drop (16 + u) k ≡ be 8 t.timestamp
      = sym (drop-drop u 16 k) ∙ ap (drop u) (drop_at s x 16 (subspace-length t.subspace)) ∙ drop-append_seam (path_key t.path) (be 8 t.timestamp) in
      let m : number (drop (16 + u) k) ≡ t.timestamp
      = ap number (d ∙ sym (append-nil (be 8 t.timestamp))) ∙ number-back t.timestamp [] sized.time in
      let v : subspace_at k ≡ t.subspace = subspace-back t.subspace x sized.high sized.low in
      whole-took 16 8 (length k) (λ cs u. record { subspace = subspace_at k; path = cs; timestamp = number (drop (16 + u) k) })
      (read_path f (drop 16 k)) t.path u e n
      ∙ rw (v, m)

  pub tsp-back : read_tsp f (tsp_key t) ≡ took t (length (tsp_key t))
  unfolding read_tsp tsp_key
  tsp-back =
      let s = subspace_key t.subspace in
      let p = path_key t.path in
      let x = s ++ p in
      let k = be 8 t.timestamp ++ x in
      let u = length p in
      let d : drop 8 k ≡ x = drop_at (be 8 t.timestamp) x 8 (be-length 8 t.timestamp) in
      let e : read_path f (drop 24 k) ≡ took t.path u
      = ap (read_path f) (sym (drop-drop 16 8 k) ∙ ap (drop 16) d ∙ drop_at s p 16 (subspace-length t.subspace) ∙ sym (append-nil p))
      ∙ path-back f t.path [] legal in
      let n : 24 + u + 0 ≡ length k = simp (length-append, subspace-length, be-length) (omega arith) in
      let m : number k ≡ t.timestamp = number-back t.timestamp x sized.time in
      let v : subspace_at (drop 8 k) ≡ t.subspace = ap subspace_at d ∙ subspace-back t.subspace p sized.high sized.low in
      whole-took 24 0 (length k) (λ cs u. record { subspace = subspace_at (drop 8 k); path = cs; timestamp = number k })
      (read_path f (drop 24 k)) t.path u e n
      ∙ rw (v, m)

-- What a component is read from are the bytes that are written for it.
abbrev ComponentIs : ℕ → List ℕ → Taken Component → Type 0
ComponentIs lim k refused = Unit
ComponentIs lim k (took c u) = (take u k ≡ component_key c) × (length c ≤ lim) × (u ≤ length k)

component-byte : (lim b : ℕ) (k : List ℕ) (t : Taken Component) → ComponentIs lim k t → ComponentIs (suc lim) (suc b ∷ k) (more (suc b ∷◌) 1 t)
unfolding more component_key escaped
component-byte lim b k refused h = tt
component-byte lim b k (took c u) h = (rw one-add (ap (suc b ∷◌) h.0), omega arith, omega arith)

component-zero : (lim : ℕ) (k : List ℕ) (t : Taken Component) → ComponentIs lim k t → ComponentIs (suc lim) (0 ∷ 2 ∷ k) (more (0 ∷◌) 2 t)
unfolding more component_key escaped
component-zero lim k refused h = tt
component-zero lim k (took c u) h =
    let e : 2 + u ≡ suc (suc u) = omega arith in
    (rw e (ap (λ (x : List ℕ). 0 ∷ 2 ∷ x) h.0), omega arith, omega arith)

step_is : (lim : ℕ) (k : List ℕ) → ComponentIs lim k (step_component lim k (token_of k))
unfolding token_of mark escaped component_key
step_is lim [] = tt
step_is zero (suc b ∷ k) = tt
step_is (suc lim) (suc b ∷ k) = component-byte lim b k (read_component lim k) (subst (ComponentIs lim k) (sym (component-step lim k)) (step_is lim k))
step_is lim (zero ∷ []) = tt
step_is lim (zero ∷ zero ∷ k) = tt
step_is lim (zero ∷ suc zero ∷ k) = (refl, omega arith, omega arith)
step_is zero (zero ∷ suc (suc zero) ∷ k) = tt
step_is (suc lim) (zero ∷ suc (suc zero) ∷ k) = component-zero lim k (read_component lim k) (subst (ComponentIs lim k) (sym (component-step lim k)) (step_is lim k))
step_is lim (zero ∷ suc (suc (suc m)) ∷ k) = tt

component-is : (lim : ℕ) (k : List ℕ) → ComponentIs lim k (read_component lim k)
component-is lim k = subst (ComponentIs lim k) (sym (component-step lim k)) (step_is lim k)

-- And so a path.
abbrev PathIs : ℕ → ℕ → ℕ → List ℕ → Taken Components → Type 0
PathIs mcl room n k refused = Unit
PathIs mcl room n k (took cs u) = (take u k ≡ path_key cs) × (fitting mcl room n cs ≡ true) × (u ≤ length k)

ends-zeros : (k : List ℕ) → ends_path (token_of k) ≡ true → (take 2 k ≡ path_end) × (2 ≤ length k)
unfolding token_of mark ends_path
ends-zeros [] e = clash e refl
ends-zeros (suc b ∷ k) e = clash e refl
ends-zeros (zero ∷ []) e = clash e refl
ends-zeros (zero ∷ zero ∷ k) e = (refl, omega arith)
ends-zeros (zero ∷ suc zero ∷ k) e = clash e refl
ends-zeros (zero ∷ suc (suc zero) ∷ k) e = clash e refl
ends-zeros (zero ∷ suc (suc (suc m)) ∷ k) e = clash e refl

path-is-end : (mcl room n : ℕ) (k : List ℕ) (b : Bool) (t : Taken Components) → ends_path (token_of k) ≡ b → PathIs mcl room n k t → PathIs mcl room n k (cond b (took [] 2) t)
unfolding path_key fitting
path-is-end mcl room n k true t e h = ((ends-zeros k e).0, refl, (ends-zeros k e).1)
path-is-end mcl room n k false t e h = h

path-is-more : (mcl room n u : ℕ) (k c : List ℕ) (t : Taken Components) → ComponentIs (min mcl room) k (took c u) → PathIs mcl (room - length c) n (drop u k) t
    → PathIs mcl room (suc n) k (more (c ∷◌) u t)
unfolding more path_key fitting
path-is-more mcl room n u k c refused h g = tt
path-is-more mcl room n u k c (took cs v) h g = (
  take-add u v k ∙ ap (◌++ take v (drop u k)) h.0 ∙ ap (component_key c ++◌) g.0,
  rw (le-leb (length c) (min mcl room) h.1) g.1,
  omega (arith, length-drop u k),
)

path-is-next : (mcl room n : ℕ) (k : List ℕ) (t : Taken Component) → ComponentIs (min mcl room) k t
    → ((room : ℕ) (k : List ℕ) → PathIs mcl room n k (read_components mcl room n k))
    → PathIs mcl room (suc n) k (bind t (λ c u. more (c ∷◌) u (read_components mcl (room - length c) n (drop u k))))
unfolding bind
path-is-next mcl room n k refused h ih = tt
path-is-next mcl room n k (took c u) h ih = path-is-more mcl room n u k c (read_components mcl (room - length c) n (drop u k)) h (ih (room - length c) (drop u k))

path_is : (mcl n room : ℕ) (k : List ℕ) → PathIs mcl room n k (read_components mcl room n k)
unfolding read_components
path_is mcl zero room k = path-is-end mcl room 0 k (ends_path (token_of k)) refused refl tt
path_is mcl (suc n) room k =
    path-is-end mcl room (suc n) k (ends_path (token_of k)) _ refl
    (path-is-next mcl room n k (read_component (min mcl room) k) (component-is (min mcl room) k) (λ r l. path_is mcl n r l))

-- Components whose key is of bytes are of bytes.
all_append : (x y : List ℕ) → all is_byte (x ++ y) ≡ true → (all is_byte x ≡ true) × (all is_byte y ≡ true)
unfolding all
all_append [] y e = (refl, e)
all_append (b ∷ x) y e =
    let k = and-true (is_byte b) (all is_byte (x ++ y)) e in
    let r = all_append x y k.1 in
    (rw k.0 r.0, r.1)

component_bytes : (c : List ℕ) → all is_byte (component_key c) ≡ true → all is_byte c ≡ true
unfolding all component_key escaped
component_bytes [] e = refl
component_bytes (zero ∷ c) e = component_bytes c e
component_bytes (suc b ∷ c) e = let k = and-true (is_byte (suc b)) (all is_byte (component_key c)) e in rw k.0 (component_bytes c k.1)

-- Of a key that is bytes the components are.
pub path_bytes : (cs : Components) → all is_byte (path_key cs) ≡ true → all (all is_byte) cs ≡ true
unfolding all path_key
path_bytes [] e = refl
path_bytes (c ∷ cs) e = let k = all_append (component_key c) (path_key cs) e in rw (component_bytes c k.0) (path_bytes cs k.1)

pub path-forth : (f : Figures) (k : List ℕ) → Bytes k → (cs : Components) (u : ℕ) → read_path f k ≡ took cs u
    → (take u k ≡ path_key cs) × (is_path f cs ≡ true) × (u ≤ length k)
unfolding read_path
path-forth f k bytes cs u e =
    let p = subst (PathIs f.mcl f.mpl f.mcc k) e (path_is f.mcl f.mcc f.mpl k) in
    (p.0, fits-path f cs p.1 (path_bytes cs (ap (all is_byte) (sym p.0) ∙ bytes-all (take u k) (bytes_take u k bytes))), p.2)

-- What decodes is a key that the encoder writes for what it decodes to.
module _ (f : Figures) (k : List ℕ) (bytes : Bytes k) (t : Triple) (n : ℕ) where
  pub spt-forth : read_spt f k ≡ took t n → (spt_key t ≡ k) × (is_path f t.path ≡ true) × Sized t
  unfolding read_spt spt_key subspace_at
  spt-forth e =
      let w = whole_is 16 8 (length k) (λ cs u. record { subspace = subspace_at k; path = cs; timestamp = number (drop (16 + u) k) })
      (read_path f (drop 16 k)) t n e in
      let p = path-forth f (drop 16 k) (bytes_drop 16 k bytes) w.cs w.u w.is in
      let d : drop (16 + w.u) k ≡ drop w.u (drop 16 k) = sym (drop-drop w.u 16 k) in
      let l : length (drop (16 + w.u) k) ≡ 8 = simp length-drop (omega (arith, w.all)) in
      let b : Bytes (drop (16 + w.u) k) = bytes_drop (16 + w.u) k bytes in
      let v : be 8 (number (drop (16 + w.u) k)) ≡ drop w.u (drop 16 k)
      = number-forth (drop (16 + w.u) k) b (omega arith) ∙ take_all 8 (drop (16 + w.u) k) (omega arith) ∙ d in (
        rw (w.value, subspace-forth k bytes (omega (arith, w.all)), v, ← p.0, take-append-drop w.u (drop 16 k)) (take-append-drop 16 k),
        rw w.value p.1,
        record {
          high = rw w.value (number-sized k bytes (omega (arith, w.all)));
          low = rw w.value (number-sized (drop 8 k) (bytes_drop 8 k bytes) (simp length-drop (omega (arith, w.all))));
          time = rw w.value (number-sized (drop (16 + w.u) k) b (omega arith));
        },
      )

  pub tsp-forth : read_tsp f k ≡ took t n → (tsp_key t ≡ k) × (is_path f t.path ≡ true) × Sized t
  unfolding read_tsp tsp_key subspace_at
  tsp-forth e =
      let w = whole_is 24 0 (length k) (λ cs u. record { subspace = subspace_at (drop 8 k); path = cs; timestamp = number k })
      (read_path f (drop 24 k)) t n e in
      let p = path-forth f (drop 24 k) (bytes_drop 24 k bytes) w.cs w.u w.is in
      let d : drop 24 k ≡ drop 16 (drop 8 k) = sym (drop-drop 16 8 k) in
      let b : Bytes (drop 8 k) = bytes_drop 8 k bytes in
      let v : path_key w.cs ≡ drop 16 (drop 8 k)
      = sym p.0 ∙ take_all w.u (drop 24 k) (simp length-drop (omega (arith, w.all))) ∙ d in (
        rw (
          w.value,
          number-forth k bytes (omega (arith, w.all)),
          subspace-forth (drop 8 k) b (simp length-drop (omega (arith, w.all))),
          v,
          take-append-drop 16 (drop 8 k),
        )
            (take-append-drop 8 k),
        rw w.value p.1,
        record {
          high = rw w.value (number-sized (drop 8 k) b (simp length-drop (omega (arith, w.all))));
          low = rw w.value (number-sized (drop 8 (drop 8 k)) (bytes_drop 8 (drop 8 k) b) (simp (length-drop, length-drop) (omega (arith, w.all))));
          time = rw w.value (number-sized k bytes (omega (arith, w.all)));
        },
      )
