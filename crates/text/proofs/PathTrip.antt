-- A path that is written is read back. Assumes nothing.
use Prim.Native.Nat.{ℕ, ◌/◌, ◌%◌, ◌≤◌}
use mathlib.Core.Path.{◌≡◌, refl, sym, ap, ◌∙◌}
use mathlib.Core.List.{List, [], ◌∷◌, ◌++◌, append-nil, map}
use mathlib.Core.Bool.{Bool, true, false, not, ◌&&◌}
use native.Mathlib.Omega.{arith}
use lib.Dec.{eqb, ltb, leb}
use borrow.Author.Tests.{eq-eqb, ne_eqb, eqb-true}
use lib.ListN.{length, get_or}
use Rattle.laws.specs.Sorted.{all}
use Rattle.laws.proofs.Truth.{split, clash, refute, and-true, not-true}
use Rattle.data_model.specs.Path.{field, Component, Components, is_component, is_path, joined, path_of}
use Rattle.key_laws.proofs.Fits.{is_byte, fitting, path-fits}
use Rattle.text.specs.Hex.{hex_of, hex_digit, hex_text}
use Rattle.text.specs.Fields.{fields, on_first}
use Rattle.text.specs.PathField.{dash, dot, slash, is_only, is_component_field, fields_fit, path_field}
use Rattle.text.specs.PathText.{component_text, behind_text, path_text}
use Rattle.std.specs.Prelude.{Ok}
use Rattle.text.proofs.HexLaws.{text-length}
use Rattle.text.proofs.FormLaws.{only-not, component-dot, component-hex, path_empty, path-good}
use Rattle.text.proofs.RoundTrip.{hex-back}

-- A field in which the byte that parts fields does not stand.
abbrev pub other : ℕ → ℕ → Bool
other sep b = not (eqb b sep)

module _ (sep : ℕ) where
  pub fields-alone : (f : List ℕ) → all (other sep) f ≡ true → fields sep f ≡ f ∷ []
  unfolding all fields
  fields-alone [] h = refl
  fields-alone (b ∷ f) h =
      let k = and-true (other sep b) (all (other sep) f) h in
      rw (not-true (eqb b sep) k.0) (ap (on_first b) (fields-alone f k.1))

  pub fields_join : (f r : List ℕ) → all (other sep) f ≡ true → fields sep (f ++ sep ∷ r) ≡ f ∷ fields sep r
  unfolding all fields
  fields_join [] r h = rw (eq-eqb sep sep refl)
  fields_join (b ∷ f) r h =
      let k = and-true (other sep b) (all (other sep) f) h in
      rw (not-true (eqb b sep) k.0) (ap (on_first b) (fields_join f r k.1))

-- Digits are above `/`, and `.` is another byte.
pub digit-high : (n : ℕ) → 48 ≤ hex_digit n
unfolding hex_digit
digit-high n = split (ltb n 10) (λ e. rw e (omega arith)) (λ e. rw e (omega arith))

digit-other : (n : ℕ) → other slash (hex_digit n) ≡ true
digit-other n = ap not (ne_eqb (hex_digit n) slash (λ e. omega (arith, digit-high n)))

text-other : (s : List ℕ) → all (other slash) (hex_text s) ≡ true
unfolding all hex_text
text-other [] = refl
text-other (b ∷ s) = rw (digit-other (b / 16), digit-other (b % 16)) (text-other s)

component-clear : (c : List ℕ) → all (other slash) (component_text c) ≡ true
unfolding all component_text
component-clear [] = refl
component-clear (b ∷ c) = text-other (b ∷ c)

-- The fields of a path's text are the texts of its components.
fields_back : (c : List ℕ) (cs : Components) → fields slash (component_text c ++ behind_text cs) ≡ map component_text (c ∷ cs)
unfolding behind_text
fields_back c [] = rw append-nil (fields-alone slash (component_text c) (component-clear c))
fields_back c (d ∷ cs) = fields_join slash (component_text c) (component_text d ++ behind_text cs) (component-clear c) ∙ ap (component_text c ∷◌) (fields_back d cs)

-- Each of them is a component's, and its bytes are the component.
field_back : (c : List ℕ) → all is_byte c ≡ true → (is_component_field (component_text c) ≡ true) × (hex_of (component_text c) ≡ c)
unfolding component_text is_only hex_of
field_back [] h = (sym (component-dot (dot ∷ []) refl), refl)
field_back (b ∷ c) h =
    let r = hex-back (b ∷ c) h in
    let l : (length (hex_text (b ∷ c)) ≡ 1 → ⊥) = λ e. omega (arith, text-length (b ∷ c)) in
    (sym (component-hex (hex_text (b ∷ c)) (sym (only-not dot (hex_text (b ∷ c)) l)) (λ e. omega (arith, text-length (b ∷ c)))) ∙ r.0, r.1)

fields-good : (cs : Components) → all (all is_byte) cs ≡ true → (all is_component_field (map component_text cs) ≡ true) × (map hex_of (map component_text cs) ≡ cs)
unfolding all
fields-good [] h = (refl, refl)
fields-good (c ∷ cs) h =
    let k = and-true (all is_byte c) (all (all is_byte) cs) h in
    let f = field_back c k.0 in
    let r = fields-good cs k.1 in
    (rw f.0 r.0, rw (f.1, r.1))

pub path_bytes : (cs : Components) → all (is_component field) cs ≡ true → all (all is_byte) cs ≡ true
unfolding all is_component
path_bytes [] h = refl
path_bytes (c ∷ cs) h =
    let k = and-true (leb (length c) 64 && all is_byte c) (all (is_component field) cs) h in
    rw (and-true (leb (length c) 64) (all is_byte c) k.0).1 (path_bytes cs k.1)

-- It is no `-`.
first-high : (c r : List ℕ) → 46 ≤ get_or (component_text c ++ r) 0 0
unfolding component_text hex_text
first-high [] r = omega arith
first-high (b ∷ c) r = omega (arith, digit-high (b / 16))

only-first : (b : ℕ) (s : List ℕ) → is_only b s ≡ true → get_or s 0 0 ≡ b
unfolding is_only
only-first b [] h = clash h refl
only-first b (a ∷ []) h = eqb-true a b h
only-first b (a ∷ c ∷ s) h = clash h refl

empty_back : path_field (dash ∷ []) ≡ Ok (path_of [])
unfolding is_only
empty_back = sym (path_empty (dash ∷ []) refl)

some_back : (c : Component) (cs : Components) → is_path field (c ∷ cs) ≡ true → path_field (component_text c ++ behind_text cs) ≡ Ok (path_of (c ∷ cs))
unfolding is_path
some_back c cs h =
    let t = component_text c ++ behind_text cs in
    let k = and-true (leb (length (c ∷ cs)) 8) (all (is_component field) (c ∷ cs) && leb (length (joined (c ∷ cs))) 128) h in
    let b = path_bytes (c ∷ cs) (and-true (all (is_component field) (c ∷ cs)) (leb (length (joined (c ∷ cs))) 128) k.1).0 in
    let g = fields-good (c ∷ cs) b in
    let f = fields_back c cs in
    let d : is_only dash t ≡ false = refute (is_only dash t) (λ e. omega (arith, only-first dash t e, first-high c (behind_text cs))) in
    let m : map hex_of (fields slash t) ≡ c ∷ cs = ap (map hex_of) f ∙ g.1 in
    let p : fields_fit 128 8 t ≡ true = ap (fitting 64 128 8) m ∙ path-fits field (c ∷ cs) h in
    sym (path-good t d (ap (all is_component_field) f ∙ g.0) p) ∙ ap (λ (x : Components). Ok (path_of x)) m

pub path-back : (cs : Components) → is_path field cs ≡ true → path_field (path_text cs) ≡ Ok (path_of cs)
unfolding path_text
path-back [] h = empty_back
path-back (c ∷ cs) h = some_back c cs h
