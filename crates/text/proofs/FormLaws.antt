-- Laws of the form of a path and of its components. Assumes nothing.
use Prim.Native.Nat.{ℕ, ◌+◌, ◌*◌, ◌<◌}
use mathlib.Core.Path.{◌≡◌, refl, sym}
use mathlib.Core.List.{List, [], ◌∷◌, map}
use mathlib.Core.Bool.{true, false, ◌&&◌}
use native.Mathlib.Omega.{arith}
use lib.Dec.{ltb}
use borrow.Author.Tests.{lt-ltb, ltb-true}
use lib.ListN.{length}
use Rattle.laws.specs.Sorted.{all}
use Rattle.laws.proofs.Truth.{clash, and-true, alike, split}
use Rattle.data_model.specs.Path.{field, is_path, joined, path_of}
use Rattle.key_laws.proofs.Fits.{is_byte, path-fits, fits-path}
use Rattle.text.specs.Hex.{digit_value, is_digit, is_hex, hex_of}
use Rattle.text.specs.Fields.{fields}
use Rattle.text.specs.PathField.{dash, dot, slash, is_only, is_component_field, is_path_field, components_of, placed, path_field, fields_fit}
use Rattle.text.specs.declared.path.FieldError.TheVariants.{Illegal, Bad}
use Rattle.std.specs.Prelude.{Ok, Err}
use Rattle.text.proofs.HexLaws.{hex-digits}

module _ (b : ℕ) where
  pub only-not : (f : List ℕ) → (length f ≡ 1 → ⊥) → false ≡ is_only b f
  unfolding is_only
  only-not [] h = refl
  only-not (a ∷ []) h = absurd (h refl)
  only-not (a ∷ c ∷ f) h = refl

  only-bytes : (f : List ℕ) → is_only b f ≡ true → hex_of f ≡ []
  unfolding is_only hex_of
  only-bytes [] h = refl
  only-bytes (a ∷ []) h = refl
  only-bytes (a ∷ c ∷ f) h = clash h refl

-- A component: `.`, or digits.
module _ (f : List ℕ) where
  pub component-dot : is_only dot f ≡ true → true ≡ is_component_field f
  unfolding is_component_field
  component-dot h = rw h

  pub component-hex : is_only dot f ≡ false → (length f ≡ 0 → ⊥) → is_hex f ≡ is_component_field f
  unfolding is_component_field
  component-hex h l = rw (h, lt-ltb 0 (length f) (omega arith))

  component-other : is_only dot f ≡ false → is_component_field f ≡ true → is_hex f ≡ true
  unfolding is_component_field
  component-other h e = (and-true (ltb 0 (length f)) (is_hex f) (rw h at e)).1

  pub component-digits : is_component_field f ≡ true → (length f ≡ 1 → ⊥) → is_hex f ≡ true
  component-digits e l = component-other (sym (only-not dot f l)) e

-- The bytes of a component are bytes.
digits-bytes : (f : List ℕ) → all (is_digit 16) f ≡ true → all is_byte (hex_of f) ≡ true
unfolding all hex_of is_digit
digits-bytes [] h = refl
digits-bytes (a ∷ []) h = refl
digits-bytes (a ∷ b ∷ f) h =
    let k = and-true (ltb (digit_value a) 16) (ltb (digit_value b) 16 && all (is_digit 16) f) h in
    let m = and-true (ltb (digit_value b) 16) (all (is_digit 16) f) k.1 in
    let x : digit_value a < 16 = ltb-true (digit_value a) 16 k.0 in
    let y : digit_value b < 16 = ltb-true (digit_value b) 16 m.0 in
    rw (lt-ltb (digit_value a * 16 + digit_value b) 256 (omega arith)) (digits-bytes f m.1)

component_bytes : (f : List ℕ) → is_component_field f ≡ true → all is_byte (hex_of f) ≡ true
unfolding all
component_bytes f e =
    split (is_only dot f) (λ h. rw (only-bytes dot f h)) (λ h. digits-bytes f (hex-digits f (component-other f h e)))

fields-bytes : (fs : List (List ℕ)) → all is_component_field fs ≡ true → all (all is_byte) (map hex_of fs) ≡ true
unfolding all
fields-bytes [] h = refl
fields-bytes (f ∷ fs) h =
    let k = and-true (is_component_field f) (all is_component_field fs) h in
    rw (component_bytes f k.0) (fields-bytes fs k.1)

-- A path's form.
module _ (s : List ℕ) where
  -- The ways in which reading a path ends.
  pub path_empty : is_only dash s ≡ true → Ok (path_of []) ≡ path_field s
  unfolding path_field is_path_field components_of placed is_path all joined
  path_empty h = rw h

  pub path-bad : is_only dash s ≡ false → all is_component_field (fields slash s) ≡ false → Err Bad ≡ path_field s
  unfolding path_field is_path_field
  path-bad h e = rw (h, e)

  module _ (h : is_only dash s ≡ false) (e : all is_component_field (fields slash s) ≡ true) where
    fits-is : is_path field (map hex_of (fields slash s)) ≡ fields_fit field.mpl field.mcc s
    fits-is =
        alike (is_path field (map hex_of (fields slash s))) (fields_fit field.mpl field.mcc s)
        (path-fits field (map hex_of (fields slash s)))
        (λ f. fits-path field (map hex_of (fields slash s)) f (fields-bytes (fields slash s) e))

    pub path-over : fields_fit field.mpl field.mcc s ≡ false → Err Illegal ≡ path_field s
    unfolding path_field is_path_field components_of placed
    path-over f = rw (h, e, fits-is, f)

    pub path-good : fields_fit field.mpl field.mcc s ≡ true → Ok (path_of (map hex_of (fields slash s))) ≡ path_field s
    unfolding path_field is_path_field components_of placed
    path-good f = rw (h, e, fits-is, f)
