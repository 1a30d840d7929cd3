-- A line that says an entry says values: bytes, numbers below 2^64, and the path value of components within the bounds. Assumes nothing.
use Prim.Native.Nat.{ℕ, ◌+◌, ◌*◌, ◌^◌, ◌<◌}
use mathlib.Core.Path.{◌≡◌, refl, ap, subst}
use mathlib.Core.List.{List}
use mathlib.Core.Bool.{Bool, true, false, ◌&&◌}
use native.Mathlib.Omega.{arith}
use lib.ListN.{length, get_or}
use lib.Dec.{eqb, ltb}
use borrow.Author.Tests.{eqb-true, ltb-true}
use Rattle.laws.proofs.Truth.{split, and-true}
use Rattle.data_model.specs.Path.{field, Components, is_path, path_of}
use Rattle.text.specs.Hex.{digit_value, is_hex, hex_of, byte_read}
use Rattle.text.specs.Decimal.{is_plain, number_from, value_read, number_read}
use Rattle.text.specs.PathField.{is_path_field, components_of, placed, path_field}
use Rattle.text.specs.EntryLine.{entry_line, entry_read, field_at, is_in_line, line_read}
use Rattle.text.specs.declared.path.FieldError.{FieldError}
use Rattle.text.specs.declared.path.FieldError.TheVariants.{Bad}
use Rattle.text.specs.declared.entry_line.EntryLine.{EntryLine}
use Rattle.data_model.specs.declared.path.Path.{Path}
use Rattle.std.specs.Prelude.{Option, Some, None, Result, Ok, Err}
use Rattle.text.proofs.HexLaws.{hex-digit, bytes-at}

-- What each field says.
pub byte-below : (s : List ℕ) (b : ℕ) → byte_read s ≡ Some b → b < 256
unfolding byte_read
byte-below s b h = split (eqb (length s) 2 && is_hex s)
    (λ e.
    let k = and-true (eqb (length s) 2) (is_hex s) e in
    let l : length s ≡ 2 = eqb-true (length s) 2 k.0 in
    let g : Some (get_or (hex_of s) 0 0) ≡ Some b = rw e at h in
    let v : get_or (hex_of s) 0 0 ≡ b = cc in
    let w : get_or (hex_of s) 0 0 ≡ digit_value (get_or s 0 0) * 16 + digit_value (get_or s 1 0) = ap (λ (x : List ℕ). get_or x 0 0) (bytes-at s 0 (omega arith)) in
    omega (arith, hex-digit s 0 k.1 (omega arith), hex-digit s 1 k.1 (omega arith)))
    (λ e. let g : None ≡ Some b = rw e at h in let z : ◌≡◌ {A = ℕ} 0 1 = cc in omega arith)

value-below : (m n : ℕ) → value_read m ≡ Some n → n < 2 ^ 64
unfolding value_read
value-below m n h = split (ltb m (2 ^ 64))
    (λ e. let g : Some m ≡ Some n = rw e at h in let v : m ≡ n = cc in omega (arith, ltb-true m (2 ^ 64) e))
    (λ e. let g : None ≡ Some n = rw e at h in let z : ◌≡◌ {A = ℕ} 0 1 = cc in omega arith)

pub number-below : (s : List ℕ) (n : ℕ) → number_read s ≡ Some n → n < 2 ^ 64
unfolding number_read
number-below s n h = split (is_plain s)
    (λ e. value-below (number_from 0 s) n (rw e at h))
    (λ e. let g : None ≡ Some n = rw e at h in let z : ◌≡◌ {A = ℕ} 0 1 = cc in omega arith)

-- A path that was read is that of its components, which are within the bounds.
pub record Placed (p : Path) : Type 0 where
  pub cs : Components
  pub legal : is_path field cs ≡ true
  pub path_is : p ≡ path_of cs

placed-good : (cs : Components) (b : Bool) (p : Path) → is_path field cs ≡ b → placed b cs ≡ Ok p → Placed p
unfolding placed
placed-good cs true p e h = record { cs = cs; legal = e; path_is = cc }
placed-good cs false p e h = absurd (let z : ◌≡◌ {A = ℕ} 0 1 = cc in omega arith)

pub path-placed : (s : List ℕ) (p : Path) → path_field s ≡ Ok p → Placed p
unfolding path_field
path-placed s p h = split (is_path_field s)
    (λ e. placed-good (components_of s) (is_path field (components_of s)) p refl (rw e at h))
    (λ e. absurd (let g : ◌≡◌ {A = Result Path FieldError} (Err Bad) (Ok p) = rw e at h in let z : ◌≡◌ {A = ℕ} 0 1 = cc in omega arith))

-- What the whole line says.
pub record Says (e : EntryLine) : Type 0 where
  pub subspace : e.subspace < 256
  pub timestamp : e.timestamp < 2 ^ 64
  pub payload : e.payload_length < 2 ^ 64
  pub digest : e.digest < 256
  pub cs : Components
  pub legal : is_path field cs ≡ true
  pub path_is : e.path ≡ path_of cs

no-entry : (G : Type 0) (why : FieldError) (e : EntryLine) → ◌≡◌ {A = Result EntryLine FieldError} (Err why) (Ok e) → G
no-entry G why e h = absurd (let z : ◌≡◌ {A = ℕ} 0 1 = cc in omega arith)

-- By what its fields say.
read-says : (s d : Option ℕ) (p : Result Path FieldError) (t l : Option ℕ) (e : EntryLine) → ((b : ℕ) → s ≡ Some b → b < 256) → ((n : ℕ) → t ≡ Some n → n < 2 ^ 64)
    → ((n : ℕ) → l ≡ Some n → n < 2 ^ 64) → ((b : ℕ) → d ≡ Some b → b < 256) → ((q : Path) → p ≡ Ok q → Placed q)
    → entry_read s p t l d ≡ Ok e → Says e
unfolding entry_read
read-says None d p t l e hs ht hl hd hp h = no-entry _ _ e h
read-says (Some a) d p None l e hs ht hl hd hp h = no-entry _ _ e h
read-says (Some a) d p (Some b) None e hs ht hl hd hp h = no-entry _ _ e h
read-says (Some a) None p (Some b) (Some n) e hs ht hl hd hp h = no-entry _ _ e h
read-says (Some a) (Some g) (Err why) (Some b) (Some n) e hs ht hl hd hp h = no-entry _ _ e h
read-says (Some a) (Some g) (Ok p) (Some b) (Some n) e hs ht hl hd hp h =
    let q = hp p refl in
    let same : entry_line a p b n g ≡ e = cc in
    subst Says same
    record {
      subspace = hs a refl;
      timestamp = ht b refl;
      payload = hl n refl;
      digest = hd g refl;
      cs = q.cs;
      legal = q.legal;
      path_is = q.path_is;
    }

pub line-says : (s : List ℕ) (e : EntryLine) → line_read s ≡ Ok e → Says e
unfolding line_read
line-says s e h = split (is_in_line s)
    (λ i. read-says (byte_read (field_at 1 s)) (byte_read (field_at 5 s)) (path_field (field_at 2 s)) (number_read (field_at 3 s)) (number_read (field_at 4 s)) e
    (byte-below (field_at 1 s)) (number-below (field_at 3 s)) (number-below (field_at 4 s)) (byte-below (field_at 5 s)) (path-placed (field_at 2 s)) (rw i at h))
    (λ i. no-entry _ _ e (rw i at h))
