-- Laws of a line of the listing program: how its reading ends, and how long what is written can be. Assumes nothing.
use Prim.Native.Nat.{ℕ, zero, suc, ◌+◌, ◌-◌, ◌*◌, ◌/◌, ◌≤◌, ◌<◌}
use mathlib.Core.Path.{◌≡◌, refl, sym, ap, ◌∙◌}
use mathlib.Core.List.{List, [], ◌∷◌, ◌++◌, append_assoc}
use mathlib.Core.Bool.{true, false, ◌&&◌}
use native.Mathlib.Omega.{arith}
use lib.Dec.{eqb, ltb, leb}
use lib.Pointwise.{pointwise}
use borrow.Author.Tests.{eq-eqb, le-leb, lt-leb, leb-true, leb-false}
use lib.ListN.{length, take, length-append, length-take}
use lib.Seq.{take_all}
use Rattle.laws.specs.Prefix.{same_number, same_list}
use Rattle.laws.specs.Lists.{piece}
use Rattle.laws.proofs.Truth.{split, and-true}
use Rattle.data_model.specs.Path.{field, Components, cut, components, legal, legal_ends}
use Rattle.data_model.specs.declared.path.Path.{Path}
use Rattle.data_model.proofs.Values.{legal-count, legal-these}
use Rattle.text.specs.Hex.{byte_read, hex_byte}
use Rattle.text.specs.Decimal.{number_read, digits, decimal_text}
use Rattle.text.specs.Fields.{fields}
use Rattle.text.specs.PathField.{path_field}
use Rattle.text.specs.PathText.{behind_text, path_text, path_text_most}
use Rattle.text.specs.EntryLine.{line_most, space, in_word, entry_line, entry_read, field_at, is_in_line, line_read, rank_text, listed_text}
use Rattle.text.specs.declared.path.FieldError.TheVariants.{Bad}
use Rattle.text.specs.declared.path.FieldError.{FieldError}
use Rattle.std.specs.Prelude.{Some, None, Ok, Err}
use Rattle.text.proofs.PathLaws.{component-most}

-- The library's word for equal bytes.
pub same-bytes : (a b : List ℕ) → pointwise eqb a b ≡ same_list same_number a b
unfolding same_list same_number
same-bytes [] [] = refl
same-bytes [] (y ∷ b) = refl
same-bytes (x ∷ a) [] = refl
same-bytes (x ∷ a) (y ∷ b) = ap (eqb x y &&◌) (same-bytes a b)

-- The form of a line: too long, not six fields, or what its first field is.
module _ (s : List ℕ) where
  pub long_line : line_most < length s → false ≡ is_in_line s
  unfolding is_in_line
  long_line h = rw (lt-leb (length s) line_most h)

  pub in-word : length s ≤ line_most → length (fields space s) ≡ 6 → same_list same_number (field_at 0 s) in_word ≡ is_in_line s
  unfolding is_in_line
  in-word h n = rw (le-leb (length s) line_most h, eq-eqb (length (fields space s)) 6 n)

  pub line_other : is_in_line s ≡ false → Err Bad ≡ line_read s
  unfolding line_read
  line_other h = rw h

  pub line-in : is_in_line s ≡ true
      → entry_read (byte_read (field_at 1 s)) (path_field (field_at 2 s)) (number_read (field_at 3 s)) (number_read (field_at 4 s)) (byte_read (field_at 5 s)) ≡ line_read s
  unfolding line_read
  line-in h = rw h

-- A line may be cut where it is too long: what stands behind is not needed to tell what it says.
pub line-cut : (s : List ℕ) (n : ℕ) → line_most < n → line_read (take n s) ≡ line_read s
line-cut s n h =
    split (leb (length s) line_most)
    (λ e. ap line_read (take_all n s (omega (arith, leb-true (length s) line_most e))))
    (λ e.
    let l : line_most < length s = leb-false (length s) line_most e in
    sym (line_other (take n s) (sym (long_line (take n s) (omega (arith, length-take n s))))) ∙ line_other s (sym (long_line s l)))

-- What five fields say: the first that is of another form; or what the path is.
module _ (s : List ℕ) (i : is_in_line s ≡ true) where
  pub bad-subspace : byte_read (field_at 1 s) ≡ None → Err Bad ≡ line_read s
  unfolding line_read entry_read
  bad-subspace e = rw (i, e)

  module _ (a : ℕ) (ea : byte_read (field_at 1 s) ≡ Some a) where
    pub bad-timestamp : number_read (field_at 3 s) ≡ None → Err Bad ≡ line_read s
    unfolding line_read entry_read
    bad-timestamp e = rw (i, ea, e)

    module _ (b : ℕ) (eb : number_read (field_at 3 s) ≡ Some b) where
      pub bad-length : number_read (field_at 4 s) ≡ None → Err Bad ≡ line_read s
      unfolding line_read entry_read
      bad-length e = rw (i, ea, eb, e)

      module _ (n : ℕ) (en : number_read (field_at 4 s) ≡ Some n) where
        pub bad-digest : byte_read (field_at 5 s) ≡ None → Err Bad ≡ line_read s
        unfolding line_read entry_read
        bad-digest e = rw (i, ea, eb, en, e)

        module _ (g : ℕ) (eg : byte_read (field_at 5 s) ≡ Some g) where
          pub bad-path : (why : FieldError) → path_field (field_at 2 s) ≡ Err why → Err why ≡ line_read s
          unfolding line_read entry_read
          bad-path why e = rw (i, ea, eb, en, eg, e)

          pub read-good : (p : Path) → path_field (field_at 2 s) ≡ Ok p → Ok (entry_line a p b n g) ≡ line_read s
          unfolding line_read entry_read
          read-good p e = rw (i, ea, eb, en, eg, e)

-- A number has at most 20 digits.
digits-most : (k x : ℕ) → length (digits k x) ≤ k
unfolding digits
digits-most zero x = omega arith
digits-most (suc k) x = split (ltb x 10) (λ e. rw e (omega arith)) (λ e. rw (e, length-append) (omega (arith, digits-most k (x / 10))))

pub decimal-most : (x : ℕ) → length (decimal_text x) ≤ 20
unfolding decimal_text
decimal-most x = digits-most 20 x

-- A path's text has at most two bytes a byte of the path, and two a component.
piece-most : (from e : ℕ) (bytes : List ℕ) → length (piece from e bytes) ≤ e - from
piece-most from e bytes = simp length-take (omega arith)

behind-most : (bytes : List ℕ) (mcl mpl from : ℕ) (es : List ℕ) → legal_ends mcl mpl from es ≡ true → length (behind_text (cut bytes from es)) + 2 * from ≤ 2 * mpl + 2 * length es
unfolding behind_text cut legal_ends
behind-most bytes mcl mpl from [] h = omega (arith, leb-true from mpl h)
behind-most bytes mcl mpl from (e ∷ es) h =
    let x = and-true (leb from e) (leb (e - from) mcl && legal_ends mcl mpl e es) h in
    let y = and-true (leb (e - from) mcl) (legal_ends mcl mpl e es) x.1 in
    simp length-append (omega (arith, leb-true from e x.0, piece-most from e bytes, component-most (piece from e bytes), behind-most bytes mcl mpl e es y.1))

text-most : (bytes : List ℕ) (es : List ℕ) → legal_ends 64 128 0 es ≡ true → length es ≤ 8 → length (path_text (cut bytes 0 es)) ≤ path_text_most
unfolding path_text cut legal_ends
text-most bytes [] h n = omega arith
text-most bytes (e ∷ es) h n =
    let x = and-true (leb 0 e) (leb (e - 0) 64 && legal_ends 64 128 e es) h in
    let y = and-true (leb (e - 0) 64) (legal_ends 64 128 e es) x.1 in
    simp length-append (omega (arith, piece-most 0 e bytes, component-most (piece 0 e bytes), behind-most bytes 64 128 e es y.1))

pub path-most : (p : Path) → legal field p ≡ true → length (path_text (components p)) ≤ path_text_most
unfolding components
path-most p h =
    text-most p.bytes (take p.count p.ends) (legal-these field p h) (omega (arith, legal-count field p h, length-take p.count p.ends))

-- The pieces that are written, each with the space behind it.
spaced : (xs rest : List ℕ) → xs ++ space ∷ rest ≡ (xs ++ space ∷ []) ++ rest
spaced xs rest = sym (append_assoc xs (space ∷ []) rest)

pub rank-pieces : (t l d : ℕ) → (decimal_text t ++ space ∷ []) ++ ((decimal_text l ++ space ∷ []) ++ hex_byte d) ≡ rank_text t l d
unfolding rank_text
rank-pieces t l d = sym (spaced (decimal_text t) (decimal_text l ++ space ∷ hex_byte d) ∙ ap ((decimal_text t ++ space ∷ []) ++◌) (spaced (decimal_text l) (hex_byte d)))

pub listed-pieces : (s : ℕ) (cs : Components) (t l d : ℕ) → (hex_byte s ++ space ∷ []) ++ ((path_text cs ++ space ∷ []) ++ rank_text t l d) ≡ listed_text s cs t l d
unfolding listed_text
listed-pieces s cs t l d = sym (spaced (hex_byte s) (path_text cs ++ space ∷ rank_text t l d) ∙ ap ((hex_byte s ++ space ∷ []) ++◌) (spaced (path_text cs) (rank_text t l d)))
