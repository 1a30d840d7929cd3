-- An entry that is listed is read back, behind `in`. Assumes nothing.
use Prim.Native.Nat.{ℕ, zero, suc, ◌+◌, ◌/◌, ◌%◌, ◌^◌, ◌≤◌, ◌<◌}
use mathlib.Core.Path.{◌≡◌, refl, sym, ap, ◌∙◌}
use mathlib.Core.List.{List, [], ◌∷◌, ◌++◌}
use mathlib.Core.Bool.{true, not}
use native.Mathlib.Omega.{arith}
use lib.Dec.{ltb}
use borrow.Author.Tests.{ne_eqb}
use lib.ListN.{length, get_or, length-append}
use Rattle.laws.specs.Prefix.{same_number, same_list}
use Rattle.laws.specs.Sorted.{all}
use Rattle.laws.proofs.Truth.{split, and-true}
use Rattle.data_model.specs.Path.{field, Component, Components, is_path, path_of}
use Rattle.key_laws.proofs.Fits.{legal-of, components-of}
use Rattle.text.specs.Hex.{hex_digit, hex_byte, hex_text}
use Rattle.text.specs.Decimal.{digits, decimal_text}
use Rattle.text.specs.Fields.{fields}
use Rattle.text.specs.PathText.{component_text, behind_text, path_text, path_text_most}
use Rattle.text.specs.EntryLine.{line_most, space, in_word, entry_line, entry_read, is_in_line, line_read, rank_text, listed_text}
use Rattle.std.specs.Prelude.{Ok}
use Rattle.text.proofs.RoundTrip.{byte-back, number-back}
use Rattle.text.proofs.PathTrip.{other, fields-alone, fields_join, digit-high, path-back}
use Rattle.text.proofs.LineLaws.{in-word, line-in, decimal-most, path-most}

-- No byte between the spaces is a space.
clear-append : (xs ys : List ℕ) → all (other space) xs ≡ true → all (other space) ys ≡ true → all (other space) (xs ++ ys) ≡ true
unfolding all
clear-append [] ys h k = k
clear-append (b ∷ xs) ys h k =
    let m = and-true (other space b) (all (other space) xs) h in
    rw m.0 (clear-append xs ys m.1 k)

high-clear : (b : ℕ) → 45 ≤ b → other space b ≡ true
high-clear b h = ap not (ne_eqb b space (λ e. omega arith))

hex-clear : (s : List ℕ) → all (other space) (hex_text s) ≡ true
unfolding all hex_text
hex-clear [] = refl
hex-clear (b ∷ s) = rw (high-clear (hex_digit (b / 16)) (omega (arith, digit-high (b / 16))), high-clear (hex_digit (b % 16)) (omega (arith, digit-high (b % 16)))) (hex-clear s)

byte-clear : (b : ℕ) → all (other space) (hex_byte b) ≡ true
unfolding hex_text
byte-clear b = hex-clear (b ∷ [])

component-clear : (c : Component) → all (other space) (component_text c) ≡ true
unfolding all component_text
component-clear [] = refl
component-clear (b ∷ c) = hex-clear (b ∷ c)

behind-clear : (cs : Components) → all (other space) (behind_text cs) ≡ true
unfolding all behind_text
behind-clear [] = refl
behind-clear (c ∷ cs) = clear-append (component_text c) (behind_text cs) (component-clear c) (behind-clear cs)

path-clear : (cs : Components) → all (other space) (path_text cs) ≡ true
unfolding all path_text
path-clear [] = refl
path-clear (c ∷ cs) = clear-append (component_text c) (behind_text cs) (component-clear c) (behind-clear cs)

digits-clear : (k x : ℕ) → all (other space) (digits k x) ≡ true
unfolding all digits
digits-clear zero x = refl
digits-clear (suc k) x =
    split (ltb x 10)
    (λ e. rw (e, high-clear (48 + x) (omega arith)))
    (λ e. rw e (clear-append (digits k (x / 10)) ((48 + x % 10) ∷ []) (digits-clear k (x / 10)) (rw (high-clear (48 + x % 10) (omega arith)))))

number-clear : (x : ℕ) → all (other space) (decimal_text x) ≡ true
unfolding decimal_text
number-clear x = digits-clear 20 x

in-same : same_list same_number in_word in_word ≡ true
unfolding same_list same_number
in-same = refl

module _ (s : ℕ) (cs : Components) (t l d : ℕ) where
  line : List ℕ
  line = in_word ++ space ∷ listed_text s cs t l d

  -- The six fields.
  line-fields : fields space line ≡ in_word ∷ hex_byte s ∷ path_text cs ∷ decimal_text t ∷ decimal_text l ∷ hex_byte d ∷ []
  unfolding line listed_text rank_text all
  line-fields =
      fields_join space in_word (listed_text s cs t l d) refl
      ∙ ap (in_word ∷◌) (fields_join space (hex_byte s) (path_text cs ++ space ∷ rank_text t l d) (byte-clear s)
      ∙ ap (hex_byte s ∷◌) (fields_join space (path_text cs) (rank_text t l d) (path-clear cs)
      ∙ ap (path_text cs ∷◌) (fields_join space (decimal_text t) (decimal_text l ++ space ∷ hex_byte d) (number-clear t)
      ∙ ap (decimal_text t ∷◌) (fields_join space (decimal_text l) (hex_byte d) (number-clear l)
      ∙ ap (decimal_text l ∷◌) (fields-alone space (hex_byte d) (byte-clear d))))))

  line-short : length (path_text cs) ≤ path_text_most → length line ≤ line_most
  unfolding line listed_text rank_text
  line-short h = simp length-append (omega (arith, decimal-most t, decimal-most l))

  pub listed_back : s < 256 → is_path field cs ≡ true → t < 2 ^ 64 → l < 2 ^ 64 → d < 256
      → line_read (in_word ++ space ∷ listed_text s cs t l d) ≡ Ok (entry_line s (path_of cs) t l d)
  unfolding line entry_read
  listed_back hs hp ht hl hd =
      let f = line-fields in
      let short : length (path_text cs) ≤ path_text_most = rw (components-of cs) at (path-most (path_of cs) (legal-of field cs hp)) in
      let i : is_in_line line ≡ true = sym (in-word line (line-short short) (ap length f)) ∙ ap (λ (x : List (List ℕ)). same_list same_number (get_or x 0 []) in_word) f ∙ in-same in
      sym (line-in line i) ∙ rw (f, byte-back s hs, path-back cs hp, number-back t ht, number-back l hl, byte-back d hd)
