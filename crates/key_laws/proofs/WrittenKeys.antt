-- Decoders refuse with 5 exactly what no encoder writes, and answer else what was written. Assumes nothing.
use Prim.Native.Nat.{ℕ, ◌+◌}
use mathlib.Core.Path.{◌≡◌, refl, sym, ap, subst, ◌∙◌}
use mathlib.Core.List.{List, ◌++◌}
use mathlib.Core.Bool.{Bool, true, false}
use mathlib.Core.Logic.{◌↔◌}
use native.Mathlib.Omega.{arith}
use borrow.Author.Tests.{le-leb}
use lib.ListN.{length, take, drop, replicate, length-replicate, take-append-drop}
use lib.Seq.{take_at, length-take-le}
use Rattle.laws.specs.Lists.{put}
use Rattle.laws.proofs.Truth.{clash}
use Rattle.data_model.specs.Path.{field, Components, components, legal, is_path, path_of}
use Rattle.data_model.specs.declared.path.Path.{Path}
use Rattle.data_model.specs.declared.parameters.Subspace.{Subspace}
use Rattle.keys.specs.Encode.{Triple, triple, path_key, spt_key, tsp_key, key_most, roomy, encoded, encoded_in}
use Rattle.keys.specs.Decode.{Taken, refused, took, read_path, read_spt, read_tsp, was_read, decoded, path_read}
use Rattle.data_model.specs.Said.{says, number_of}
use Rattle.key_laws.specs.Bytes.{Bytes}
use Rattle.key_laws.specs.KeyOrder.{Sized}
use Rattle.key_laws.specs.WrittenKeys.{Writes, Decodes, Begins, DecodesPath, OnlyWritten}
use Rattle.key_laws.proofs.Fits.{legal-fits, legal-of, components-of, path-is-value}
use Rattle.key_laws.proofs.Inverse.{path-back, path-forth, spt-back, tsp-back, spt-forth, tsp-forth}

-- What an encoder wrote is the key, and the path was legal.
wrote : (room lawful : Bool) (key k buffer : List ℕ) → encoded room lawful key ≡ says (length k) → take (length k) (encoded_in room lawful key buffer) ≡ k
    → (lawful ≡ true) × (key ≡ k)
unfolding encoded encoded_in put
wrote false lawful key k buffer e b = absurd (let z : ◌≡◌ {A = ℕ} 0 1 = cc in omega arith)
wrote true false key k buffer e b = absurd (let z : ◌≡◌ {A = ℕ} 0 1 = cc in omega arith)
wrote true true key k buffer e b = let n : length key ≡ length k = cc in (refl, sym (take_at key (drop (length key) buffer) (length k) n) ∙ b)

-- The other way round: a legal path's key is written into a buffer that is long enough.
writes : (room lawful : Bool) (key k buffer : List ℕ) → room ≡ true → lawful ≡ true → key ≡ k
    → (encoded room lawful key ≡ says (length k)) × (take (length k) (encoded_in room lawful key buffer) ≡ k)
unfolding encoded encoded_in put
writes false lawful key k buffer r l e = clash r refl
writes true false key k buffer r l e = clash l refl
writes true true key k buffer r l e = (ap (λ (x : List ℕ). says (length x)) e, take_at key (drop (length key) buffer) (length k) (ap length e) ∙ e)

long : List ℕ
long = replicate (key_most field) 0

long-roomy : roomy field long ≡ true
unfolding roomy long
long-roomy = le-leb (key_most field) (length long) (simp length-replicate (omega arith))

module _ (key : Triple → List ℕ) (read : List ℕ → Taken Triple)
    (read_back : (t : Triple) → is_path field t.path ≡ true → Sized t → read (key t) ≡ took t (length (key t)))
    (read-forth : (k : List ℕ) → Bytes k → (t : Triple) (n : ℕ) → read k ≡ took t n → (key t ≡ k) × (is_path field t.path ≡ true) × Sized t)
    (k : List ℕ) (bytes : Bytes k) where
  back : (s : Subspace) (p : Path) (t : ℕ) → Writes key s p t k → decoded (read k) ≡ says (record { subspace = s; path = path_of (components p); timestamp = t })
  unfolding decoded
  back s p t w =
      let o = wrote _ _ _ k w.buffer w.answers w.begins in
      let fits = legal-fits field p (omega (arith, w.value.room)) w.value.bytes o.0 in
      ap (λ (x : List ℕ). decoded (read x)) (sym o.1) ∙ ap decoded (read_back (triple s (components p) t) fits w.sized)

  taken : (t : Triple) (n : ℕ) → read k ≡ took t n → Writes key t.subspace (path_of t.path) t.timestamp k
  taken t n e =
      let g = read-forth k bytes t n e in
      let c = components-of t.path in
      let w = writes (roomy field long) (legal field (path_of t.path)) (key (triple t.subspace (components (path_of t.path)) t.timestamp)) k long
      long-roomy (legal-of field t.path g.1) (ap (λ (x : Components). key (triple t.subspace x t.timestamp)) c ∙ g.0) in
      record {
        value = path-is-value t.path g.1;
        sized = subst (λ (x : Components). Sized (triple t.subspace x t.timestamp)) (sym c) g.2;
        buffer = long;
        answers = w.0;
        begins = w.1;
      }

  pub decodes : Decodes key k (decoded (read k))
  unfolding decoded number_of
  decodes = go (read k) refl
    where
      go : (r : Taken Triple) → read k ≡ r → Decodes key k (decoded r)
      go refused e = record {
        refuses = (λ z s p t w. absurd (let x : ◌≡◌ {A = ℕ} 5 0 = ap number_of (ap decoded (sym e) ∙ back s p t w) in omega arith), λ n. refl);
        takes = λ n. absurd (n refl);
        back = λ s p t w. ap decoded (sym e) ∙ back s p t w;
      }
      go (took t n) e = record {
        refuses = (λ z. absurd (let x : ◌≡◌ {A = ℕ} 0 5 = z in omega arith), λ none. absurd (none t.subspace (path_of t.path) t.timestamp (taken t n e)));
        takes = λ z. (refl, record { values = record { subspace = t.subspace; path = path_of t.path; timestamp = t.timestamp }; answers = refl; written = taken t n e });
        back = λ s p t w. ap decoded (sym e) ∙ back s p t w;
      }

-- The same of a path at the front of some bytes.
module _ (at : ℕ) (k : List ℕ) (bytes : Bytes k) where
  path-back-at : (p : Path) → Begins p k → path_read at (read_path field k) ≡ says (record { path = path_of (components p); next = at + length (path_key (components p)) })
  unfolding path_read
  path-back-at p b =
      let key = path_key (components p) in
      let fits = legal-fits field p (omega (arith, b.value.room)) b.value.bytes b.lawful in
      let e : k ≡ key ++ drop (length key) k = sym (take-append-drop (length key) k) ∙ ap (◌++ drop (length key) k) b.front in
      ap (λ (x : List ℕ). path_read at (read_path field x)) e ∙ ap (path_read at) (path-back field (components p) (drop (length key) k) fits)

  path-taken : (cs : Components) (u : ℕ) → read_path field k ≡ took cs u → Begins (path_of cs) k
  path-taken cs u e =
      let g = path-forth field k bytes cs u e in
      let n : length (path_key cs) ≡ u = ap length (sym g.0) ∙ length-take-le u k g.2 in
      record {
        value = path-is-value cs g.1;
        lawful = legal-of field cs g.1;
        front = rw (components-of cs, n) g.0;
      }

  decodes-path : DecodesPath at k (path_read at (read_path field k))
  unfolding path_read number_of
  decodes-path = go (read_path field k) refl
    where
      go : (r : Taken Components) → read_path field k ≡ r → DecodesPath at k (path_read at r)
      go refused e = record {
        refuses = (λ z p b. absurd (let x : ◌≡◌ {A = ℕ} 5 0 = ap number_of (ap (path_read at) (sym e) ∙ path-back-at p b) in omega arith), λ n. refl);
        takes = λ n. absurd (n refl);
        back = λ p b. ap (path_read at) (sym e) ∙ path-back-at p b;
      }
      go (took cs u) e = record {
        refuses = (λ z. absurd (let x : ◌≡◌ {A = ℕ} 0 5 = z in omega arith), λ none. absurd (none (path_of cs) (path-taken cs u e)));
        takes = λ z. (refl, record { values = record { path = path_of cs; next = at + u }; answers = refl; written = path-taken cs u e });
        back = λ p b. ap (path_read at) (sym e) ∙ path-back-at p b;
      }

unread : (r : Taken Triple) → (was_read r ≡ false) ↔ (number_of (decoded r) ≡ 5)
unfolding was_read decoded number_of
unread refused = (λ z. refl, λ z. refl)
unread (took t n) = (λ z. clash refl z, λ z. absurd (let x : ◌≡◌ {A = ℕ} 0 5 = z in omega arith))

pub only-written : OnlyWritten
only-written = record {
  spt = decodes spt_key (read_spt field) (spt-back field) (λ k b. spt-forth field k b);
  tsp = decodes tsp_key (read_tsp field) (tsp-back field) (λ k b. tsp-forth field k b);
  path = decodes-path;
  is_spt = λ k. unread (read_spt field k);
  is_tsp = λ k. unread (read_tsp field k);
}
