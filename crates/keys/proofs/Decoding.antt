-- Laws of the decoders' answers: a component, a path and a key that were read, or refused.
-- Assumes nothing.
use Prim.Native.Nat.{ℕ, ◌+◌, ◌-◌, ◌*◌, ◌≤◌, ◌<◌}
use mathlib.Core.Path.{◌≡◌, refl, sym, ap, subst, ◌∙◌}
use mathlib.Core.List.{List, [], ◌∷◌, ◌++◌}
use mathlib.Core.Bool.{Bool, true, false, cond}
use native.Mathlib.Omega.{arith}
use lib.Dec.{eqb}
use lib.ListN.{length, get_or, replicate}
use borrow.Author.Tests.{eq-eqb, ne_eqb, eqb-true, eqb-false}
use Rattle.laws.proofs.Truth.{split}
use Rattle.laws.proofs.Lists.{put-zeros}
use Rattle.data_model.specs.Path.{Figures, field, capacity, Component, Components, joined, ends_from, value_of, path_of}
use Rattle.keys.specs.Encode.{Triple}
use Rattle.keys.specs.Decode.{Taken, refused, took, bind, token_of, ends_path, read_component, read_path, component_says, next_component, component_read, path_read, number_from, number, whole, was_read, decoded}
use Rattle.keys.specs.Inner.{part_of, Filled}
use Rattle.keys.specs.Judge.{takes, fills}
use Rattle.data_model.specs.declared.path.Path.{Path}
use Rattle.data_model.specs.declared.parameters.Subspace.{Subspace}
use Rattle.keys.specs.declared.decode.Next.TheVariants as next
use Rattle.keys.specs.declared.decode.PathRead.{PathRead}
use Rattle.keys.specs.declared.decode.EntryKey.{EntryKey}
use Rattle.data_model.specs.declared.answer.Refusal.{Refusal}
use Rattle.data_model.specs.Said.{Said, refuses, says}
use Rattle.data_model.specs.Refusal.{no_key, refusal_number}
use Rattle.std.specs.Prelude.{Ok, Err}
use Rattle.keys.proofs.Reading.{same-pair}
use Rattle.keys.proofs.Walking.{PathFit, path-fit, path_empty}

-- The next component: the path's end, a component, or neither.
next-took : (at : ℕ) (t : Taken Component) (n u : ℕ) (bytes : List ℕ) → says (n, u) ≡ part_of t → Filled (λ c. c) t (replicate capacity.mcl 0) bytes
    → component_says (Ok (next.Component bytes n (at + u))) ≡ next_component at t
unfolding part_of component_says next_component
next-took at refused n u bytes e b = absurd (let z : ◌≡◌ {A = ℕ} 0 1 = cc in omega arith)
next-took at (took c v) n u bytes e b =
    let p = same-pair n u (length c) v e in
    let pb : bytes ≡ c ++ replicate (capacity.mcl - length c) 0 = b ∙ put-zeros c capacity.mcl in
    rw (p.0, p.1, pb)

next-refused : (at : ℕ) (t : Taken Component) (r : Refusal) → refuses (refusal_number r) ≡ part_of t → component_says (Err r) ≡ next_component at t
unfolding part_of component_says next_component
next-refused at refused r e = let q : refusal_number r ≡ no_key = cc in rw q
next-refused at (took c v) r e = absurd (let z : ◌≡◌ {A = ℕ} 0 1 = cc in omega arith)

module _ (at : ℕ) (k : List ℕ) where
  pub component-ended : ends_path (token_of k) ≡ true → component_says (Ok (next.PathEnd (at + 2))) ≡ component_read field at k
  unfolding component_says component_read
  component-ended e = rw e

  pub component-took : (n u : ℕ) (bytes : List ℕ) → ends_path (token_of k) ≡ false → says (n, u) ≡ part_of (read_component field.mcl k)
      → Filled (λ c. c) (read_component field.mcl k) (replicate capacity.mcl 0) bytes
      → component_says (Ok (next.Component bytes n (at + u))) ≡ component_read field at k
  unfolding component_read
  component-took n u bytes e p b = rw e (next-took at (read_component field.mcl k) n u bytes p b)

  pub component-refused : (r : Refusal) → ends_path (token_of k) ≡ false → refuses (refusal_number r) ≡ part_of (read_component field.mcl k) → component_says (Err r) ≡ component_read field at k
  unfolding component_read
  component-refused r e p = rw e (next-refused at (read_component field.mcl k) r p)

-- A path that was read into zeros.
module _ (at : ℕ) where
  pub path-took : (t : Taken Components) (n u : ℕ) (bytes ends : List ℕ) → says (n, u) ≡ part_of t
      → Filled joined t (replicate capacity.mpl 0) bytes → Filled (ends_from 0) t (replicate capacity.mcc 0) ends
      → says (record { path = record { bytes = bytes; ends = ends; count = n }; next = at + u }) ≡ path_read at t
  unfolding part_of path_read path_of value_of
  path-took refused n u bytes ends e b m = absurd (let z : ◌≡◌ {A = ℕ} 0 1 = cc in omega arith)
  path-took (took cs v) n u bytes ends e b m =
      let p = same-pair n u (length cs) v e in
      let pb : bytes ≡ joined cs ++ replicate (capacity.mpl - length (joined cs)) 0 = b ∙ put-zeros (joined cs) capacity.mpl in
      let pm : ends ≡ ends_from 0 cs ++ replicate (capacity.mcc - length (ends_from 0 cs)) 0 = m ∙ put-zeros (ends_from 0 cs) capacity.mcc in
      rw (p.0, p.1, pb, pm)

  pub path-missed : (t : Taken Components) (n : ℕ) → refuses n ≡ part_of t → refuses n ≡ path_read at t
  unfolding part_of path_read
  path-missed refused n e = cc
  path-missed (took cs v) n e = absurd (let z : ◌≡◌ {A = ℕ} 0 1 = cc in omega arith)

  -- The same, taken apart.
  pub record PathTaken (t : Taken Components) (r : PathRead) : Type 0 where
    pub cs : Components
    pub u : ℕ
    pub is : t ≡ took cs u
    pub next_is : r.next ≡ at + u
    pub path_is : r.path ≡ path_of cs

  pub path-taken : (t : Taken Components) (r : PathRead) → says r ≡ path_read at t → PathTaken t r
  unfolding path_read
  path-taken refused r e = absurd (let z : ◌≡◌ {A = ℕ} 0 1 = cc in omega arith)
  path-taken (took cs u) r e =
      let q : r ≡ record { path = path_of cs; next = at + u } = cc in
      record {
        cs = cs;
        u = u;
        is = refl;
        next_is = ap (λ (x : PathRead). x.next) q;
        path_is = ap (λ (x : PathRead). x.path) q;
      }

  pub path-refused : (t : Taken Components) (n : ℕ) → refuses n ≡ path_read at t → (t ≡ refused) × (n ≡ no_key)
  unfolding path_read
  path-refused refused n e = (refl, cc)
  path-refused (took cs u) n e = absurd (let z : ◌≡◌ {A = ℕ} 0 1 = cc in omega arith)

-- A path that is read from the front of the bytes ends within them.
next-within : (k : List ℕ) (r : PathRead) (t : Taken Components) → PathFit (length k) t → says r ≡ path_read 0 t → r.next ≤ length k
unfolding path_read
next-within k r refused h e = absurd (let z : ◌≡◌ {A = ℕ} 0 1 = cc in omega arith)
next-within k r (took cs u) h e =
    let q : r ≡ record { path = path_of cs; next = 0 + u } = cc in
    omega (arith, ap (λ (x : PathRead). x.next) q)

parts_within : (len : ℕ) (t : Taken Components) (n u : ℕ) → PathFit len t → says (n, u) ≡ part_of t → u ≤ len
unfolding part_of
parts_within len refused n u h e = absurd (let z : ◌≡◌ {A = ℕ} 0 1 = cc in omega arith)
parts_within len (took cs v) n u h e = omega (arith, (same-pair n u (length cs) v e).1)

pub next_fits : (f : Figures) (k : List ℕ) (r : PathRead) → says r ≡ path_read 0 (read_path f k) → r.next ≤ length k
unfolding read_path
next_fits f k r e = next-within k r (read_path f k) (path-fit f.mcl f.mcc f.mpl k) e

-- Past the end of the bytes no path is read.
pub path-past : (at : ℕ) (f : Figures) (k : List ℕ) → k ≡ [] → refuses no_key ≡ path_read at (read_path f k)
unfolding read_path path_read
path-past at f k e = sym (ap (path_read at) (ap (read_path f) e ∙ path_empty f.mcl f.mpl f.mcc))

pub parts-fit : (f : Figures) (k : List ℕ) (n u : ℕ) → says (n, u) ≡ part_of (read_path f k) → u ≤ length k
unfolding read_path
parts-fit f k n u e = parts_within (length k) (read_path f k) n u (path-fit f.mcl f.mcc f.mpl k) e

-- Eight bytes as the code puts them together.
pub number-8 : (k : List ℕ) → 8 ≤ length k
    → number k ≡ (((get_or k 0 0 * 256 + get_or k 1 0) * 256 + get_or k 2 0) * 256 + get_or k 3 0) * 0x1_0000_0000 + (((get_or k 4 0 * 256 + get_or k 5 0) * 256 + get_or k 6 0) * 256 + get_or k 7 0)
unfolding number number_from
number-8 [] h = absurd (omega arith)
number-8 (b0 ∷ []) h = absurd (omega arith)
number-8 (b0 ∷ b1 ∷ []) h = absurd (omega arith)
number-8 (b0 ∷ b1 ∷ b2 ∷ []) h = absurd (omega arith)
number-8 (b0 ∷ b1 ∷ b2 ∷ b3 ∷ []) h = absurd (omega arith)
number-8 (b0 ∷ b1 ∷ b2 ∷ b3 ∷ b4 ∷ []) h = absurd (omega arith)
number-8 (b0 ∷ b1 ∷ b2 ∷ b3 ∷ b4 ∷ b5 ∷ []) h = absurd (omega arith)
number-8 (b0 ∷ b1 ∷ b2 ∷ b3 ∷ b4 ∷ b5 ∷ b6 ∷ []) h = absurd (omega arith)
number-8 (b0 ∷ b1 ∷ b2 ∷ b3 ∷ b4 ∷ b5 ∷ b6 ∷ b7 ∷ k) h = omega arith

-- A key is taken whole.
module _ (before after len : ℕ) (f : Components → ℕ → Triple) where
  pub whole-refused : (t : Taken Components) → t ≡ refused → whole before after len f t ≡ refused
  unfolding whole bind
  whole-refused t e = ap (whole before after len f) e

  pub whole-other : (t : Taken Components) (cs : Components) (u : ℕ) → t ≡ took cs u → (before + u + after ≡ len → ⊥) → whole before after len f t ≡ refused
  unfolding whole bind
  whole-other t cs u e h = ap (whole before after len f) e ∙ rw (ne_eqb (before + u + after) len h)

  pub whole-took : (t : Taken Components) (cs : Components) (u : ℕ) → t ≡ took cs u → before + u + after ≡ len → whole before after len f t ≡ took (f cs u) len
  unfolding whole bind
  whole-took t cs u e h = ap (whole before after len f) e ∙ rw (eq-eqb (before + u + after) len h)

  pub whole-short : (t : Taken Components) → len < before + after → whole before after len f t ≡ refused
  unfolding whole bind
  whole-short refused h = refl
  whole-short (took cs u) h = rw (ne_eqb (before + u + after) len (λ e. omega arith))

  -- Only of a key that is taken whole does it matter what is made of it.
  pub whole_same : (g : Components → ℕ → Triple) → ((cs : Components) (u : ℕ) → before + u + after ≡ len → f cs u ≡ g cs u)
      → (t : Taken Components) → whole before after len f t ≡ whole before after len g t
  unfolding whole bind
  whole_same g h refused = refl
  whole_same g h (took cs u) = split (eqb (before + u + after) len) (λ e. rw e (ap (λ (v : Triple). took v len) (h cs u (eqb-true (before + u + after) len e)))) (λ e. rw e)

  -- What a key that was taken is made of.
  pub record WholeIs (t : Taken Components) (v : Triple) : Type 0 where
    pub cs : Components
    pub u : ℕ
    pub is : t ≡ took cs u
    pub all : before + u + after ≡ len
    pub value : v ≡ f cs u

  whole-cond : (cs : Components) (u : ℕ) (v : Triple) (n : ℕ) (b : Bool) → eqb (before + u + after) len ≡ b
      → cond b (took (f cs u) len) refused ≡ took v n → WholeIs (took cs u) v
  whole-cond cs u v n true t e = record { cs = cs; u = u; is = refl; all = eqb-true (before + u + after) len t; value = cc }
  whole-cond cs u v n false t e = absurd (let z : ◌≡◌ {A = ℕ} 0 1 = cc in omega arith)

  pub whole_is : (t : Taken Components) (v : Triple) (n : ℕ) → whole before after len f t ≡ took v n → WholeIs t v
  unfolding whole bind
  whole_is refused v n e = absurd (let z : ◌≡◌ {A = ℕ} 0 1 = cc in omega arith)
  whole_is (took cs u) v n e = whole-cond cs u v n (eqb (before + u + after) len) refl e

-- A key is judged by the bytes of its path, and by those before and behind it.
module _ (before behind len : ℕ) where
  pub fills-whole : (f : Components → ℕ → Triple) (t : Taken Components) → fills before behind len t ≡ was_read (whole before behind len f t)
  unfolding fills was_read whole bind
  fills-whole f refused = refl
  fills-whole f (took cs u) = split (eqb (before + u + behind) len) (λ e. rw e) (λ e. rw e)

  pub fills-short : (t : Taken Components) → len < before + behind → false ≡ fills before behind len t
  unfolding fills
  fills-short refused h = refl
  fills-short (took cs u) h = sym (ne_eqb (before + u + behind) len (λ e. omega arith))

  pub fills-takes : (t : Taken Components) → before + behind ≤ len → takes (len - before - behind) t ≡ fills before behind len t
  unfolding fills takes
  fills-takes refused h = refl
  fills-takes (took cs u) h =
      split (eqb u (len - before - behind))
      (λ e. let d = eqb-true u (len - before - behind) e in e ∙ sym (eq-eqb (before + u + behind) len (omega (arith, d))))
      (λ e. let d = eqb-false u (len - before - behind) e in e ∙ sym (ne_eqb (before + u + behind) len (λ g. d (omega arith))))

-- The answer for a triple.
pub decoded-took : (t : Taken Triple) (v : Triple) (len : ℕ) (s : Subspace) (p : Path) (x : ℕ) → t ≡ took v len
    → s ≡ v.subspace → p ≡ path_of v.path → x ≡ v.timestamp
    → says (record { subspace = s; path = p; timestamp = x }) ≡ decoded t
unfolding decoded
decoded-took t v len s p x e a b c =
    subst (λ (t : Taken Triple). ◌≡◌ {A = Said EntryKey} (says (record { subspace = s; path = p; timestamp = x })) (decoded t)) (sym e) (rw (a, b, c))

pub decoded-refused : (t : Taken Triple) → t ≡ refused → refuses no_key ≡ decoded t
unfolding decoded
decoded-refused t e = rw e
