-- A key has at least 26 bytes and at most `key_most`, which is 298 here, and both are met.
-- Assumes nothing.
use Prim.Native.Nat.{◌+◌, ◌*◌, ◌≤◌}
use mathlib.Core.Path.{◌≡◌, refl}
use mathlib.Core.List.{[], ◌∷◌}
use mathlib.Core.Bool.{true, ◌&&◌}
use native.Mathlib.Omega.{arith}
use lib.Dec.{leb}
use borrow.Author.Tests.{leb-true}
use lib.ListN.{length, replicate, length-append}
use Rattle.laws.specs.Sorted.{all}
use Rattle.laws.proofs.Truth.{and-true}
use Rattle.data_model.specs.Path.{Figures, field, Components, joined, is_component, is_path}
use Rattle.data_model.specs.Subspace.{first_subspace}
use Rattle.keys.specs.Encode.{escaped, component_key, path_key, be, subspace_key, Triple, triple, spt_key, tsp_key, path_key_most, key_most}
use Rattle.keys.proofs.Encoding.{component-most, be-length, subspace-length}

path-least : (cs : Components) → 2 ≤ length (path_key cs)
unfolding path_key
path-least [] = omega arith
path-least (c ∷ cs) = simp length-append (omega (arith, path-least cs))

path-longest : (cs : Components) → length (path_key cs) ≤ 2 * length (joined cs) + 2 * length cs + 2
unfolding path_key joined
path-longest [] = omega arith
path-longest (c ∷ cs) = simp length-append (omega (arith, path-longest cs, component-most c))

pub path-key-most : (f : Figures) (cs : Components) → is_path f cs ≡ true → length (path_key cs) ≤ path_key_most f
unfolding is_path
path-key-most f cs h =
    let k = and-true (leb (length cs) f.mcc) (all (is_component f) cs && leb (length (joined cs)) f.mpl) h in
    let m = and-true (all (is_component f) cs) (leb (length (joined cs)) f.mpl) k.1 in
    omega (arith, path-longest cs, leb-true (length cs) f.mcc k.0, leb-true (length (joined cs)) f.mpl m.1)

module _ (t : Triple) where
  pub spt-length : length (spt_key t) ≡ 16 + length (path_key t.path) + 8
  unfolding spt_key
  spt-length = simp (length-append, subspace-length, be-length) (omega arith)

  pub tsp-length : length (tsp_key t) ≡ 16 + length (path_key t.path) + 8
  unfolding tsp_key
  tsp-length = simp (length-append, subspace-length, be-length) (omega arith)

  pub spt-least : 26 ≤ length (spt_key t)
  spt-least = omega (arith, spt-length, path-least t.path)

  pub tsp-least : 26 ≤ length (tsp_key t)
  tsp-least = omega (arith, tsp-length, path-least t.path)

  pub spt-most : (f : Figures) → is_path f t.path ≡ true → length (spt_key t) ≤ key_most f
  spt-most f h = omega (arith, spt-length, path-key-most f t.path h)

  pub tsp-most : (f : Figures) → is_path f t.path ≡ true → length (tsp_key t) ≤ key_most f
  tsp-most f h = omega (arith, tsp-length, path-key-most f t.path h)

-- The empty path, and eight components of sixteen bytes 00.
abbrev fullest : Components
fullest = replicate 8 (replicate 16 0)

pub record KeyLengths : Type 0 where
  pub most : key_most field ≡ 298
  pub least_met : length (spt_key (triple first_subspace [] 0)) ≡ 26
  pub fullest_legal : is_path field fullest ≡ true
  pub most_met : length (spt_key (triple first_subspace fullest 0)) ≡ 298

pub key-lengths : KeyLengths
unfolding spt_key subspace_key be path_key component_key escaped is_path is_component all joined
key-lengths = record { most = refl; least_met = refl; fullest_legal = refl; most_met = refl }
