-- `above` is the least legal path above a path that the path does not prefix; so a path's extensions are what stands from it up to that.
-- Assumes nothing.
use Prim.Native.Nat.{suc, ◌+◌, ◌-◌, ◌≤◌, ◌<◌, min}
use mathlib.Core.Path.{◌≡◌, subst}
use mathlib.Core.List.{[], ◌∷◌, ◌++◌}
use mathlib.Core.Bool.{true, ◌&&◌}
use native.Mathlib.Omega.{arith}
use lib.Dec.{leb, ltb}
use lib.ListN.{length, length-append}
use borrow.Author.Tests.{leb-true, le-leb}
use Rattle.laws.specs.Order.{less}
use Rattle.laws.specs.Sorted.{all}
use Rattle.laws.proofs.Truth.{clash, and-true}
use Rattle.laws.proofs.Order.{less-same, less-greater, three, less-is-greater}
use Rattle.laws.proofs.Prefix.{prefix_refl}
use Rattle.data_model.specs.Path.{Figures, Component, Components, joined, is_component, is_path, same_component, by_bytes, by_components, is_prefix}
use Rattle.data_model.specs.Above.{raised, above_in, above}
use Rattle.data_model.specs.Range.{includes}
use Rattle.key_laws.specs.Least.{Least, Beyond, LeastAbove, end_of}
use Rattle.data_model.proofs.Orders.{bytes-linear, path-linear, component-equality, extensions-after, extensions-between}
use Rattle.key_laws.proofs.Least.{least-same, least-includes, Past, past-none, past-step}
use Rattle.key_laws.proofs.Raised.{Short, raised-least}

-- The figures that a path's rest has to keep behind its first component.
abbrev pub rest_of : Figures → Component → Figures
rest_of f c = record { mcl = f.mcl; mcc = f.mcc - 1; mpl = f.mpl - length c }

-- A legal path that is not empty: its first component fits, and its rest is legal in what is left. In both directions.
pub record Begins (f : Figures) (c : Component) (cs : Components) : Type 0 where
  pub first : Short (min f.mcl f.mpl) c
  pub counted : 0 < f.mcc
  pub rest : is_path (rest_of f c) cs ≡ true

pub path-view : (f : Figures) (c : Component) (cs : Components) → is_path f (c ∷ cs) ≡ true → Begins f c cs
unfolding is_path is_component all joined
path-view f c cs h =
    let a = and-true (leb (suc (length cs)) f.mcc) (all (is_component f) (c ∷ cs) && leb (length (c ++ joined cs)) f.mpl) h in
    let b = and-true (all (is_component f) (c ∷ cs)) (leb (length (c ++ joined cs)) f.mpl) a.1 in
    let d = and-true (is_component f c) (all (is_component f) cs) b.0 in
    let e = and-true (leb (length c) f.mcl) (all (λ x. ltb x 256) c) d.0 in
    let n : suc (length cs) ≤ f.mcc = leb-true (suc (length cs)) f.mcc a.0 in
    let m : length c + length (joined cs) ≤ f.mpl = rw length-append at (leb-true (length (c ++ joined cs)) f.mpl b.1) in
    let l : length c ≤ f.mcl = leb-true (length c) f.mcl e.0 in
    record {
      first = record { few = omega arith; bytes = e.1 };
      counted = omega arith;
      rest = rw (le-leb (length cs) (f.mcc - 1) (omega arith), d.1, le-leb (length (joined cs)) (f.mpl - length c) (omega arith));
    }

pub path-make : (f : Figures) (c : Component) (cs : Components) → Begins f c cs → is_path f (c ∷ cs) ≡ true
unfolding is_path is_component all joined
path-make f c cs h =
    let a = and-true (leb (length cs) (f.mcc - 1)) (all (is_component (rest_of f c)) cs && leb (length (joined cs)) (f.mpl - length c)) h.rest in
    let b = and-true (all (is_component (rest_of f c)) cs) (leb (length (joined cs)) (f.mpl - length c)) a.1 in
    let n : length cs ≤ f.mcc - 1 = leb-true (length cs) (f.mcc - 1) a.0 in
    let m : length (joined cs) ≤ f.mpl - length c = leb-true (length (joined cs)) (f.mpl - length c) b.1 in
    rw (
      le-leb (suc (length cs)) f.mcc (omega arith),
      le-leb (length c) f.mcl (omega arith),
      h.first.bytes,
      b.0,
      le-leb (length (c ++ joined cs)) f.mpl (simp length-append (omega arith)),
    )

pub path-none : (f : Figures) → is_path f [] ≡ true
unfolding is_path all joined
path-none f = rw (le-leb 0 f.mcc (omega arith), le-leb 0 f.mpl (omega arith))

past-least : (f : Figures) (cs : Components) → is_path f cs ≡ true
    → Least by_components (Past same_component by_bytes (λ x. is_path f x ≡ true) cs) (above_in f.mcl f.mpl cs)
unfolding above_in
past-least f [] h = past-none same_component by_bytes (λ x. is_path f x ≡ true)
past-least f (c ∷ cs) h =
    let k = path-view f c cs h in
    past-step same_component component-equality by_bytes bytes-linear c cs (λ x. is_path f x ≡ true) (λ x. is_path (rest_of f c) x ≡ true) (Short (min f.mcl f.mpl))
    (λ t l. path-make f c t (record { first = k.first; counted = k.counted; rest = l }))
    (λ t l. (path-view f c t l).rest)
    (λ b l. path-make f b [] (record { first = l; counted = k.counted; rest = path-none (rest_of f b) }))
    (λ b t l. (path-view f b t l).first)
    (above_in f.mcl (f.mpl - length c) cs) (raised (min f.mcl f.mpl) c)
    (past-least (rest_of f c) cs k.rest) (raised-least (min f.mcl f.mpl) c k.first)

pub above-least : (f : Figures) (cs : Components) → is_path f cs ≡ true → LeastAbove f cs (above f cs)
unfolding above
above-least f cs h =
    least-same by_components (Past same_component by_bytes (λ x. is_path f x ≡ true) cs) (Beyond f cs)
    (λ x p. record { legal = p.kind; above = p.above; not_prefixed = p.apart })
    (λ x p. record { kind = p.legal; above = p.above; apart = p.not_prefixed })
    (above_in f.mcl f.mpl cs) (past-least f cs h)

-- A path that a path prefixes stands from it on and before the least one beyond it; and what stands there, it prefixes.
module _ (f : Figures) (cs x : Components) (h : is_path f x ≡ true) where
  before-beyond : (q : Components) → is_prefix cs x ≡ true → Beyond f cs q → by_components x q ≡ less
  before-beyond q p b = three (by_components x q) (λ e. e) (λ e. between λ l. less-same l e) (λ e. between λ l. less-greater l e)
    where
      between : (by_components x q ≡ less → ⊥) → by_components x q ≡ less
      between n = clash
          (extensions-between cs q x p (λ l. less-greater l (less-is-greater by_components path-linear cs q b.above)) n)
          b.not_prefixed

  pub above-splits : is_path f cs ≡ true → is_prefix cs x ≡ includes by_components cs (end_of (above f cs)) x
  above-splits g =
      least-includes by_components path-linear cs x (Beyond f cs) (is_prefix cs x)
      (λ q. subst (λ (y : Components). is_prefix cs y ≡ true) q (prefix_refl same_component component-equality cs))
      (extensions-after cs x)
      before-beyond
      (λ e p. record { legal = h; above = e; not_prefixed = p })
      (above f cs) (above-least f cs g)
