-- `write_path` meets its contract: the first component, and those behind it. Assumes nothing.
use native.Mathlib.Omega.{arith}
use Prim.Native.Nat.{ℕ, ◌≤◌, ◌*◌, ◌+◌, ◌-◌}
use mathlib.Core.Path.{◌≡◌, sym, ap, ◌∙◌}
use mathlib.Core.List.{List, [], ◌∷◌}
use native.Mathlib.Nat.{le_refl}
use lib.ListN.{length, take, get_or}
use lib.Seq.{length-take-le}
use Rattle.laws.specs.Lists.{put, piece}
use Rattle.laws.proofs.Lists.{put-sets, wrote-first, wrote-last}
use Rattle.data_model.specs.Path.{field, components, cut}
use Rattle.data_model.specs.declared.path.Path.{Path}
use Rattle.data_model.proofs.Values.{legal-count, length-piece}
use Rattle.text.specs.PathText.{component_text, behind_text, path_text}
use borrow.Rule.Slice.PartMut.{put_mid, mid_of}
use Rattle.text.proofs.Lists.{put-fits}
use Rattle.text.proofs.PathLaws.{component-most, path-none, path-some, first-low, behind-legal}
use borrow.Author.Rules.{rules}
use Rattle.text.proofs.path_text.write_path.Goals as goal
use Rattle.text.proofs.path_text.write_path.Goals.{After-write_behind, Else-p-eq0}

-- How long the two lists are, and that the first end is within the bytes.
record Sizes (p : Path) : Type 0 where
  bytes : length p.bytes ≡ 128
  ends : length p.ends ≡ 8
  low : get_or p.ends 0 0 ≤ 128

sizes : (c : Else-p-eq0) → Sizes c.args.p
sizes c =
    let e : length c.args.p.ends ≡ 8 = search rules in
    record { bytes = search rules; ends = e; low = first-low c.args.p c.requires.0 (omega arith) e }

-- The first component is written: how long it is.
first : (p : Path) (r : ℕ) → Sizes p → r ≡ length (component_text (take (get_or p.ends 0 0) p.bytes)) → r ≤ 2 * get_or p.ends 0 0 + 1
first p r z e = omega (arith, component-most (take (get_or p.ends 0 0) p.bytes), length-take-le (get_or p.ends 0 0) p.bytes (omega arith))

fits : (c : After-write_behind) → Sizes c.args.p → c.write_component-at.result + c.write_behind.result ≤ length c.write_component-at.new.out
fits c z =
    let w = c.write_component-at in
    let b = c.write_behind in
    let o = w.new.out in
    let m = mid_of w.result (length o - w.result) o in
    let s : length b.new.out ≡ length m = search rules in
    let r : length o ≡ length c.args.out.now = search rules in
    omega (arith, put-fits _ m _ b.ensures.1 s, b.ensures.0, length-piece w.result (length o) o (le_refl (length o)), first c.args.p w.result z w.ensures.0, z.low, c.requires.1)

-- Both are written.
wrote : (c : After-write_behind) → Sizes c.args.p → let w = c.write_component-at in let b = c.write_behind in let p = c.args.p in
    (w.result + b.result ≡ length (path_text (components p)))
    × (put_mid w.result (length w.new.out - w.result) w.new.out b.new.out ≡ put (path_text (components p)) c.args.out.now)
wrote c z =
    let w = c.write_component-at in
    let b = c.write_behind in
    let p = c.args.p in
    let e = path-some p c.requires.0 (omega arith) z.ends in
    let d = wrote-first (component_text (take (get_or p.ends 0 0) p.bytes)) (behind_text (cut p.bytes (get_or p.ends 0 0) (piece 1 p.count p.ends))) c.args.out.now w.new.out w.result
    (omega (arith, first p w.result z w.ensures.0, z.low, c.requires.1)) w.ensures.0 w.ensures.1 in
    let r = wrote-last _ _ _ w.new.out _ w.result b.result d (fits c z) b.ensures.0 b.ensures.1 in
    (r.0 ∙ ap length (sym e), r.1 ∙ ap (λ (x : List ℕ). put x c.args.out.now) (sym e))

pub returns-then-p-eq0 : goal.returns-then-p-eq0
returns-then-p-eq0 c =
    let e = path-none c.args.p c.if-p-eq0.true in
    (sym (ap length e), put-sets (45 ∷ []) c.args.out.now (omega (arith, c.requires.1)) ∙ ap (λ (x : List ℕ). put x c.args.out.now) (sym e))

pub shared_ref_as_front-write_component : goal.shared_ref_as_front-write_component
shared_ref_as_front-write_component c = let z = sizes (goal.at.shared_ref_as_front-write_component c).Else-p-eq0 in omega (arith, z.bytes, z.low)

pub slice_bounds-write_component-end : goal.slice_bounds-write_component-end
slice_bounds-write_component-end c =
    let z = sizes (goal.at.slice_bounds-write_component-end c).Else-p-eq0 in
    sym (length-take-le (get_or c.args.p.ends 0 0) c.args.p.bytes (omega (arith, z.low, z.bytes)))

pub write_component-at-requires : goal.write_component-at-requires
write_component-at-requires c =
    let z = sizes (goal.at.write_component-at-requires c).Else-p-eq0 in
    omega (arith, z.low, length-take-le (get_or c.args.p.ends 0 0) c.args.p.bytes (omega (arith, z.low, z.bytes)), c.requires.1)

pub slice_bounds-write_behind-end-2 : goal.slice_bounds-write_behind-end-2
slice_bounds-write_behind-end-2 c =
    let z = sizes (goal.at.slice_bounds-write_behind-end-2 c).Else-p-eq0 in
    omega (arith, z.ends, legal-count field c.args.p c.requires.0)

pub slice_bounds-write_behind-count-2 : goal.slice_bounds-write_behind-count-2
slice_bounds-write_behind-count-2 c =
    let z = sizes (goal.at.slice_bounds-write_behind-count-2 c).Else-p-eq0 in
    let w = c.write_component-at in
    let r : length w.new.out ≡ length c.args.out.now = search rules in
    omega (arith, first c.args.p w.result z w.ensures.0, z.low, c.requires.1)

pub slice_bounds-write_behind-start-2 : goal.slice_bounds-write_behind-start-2
slice_bounds-write_behind-start-2 c =
    let z = sizes (goal.at.slice_bounds-write_behind-start-2 c).Else-p-eq0 in
    let w = c.write_component-at in
    let r : length w.new.out ≡ length c.args.out.now = search rules in
    omega (arith, first c.args.p w.result z w.ensures.0, z.low, c.requires.1)

pub write_behind-requires : goal.write_behind-requires
write_behind-requires c =
    let z = sizes (goal.at.write_behind-requires c).Else-p-eq0 in
    let p = c.args.p in
    let w = c.write_component-at in
    let r : length w.new.out ≡ length c.args.out.now = search rules in
    let k = legal-count field p c.requires.0 in (
      behind-legal p c.requires.0 (omega arith) z.ends z.bytes,
      omega (
        arith,
        first p w.result z w.ensures.0,
        z.low,
        z.bytes,
        z.ends,
        k,
        c.requires.1,
        length-piece 1 p.count p.ends (omega (arith, z.ends, k)),
        length-piece w.result (length w.new.out) w.new.out (le_refl (length w.new.out)),
      ),
    )

pub overflow_add-result : goal.overflow_add-result
overflow_add-result c =
    let z = sizes (goal.at.overflow_add-result c).Else-p-eq0 in
    let b = (goal.at.overflow_add-result c).After-write_behind in
    omega (arith, (wrote b z).0, fits b z)

pub returns : goal.returns
returns c = wrote (goal.at.returns c).After-write_behind (sizes (goal.at.returns c).Else-p-eq0)
