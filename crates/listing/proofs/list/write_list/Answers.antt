-- `write_list` meets its contract: the first line, then a line each turn, as many as were counted. The invariant: the records left, walked from the remembered key, are to be written. Assumes nothing.
use native.Mathlib.Omega.{arith}
use native.Mathlib.Nat.{le_refl}
use Prim.Native.Nat.{ℕ, ◌-◌, ◌+◌}
use mathlib.Core.Path.{◌≡◌, refl, ap, subst, ◌∙◌}
use lib.ListN.{length}
use borrow.Rule.Slice.PartMut.{put_mid}
use Rattle.data_model.specs.Path.{field}
use Rattle.data_model.proofs.Values.{length-piece}
use Rattle.tree.specs.declared.stored.KeyOrder.TheVariants.{Spt}
use Rattle.store.specs.Lent.{lent}
use Rattle.store.specs.Store.{Store, held}
use Rattle.query.specs.Count.{Counted, count_told}
use Rattle.listing.specs.Say.{numbered}
use Rattle.laws.specs.Lists.{put}
use mathlib.Core.List.{[]}
use Rattle.listing.specs.List.{list_word, list_text}
use Rattle.listing.proofs.ListLaws.{Listing, count_or, unset, few-counted, listing_start, listing-given, listing-turn, listing-end, listing-whole}
use borrow.Author.Rules.{rules}
use Rattle.listing.proofs.list.write_list.Goals as goal
use Rattle.listing.proofs.list.write_list.Goals.{Start, After-write_numbered-at}

abbrev given : (c : Start) → Store
given c = lent c.args.store

abbrev told : (c : After-write_numbered-at) → Counted
told c = count_told c.count_area.result

-- The number of turns is what was counted.
counted : (c : After-write_numbered-at) → c.unwrap_or-count.result ≡ (told c).count
counted c = c.unwrap_or-count.ensures ∙ count_or c.count_area.result

pub loop-init : goal.loop-init
loop-init c =
    let s = given (goal.at.loop-init c).Start in
    let w = told (goal.at.loop-init c).After-write_numbered-at in
    let k = counted (goal.at.loop-init c).After-write_numbered-at in
    let area = c.everything-area in
    let ignore = c.default-ignore in
    let z = c.requires.0 in
    let f = c.write_numbered-at in
    let old = c.args.out.now in
    let one : length f.new.out ≡ length old = search rules in
    let few = few-counted s area.result ignore.result area.ensures (unset ignore.result ignore.ensures) w c.count_area.ensures z in
    let all : w.count ≡ c.unwrap_or-count.result - 0 = omega (arith, k) in (
      omega (arith, one, k, few.0, f.ensures.1, c.requires.1),
      omega (arith, k, few.1, f.ensures.1),
      refl,
      subst (λ (n : ℕ). Listing s area.result ignore.result (list_text (held field Spt s)) f.new.out f.new.out [] f.result n) all
          (listing_start s area.result ignore.result area.ensures (unset ignore.result ignore.ensures) w c.count_area.ensures z old f.new.out f.result (omega (arith, f.ensures.1, c.requires.1))
          (f.ensures.0 ∙ ap (λ (n : ℕ). length (numbered list_word n)) k) (f.ensures.2 ∙ ap (λ (n : ℕ). put (numbered list_word n) old) k)),
    )

pub slice_bounds-write_line-count : goal.slice_bounds-write_line-count
slice_bounds-write_line-count c = omega (arith, c.loop.invariant.0)

pub slice_bounds-write_line-start : goal.slice_bounds-write_line-start
slice_bounds-write_line-start c = omega (arith, c.loop.invariant.0)

pub write_line-at-requires : goal.write_line-at-requires
write_line-at-requires c =
    let s = given (goal.at.write_line-at-requires c).Start in
    let l = c.loop in
    let t = c.loop-test.true in
    let h = listing-given s c.everything-area.result c.default-ignore.result (list_text (held field Spt s)) c.write_numbered-at.new.out l.out l.last.now l.at (c.unwrap_or-count.result - l.counter) l.invariant.3 (omega (arith, t)) c.args.store.spt_fits _ c.query_area-rec.ensures.result_value in
    (h, omega (arith, t, l.invariant.0, length-piece l.at (length l.out) l.out (le_refl (length l.out))))

pub overflow_add-at : goal.overflow_add-at
overflow_add-at c = omega (arith, c.loop.invariant.1, c.loop-test.true, c.write_line-at.ensures.1)

pub loop-preserved : goal.loop-preserved
loop-preserved c =
    let s = given (goal.at.loop-preserved c).Start in
    let area = c.everything-area.result in
    let ignore = c.default-ignore.result in
    let whole = list_text (held field Spt s) in
    let old = c.write_numbered-at.new.out in
    let l = c.loop in
    let left = c.unwrap_or-count.result - l.counter in
    let t = c.loop-test.true in
    let g = c.write_line-at in
    let fewer : left - 1 ≡ c.unwrap_or-count.result - (l.counter + 1) = omega arith in
    let n = listing-turn s area ignore whole old l.out l.last.now l.at left l.invariant.3 l.invariant.0 (omega (arith, t)) _ c.query_area-rec.ensures.result_value g.result g.new.out g.ensures.0 g.ensures.1 g.ensures.2 c.record_key-last.result.now c.record_key-last.ensures.result_value in (
      omega (arith, n.wrote.size, l.invariant.2, l.invariant.0, g.ensures.1, t),
      omega (arith, l.invariant.1, g.ensures.1, t),
      n.wrote.size,
      subst (λ (m : ℕ). Listing s area ignore whole old (put_mid l.at (length l.out - l.at) l.out g.new.out) c.record_key-last.result.now (l.at + g.result) m) fewer n,
    )

pub shape_of-out : goal.shape_of-out
shape_of-out c =
    let one : length c.write_numbered-at.new.out ≡ length c.args.out.now = search rules in
    c.loop.invariant.2 ∙ one

pub returns : goal.returns
returns c =
    let s = given (goal.at.returns c).Start in
    let k = counted (goal.at.returns c).After-write_numbered-at in
    let area = c.everything-area in
    let ignore = c.default-ignore in
    let f = c.write_numbered-at in
    let old = c.args.out.now in
    let one : length f.new.out ≡ length old = search rules in
    let l = c.loop in
    let e = listing-end s area.result ignore.result (list_text (held field Spt s)) f.new.out l.out l.last.now l.at (c.unwrap_or-count.result - l.counter) l.invariant.3 (omega (arith, c.loop-test.false)) in (
      e.0,
      omega (arith, e.1, one),
      listing-whole s area.result ignore.result area.ensures (unset ignore.result ignore.ensures) (told (goal.at.returns c).After-write_numbered-at) c.count_area.ensures c.requires.0 old f.new.out f.result (omega (arith, f.ensures.1, c.requires.1))
          (f.ensures.0 ∙ ap (λ (n : ℕ). length (numbered list_word n)) k) (f.ensures.2 ∙ ap (λ (n : ℕ). put (numbered list_word n) old) k) l.out e.2,
    )
