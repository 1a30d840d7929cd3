-- Laws of entries: `newer` is a strict order, total up to equal ranks; what each case of their comparison says by it; `covers` is reflexive and transitive; `prunes` is a strict order.
-- Assumes nothing.
use mathlib.Core.Path.{◌≡◌, refl, sym, ap, ◌∙◌}
use mathlib.Core.Logic.{◌↔◌}
use mathlib.Core.Bool.{true, false, ◌&&◌}
use Rattle.laws.specs.Order.{Order, less, same, greater, flip, is_less, is_greater, below}
use Rattle.laws.specs.Prefix.{same_number, same_list}
use Rattle.laws.proofs.Truth.{split, clash, refute, and-true}
use Rattle.laws.proofs.Order.{is-less, is_greater_lem, below-strict, below_total}
use Rattle.laws.proofs.Prefix.{prefix_refl, prefix_trans}
use Rattle.data_model.specs.Path.{same_component, is_prefix}
use Rattle.data_model.specs.Subspace.{same_subspace}
use Rattle.data_model.specs.Entry.{Entry, by_rank, newer, covers, prunes}
use Rattle.data_model.specs.Refusal.{recency_says}
use Rattle.data_model.specs.declared.answer.Recency.TheVariants as recency
use Rattle.data_model.proofs.Orders.{component-equality, subspace-equality, rank-linear}

-- Newer: greater in rank, which is timestamp, digest and length.
pub newer-below : (a b : Entry) → newer a b ≡ below by_rank b.rank a.rank
unfolding newer below
newer-below a b = go (by_rank a.rank b.rank) ∙ sym (ap is_less (rank-linear.flips a.rank b.rank))
  where
    go : (o : Order) → is_greater o ≡ is_less (flip o)
    go less = unfold is_greater is_less flip in refl
    go same = unfold is_greater is_less flip in refl
    go greater = unfold is_greater is_less flip in refl

pub newer-irrefl : (a : Entry) → newer a a ≡ false
newer-irrefl a = newer-below a a ∙ (below-strict by_rank rank-linear).irrefl a.rank

pub newer-trans : (a b c : Entry) → newer a b ≡ true → newer b c ≡ true → newer a c ≡ true
newer-trans a b c e f =
    newer-below a c ∙ (below-strict by_rank rank-linear).trans c.rank b.rank a.rank (sym (newer-below b c) ∙ f) (sym (newer-below a b) ∙ e)

pub newer-asym : (a b : Entry) → newer a b ≡ true → newer b a ≡ false
newer-asym a b e = refute _ λ f. clash (newer-trans a b a e f) (newer-irrefl a)

pub newer-total : (a b : Entry) → newer a b ≡ false → newer b a ≡ false → a.rank ≡ b.rank
newer-total a b e f = below_total by_rank rank-linear a.rank b.rank (sym (newer-below b a) ∙ f) (sym (newer-below a b) ∙ e)

pub newer-tied : (a b : Entry) → a.rank ≡ b.rank → newer a b ≡ false
unfolding newer
newer-tied a b q = ap (λ r. is_greater (by_rank a.rank r)) (sym q) ∙ newer-irrefl a

-- Neither is newer exactly if timestamp, digest and length all agree.
pub newer-neither : (a b : Entry) → ((newer a b ≡ false) × (newer b a ≡ false)) ↔ (a.rank ≡ b.rank)
newer-neither a b = (λ h. newer-total a b h.0 h.1, λ q. (newer-tied a b q, newer-tied b a (sym q)))

-- What each case of the comparison of two entries says: the first is newer; the second is; they agree in timestamp, digest and length.
pub compared-newer : (a b : Entry) → (by_rank a.rank b.rank ≡ recency_says recency.Newer) ↔ (newer a b ≡ true)
unfolding newer is_greater
compared-newer a b = (λ e. rw e refl, λ e. is_greater_lem _ e)

pub compared-older : (a b : Entry) → (by_rank a.rank b.rank ≡ recency_says recency.Older) ↔ (newer b a ≡ true)
unfolding below is_less
compared-older a b = (λ e. newer-below b a ∙ rw e refl, λ e. is-less _ (sym (newer-below b a) ∙ e))

pub compared_same : (a b : Entry) → (by_rank a.rank b.rank ≡ recency_says recency.Same) ↔ (a.rank ≡ b.rank)
compared_same a b = (λ e. rank-linear.equal a.rank b.rank e, λ q. ap (by_rank a.rank) (sym q) ∙ rank-linear.self a.rank)

-- The first is at least as new as the second, which is newer than the third.
pub newer-weak : (a b c : Entry) → newer b a ≡ false → newer b c ≡ true → newer a c ≡ true
unfolding newer
newer-weak a b c e f = split (newer a b)
    (λ g. newer-trans a b c g f)
    (λ g. ap (λ r. is_greater (by_rank r c.rank)) (newer-total a b g e) ∙ f)

-- Covers.
pub record Covers (a b : Entry) : Type 0 where
  pub namespace : a.namespace ≡ b.namespace
  pub subspace : a.subspace ≡ b.subspace
  pub path : is_prefix a.path b.path ≡ true

pub covers_view : (a b : Entry) → covers a b ≡ true → Covers a b
unfolding covers
covers_view a b e =
    let k = and-true (same_list same_number a.namespace b.namespace) (same_subspace a.subspace b.subspace && is_prefix a.path b.path) e in
    let m = and-true (same_subspace a.subspace b.subspace) (is_prefix a.path b.path) k.1 in
    record {
      namespace = component-equality.equal a.namespace b.namespace k.0;
      subspace = subspace-equality.equal a.subspace b.subspace m.0;
      path = m.1;
    }

pub covers-make : (a b : Entry) → Covers a b → covers a b ≡ true
unfolding covers
covers-make a b h = cc (component-equality.self a.namespace, subspace-equality.self a.subspace)

pub covers-refl : (a : Entry) → covers a a ≡ true
covers-refl a = covers-make a a (record { namespace = refl; subspace = refl; path = prefix_refl same_component component-equality a.path })

pub covers-trans : (a b c : Entry) → covers a b ≡ true → covers b c ≡ true → covers a c ≡ true
covers-trans a b c e f =
    let k = covers_view a b e in
    let m = covers_view b c f in
    covers-make a c (record {
      namespace = k.namespace ∙ m.namespace;
      subspace = k.subspace ∙ m.subspace;
      path = prefix_trans same_component component-equality a.path b.path c.path k.path m.path;
    })

-- Prunes: covers, and is newer; also one conclusion at a time, for `search`.
pub prunes-view : (a b : Entry) → prunes a b ≡ true → (covers a b ≡ true) × (newer a b ≡ true)
unfolding prunes
prunes-view a b e = and-true (covers a b) (newer a b) e

pub prunes-covers : (a b : Entry) → prunes a b ≡ true → covers a b ≡ true
prunes-covers a b e = (prunes-view a b e).0

pub prunes-newer : (a b : Entry) → prunes a b ≡ true → newer a b ≡ true
prunes-newer a b e = (prunes-view a b e).1

pub prunes-make : (a b : Entry) → covers a b ≡ true → newer a b ≡ true → prunes a b ≡ true
unfolding prunes
prunes-make a b e f = cc

pub prunes-irrefl : (a : Entry) → prunes a a ≡ false
prunes-irrefl a = refute _ λ e. clash (prunes-newer a a e) (newer-irrefl a)

pub prunes-trans : (a b c : Entry) → prunes a b ≡ true → prunes b c ≡ true → prunes a c ≡ true
prunes-trans a b c e f = search (prunes-make, covers-trans, newer-trans, prunes-covers, prunes-newer)

pub ruleset entries = (prunes-covers, prunes-newer, prunes-make, covers-trans, newer-trans, newer-weak, newer-asym, newer-irrefl, prunes-irrefl)
