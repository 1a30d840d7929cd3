-- An origin, its kind and its session number: each says the other. Assumes nothing.
use Prim.Native.Nat.{ℕ}
use mathlib.Core.Path.{◌≡◌, refl, sym, ap, ◌∙◌}
use mathlib.Core.Bool.{true}
use lib.Dec.{eqb}
use borrow.Author.Tests.{eqb-true}
use Rattle.laws.specs.Prefix.{Equality, same_number}
use Rattle.laws.proofs.Truth.{split, and-true}
use Rattle.laws.proofs.Prefix.{number-equality}
use Rattle.data_model.specs.Origin.{origin_kind, origin_session, is_origin, origin_of, same_origin}
use Rattle.data_model.specs.declared.entry_origin.EntryOrigin.{EntryOrigin}
use Rattle.data_model.specs.declared.entry_origin.EntryOrigin.TheVariants.{Local, Remote}

-- Kind and session number of an origin are those of one, and say it.
pub origin-is : (o : EntryOrigin) → is_origin (origin_kind o) (origin_session o) ≡ true
unfolding is_origin origin_kind origin_session
origin-is Local = refl
origin-is (Remote n) = refl

pub origin-back : (o : EntryOrigin) → origin_of (origin_kind o) (origin_session o) ≡ o
unfolding origin_of origin_kind origin_session
origin-back Local = refl
origin-back (Remote n) = refl

-- What kind and session number say has them, where they are those of an origin.
pub origin-forth : (k n : ℕ) → is_origin k n ≡ true → (origin_kind (origin_of k n) ≡ k) × (origin_session (origin_of k n) ≡ n)
unfolding is_origin origin_of origin_kind origin_session
origin-forth k n is = split (eqb k 0)
    (λ e. let z : eqb n 0 ≡ true = simp e at is in rw e (sym (eqb-true k 0 e), sym (eqb-true n 0 z)))
    (λ e. let z : eqb k 1 ≡ true = simp e at is in rw e (sym (eqb-true k 1 z), refl))

pub origin-equality : Equality EntryOrigin same_origin
unfolding same_origin
origin-equality = record {
  self = λ a. cc (number-equality.self (origin_kind a), number-equality.self (origin_session a));
  equal = λ a b e.
      let k = and-true (same_number (origin_kind a) (origin_kind b)) (same_number (origin_session a) (origin_session b)) e in
      let p = number-equality.equal (origin_kind a) (origin_kind b) k.0 in
      let q = number-equality.equal (origin_session a) (origin_session b) k.1 in
      sym (origin-back a) ∙ ap (λ (n : ℕ). origin_of n (origin_session a)) p ∙ ap (origin_of (origin_kind b)) q ∙ origin-back b;
}
