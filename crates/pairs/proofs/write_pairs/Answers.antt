-- `write_pairs` meets its contract. Assumes nothing.
use Rattle.std.proofs.Common.{rules, List, set, suc, ◌+◌, ◌≡◌, ℕ, length, ap, refl, arith, sym, ◌∙◌}
use Rattle.pairs.specs.declared.Pair.{Pair}
use Rattle.pairs.proofs.PairLaws.{pairs_into, pair_at, into-put}
use Rattle.pairs.proofs.write_pairs.Goals as goal

pub loop-k-init : goal.loop-k-init
unfolding pairs_into
loop-k-init c = (omega arith, refl)

pub loop-k-preserved : goal.loop-k-preserved
unfolding pairs_into
loop-k-preserved c =
    let e : c.loop-k.k + 1 ≡ suc c.loop-k.k = omega arith in (
      omega arith,
      ap (λ (l : List Pair). set l c.loop-k.k (pair_at c.args.numbers c.loop-k.k)) c.loop-k.invariant.1
          ∙ sym (ap (λ (k : ℕ). pairs_into c.args.numbers c.args.pairs.now k) e),
    )

pub returns : goal.returns
returns c =
    let e : c.loop-k.k ≡ c.args.n = omega arith in
    let m : length c.args.numbers ≡ 2048 = search rules in
    c.loop-k.invariant.1
    ∙ ap (λ (k : ℕ). pairs_into c.args.numbers c.args.pairs.now k) e
    ∙ into-put c.args.numbers c.args.pairs.now c.args.n (omega arith) c.requires.1
