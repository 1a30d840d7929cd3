-- `has_entry` meets its contract: by the key, then by the rank. Assumes nothing.
use Prim.Native.Nat.{ℕ, ◌≤◌}
use native.Mathlib.Omega.{arith}
use lib.ListN.{take, length-replicate}
use lib.Seq.{length-take-le}
use Rattle.laws.specs.Order.{is_same}
use Rattle.laws.specs.Sorted.{any}
use Rattle.layout.specs.Layout.{records, record_at}
use Rattle.data_model.specs.Path.{field}
use Rattle.data_model.specs.Entry.{entry_of, rank_of, by_rank}
use Rattle.keys.specs.Encode.{key_most}
use Rattle.key_laws.specs.KeyOrder.{Sized}
use Rattle.tree.specs.Stored.{key_in, contents, triple_of}
use Rattle.tree.specs.Matching.{repeats}
use Rattle.tree.specs.Address.{rank_at}
use Rattle.tree.proofs.FormedLaws.{ordered-searchable}
use Rattle.tree.proofs.RecordParts.{key_fits}
use Rattle.tree.proofs.WithinLaws.{written-front}
use Rattle.tree.proofs.RepeatLaws.{repeats-none, repeats-readable, repeats-rank}
use borrow.Author.Rules.{rules}
use mathlib.Core.Path.{◌≡◌, refl, sym, ap}
use mathlib.Core.Bool.{Bool, true, false}
use Rattle.data_model.proofs.Answers.{ranked-same}
use Rattle.tree.proofs.RankLaws.{not-same}
use Rattle.tree.proofs.stored.Tree.has_entry.Goals as goal
use Rattle.tree.proofs.stored.Tree.has_entry.Goals.{Start, After-encode_key-n, After-compare_with}

-- The key is no longer than the most that one is.
long : (c : After-encode_key-n) → c.encode_key-n.result ≤ key_most field
long c =
    omega (arith, c.encode_key-n.ensures.0, key_fits c.args.self.order field c.args.e.subspace_id c.args.e.path c.args.e.timestamp c.requires.1)

pub slice_bounds-key-end : goal.slice_bounds-key-end
slice_bounds-key-end c = omega (arith, long (goal.at.slice_bounds-key-end c).After-encode_key-n)

pub slice_bounds-find-end : goal.slice_bounds-find-end
slice_bounds-find-end c =
    let g = c.encode_key-n in
    sym (length-take-le g.result g.new.out (omega (arith, long (goal.at.slice_bounds-find-end c).After-encode_key-n, g.auto.out, length-replicate {A = ℕ} (key_most field) 0)))

pub find-requires : goal.find-requires
find-requires c = ordered-searchable c.requires.0

sized : (c : Start) → Sized (triple_of (entry_of c.args.e))
unfolding triple_of entry_of rank_of
sized c = record { high = search rules; low = search rules; time = search rules }

key : (c : After-encode_key-n) → take c.encode_key-n.result c.encode_key-n.new.out ≡ key_in c.args.self.order (triple_of (entry_of c.args.e))
unfolding triple_of entry_of rank_of
key c = let g = c.encode_key-n in written-front _ _ _ _ g.ensures.0 g.ensures.1

pub compare_with-requires : goal.compare_with-requires
compare_with-requires c =
    let f = c.in-Ok in
    repeats-readable c.requires.0 c.args.self.fits c.args.e (sized (goal.at.compare_with-requires c).Start) _ (key (goal.at.compare_with-requires c).After-encode_key-n) f.at f.ensures.at true f.ensures.found refl

-- Where the key is there: by the ranks.
by_rank_lem : (c : After-compare_with) → Sized (triple_of (entry_of c.args.e)) → take c.encode_key-n.result c.encode_key-n.new.out ≡ key_in c.args.self.order (triple_of (entry_of c.args.e))
    → (g : Bool) → is_same (by_rank (rank_at c.args.self.order (record_at c.in-Ok.at c.args.self.dir.now c.args.self.bytes.now)) (rank_of c.args.e)) ≡ g
    → g ≡ any (repeats (entry_of c.args.e)) (contents c.args.self.order field c.args.e.namespace_id (records c.args.self.count c.args.self.dir.now c.args.self.bytes.now))
by_rank_lem c s k g q =
    let f = c.in-Ok in
    repeats-rank c.requires.0 c.args.self.fits c.args.e s _ k f.at f.ensures.at true f.ensures.found refl g q

pub returns-in-Same : goal.returns-in-Same
unfolding is_same
returns-in-Same c =
    let a = goal.at.returns-in-Same c in
    by_rank_lem a.After-compare_with (sized a.Start) (key a.After-encode_key-n) true (ap is_same (ranked-same _ _ c.compare_with.ensures c.in-Same.is))

pub returns-in_default : goal.returns-in_default
returns-in_default c =
    let a = goal.at.returns-in_default c in
    by_rank_lem a.After-compare_with (sized a.Start) (key a.After-encode_key-n) false (not-same _ _ c.compare_with.ensures c.in_default.not-Same)

pub returns-in-Err : goal.returns-in-Err
returns-in-Err c =
    let a = goal.at.returns-in-Err c in
    let f = c.in-Err in
    repeats-none c.requires.0 c.args.self.fits c.args.e (sized a.Start) _ (key a.After-encode_key-n) f.field-0 f.ensures.at false f.ensures.found refl
