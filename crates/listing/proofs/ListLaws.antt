-- The list of a store as it is written: all records match, and as many as were counted; a line more at each turn. Assumes nothing.
use Prim.Native.Nat.{ℕ, ◌+◌, ◌-◌, ◌*◌, ◌≤◌, ◌<◌}
use mathlib.Core.Path.{◌≡◌, refl, sym, ap, subst, ◌∙◌, ap₂}
use mathlib.Core.List.{List, [], ◌∷◌, ◌++◌, append_assoc}
use mathlib.Core.Bool.{Bool, true, false}
use mathlib.Core.Option.{some}
use native.Mathlib.Omega.{arith}
use lib.ListN.{length, drop, length-append}
use lib.Seq.{drop_at, drop-drop}
use lib.Dec.{eqb, ltb}
use borrow.Author.Tests.{eqb-true, le-ltb}
use borrow.Rule.Slice.PartMut.{put_mid, mid_of}
use Rattle.laws.specs.Lists.{put}
use Rattle.laws.specs.Order.{by_number, is_less}
use Rattle.laws.specs.Prefix.{prefix_of}
use Rattle.laws.specs.Sorted.{all, keep}
use Rattle.laws.proofs.Truth.{split}
use Rattle.laws.proofs.Lists.{Wrote, wrote-first, wrote-lent, wrote-length, wrote-all}
use Rattle.data_model.specs.Ignore.{no_flags}
use Rattle.data_model.specs.Said.{says}
use Rattle.data_model.specs.Path.{field, legal, joined, is_path, path_of}
use Rattle.data_model.specs.Range.{times_include, includes, before_end, end_says}
use Rattle.data_model.specs.Area.{area_subspace, area_includes}
use Rattle.data_model.specs.declared.area.Area.{Area}
use Rattle.key_laws.specs.Bytes.{Bytes}
use Rattle.key_laws.proofs.Fits.{legal-of, components-of, bytes_take}
use Rattle.tree.specs.Value.{value_length}
use Rattle.tree.specs.Stored.{Stored, stored_from, stored, contents, key_of}
use Rattle.tree.specs.Matching.{in_area, listed_in_area}
use Rattle.data_model.specs.declared.query_ignore_params.QueryIgnoreParams.{QueryIgnoreParams}
use Rattle.tree.specs.declared.stored.KeyOrder.TheVariants.{Spt}
use Rattle.tree.proofs.FormedContents.{formed-many}
use Rattle.tree.proofs.RecordLaws.{contents-length, record-forth}
use Rattle.tree.proofs.WithinLaws.{formed-recorded}
use Rattle.store.specs.Store.{Store, limit_most, tree_room, tree_of, dir_of, held}
use Rattle.store.specs.Refusal.{store_refusal, unless, ◌or_else◌}
use Rattle.query.specs.Reading.{read_refusal, area_refusal}
use Rattle.query.specs.Listing.{area_listed, part_of, area_part}
use Rattle.query.specs.Count.{Counted, count_told, area_counted}
use Rattle.std.specs.Prelude.{Result, Ok, Err}
use Rattle.std.specs.Result.{result_unwrap_or}
use Rattle.data_model.specs.declared.answer.Refusal.{Refusal}
use Rattle.query.specs.Walk.{Walked, turns_on, matching}
use Rattle.query.proofs.Tested.{read-tested}
use Rattle.tree.proofs.TestLaws.{unflagged-area}
use Rattle.query.proofs.GivenLaws.{answered}
use Rattle.query.proofs.Walked.{area-lists, area-counts}
use Rattle.listing.specs.Input.{newline}
use Rattle.listing.specs.Say.{numbered, entry_text, record_text}
use Rattle.listing.specs.List.{list_word, entry_lines, list_text, entry_line_most, every_entry}

-- A record's line, and those of several.
abbrev pub line_of : List ℕ → List ℕ
line_of r = record_text r ++ newline ∷ []

abbrev pub record_lines : List (List ℕ) → List ℕ
record_lines [] = []
record_lines (r ∷ rs) = line_of r ++ record_lines rs

-- The namespace is not printed.
says-entry : (ns r : List ℕ) → entry_text (stored Spt field ns r).entry ≡ record_text r
unfolding record_text entry_text stored stored_from
says-entry ns r = refl

record-lines : (ns : List ℕ) (rs : List (List ℕ)) → record_lines rs ≡ entry_lines (contents Spt field ns rs)
unfolding entry_lines
record-lines ns [] = refl
record-lines ns (r ∷ rs) =
    append_assoc (record_text r) (newline ∷ []) (record_lines rs)
    ∙ ap (λ (x : List ℕ). x ++ newline ∷ record_lines rs) (sym (says-entry ns r))
    ∙ ap (λ (x : List ℕ). entry_text (stored Spt field ns r).entry ++ newline ∷ x) (record-lines ns rs)

-- The area includes everything.
every-time : (t : ℕ) → times_include every_entry.times t ≡ true
unfolding times_include includes before_end end_says by_number is_less
every-time t = let a = le-ltb t 0 (omega arith) in split (ltb 0 t) (λ q. rw (a, q)) (λ q. rw (a, q))

every_one : (x : Stored) → listed_in_area every_entry no_flags x ≡ true
unfolding in_area area_includes area_subspace prefix_of
every_one x = unflagged-area no_flags refl every_entry x ∙ rw (components-of [], every-time x.entry.rank.timestamp)

keep-every : {A : Type 0} (p : A → Bool) → ((x : A) → p x ≡ true) → (l : List A) → keep p l ≡ l
unfolding keep
keep-every p e [] = refl
keep-every p e (x ∷ l) = let h = keep-every p e l in rw (e x, h)

every-legal : legal field (path_of []) ≡ true
unfolding is_path all joined
every-legal = legal-of field [] refl

or_nothing : (n : ℕ) → (n or_else unless true 4) ≡ n
unfolding ◌or_else◌ unless
or_nothing n = split (eqb n 0) (λ q. rw q (sym (eqb-true n 0 q))) (λ q. rw q)

module _ (s : Store) where
  refusal_is : area_refusal field s every_entry ≡ store_refusal field s true
  unfolding read_refusal
  refusal_is = rw every-legal (or_nothing (store_refusal field s true))

  -- A store that is not refused.
  module _ (z : store_refusal field s true ≡ 0) where
    passes : area_refusal field s every_entry ≡ 0
    passes = refusal_is ∙ z

    abbrev recs : List (List ℕ)
    recs = matching field s (listed_in_area every_entry no_flags)

    all_held : contents Spt field s.state.namespace_id recs ≡ held field Spt s
    all_held = (area-lists s every_entry no_flags passes).entries ∙ keep-every (listed_in_area every_entry no_flags) every_one (held field Spt s)

    walk-all : Walked (λ s last. area_listed field s every_entry no_flags last) [] (turns_on s recs) s
    walk-all = (area-lists s every_entry no_flags passes).walks

    module _ (w : Counted) (e : w ≡ area_counted field s every_entry) where
      count-is : length recs ≡ w.count
      count-is = sym (ap (λ (x : Counted). x.count) e ∙ area-counts s every_entry passes)

      count_held : w.count ≡ length (held field Spt s)
      count_held = sym count-is ∙ sym (contents-length Spt field s.state.namespace_id recs) ∙ ap length all_held

      list-is : numbered list_word w.count ++ record_lines recs ≡ list_text (held field Spt s)
      unfolding list_text
      list-is =
          ap (λ (n : ℕ). numbered list_word n ++ record_lines recs) count_held
          ∙ ap (λ (x : List ℕ). numbered list_word (length (held field Spt s)) ++ x) (record-lines s.state.namespace_id recs ∙ ap entry_lines all_held)

-- What a count answers, and 0 where it is refused.
pub count_or : (r : Result ℕ Refusal) → result_unwrap_or r 0 ≡ (count_told r).count
count_or (Ok n) = refl
count_or (Err e) = refl

-- The two flags of an ignore, both unset.
pub unset : (g : QueryIgnoreParams) → (g.ignore_incomplete_payloads ≡ false) × (g.ignore_empty_payloads ≡ false) → g ≡ no_flags
unset g h = ap₂ flags h.0 h.1
  where
    flags : Bool → Bool → QueryIgnoreParams
    flags a b = record { ignore_incomplete_payloads = a; ignore_empty_payloads = b }

-- How far the list is written: the records left are as many as are still to come, and walked from the remembered key.
pub record Listing (s : Store) (area : Area) (ignore : QueryIgnoreParams) (whole old out last : List ℕ) (at left : ℕ) : Type 0 where
  pub rs : List (List ℕ)
  pub walks : Walked (λ s last. area_listed field s area ignore last) last (turns_on s rs) s
  pub many : length rs ≡ left
  pub wrote : Wrote whole (record_lines rs) old out at

module _ (s : Store) (area : Area) (ignore : QueryIgnoreParams) where
  abbrev Walk : (last : List ℕ) → List (List ℕ) → Type 0
  Walk last rs = Walked (λ s last. area_listed field s area ignore last) last (turns_on s rs) s

  -- The part that is answered is the next record.
  walked_next : (last : List ℕ) (rs : List (List ℕ)) → Walk last rs → 0 < length rs → (r : List ℕ) × (area_listed field s area ignore last ≡ says (some r))
  walked_next last [] w h = absurd (omega arith)
  walked_next last (r ∷ rs) w h = (r, w.0.0)

  -- It is a record, with room for a value.
  given-fits : (last r : List ℕ) → area_listed field s area ignore last ≡ says (some r) → Bytes s.spt → value_length ≤ length r
  unfolding tree_of
  given-fits last r e bytes =
      let k = answered s (legal field area.path) (listed_in_area area ignore) last (some r) e in
      let f = formed-recorded (k.0.formed Spt) (bytes_take (tree_room field s.state.limit) s.spt bytes) r k.2.among in
      let v = record-forth Spt field s.state.namespace_id r f.0 f.1 in
      let n = v.least in
      omega arith

  module _ (whole old out last : List ℕ) (at left : ℕ) where
    -- As long as some are left, the part is one of them.
    pub listing-given : Listing s area ignore whole old out last at left → 0 < left → Bytes s.spt → (rec : List ℕ) → rec ≡ area_part field s area ignore last
        → value_length ≤ length rec
    listing-given g h bytes rec er =
        let n = walked_next last g.rs g.walks (omega (arith, g.many)) in
        let e : rec ≡ n.0 = er ∙ ap part_of n.1 in
        subst (λ (r : List ℕ). value_length ≤ length r) (sym e) (given-fits last n.0 n.1 bytes)

    turn : (rs : List (List ℕ)) → Walk last rs → length rs ≡ left → Wrote whole (record_lines rs) old out at → at + entry_line_most * left ≤ length out → 0 < left
        → (rec : List ℕ) → rec ≡ area_part field s area ignore last → (n : ℕ) (end : List ℕ) → n ≡ length (line_of rec) → n ≤ entry_line_most
        → end ≡ put (line_of rec) (mid_of at (length out - at) out) → (next : List ℕ) → next ≡ key_of rec → Listing s area ignore whole old (put_mid at (length out - at) out end) next (at + n) (left - 1)
    turn [] w m wr room h rec er n end en most l next ek = absurd (omega arith)
    turn (r ∷ rs) w m wr room h rec er n end en most l next ek =
        let x : rec ≡ r = er ∙ ap part_of w.0.0 in
        let wrote = wrote-lent whole (line_of r) (record_lines rs) old out end at n wr (omega arith) (en ∙ ap (λ (y : List ℕ). length (line_of y)) x) (l ∙ ap (λ (y : List ℕ). put (line_of y) (mid_of at (length out - at) out)) x) in
        record {
          rs = rs;
          walks = subst (λ (k : List ℕ). Walk k rs) (sym (ek ∙ ap key_of x)) (w.0.1, w.1);
          many = omega arith;
          wrote = wrote;
        }

    pub listing-turn : Listing s area ignore whole old out last at left → at + entry_line_most * left ≤ length out → 0 < left
        → (rec : List ℕ) → rec ≡ area_part field s area ignore last → (n : ℕ) (end : List ℕ) → n ≡ length (line_of rec) → n ≤ entry_line_most
        → end ≡ put (line_of rec) (mid_of at (length out - at) out) → (next : List ℕ) → next ≡ key_of rec → Listing s area ignore whole old (put_mid at (length out - at) out end) next (at + n) (left - 1)
    listing-turn g r h = turn g.rs g.walks g.many g.wrote r h

    done : (rs : List (List ℕ)) → length rs ≡ 0 → Wrote whole (record_lines rs) old out at → Wrote whole [] old out at
    done [] m w = w
    done (r ∷ rs) m w = absurd (omega arith)

    pub listing-end : Listing s area ignore whole old out last at left → left ≡ 0 → (at ≡ length whole) × (at ≤ length old) × (out ≡ put whole old)
    listing-end g z =
        let w = done g.rs (g.many ∙ z) g.wrote in
        (wrote-length whole old out at w, omega (arith, w.room, w.size), wrote-all whole old out at w)

-- The first line is written, and all records are left.
module _ (s : Store) (area : Area) (ignore : QueryIgnoreParams) (ea : area ≡ every_entry) (eg : ignore ≡ no_flags) (w : Counted) (e : w ≡ area_counted field s area) (z : store_refusal field s true ≡ 0) where
  every-counted : w ≡ area_counted field s every_entry
  every-counted = e ∙ ap (area_counted field s) ea

  pub few-counted : (w.count ≤ s.state.limit) × (w.count ≤ limit_most)
  unfolding held tree_of dir_of
  few-counted =
      let p = (read-tested s (legal field every_entry.path) (passes s z)).0 in
      let n : length (held field Spt s) ≡ s.state.count = formed-many (p.formed Spt) s.state.namespace_id in
      let h = count_held s z w every-counted in
      (omega (arith, h, n, p.few), omega (arith, h, n, p.few, p.most))

  module _ (old out : List ℕ) (at : ℕ) (h : at ≤ length old) (ex : at ≡ length (numbered list_word w.count)) (o : out ≡ put (numbered list_word w.count) old) where
    pub listing_start : Listing s area ignore (list_text (held field Spt s)) out out [] at w.count
    listing_start =
        let f = wrote-first (numbered list_word w.count) (record_lines (recs s z)) old out at h ex o in
        rw (ea, eg)
        record {
          rs = recs s z;
          walks = walk-all s z;
          many = count-is s z w every-counted;
          wrote = record { done = f.done ∙ list-is s z w every-counted; kept = refl; room = f.room; size = refl };
        }

    put-behind : (head rest : List ℕ) → put (head ++ rest) (put head old) ≡ put (head ++ rest) old
    unfolding put
    put-behind head rest =
        ap (λ (x : List ℕ). (head ++ rest) ++ x)
        (ap (λ (n : ℕ). drop n (head ++ drop (length head) old)) (length-append head rest)
        ∙ sym (drop-drop (length rest) (length head) (head ++ drop (length head) old))
        ∙ ap (drop (length rest)) (drop_at head (drop (length head) old) (length head) refl)
        ∙ drop-drop (length rest) (length head) old
        ∙ ap (λ (n : ℕ). drop n old) (sym (length-append head rest)))

    -- What is written behind it stands as if all was written at once.
    pub listing-whole : (last : List ℕ) → last ≡ put (list_text (held field Spt s)) out → last ≡ put (list_text (held field Spt s)) old
    listing-whole last l =
        let q = list-is s z w every-counted in
        let b = put-behind (numbered list_word w.count) (record_lines (recs s z)) in
        l ∙ ap (put (list_text (held field Spt s))) o
        ∙ subst (λ (x : List ℕ). put x (put (numbered list_word w.count) old) ≡ put x old) q b
