-- Lines answered one after another: two lists of them joined, lines that are cut, and a part of the input that is answered line by line. Assumes nothing.
use Prim.Native.Nat.{ℕ, suc, ◌+◌, ◌-◌, ◌≤◌, ◌<◌}
use mathlib.Core.Path.{◌≡◌, refl, sym, ap, subst, ◌∙◌}
use mathlib.Core.List.{List, [], ◌∷◌, ◌++◌, map, append_assoc, append-nil}
use native.Mathlib.Omega.{arith}
use lib.ListN.{length, take, drop, length-drop}
use lib.Seq.{take_all, drop-drop}
use borrow.Rule.Slice.PartMut.{put_mid, mid_of}
use Rattle.laws.specs.Lists.{put, piece}
use Rattle.laws.proofs.Lists.{Wrote, wrote_none, wrote-first, wrote-lent, wrote-last, wrote-length, wrote-all}
use Rattle.data_model.specs.Path.{Figures, field}
use Rattle.tree.specs.declared.stored.KeyOrder.TheVariants.{Spt}
use Rattle.store.specs.Store.{held, Tallied}
use Rattle.text.specs.Fields.{front}
use Rattle.text.proofs.FieldLaws.{front-take}
use Rattle.text.proofs.LineLaws.{line-cut}
use Rattle.listing.specs.Input.{newline, ended_lines, begun_line, last_line}
use Rattle.listing.specs.Carry.{LineOutcome, carried_by, line_carried, Left, left_in, lines_carried}
use Rattle.listing.specs.Say.{answer_text}
use Rattle.listing.specs.Answers.{answers_text, Written, lines_written, kept_most, WrittenPart, part_written}
use Rattle.listing.specs.List.{list_text}
use Rattle.listing.specs.Program.{answers_and_list}
use Rattle.listing.proofs.InputLaws.{ended-more, begun_more, ended-none, begun-none}

module _ (f : Figures) where
  pub lines-append : (w : Left) (ks ls : List (List ℕ)) → lines_carried f w (ks ++ ls) ≡ lines_carried f (lines_carried f w ks) ls
  unfolding lines_carried
  lines-append w [] ls = refl
  lines-append w (k ∷ ks) ls = lines-append (left_in (line_carried f w.tallied w.prune k)) ks ls

  pub text-append : (w : Left) (ks ls : List (List ℕ)) → answers_text f w (ks ++ ls) ≡ answers_text f w ks ++ answers_text f (lines_carried f w ks) ls
  unfolding lines_carried answers_text
  text-append w [] ls = refl
  text-append w (k ∷ ks) ls =
      let o = line_carried f w.tallied w.prune k in
      ap (λ (x : List ℕ). answer_text o.answer ++ x) (text-append (left_in o) ks ls)
      ∙ sym (append_assoc (answer_text o.answer) (answers_text f (left_in o) ks) (answers_text f (lines_carried f (left_in o) ks) ls))

-- A line over 1,024 bytes is of another form, and so is what is kept of it: lines are carried out alike if they are cut.
module _ (f : Figures) where
  carried-cut : (s : Tallied) (prune l : List ℕ) → line_carried f s prune (take kept_most l) ≡ line_carried f s prune l
  unfolding line_carried
  carried-cut s prune l = ap (carried_by f s prune) (line-cut l kept_most (omega arith))

  pub lines_cut : (w : Left) (ls : List (List ℕ)) → lines_carried f w (map (take kept_most) ls) ≡ lines_carried f w ls
  unfolding lines_carried
  lines_cut w [] = refl
  lines_cut w (l ∷ ls) =
      ap (λ (o : LineOutcome). lines_carried f (left_in o) (map (take kept_most) ls)) (carried-cut w.tallied w.prune l)
      ∙ lines_cut (left_in (line_carried f w.tallied w.prune l)) ls

  pub text-cut : (w : Left) (ls : List (List ℕ)) → answers_text f w (map (take kept_most) ls) ≡ answers_text f w ls
  unfolding answers_text
  text-cut w [] = refl
  text-cut w (l ∷ ls) =
      let o = line_carried f w.tallied w.prune l in
      ap (λ (o : LineOutcome). answer_text o.answer ++ answers_text f (left_in o) (map (take kept_most) ls)) (carried-cut w.tallied w.prune l)
      ∙ ap (λ (x : List ℕ). answer_text o.answer ++ x) (text-cut (left_in o) ls)

  pub lines-alike : (w : Left) (ks ls : List (List ℕ)) → map (take kept_most) ks ≡ map (take kept_most) ls → lines_carried f w ks ≡ lines_carried f w ls
  lines-alike w ks ls e = sym (lines_cut w ks) ∙ ap (lines_carried f w) e ∙ lines_cut w ls

  pub text-alike : (w : Left) (ks ls : List (List ℕ)) → map (take kept_most) ks ≡ map (take kept_most) ls → answers_text f w ks ≡ answers_text f w ls
  text-alike w ks ls e = sym (text-cut w ks) ∙ ap (answers_text f w) e ∙ text-cut w ls

-- One line: its answer written.
written_is : {v w : Left} {m n : ℕ} {out old : List ℕ} → v ≡ w → m ≡ n → out ≡ old
    → ◌≡◌ {A = Written} (record { left = v; written = m; out = out }) (record { left = w; written = n; out = old })
written_is a b c = cc

pub line-written : (w : Left) (l old out : List ℕ) (o : LineOutcome) (n : ℕ) → o ≡ line_carried field w.tallied w.prune l → n ≡ length (answer_text o.answer) → out ≡ put (answer_text o.answer) old
    → ◌≡◌ {A = Written} (record { left = left_in o; written = n; out = out }) (lines_written field w (l ∷ []) old)
unfolding lines_carried answers_text
line-written w l old out o n e en eo =
    let t : answer_text o.answer ≡ answer_text (line_carried field w.tallied w.prune l).answer ++ []
    = ap (λ (x : LineOutcome). answer_text x.answer) e ∙ sym (append-nil (answer_text (line_carried field w.tallied w.prune l).answer)) in
    written_is (ap left_in e) (en ∙ ap length t) (eo ∙ ap (λ (x : List ℕ). put x old) t)

-- A part of the input as it is answered: what is left of it, behind the line that has begun, gives the rest of what the whole part leaves and prints.
pub record Answering (w₀ : Left) (line₀ bytes old : List ℕ) (w : Left) (line rest out : List ℕ) (to : ℕ) : Type 0 where
  pub left : lines_carried field w₀ (ended_lines line₀ bytes) ≡ lines_carried field w (ended_lines line rest)
  pub begun : begun_line line₀ bytes ≡ begun_line line rest
  pub wrote : Wrote (answers_text field w₀ (ended_lines line₀ bytes)) (answers_text field w (ended_lines line rest)) old out to

pub answering-none : (w : Left) (line bytes old : List ℕ) → Answering w line bytes old w line bytes old 0
answering-none w line bytes old = record { left = refl; begun = refl; wrote = wrote_none (answers_text field w (ended_lines line bytes)) old }

-- The record of a part, field by field.
part-is : {v w : Left} {m n : ℕ} {out old line kept : List ℕ} → v ≡ w → m ≡ n → out ≡ old → line ≡ kept
    → ◌≡◌ {A = WrittenPart} (record { answers = record { left = v; written = m; out = out }; line = line }) (record { answers = record { left = w; written = n; out = old }; line = kept })
part-is a b c d = cc

module _ {w₀ : Left} {line₀ bytes old : List ℕ} (w : Left) (line rest out : List ℕ) (to : ℕ) (h : Answering w₀ line₀ bytes old w line rest out to) where
  -- A line that has ended, as it is kept, is answered behind the answers so far.
  pub answering-turn : (p rest' l : List ℕ) → ended_lines line rest ≡ (line ++ p) ∷ ended_lines [] rest' → begun_line line rest ≡ begun_line [] rest' → l ≡ take kept_most (line ++ p)
      → (v : Left) (n : ℕ) (last : List ℕ) → ◌≡◌ {A = Written} (record { left = v; written = n; out = last }) (lines_written field w (l ∷ []) (mid_of to (length out - to) out)) → to + n ≤ length out
      → Answering w₀ line₀ bytes old v [] rest' (put_mid to (length out - to) out last) (to + n)
  unfolding lines_carried answers_text
  answering-turn p rest' l e b k v n last r fits =
      let o = line_carried field w.tallied w.prune (line ++ p) in
      let c : line_carried field w.tallied w.prune l ≡ o = ap (line_carried field w.tallied w.prune) k ∙ carried-cut field w.tallied w.prune (line ++ p) in
      let t : answer_text (line_carried field w.tallied w.prune l).answer ++ [] ≡ answer_text o.answer
      = append-nil (answer_text (line_carried field w.tallied w.prune l).answer) ∙ ap (λ (x : LineOutcome). answer_text x.answer) c in
      let ev : left_in o ≡ v = sym (ap (λ (x : Written). x.left) r ∙ ap left_in c) in
      let en : n ≡ length (answer_text o.answer) = ap (λ (x : Written). x.written) r ∙ ap length t in
      let el : last ≡ put (answer_text o.answer) (mid_of to (length out - to) out) = ap (λ (x : Written). x.out) r ∙ ap (λ (x : List ℕ). put x (mid_of to (length out - to) out)) t in
      let s : answers_text field w (ended_lines line rest) ≡ answer_text o.answer ++ answers_text field v (ended_lines [] rest')
      = ap (answers_text field w) e ∙ ap (λ (x : Left). answer_text o.answer ++ answers_text field x (ended_lines [] rest')) ev in
      record {
        left = h.left ∙ ap (lines_carried field w) e ∙ ap (λ (x : Left). lines_carried field x (ended_lines [] rest')) ev;
        begun = h.begun ∙ b;
        wrote =
            wrote-lent (answers_text field w₀ (ended_lines line₀ bytes)) (answer_text o.answer) (answers_text field v (ended_lines [] rest')) old out last to n
            (subst (λ (x : List ℕ). Wrote (answers_text field w₀ (ended_lines line₀ bytes)) x old out to) s h.wrote) fits en el;
      }

  -- No newline is left.
  pub answering-end : ended_lines line rest ≡ [] → begun_line line rest ≡ line ++ rest → (kept : List ℕ) → kept ≡ take kept_most (line ++ rest)
      → (to ≤ length old) × ◌≡◌ {A = WrittenPart} (record { answers = record { left = w; written = to; out = out }; line = kept }) (part_written field w₀ line₀ bytes old)
  unfolding lines_carried answers_text
  answering-end e b kept k =
      let d : Wrote (answers_text field w₀ (ended_lines line₀ bytes)) [] old out to
      = subst (λ (x : List ℕ). Wrote (answers_text field w₀ (ended_lines line₀ bytes)) x old out to) (ap (answers_text field w) e) h.wrote in
      let el : w ≡ lines_carried field w₀ (ended_lines line₀ bytes) = sym (h.left ∙ ap (lines_carried field w) e) in
      let en = wrote-length (answers_text field w₀ (ended_lines line₀ bytes)) old out to d in
      let eo = wrote-all (answers_text field w₀ (ended_lines line₀ bytes)) old out to d in
      let ek : kept ≡ take kept_most (begun_line line₀ bytes) = k ∙ ap (take kept_most) (sym (h.begun ∙ b)) in
      (omega (arith, d.room, d.size), part-is el en eo ek)

-- A turn, and the end, as the code has them: the line's bytes are cut out of the part, and added to what is kept of the line.
module _ {w₀ : Left} {line₀ old : List ℕ} (bytes : List ℕ) (w : Left) (line out : List ℕ) (at n to stop : ℕ) (size : length line ≡ kept_most)
    (h : Answering w₀ line₀ bytes old w (take n line) (drop at bytes) out to) (found : stop ≡ at + length (front newline (drop at bytes))) where
  abbrev cut : List ℕ
  cut = front newline (drop at bytes)

  pub part-turn : stop < length bytes → (l : List ℕ) → l ≡ take (length line) (take n line ++ piece at stop bytes)
      → (v : Left) (m : ℕ) (last : List ℕ) → ◌≡◌ {A = Written} (record { left = v; written = m; out = last }) (lines_written field w (l ∷ []) (mid_of to (length out - to) out)) → to + m ≤ length out
      → Answering w₀ line₀ bytes old v [] (drop (stop + 1) bytes) (put_mid to (length out - to) out last) (to + m)
  part-turn t l k v m last r fits =
      let more : length cut < length (drop at bytes) = omega (arith, length-drop at bytes) in
      let next : at + suc (length cut) ≡ stop + 1 = omega arith in
      let long : stop - at ≡ length cut = omega arith in
      let rest : drop (suc (length cut)) (drop at bytes) ≡ drop (stop + 1) bytes = drop-drop (suc (length cut)) at bytes ∙ ap (λ (i : ℕ). drop i bytes) next in
      let c : piece at stop bytes ≡ cut = ap (λ (i : ℕ). take i (drop at bytes)) long ∙ front-take newline (drop at bytes) in
      answering-turn w (take n line) (drop at bytes) out to h cut (drop (stop + 1) bytes) l
      (ended-more (take n line) (drop at bytes) more ∙ ap (λ (x : List ℕ). (take n line ++ cut) ∷ ended_lines [] x) rest)
      (begun_more (take n line) (drop at bytes) more ∙ ap (begun_line []) rest)
      (k ∙ ap (λ (i : ℕ). take i (take n line ++ piece at stop bytes)) size ∙ ap (λ (x : List ℕ). take kept_most (take n line ++ x)) c)
      v m last r fits

  pub part_end : length bytes ≤ stop → (kept : List ℕ) → kept ≡ take (length line) (take n line ++ piece at (length bytes) bytes)
      → (to ≤ length old) × ◌≡◌ {A = WrittenPart} (record { answers = record { left = w; written = to; out = out }; line = kept }) (part_written field w₀ line₀ bytes old)
  part_end t kept k =
      let none : length (drop at bytes) ≤ length cut = omega (arith, length-drop at bytes) in
      let c : piece at (length bytes) bytes ≡ drop at bytes = take_all (length bytes - at) (drop at bytes) (omega (arith, length-drop at bytes)) in
      answering-end w (take n line) (drop at bytes) out to h
      (ended-none (take n line) (drop at bytes) none)
      (begun-none (take n line) (drop at bytes) none)
      kept (k ∙ ap (λ (i : ℕ). take i (take n line ++ piece at (length bytes) bytes)) size ∙ ap (λ (x : List ℕ). take kept_most (take n line ++ x)) c)

-- At the end of the input: no line has begun, or one has.
pub last_none : (w : Left) (line out : List ℕ) → length line ≡ 0 → ◌≡◌ {A = Written} (record { left = w; written = 0; out = out }) (lines_written field w (last_line line) out)
unfolding last_line lines_carried answers_text put
last_none w [] out h = refl
last_none w (b ∷ l) out h = absurd (omega arith)

pub last_some : (line : List ℕ) → (length line ≡ 0 → ⊥) → line ∷ [] ≡ last_line line
unfolding last_line
last_some [] h = absurd (h refl)
last_some (b ∷ l) h = refl

-- The list behind the answers.
pub end-written : (w v : Left) (ls : List (List ℕ)) (old out last : List ℕ) (n m : ℕ) → n ≤ length old → ◌≡◌ {A = Written} (record { left = v; written = n; out = out }) (lines_written field w ls old)
    → n + m ≤ length out → m ≡ length (list_text (held field Spt v.tallied.store)) → last ≡ put (list_text (held field Spt v.tallied.store)) (mid_of n (length out - n) out)
    → (n + m ≡ length (answers_and_list w ls)) × (put_mid n (length out - n) out last ≡ put (answers_and_list w ls) old)
unfolding answers_and_list
end-written w v ls old out last n m h r fits em el =
    let ev : v ≡ lines_carried field w ls = ap (λ (x : Written). x.left) r in
    let first = wrote-first (answers_text field w ls) (list_text (held field Spt v.tallied.store)) old out n h (ap (λ (x : Written). x.written) r) (ap (λ (x : Written). x.out) r) in
    subst (λ (x : Left). (n + m ≡ length (answers_text field w ls ++ list_text (held field Spt x.tallied.store))) × (put_mid n (length out - n) out last ≡ put (answers_text field w ls ++ list_text (held field Spt x.tallied.store)) old)) ev
    (wrote-last (answers_text field w ls ++ list_text (held field Spt v.tallied.store)) (list_text (held field Spt v.tallied.store)) old out last n m first fits em el)
