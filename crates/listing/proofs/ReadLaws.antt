-- Reads of an input, however it is cut: what is printed after each, and at the end, is the program's text for the whole input. Assumes nothing.
use Prim.Native.Nat.{ℕ}
use mathlib.Core.Path.{◌≡◌, refl, sym, ap, ap₂, subst, ◌∙◌}
use mathlib.Core.List.{List, [], ◌∷◌, ◌++◌, append_assoc, append-nil}
use native.Mathlib.Nat.{le_refl}
use lib.ListN.{take}
use lib.Seq.{take-take}
use Rattle.data_model.specs.Path.{field}
use Rattle.tree.specs.declared.stored.KeyOrder.TheVariants.{Spt}
use Rattle.store.specs.Store.{held}
use Rattle.text.specs.EntryLine.{line_most}
use Rattle.listing.specs.Input.{ended_lines, begun_line, last_line, lines_of}
use Rattle.listing.specs.Carry.{Left, lines_carried}
use Rattle.listing.specs.Answers.{answers_text, kept_most}
use Rattle.listing.specs.List.{list_text}
use Rattle.listing.specs.Program.{answers_and_list, program_text, Progress, at_first, after_read, after_reads, input_of, ByReads}
use Rattle.listing.proofs.InputLaws.{ended-append, begun-append, ended-alike, begun-alike, last-alike}
use Rattle.listing.proofs.AnswerLaws.{lines-append, text-append, lines-alike, text-alike}

-- What was reached by an input: its ended lines are answered, and the line that has begun is kept as far as it matters.
pub record Came (opened : Left) (input : List ℕ) (r : Progress) : Type 0 where
  pub left : r.left ≡ lines_carried field opened (ended_lines [] input)
  pub line : take kept_most r.line ≡ take kept_most (begun_line [] input)
  pub text : r.text ≡ answers_text field opened (ended_lines [] input)

module _ (opened : Left) where
  came-none : Came opened [] (at_first opened)
  unfolding ended_lines begun_line lines_carried answers_text
  came-none = record { left = refl; line = refl; text = refl }

  came-read : (input : List ℕ) (r : Progress) (bytes : List ℕ) → Came opened input r → Came opened (input ++ bytes) (after_read r bytes)
  came-read input r bytes h =
      let ks = ended_lines r.line bytes in
      let ls = ended_lines (begun_line [] input) bytes in
      let a = ended-alike kept_most r.line (begun_line [] input) bytes h.line in
      let j : ended_lines [] input ++ ls ≡ ended_lines [] (input ++ bytes) = sym (ended-append [] input bytes) in
      record {
        left =
            lines-alike field r.left ks ls a
            ∙ ap (λ (w : Left). lines_carried field w ls) h.left
            ∙ sym (lines-append field opened (ended_lines [] input) ls)
            ∙ ap (lines_carried field opened) j;
        line =
            take-take kept_most kept_most (begun_line r.line bytes) (le_refl kept_most)
            ∙ begun-alike kept_most r.line (begun_line [] input) bytes h.line
            ∙ ap (take kept_most) (sym (begun-append [] input bytes));
        text =
            ap₂ ◌++◌ h.text (text-alike field r.left ks ls a ∙ ap (λ (w : Left). answers_text field w ls) h.left)
            ∙ sym (text-append field opened (ended_lines [] input) ls)
            ∙ ap (answers_text field opened) j;
      }

  came-all : (input : List ℕ) (r : Progress) (reads : List (List ℕ)) → Came opened input r → Came opened (input ++ input_of reads) (after_reads r reads)
  unfolding after_reads input_of
  came-all input r [] h = subst (λ (i : List ℕ). Came opened i r) (sym (append-nil input)) h
  came-all input r (bytes ∷ reads) h =
      subst (λ (i : List ℕ). Came opened i (after_reads (after_read r bytes) reads)) (append_assoc input bytes (input_of reads))
      (came-all (input ++ bytes) (after_read r bytes) reads (came-read input r bytes h))

  pub came : (reads : List (List ℕ)) → Came opened (input_of reads) (after_reads (at_first opened) reads)
  came reads = came-all [] (at_first opened) reads came-none

  -- Whatever the reads: what was printed for them, then the answer to the last line and the list, are what the program prints for the input.
  pub any-reads : (reads : List (List ℕ))
      → (after_reads (at_first opened) reads).text ++ answers_and_list (after_reads (at_first opened) reads).left (last_line (after_reads (at_first opened) reads).line) ≡ program_text opened (input_of reads)
  unfolding answers_and_list lines_of
  any-reads reads =
      let r = after_reads (at_first opened) reads in
      let h = came reads in
      let ks = last_line r.line in
      let es = ended_lines [] (input_of reads) in
      let ls = last_line (begun_line [] (input_of reads)) in
      let a = last-alike line_most r.line (begun_line [] (input_of reads)) h.line in
      let t : r.text ++ answers_text field r.left ks ≡ answers_text field opened (es ++ ls)
      = ap₂ ◌++◌ h.text (text-alike field r.left ks ls a ∙ ap (λ (w : Left). answers_text field w ls) h.left) ∙ sym (text-append field opened es ls) in
      let w : lines_carried field r.left ks ≡ lines_carried field opened (es ++ ls)
      = lines-alike field r.left ks ls a ∙ ap (λ (w : Left). lines_carried field w ls) h.left ∙ sym (lines-append field opened es ls) in
      sym (append_assoc r.text (answers_text field r.left ks) (list_text (held field Spt (lines_carried field r.left ks).tallied.store)))
      ∙ ap₂ (λ (x : List ℕ) (v : Left). x ++ list_text (held field Spt v.tallied.store)) t w

-- No read, and one more.
pub by-none : (opened : Left) (line : List ℕ) → line ≡ [] → ByReads opened opened line
unfolding after_reads
by-none opened line e = record { reads = []; left_is = refl; line_is = e }

reads_more : (r : Progress) (reads : List (List ℕ)) (bytes : List ℕ) → after_read (after_reads r reads) bytes ≡ after_reads r (reads ++ bytes ∷ [])
unfolding after_reads
reads_more r [] bytes = refl
reads_more r (b ∷ reads) bytes = reads_more (after_read r b) reads bytes

pub by-more : {opened w v : Left} {line kept : List ℕ} → ByReads opened w line → (bytes : List ℕ) → v ≡ lines_carried field w (ended_lines line bytes) → kept ≡ take kept_most (begun_line line bytes) → ByReads opened v kept
by-more {opened} h bytes ev ek =
    let r = after_reads (at_first opened) h.reads in
    let m = reads_more (at_first opened) h.reads bytes in
    record {
      reads = h.reads ++ bytes ∷ [];
      left_is = ev ∙ ap₂ (λ (w : Left) (l : List ℕ). lines_carried field w (ended_lines l bytes)) h.left_is h.line_is ∙ ap (λ (x : Progress). x.left) m;
      line_is = ek ∙ ap (λ (l : List ℕ). take kept_most (begun_line l bytes)) h.line_is ∙ ap (λ (x : Progress). x.line) m;
    }
