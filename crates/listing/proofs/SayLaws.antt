-- What a record says, as it is handed out, and its most bytes; an answer's text. Assumes nothing.
use Prim.Native.Nat.{ℕ, ◌-◌, ◌≤◌}
use mathlib.Core.Path.{◌≡◌, sym, ap, ap₂, ◌∙◌}
use native.Mathlib.Omega.{arith}
use mathlib.Core.List.{List}
use mathlib.Core.Bool.{true}
use lib.ListN.{length, length-append}
use Rattle.laws.specs.Lists.{put}
use Rattle.data_model.specs.Path.{field, legal}
use Rattle.data_model.specs.Entry.{entry_of, rank_of}
use Rattle.data_model.specs.declared.entry.Entry.{Entry}
use Rattle.key_laws.specs.Bytes.{Bytes}
use Rattle.key_laws.proofs.Fits.{bytes_take, legal-of}
use Rattle.tree.specs.Value.{value_length, read_value}
use Rattle.tree.specs.Stored.{Stored, key_of, value_part, read_in, triple_read, stored_from, stored, stored_of, lengthy}
use Rattle.tree.specs.declared.stored.KeyOrder.TheVariants.{Spt}
use Rattle.tree.specs.declared.stored.LengthyAuthorisedEntry.{LengthyAuthorisedEntry}
use Rattle.tree.proofs.RecordParts.{read-path, stored_of_lem}
use Rattle.text.specs.EntryLine.{rank_text, listed_text, listed_text_most}
use Rattle.text.proofs.LineLaws.{decimal-most, path-most}
use Rattle.listing.specs.Say.{answer_text, answer_text_most, entry_text}
use Rattle.listing.specs.declared.carry.Answer.{Answer}

pub record-says : (ns rec key value : List ℕ) (r : LengthyAuthorisedEntry) → Bytes rec → key ≡ key_of rec → value ≡ value_part rec
    → r ≡ lengthy (stored_from ns (triple_read (read_in Spt field key)) (read_value value))
    → (legal field r.entry.path ≡ true) × (entry_of r.entry ≡ (stored Spt field ns rec).entry)
unfolding stored lengthy stored_from stored_of
record-says ns rec key value r bytes ek ev e =
    let b : Bytes (key_of rec) = bytes_take (length rec - value_length) rec bytes in
    let q : r ≡ lengthy (stored Spt field ns rec) = e ∙ ap₂ (λ (x y : List ℕ). lengthy (stored_from ns (triple_read (read_in Spt field x)) (read_value y))) ek ev in (
      ap (λ (a : LengthyAuthorisedEntry). legal field a.entry.path) q ∙ legal-of field (triple_read (read_in Spt field (key_of rec))).path (read-path Spt field (key_of rec) b),
      ap (λ (a : LengthyAuthorisedEntry). (stored_of a).entry) q ∙ ap (λ (x : Stored). x.entry) (stored_of_lem (stored Spt field ns rec)),
    )

-- An answer that was written by its text.
pub answer-said : (a : Answer) (t old out : List ℕ) (n : ℕ) → answer_text a ≡ t → n ≤ answer_text_most → n ≡ length t → out ≡ put t old
    → (n ≡ length (answer_text a)) × (n ≤ answer_text_most) × (out ≡ put (answer_text a) old)
answer-said a t old out n e b h l = (h ∙ ap length (sym e), b, l ∙ ap (λ (x : List ℕ). put x old) (sym e))

-- The most bytes of an entry listed.
pub entry-most : (e : Entry) → legal field e.path ≡ true → length (entry_text (entry_of e)) ≤ listed_text_most
unfolding entry_text entry_of rank_of listed_text rank_text
entry-most e h = simp length-append (omega (arith, path-most e.path h, decimal-most e.timestamp, decimal-most e.payload_length))
