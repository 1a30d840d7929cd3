-- What the program prints: the answer to a line; and an entry that is listed.
use Rattle.std.specs.Prelude.{ℕ, ◌+◌, ◌%◌, List, [], ◌∷◌, ◌++◌, get_or, replicate}
use Rattle.data_model.specs.Path.{field}
use Rattle.data_model.specs.Entry.{Entry}
use Rattle.tree.specs.Stored.{stored}
use Rattle.tree.specs.declared.stored.KeyOrder.TheVariants.{Spt}
use Rattle.text.specs.Decimal.{decimal_text}
use Rattle.text.specs.EntryLine.{space, listed_text}
use Rattle.listing.specs.Input.{newline}
use Rattle.listing.specs.declared.carry.Answer.{Answer}
use Rattle.listing.specs.declared.carry.Answer.TheVariants.{Ok, Obsolete, Held, Bad, Refused}

-- The most bytes of a number and the line's end.
abbrev pub number_most : ℕ
number_most = 20 + 1

-- A word with a space behind it, a number, and the line's end.
unfoldable pub numbered : List ℕ → ℕ → List ℕ
numbered word n = word ++ (decimal_text n ++ newline ∷ [])

-- `refused `.
abbrev pub refused_word : List ℕ
refused_word = 114 ∷ 101 ∷ 102 ∷ 117 ∷ 115 ∷ 101 ∷ 100 ∷ space ∷ []

-- `ok`, `obsolete`, `held`, `bad`, `refused` and the number; each with the line's end.
unfoldable pub answer_text : Answer → List ℕ
answer_text Ok = 111 ∷ 107 ∷ newline ∷ []
answer_text Obsolete = 111 ∷ 98 ∷ 115 ∷ 111 ∷ 108 ∷ 101 ∷ 116 ∷ 101 ∷ newline ∷ []
answer_text Held = 104 ∷ 101 ∷ 108 ∷ 100 ∷ newline ∷ []
answer_text Bad = 98 ∷ 97 ∷ 100 ∷ newline ∷ []
answer_text (Refused n) = numbered refused_word n

-- The most bytes of it: the longest word and a number.
abbrev pub answer_text_most : ℕ
answer_text_most = 8 + number_most

-- An entry listed: `S P T L D`, S the subspace's last byte, D the digest's first.
unfoldable pub entry_text : Entry → List ℕ
entry_text e = listed_text (e.subspace.low % 256) e.path e.rank.timestamp e.rank.payload_length (get_or e.rank.payload_digest 0 0)

-- That of a record of the subspace-first tree.
unfoldable pub record_text : List ℕ → List ℕ
record_text r = entry_text (stored Spt field (replicate 16 0) r).entry
