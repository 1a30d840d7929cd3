-- A part of what was lent, told as offset and length: where it begins, counted from the first byte lent, and how many bytes it has.
use Rattle.std.specs.Prelude.{ℕ, List, length}
use Rattle.query.specs.Listing.{ListingStep}
use Rattle.plain.specs.declared.part.PlainPart.{PlainPart}

abbrev pub plain_part : (offset : ℕ) → (part : List ℕ) → PlainPart
plain_part offset part = record { offset = offset; length = length part }

-- Where the record of a listing's step lies.
abbrev pub plain_step : ListingStep → PlainPart
plain_step step = record { offset = step.offset; length = step.length }
