-- A tree that is lent to be read: the words of `Tree` and `Stored` for its parts, so that a contract names it once.
use Rattle.std.specs.Prelude.{ℕ, List}
use Rattle.layout.specs.Layout.{records, record_at}
use Rattle.data_model.specs.Path.{field}
use Rattle.tree.specs.Stored.{Stored, stored, contents}
use Rattle.tree.specs.Tree.{InBounds, Readable, Formed, Ordered, Searchable}
use Rattle.tree.specs.declared.stored.Tree.{Tree}

-- Record k, all records, what record k says in a namespace, and what all say.
abbrev pub record_in : Tree → ℕ → List ℕ
record_in t k = record_at k t.dir.now t.bytes.now

abbrev pub records_in : Tree → List (List ℕ)
records_in t = records t.count t.dir.now t.bytes.now

abbrev pub stored_in : Tree → List ℕ → ℕ → Stored
stored_in t namespace k = stored t.order field namespace (record_in t k)

abbrev pub contents_in : Tree → List ℕ → List Stored
contents_in t namespace = contents t.order field namespace (records_in t)

-- What is asked of record k, and of the tree.
abbrev pub IsInBounds : Tree → ℕ → Type 0
IsInBounds t k = InBounds k t.dir.now t.bytes.now

abbrev pub IsReadable : Tree → ℕ → Type 0
IsReadable t k = Readable t.order k t.dir.now t.bytes.now

abbrev pub IsFormed : Tree → Type 0
IsFormed t = Formed t.order t.count t.dir.now t.bytes.now

abbrev pub IsOrdered : Tree → Type 0
IsOrdered t = Ordered t.order t.count t.dir.now t.bytes.now

abbrev pub IsSearchable : Tree → Type 0
IsSearchable t = Searchable t.count t.dir.now t.bytes.now
