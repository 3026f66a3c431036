-- What an indexed shelf means.
use Rattle.std.specs.Prelude.{◌≡◌, ℕ, List, map, slice_set}
use Rattle.atoms.specs.declared.AtomSet.{AtomSet}
use Rattle.indexed.specs.declared.IndexedShelf.{IndexedShelf}
use Rattle.indexed.specs.declared.record.ShelfRecord.{ShelfRecord}
use Rattle.lists.specs.Items.{cells, items, lender, room}

-- the memory that is lent to the shelf, whole
abbrev pub records_of : IndexedShelf → List ShelfRecord
records_of s = cells s.records

-- the sets of records
abbrev pub sets_of : List ShelfRecord → List AtomSet
sets_of rs = map (λ r. r.set) rs

-- the sets on the shelf, in the order in which they were kept
abbrev pub sets_on : IndexedShelf → List AtomSet
sets_on s = sets_of (items s.records)

-- the number of its places: as many as its memory has, and no more than the limit
abbrev pub room_of : IndexedShelf → ℕ
room_of s = room s.records

-- the name of the loan of its memory
abbrev pub lender_of : IndexedShelf → ℕ
lender_of s = lender s.records

-- a record of the set `s` is written at the position `p`, and nothing else
abbrev pub Written : List ShelfRecord → ℕ → AtomSet → List ShelfRecord → Type 0
Written before p s after = (r : ShelfRecord) × (r.set ≡ s) × (after ≡ slice_set before p r)
