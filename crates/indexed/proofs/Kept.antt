-- The sets of records, and the chain of a set.
use Rattle.std.proofs.Common.{◌≡◌, ℕ, ◌<◌, ◌≤◌, List, length, get_or, Option, Some, None, MatchOption, sym, ap, ◌∙◌}
use lib.Count.{trailing_le, trailing_of_zero, count_trailing_zeros}
use Rattle.atoms.proofs.Members.{least_unique, trailing_least}
use Rattle.atoms.proofs.Values.{bits_below}
use Rattle.atoms.specs.Atoms.{bits, index, width}
use Rattle.atoms.specs.Sets.{Least}
use Rattle.atoms.specs.declared.Atom.{Atom}
use Rattle.atoms.specs.declared.AtomSet.{AtomSet}
use Rattle.indexed.specs.Chains.{blank, chain_of, set_at, slot_of}
use Rattle.indexed.specs.Shelved.{sets_of}
use Rattle.indexed.specs.declared.record.ShelfRecord.{ShelfRecord}
use Rattle.std.proofs.lemmas.List.{get_or_read, get_or-map}

-- the chain of a set is its least atom, or the width
pub chain_least : (s : AtomSet) → 0 < bits s → Least (bits s) (chain_of s)
chain_least s p = trailing_least width (bits s) p (bits_below s)

pub chain_empty : (s : AtomSet) → bits s ≡ 0 → chain_of s ≡ width
chain_empty s e = ap (count_trailing_zeros width) e ∙ trailing_of_zero width

pub chain_is : (s : AtomSet) (a : ℕ) → 0 < bits s → Least (bits s) a → a ≡ chain_of s
chain_is s a p l = least_unique (bits s) a (chain_of s) l (chain_least s p)

pub chain_below : (s : AtomSet) → chain_of s ≤ width
chain_below s = trailing_le width (bits s)

-- the set at a position
pub sets_at : (rs : List ShelfRecord) (p : ℕ) (d : AtomSet) → p < length rs → get_or (sets_of rs) p d ≡ set_at rs p
sets_at rs p d lt = get_or-map (λ r. r.set) rs p blank d lt

-- what is read of a slice of the records
pub read_at : (xs rs : List ShelfRecord) (i : ℕ) (r : ShelfRecord) → xs ≡ rs → i < length rs → r ≡ get_or xs i r → r ≡ get_or rs i blank
read_at xs rs i r same below is = get_or_read rs i r below (is ∙ ap (λ ys. get_or ys i r) same) blank

-- the chain of a set, by its least atom
pub slot_is : (s : AtomSet) (o : Option Atom) → MatchOption o (bits s ≡ 0) (λ a. Least (bits s) (index a) × (0 < bits s)) → slot_of o ≡ chain_of s
slot_is s None e = sym (chain_empty s e)
slot_is s (Some a) l = chain_is s (index a) l.1 l.0
