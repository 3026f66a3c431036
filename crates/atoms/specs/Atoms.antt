-- What values of the structs `Atom` and `AtomSet` mean: a number, and a set of numbers as `Sets.antt` has them.
-- Only this file and the crate's own proofs know how the structs hold them.
use Rattle.std.specs.Prelude.{ℕ, ◌%◌, ◌^◌}
use Rattle.std.proofs.Common.{mod-lt, lit<}
use Rattle.atoms.specs.declared.Atom.{Atom}
use Rattle.atoms.specs.declared.AtomSet.{AtomSet}

-- how many atoms there are: they are the numbers below it (`AtomSet::WIDTH`)
abbrev pub width : ℕ
width = 64

-- the number of an atom
unfoldable pub index : Atom → ℕ
index a = a.index

-- the atom of a number, of those below the width
unfoldable pub atom_of : ℕ → Atom
atom_of n = record { index = n % width; within = mod-lt n (lit< tt) }

-- the set that a value holds, as a number whose binary digits are its atoms
unfoldable pub bits : AtomSet → ℕ
bits s = s.word

-- the value that holds the atoms of a number, of those below the width
unfoldable pub set_of : ℕ → AtomSet
set_of n = record { word = n % 2 ^ width; fits = mod-lt n (lit< tt) }
