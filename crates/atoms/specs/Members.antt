-- The atoms of a set as a list.
use Rattle.std.specs.Prelude.{ℕ, List, map, filter}
use Rattle.std.specs.List.{range_with_len}
use Rattle.atoms.specs.Atoms.{atom_of, bits, width}
use Rattle.atoms.specs.Sets.{hasb}
use Rattle.atoms.specs.declared.Atom.{Atom}
use Rattle.atoms.specs.declared.AtomSet.{AtomSet}
use Rattle.atoms.specs.declared.iterating.Atoms.{Atoms}

-- the atoms of `s` below the width, rising
unfoldable pub rising : ℕ → List ℕ
rising s = filter (hasb s) (range_with_len 0 width)

-- the atoms of a set, rising
abbrev pub members : AtomSet → List Atom
members s = map atom_of (rising (bits s))

-- the atoms that an iterator has still to hand out
unfoldable pub atoms_left : Atoms → List Atom
atoms_left it = members it.left
