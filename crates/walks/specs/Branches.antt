-- What holds of the branch records of a path, the deepest first.
use Rattle.std.specs.Prelude.{◌≡◌, ℕ, ◌<◌, List, ◌∷◌, ◌++◌, length}
use Rattle.atoms.specs.Atoms.{bits}
use Rattle.atoms.specs.Sets.{meet, size}
use Rattle.atoms.specs.declared.AtomSet.{AtomSet}
use Rattle.models.specs.Rows.{Row}
use Rattle.walks.specs.declared.branches.Branch.{Branch}

-- a record of the program as a row of the search
abbrev pub row_of : Branch → Row ℕ
row_of b = record { taken = bits b.node.taken; denied = bits b.node.denied; still = bits b.left }

-- a record that has the atoms x left
abbrev pub narrowed : Branch → AtomSet → Branch
narrowed b x = record { node = b.node; left = x }

-- P holds of each record and of those below it
abbrev pub Each : (Branch → List Branch → Type 0) → List Branch → Type 0
Each P st = (above below : List Branch) (b : Branch) → st ≡ above ++ b ∷ below → P b below

-- each record has a branch left
abbrev pub Live : List Branch → Type 0
Live st = Each (λ b below. 0 < bits b.left) st

-- each has taken as many atoms as there are records below it
abbrev pub Sized : List Branch → Type 0
Sized st = Each (λ b below. size (bits b.node.taken) ≡ length below) st

-- none has an atom left that it has taken
abbrev pub Apart : List Branch → Type 0
Apart st = Each (λ b below. meet (bits b.node.taken) (bits b.left) ≡ 0) st
