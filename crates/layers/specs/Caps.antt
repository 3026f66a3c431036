-- The clauses of a cap: each atom outside it is absent, and of its own atoms one is.
use Rattle.std.specs.Prelude.{ℕ, not, List, [], ◌∷◌, ◌++◌, map, Some, None, filter, Option}
use Rattle.std.specs.List.{range_with_len}
use Rattle.atoms.specs.Atoms.{bits, set_of, width}
use Rattle.atoms.specs.Sets.{hasb}
use Rattle.atoms.specs.declared.AtomSet.{AtomSet}
use Rattle.clauses.specs.Clauses.{denial}
use Rattle.clauses.specs.declared.clauses.Clause.{Clause}
use Rattle.clauses.specs.declared.origins.Origin.{Origin}
use Rattle.clauses.specs.declared.origins.Kind.TheVariants.{Cap}

-- the origin of a clause of a cap
abbrev pub cap_origin : ℕ → Origin
cap_origin n = record { kind = Cap; number = n }

-- the atom a is absent, told by its number
abbrev pub denied : ℕ → Clause
denied a = denial a (cap_origin a)

-- the atoms outside the set m, rising
abbrev pub outside : ℕ → List ℕ
outside m = filter (λ a. not (hasb m a)) (range_with_len 0 width)

-- not all atoms of m are present; told by the width, which is no atom's number
abbrev pub whole : AtomSet → Clause
whole m = record { body = m; head = set_of 0; origin = cap_origin width }

-- the clauses of a cap, which may be off
abbrev pub cap_clauses : Option AtomSet → List Clause
cap_clauses None = []
cap_clauses (Some m) = map denied (outside (bits m)) ++ whole m ∷ []

-- the clauses of a cap, and then the clauses below
abbrev pub capped_over : Option AtomSet → List Clause → List Clause
capped_over o cs = cap_clauses o ++ cs
