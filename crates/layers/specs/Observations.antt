-- Lists of observations: their clauses, and the atoms that they are about.
use Rattle.std.specs.Prelude.{ℕ, Bool, cond, List, [], ◌∷◌}
use Rattle.atoms.specs.Atoms.{index}
use Rattle.atoms.specs.Sets.{hasb, insert}
use Rattle.clauses.specs.Clauses.{denial, fact}
use Rattle.clauses.specs.Sources.{numbered}
use Rattle.clauses.specs.declared.clauses.Clause.{Clause}
use Rattle.clauses.specs.declared.origins.Origin.{Origin}
use Rattle.clauses.specs.declared.origins.Kind.TheVariants.{Observation as by_observation}
use Rattle.layers.specs.declared.observations.Observation.{Observation}

-- the origin of an observation before which i observations stand
abbrev pub origin_at : ℕ → Origin
origin_at i = record { kind = by_observation; number = i }

-- the clause of an observation before which i observations stand: its atom is present, or absent
abbrev pub clause_of : ℕ → Observation → Clause
clause_of i o = cond o.present (fact (index o.atom) (origin_at i)) (denial (index o.atom) (origin_at i))

-- the clauses of observations, each with the number of those before it
abbrev pub clauses_of : List Observation → List Clause
clauses_of os = numbered clause_of 0 os

-- the set of the atoms observed
abbrev pub atoms_of : List Observation → ℕ
atoms_of [] = 0
atoms_of (o ∷ os) = insert (atoms_of os) (index o.atom)

-- is the atom a observed?
abbrev pub seen : List Observation → ℕ → Bool
seen os a = hasb (atoms_of os) a
