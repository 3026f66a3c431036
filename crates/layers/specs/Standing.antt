-- What a layer of observations means.
use Rattle.std.specs.Prelude.{List, ◌++◌}
use Rattle.clauses.specs.declared.clauses.Clause.{Clause}
use Rattle.layers.specs.Observations.{clauses_of}
pub use Rattle.layers.specs.Layering.{below}
use Rattle.layers.specs.declared.layering.Layer.{Layer}
use Rattle.layers.specs.declared.observations.Observation.{Observation}
use Rattle.layers.specs.declared.observations.Observations.{Observations}

-- a source under observations
abbrev pub Observed : Type 0 → Type 0
Observed S = Layer Observations S

-- the observations, in the order in which they were made
abbrev pub items : Observations → List Observation
items o = o.standing.items

-- the clauses of the observations themselves
abbrev pub own_clauses : Observations → List Clause
own_clauses o = clauses_of (items o)

-- the observations that stand, in the order in which they were made
abbrev pub standing : {S : Type 0} → Observed S → List Observation
standing s = items s.own

-- the clauses of the observations, and then the clauses below
abbrev pub observed_over : List Observation → List Clause → List Clause
observed_over os cs = clauses_of os ++ cs

-- the list that a layer means, where f gives the list that its source means
abbrev pub observed_clauses : {S : Type 0} → (S → List Clause) → Observed S → List Clause
observed_clauses f s = observed_over (standing s) (f (below s))
