-- Lists of clauses that are numbered by their place.
use Rattle.std.specs.Prelude.{ℕ, ◌+◌, List, [], ◌∷◌}
use Rattle.clauses.specs.declared.clauses.Clause.{Clause}
use Rattle.clauses.specs.declared.origins.Kind.TheVariants.{Table}

-- a clause for each element, made with its place, where the first stands at place i
abbrev pub numbered : {X : Type 0} → (ℕ → X → Clause) → ℕ → List X → List Clause
numbered f i [] = []
numbered f i (x ∷ xs) = f i x ∷ numbered f (i + 1) xs

-- a record of a table, with its place as origin
abbrev pub at_place : ℕ → Clause → Clause
at_place i c = record { body = c.body; head = c.head; origin = record { kind = Table; number = i } }

-- what a run of records means: the records in their order, counted from 0
abbrev pub placed : List Clause → List Clause
placed cs = numbered at_place 0 cs
