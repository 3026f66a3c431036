-- What a layer with a cap means.
use Rattle.std.specs.Prelude.{List, Option}
use Rattle.atoms.specs.declared.AtomSet.{AtomSet}
use Rattle.clauses.specs.declared.clauses.Clause.{Clause}
use Rattle.layers.specs.Caps.{cap_clauses, capped_over}
pub use Rattle.layers.specs.Layering.{below}
use Rattle.layers.specs.declared.layering.Layer.{Layer}
use Rattle.layers.specs.declared.capped.Cap.{Cap}

-- a source under a cap
abbrev pub Capped : Type 0 → Type 0
Capped S = Layer Cap S

-- the clauses of the cap itself
abbrev pub own_clauses : Cap → List Clause
own_clauses c = cap_clauses c.holds

-- the set that the cap holds, if it is not off
abbrev pub held : {S : Type 0} → Capped S → Option AtomSet
held s = s.own.holds

-- the list that a layer means, where f gives the list that its source means
abbrev pub capped_clauses : {S : Type 0} → (S → List Clause) → Capped S → List Clause
capped_clauses f s = capped_over (held s) (f (below s))
