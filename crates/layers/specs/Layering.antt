-- What a layer means.
use Rattle.std.specs.Prelude.{List, ◌++◌}
use Rattle.clauses.specs.declared.clauses.Clause.{Clause}
use Rattle.layers.specs.declared.layering.Layer.{Layer}

-- the source below
abbrev pub below : {O S : Type 0} → Layer O S → S
below l = l.source

-- its own clauses, and then the clauses below, where f and g give the lists that the two sources mean
abbrev pub layered : {O S : Type 0} → (O → List Clause) → (S → List Clause) → Layer O S → List Clause
layered f g l = f l.own ++ g l.source
