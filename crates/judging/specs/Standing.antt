-- The clauses of a case at rest, and of a set that is judged in it.
use Rattle.std.specs.Prelude.{List}
use Rattle.cases.specs.Cases.{resting}
use Rattle.cases.specs.declared.Case.{Case}
use Rattle.clauses.specs.declared.clauses.Clause.{Clause}
use Rattle.judging.specs.declared.judges.Judged.{Judged}
use Rattle.layers.specs.Standing.{observed_clauses}

-- those of the observations that stand, and then those of the source, which f gives
abbrev pub standing_clauses : {S : Type 0} → (S → List Clause) → Case S → List Clause
standing_clauses f c = observed_clauses f (resting c)

-- the clauses by which a set is judged: those of its case
abbrev pub judged_by : {S : Type 0} → (S → List Clause) → Judged S → List Clause
judged_by f j = standing_clauses f j.case.now
