-- What a table means.
use Rattle.std.specs.Prelude.{List}
use Rattle.clauses.specs.Sources.{placed}
use Rattle.clauses.specs.declared.clauses.Clause.{Clause}
use Rattle.clauses.specs.declared.tables.Table.{Table}

abbrev pub table_clauses : Table → List Clause
table_clauses t = placed t.records.now
