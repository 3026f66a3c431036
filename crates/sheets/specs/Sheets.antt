-- What a sheet means: its names, where name number k from 0 is that of atom k, and its clauses.
use Rattle.std.specs.Prelude.{ℕ, List}
use Rattle.clauses.specs.declared.clauses.Clause.{Clause}
use Rattle.formats.specs.Places.{names_in, rows_in}
use Rattle.sheets.specs.Meaning.{row_clauses}
use Rattle.sheets.specs.declared.held.Sheet.{Sheet}

-- its names
unfoldable pub names : Sheet → List (List ℕ)
names s = names_in s.layout s.text.now

-- the values of its clause lines
unfoldable pub rows : Sheet → List (List ℕ)
rows s = rows_in s.layout s.text.now

-- its clauses
abbrev pub clauses : Sheet → List Clause
clauses s = row_clauses (rows s)
