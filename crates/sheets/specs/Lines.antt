-- The lines and the clauses of a sheet, as they are handed out.
use Rattle.std.specs.Prelude.{◌≡◌, ℕ, ◌+◌, ◌≤◌, List, [], ◌∷◌, length, drop, Option, MatchOption}
use Rattle.std.specs.List.{flat_map}
use Rattle.formats.specs.Format.{line, clause_line, render}
use Rattle.clauses.specs.declared.clauses.Clause.{Clause as SheetClause}
use Rattle.sheets.specs.Sheets.{clauses, names, rows}
use Rattle.sheets.specs.declared.left.SheetClauses.{SheetClauses}
use Rattle.sheets.specs.declared.reader.SheetLine.{SheetLine}
use Rattle.sheets.specs.declared.reader.SheetLine.TheVariants.{Names, Clause}
use Rattle.sheets.specs.declared.reader.SheetLines.{SheetLines}

-- a line with its byte 10, and its number
pub data LineText : Type 0 where
  names_part : List ℕ → ℕ → LineText
  clause_part : List ℕ → ℕ → LineText

-- what a line that is handed out shows
abbrev pub shown : SheetLine → LineText
shown (Names part number) = names_part part.now number
shown (Clause part number) = clause_part part.now number

-- the clause lines of rows, the first of which stands on line i + 2
abbrev pub clause_lines : ℕ → List (List ℕ) → List LineText
clause_lines i [] = []
clause_lines i (row ∷ rows) = clause_part (clause_line row) (i + 2) ∷ clause_lines (i + 1) rows

-- the lines of a sheet: the names, and then clause after clause; the empty sheet has none
abbrev pub sheet_lines : List (List ℕ) → List (List ℕ) → List LineText
sheet_lines [] rows = []
sheet_lines (w ∷ ws) rows = names_part (line (w ∷ ws)) 1 ∷ clause_lines 0 rows

-- the lines that a reader has not handed out yet
unfoldable pub left : SheetLines → List LineText
left r = drop r.read (sheet_lines (names r.sheet) (rows r.sheet))

-- one step of a reader: the next line that is left, or none where none is left
abbrev pub Step : SheetLines → Option SheetLine → SheetLines → Type 0
Step before o after = MatchOption o ((left before ≡ []) × (left after ≡ [])) (λ l. left before ≡ shown l ∷ left after)

-- the bytes of a line
abbrev pub line_bytes : LineText → List ℕ
line_bytes (names_part part number) = part
line_bytes (clause_part part number) = part

-- the lines of a sheet, one after another, are its text
abbrev pub LinesMakeText : Type 0
LinesMakeText = (names rows : List (List ℕ)) → 1 ≤ length names → flat_map line_bytes (sheet_lines names rows) ≡ render names rows

-- the clauses that are not handed out yet
unfoldable pub clauses_left : SheetClauses → List SheetClause
clauses_left r = drop r.left.start (clauses r.sheet)
