-- The names and the rows are those of the sheet that the text was loaded into.
use Rattle.std.proofs.Common.{◌≡◌, ℕ, List, Ok, Err, Result, MatchResult}
use Rattle.formats.specs.Outcomes.Outcome.{accepted}
use Rattle.formats.specs.Outcomes.{Says, outcome_of}
use Rattle.formats.specs.declared.faults.SheetFault.{SheetFault}
use Rattle.sheets.specs.Sheets.{names, rows}
use Rattle.sheets.specs.declared.held.Sheet.{Sheet}
use Rattle.sheet_tests.proofs.loading.load.Goals as goal

told : (r : Result (Unit {0}) SheetFault) (text : List ℕ) (before after : Sheet)
    → MatchResult r (λ _. Says text (accepted (names after) (rows after))) (λ f. Says text (outcome_of f) × (after ≡ before))
    → MatchResult r (λ _. (names : List (List ℕ)) × (rows : List (List ℕ)) × Says text (accepted names rows)) (λ f. Says text (outcome_of f))
told (Ok x) text before after h = (names after, rows after, h)
told (Err f) text before after h = h.0

pub returns : goal.returns
returns c = told c.load.result c.args.text.now c.empty-sheet.result c.load.new.self c.load.ensures
