use Rattle.std.proofs.Common.{◌≡◌, ◌++◌}
use Rattle.std.specs.List.{flat_map}
use Rattle.sheets.specs.Sheets.{names}
use Rattle.wording.specs.Pages.{page_sheet, page_text}
use Rattle.wording.specs.Words.{clause_text}
use Rattle.wording.proofs.pages.Page.add_clauses.Given as goal

abbrev pub invariant-loop-clause : goal.invariant-loop-clause
invariant-loop-clause l =
    (page_text l.self ≡ page_text l.initial.self ++ flat_map (clause_text (names (page_sheet l.initial.self))) l.yielded)
    × (page_sheet l.self ≡ page_sheet l.initial.self)
