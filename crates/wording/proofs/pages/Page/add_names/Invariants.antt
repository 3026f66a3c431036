use Rattle.std.proofs.Common.{◌≡◌, ◌++◌}
use Rattle.std.specs.List.{flat_map}
use Rattle.sheets.specs.Sheets.{names}
use Rattle.wording.specs.Pages.{page_sheet, page_text}
use Rattle.wording.proofs.Named.{name_at}
use Rattle.wording.proofs.pages.Page.add_names.Given as goal

abbrev pub invariant-loop-atom : goal.invariant-loop-atom
invariant-loop-atom l =
    (page_text l.self ≡ page_text l.initial.self ++ flat_map (λ a. l.gap ++ name_at (names (page_sheet l.initial.self)) a) l.yielded)
    × (page_sheet l.self ≡ page_sheet l.initial.self)
