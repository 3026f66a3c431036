use Rattle.std.proofs.Common.{refl}
use Rattle.sheets.specs.Sheets.{names, rows}
use Rattle.sheets.proofs.held.Sheet.empty.Goals as goal

pub returns : goal.returns
unfolding names rows
returns c = (refl, refl)
