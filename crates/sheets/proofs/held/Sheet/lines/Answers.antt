use Rattle.std.proofs.Common.{refl}
use Rattle.sheets.specs.Lines.{left}
use Rattle.sheets.proofs.held.Sheet.lines.Goals as goal

pub returns : goal.returns
unfolding left
returns c = refl
