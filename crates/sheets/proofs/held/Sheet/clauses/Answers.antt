use Rattle.std.proofs.Common.{refl}
use Rattle.sheets.specs.Lines.{clauses_left}
use Rattle.sheets.proofs.held.Sheet.clauses.Goals as goal

pub returns : goal.returns
unfolding clauses_left
returns c = refl
