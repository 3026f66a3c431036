use Rattle.std.proofs.Common.{refl}
use Rattle.std.proofs.lemmas.Result.{err_from_is_err_and}
use Rattle.sheets.specs.Sheets.{names, rows}
use Rattle.sheets.proofs.held.Sheet.load.Goals as goal

pub returns-in_err-layout : goal.returns-in_err-layout
returns-in_err-layout c =
    let p = err_from_is_err_and c.from_residual.result c.from_residual.ensures.1 in
    rw (p.1, p.2) (c.in_err-layout.ensures, refl)

pub returns : goal.returns
unfolding names rows
returns c = c.in_ok-layout.ensures.0
