use Rattle.std.proofs.lemmas.Result.{IfOk-weaker}
use Rattle.explaining.specs.Explained.Explained.{a_sheet, no_sheet}
use Rattle.explaining.proofs.explain.Goals as goal

pub returns-in-Ok : goal.returns-in-Ok
returns-in-Ok c = IfOk-weaker c.print_sheet.result _ _ (λ v l. a_sheet c.in-Ok.ensures l) c.print_sheet.ensures

pub returns-in-Err : goal.returns-in-Err
returns-in-Err c = IfOk-weaker c.refusal_line.result _ _ (λ v e. no_sheet c.in-Err.ensures.0 e) c.refusal_line.ensures
