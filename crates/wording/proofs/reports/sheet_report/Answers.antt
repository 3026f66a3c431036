use Rattle.std.proofs.Common.{vec_items}
use Rattle.formats.specs.Outcomes.{outcome_of}
use Rattle.formats.specs.Outcomes.Outcome.{accepted}
use Rattle.sheets.specs.Sheets.{names, rows}
use Rattle.wording.proofs.Told.{reported}
use Rattle.wording.proofs.reports.sheet_report.Goals as goal

pub returns-in-Ok : goal.returns-in-Ok
returns-in-Ok c =
    let s = c.load.new.self in
    reported vec_items c.args.text.now (accepted (names s) (rows s)) c.accepted.result c.in-Ok.ensures c.accepted.ensures

pub returns-in-Err : goal.returns-in-Err
returns-in-Err c =
    reported vec_items c.args.text.now (outcome_of c.in-Err.fault) c.refusal_line.result c.in-Err.ensures.0 c.refusal_line.ensures
