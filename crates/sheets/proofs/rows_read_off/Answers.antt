use Rattle.sheets.proofs.Marks.{rows_read_off}
use Rattle.sheets.proofs.rows_read_off.Goals as goal

pub returns : goal.returns
returns c = rows_read_off
