use Rattle.sheets.proofs.Shown.{lines_make_text}
use Rattle.sheets.proofs.lines_make_text.Goals as goal

pub returns : goal.returns
returns c = lines_make_text
