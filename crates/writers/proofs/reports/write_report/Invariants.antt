use Rattle.shelves.specs.Left.{sets_left}
use Rattle.writers.proofs.reports.write_report.Given as goal

abbrev pub ghost-any_unfit : goal.ghost-any_unfit
ghost-any_unfit g a = sets_left g.H.Shelf.sets a.rows

abbrev pub ghost-put : goal.ghost-put
ghost-put g a = sets_left g.H.Shelf.sets a.rows
