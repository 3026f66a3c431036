use Rattle.std.specs.Iterator.Adapters.{copied_source}
use Rattle.std.specs.Slice.Iter.{iter_rest}
use Rattle.writers.proofs.sheets.write_sheet.Given as goal

abbrev pub ghost-put : goal.ghost-put
ghost-put a = iter_rest (copied_source a.rows)

abbrev pub ghost-any_unfit : goal.ghost-any_unfit
ghost-any_unfit a = iter_rest (copied_source a.rows)
