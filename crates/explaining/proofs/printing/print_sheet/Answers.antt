use Rattle.std.proofs.Common.{◌≡◌, ◌∙◌, rules}
use Rattle.indexed.specs.Shelved.{room_of}
use Rattle.clauses.specs.Tables.{table_clauses}
use Rattle.sheets.specs.Sheets.{clauses}
use Rattle.explaining.specs.Reports.{most}
use Rattle.explaining.proofs.Copied.{of_table}
use Rattle.explaining.proofs.printing.print_sheet.Goals as goal

-- the table has the clauses of the sheet, with other origins
pub print_report-requires : goal.print_report-requires
print_report-requires c =
    let places : room_of c.new-shelf.result ≡ most = search rules in (
      c.requires,
      of_table (table_clauses c.new.result) c.deref.result.now (clauses c.args.sheet.now) c.new.ensures
          (c.deref.ensures.value ∙ c.in_ok-records.ensures) places c.list_first-complete.ensures.firsts,
    )
