use Rattle.std.proofs.Common.{sym, ap, ◌∙◌, arith}
use Rattle.sheets.specs.Meaning.{row_clause}
use Rattle.sheets.proofs.Parts.{clauses_few, clause_of_row}
use Rattle.sheets.proofs.held.Sheet.clause.Goals as goal

pub read_clause-requires : goal.read_clause-requires
read_clause-requires c =
    (c.row.ensures.size, (c.args.self.now.few, omega (arith, c.requires, clauses_few c.args.self.now)))

pub returns : goal.returns
returns c =
    c.read_clause.ensures
    ∙ (ap (row_clause c.args.i) c.row.ensures.values ∙ sym (clause_of_row c.args.self.now c.args.i c.read_clause.result c.requires))
