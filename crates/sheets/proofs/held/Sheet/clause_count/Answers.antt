use Rattle.std.proofs.Common.{sym}
use Rattle.sheets.proofs.Parts.{clauses-count, clauses_few}
use Rattle.sheets.proofs.held.Sheet.clause_count.Goals as goal

pub returns : goal.returns
returns c = record { value = sym (clauses-count c.args.self.now); bound = clauses_few c.args.self.now }
