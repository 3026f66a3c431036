use Rattle.std.proofs.Common.{arith, rules, tests}
use Rattle.std.proofs.lemmas.Iterator.{cases_from_all}
use Rattle.std.proofs.lemmas.Iterator.Consumers.{YieldsList-from_enumerate}
use Rattle.formats.proofs.Cells.{CellOf, row_decided}
use Rattle.formats.proofs.Pieces.{YieldsList-from_chunks}
use Rattle.formats.proofs.lines.Columns.is_clause_line.Goals as goal

pub returns-then-line-self : goal.returns-then-line-self
returns-then-line-self c =
    let line = c.args.line.now in
    let n = c.args.self.names in
    row_decided n line (omega arith) c.if-line-self.true c.all.result
    (cases_from_all _ _ _ (CellOf n) (λ x. CellOf n x → ⊥) c.all.ensures.ran (YieldsList-from_enumerate (YieldsList-from_chunks 2 (omega arith) line (cc) (cc)) (cc))
    (λ x q k. search (rules, tests)) (λ x q k. search (rules, tests)))
