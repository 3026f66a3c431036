-- The next place that is left, and the clause of the line there.
use Rattle.std.proofs.Common.{length, get_or, ap, ◌∙◌, arith, rules}
use Rattle.std.proofs.iter.Next.{firm}
use Rattle.sheets.specs.Lines.{clauses_left}
use Rattle.sheets.specs.Sheets.{clauses}
use Rattle.sheets.proofs.Shown.{clauses_none, clauses_next}
use Rattle.sheets.proofs.reader.SheetClausesIterator.next.Goals as goal

pub returns-in_err-next-clause-steps : goal.returns-in_err-next-clause-steps
unfolding clauses_left
returns-in_err-next-clause-steps c =
    let s = c.args.self.now in
    let step = c.in_err-next.ensures.steps in
    rw c.from_residual.ensures (
      clauses_none s.sheet s.left.start (omega (arith, step.1.0, s.last)),
      clauses_none s.sheet c.next.new.self.start (omega (arith, step.1.0, step.1.1, s.last)),
    )

pub returns-clause-steps : goal.returns-clause-steps
unfolding clauses_left
returns-clause-steps c =
    let s = c.args.self.now in
    let step = c.in_ok-next.ensures.steps in
    rw step.1.2 (clauses_next s.sheet s.left.start c.clause.result (omega (arith, step.1.0, s.last)) (c.clause.ensures ∙ ap (λ k. get_or (clauses s.sheet) k c.clause.result) step.1.1))

pub returns-clause-goes : goal.returns-clause-goes
returns-clause-goes c =
    let e = returns-clause-steps c in
    firm ((tt, tt, omega (arith, ap length e))) (λ h. search rules)
