use Rattle.std.proofs.Common.{get_or, ap, ◌∙◌, arith}
use Rattle.sheets.specs.Sheets.{clauses}
use Rattle.sheets.proofs.Parts.{clauses-count}
use Rattle.sheets.proofs.held.Sheet.clause_at.Goals as goal

pub returns-then-i-self : goal.returns-then-i-self
returns-then-i-self c =
    let i = c.in_ok-i.ensures in
    record {
      first = i.0;
      last = omega (arith, clauses-count c.args.self.now);
      is = c.clause.ensures ∙ ap (λ k. get_or (clauses c.args.self.now) k c.clause.result) (omega (arith, i.1));
    }

pub returns-else-i-self : goal.returns-else-i-self
returns-else-i-self c = λ a b. omega (arith, clauses-count c.args.self.now)
