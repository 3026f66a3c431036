use Rattle.std.proofs.Common.{length, ap, arith, rules}
use Rattle.sheets.proofs.Parts.{rows-count}
use Rattle.sheets.proofs.Shown.{left_no_names, left_none, left-names, left_clause}
use Rattle.sheets.proofs.reader.SheetLinesIterator.next.Goals as goal
use Rattle.std.proofs.iter.Next.{firm}

pub returns-in_err-text : goal.returns-in_err-text
returns-in_err-text c =
    let e = left_no_names c.args.self.now c.in_err-text.ensures in
    record { steps = rw c.from_residual.ensures (e, e); goes = rw c.from_residual.ensures (record { on = λ _. tt; keeps = tt; rests = λ _. tt }) }

pub returns-then-read-self : goal.returns-then-read-self
returns-then-read-self c =
    let r = c.args.self.now in
    let e = left_none r c.in_ok-text.ensures.0 (omega (arith, rows-count r.sheet)) in
    record { steps = (e, e); goes = firm (tt) (λ h. search rules) }

pub returns-then-read-eq0 : goal.returns-then-read-eq0
returns-then-read-eq0 c =
    let p = c.in_ok-text.ensures in
    let e = left-names c.args.self.now p.0 c.in_ok-text.text.now p.1 c.if-read-eq0.true in
    record { steps = e; goes = firm ((tt, tt, omega (arith, ap length e))) (λ h. search rules) }

pub returns-else-read-eq0 : goal.returns-else-read-eq0
returns-else-read-eq0 c =
    let r = c.args.self.now in
    let e = left_clause r c.in_ok-text.ensures.0 c.row.result.now c.row.ensures.part c.if-read-eq0.false (omega (arith, rows-count r.sheet)) in
    record { steps = e; goes = firm ((tt, tt, omega (arith, ap length e))) (λ h. search rules) }
