use Rattle.std.proofs.Common.{rules}
use borrow.Author.Tests.{tests}
use Rattle.std.proofs.lemmas.Iterator.{YieldsList, cases_from_any}
use Rattle.writers.proofs.Found.{among}
use Rattle.writers.proofs.headings.Heading.any_unfit.Goals as goal

pub returns : goal.returns
returns g c =
    let P = g.R.Row.unfit c.args.self.now.count in
    let e : YieldsList g.I.Iterator.next_gives (λ x. x) c.args.rows g.xs = record { runs = search rules } in
    among P g.xs c.any.result
    (cases_from_any _ _ c.any.result P (λ x. P x → ⊥) c.any.ensures.ran e (λ x q k. search (rules, tests)) (λ x q k. search (rules, tests)))
