use Rattle.histories.proofs.Performed.{opened}
use Rattle.histories.proofs.states.State.perform.Goals as goal

pub returns-in-AtRest-Open-clause-agrees : goal.returns-in-AtRest-Open-clause-agrees
returns-in-AtRest-Open-clause-agrees g c = λ p ag.
    let at = c.in-AtRest-Open in
    opened g.S.Source.clauses c.args.self c.args.call (g.H.Shelf.sets c.args.shelf.now) p ag at.case c.open.result (g.H.Shelf.sets c.clear.new.self)
    at.is-0 at.is-1 c.open.ensures.standing c.open.ensures.sound c.clear.ensures.empty
