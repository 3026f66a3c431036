use Rattle.layers.proofs.Meanings.{caps}
use Rattle.layers.proofs.capped.Layer+Cap+S.set_cap.Goals as goal

pub returns-clause-models : goal.returns-clause-models
returns-clause-models g c = caps c.args.set (g.S.Source.clauses c.args.self.now.source)
