use Rattle.std.proofs.Common.{rules}
use Rattle.std.proofs.lemmas.Option.{MatchOption-at_none, MatchOption-at_some}
use Rattle.walks.specs.Walks.{stack}
use Rattle.walks.proofs.Soundness.{visits}
use Rattle.walks.proofs.paths.Path.visit.Goals as goal

pub returns : goal.returns
returns g c =
    visits (g.S.Source.clauses c.args.source.now) (g.H.Shelf.sets c.args.shelf.now) (stack c.args.self.now) c.node.result c.map_or.result c.node.ensures
    (λ e. MatchOption-at_none _ _ e c.map_or.ensures) (λ n e. let h = MatchOption-at_some _ _ n e c.map_or.ensures in search rules)
