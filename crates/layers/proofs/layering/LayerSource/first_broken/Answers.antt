use Rattle.std.proofs.Common.{rules}
use Rattle.std.proofs.lemmas.Option.{MatchOption-at_none, MatchOption-at_some}
use Rattle.atoms.specs.Atoms.{bits}
use Rattle.layers.proofs.Fronts.{front_or}
use Rattle.layers.proofs.layering.LayerSource.first_broken.Goals as goal

pub returns : goal.returns
returns g c =
    let l = c.args.self.now in
    front_or (g.O.Source.clauses l.own) (g.S.Source.clauses l.source) (bits c.args.set) c.first_broken.result c.or_else.result
    c.first_broken.ensures (λ e. let h = MatchOption-at_none _ _ e c.or_else.ensures in search rules) (λ x e. MatchOption-at_some _ _ x e c.or_else.ensures)
