use Rattle.atoms.specs.Atoms.{bits}
use Rattle.judging.proofs.Asked.{model_decided}
use Rattle.judging.specs.Standing.{judged_by}
use Rattle.judging.proofs.judges.Judged.is_model.Goals as goal

pub returns : goal.returns
returns g c =
    model_decided (judged_by g.S.Source.clauses c.args.self.now) (bits c.args.self.now.set) c.first_broken.result c.is_none.result
    c.first_broken.ensures c.is_none.ensures
