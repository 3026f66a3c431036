use Rattle.atoms.specs.Atoms.{bits}
use Rattle.judging.proofs.Reasoned.{has_reason_told}
use Rattle.judging.specs.Standing.{judged_by}
use Rattle.judging.proofs.judges.Judged.has_reason.Goals as goal

pub returns : goal.returns
returns g c =
    has_reason_told (judged_by g.S.Source.clauses c.args.self.now) (bits c.args.self.now.set) c.args.atom c.reason_of.result
    c.is_some.result c.reason_of.ensures c.is_some.ensures
