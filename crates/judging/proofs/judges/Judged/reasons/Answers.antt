use Rattle.std.proofs.Common.{refl}
use Rattle.atoms.specs.Atoms.{bits}
use Rattle.judging.proofs.Reasoned.{reasons_minimal}
use Rattle.judging.specs.Standing.{judged_by}
use Rattle.judging.proofs.judges.Judged.reasons.Goals as goal

-- an atom has no reason, as never in a minimal model
pub returns-then-not-each_has_reason : goal.returns-then-not-each_has_reason
returns-then-not-each_has_reason g c =
    let cs = judged_by g.S.Source.clauses c.args.self.now in
    let s = bits c.args.self.now.set in
    let lacks = c.if-not-each_has_reason.ensures in
    record {
      answer = ((c.is_model.ensures.0 c.if-not-is_model.false, lacks), refl);
      minimal = λ m. lacks.2 (reasons_minimal cs s m lacks.0 lacks.1);
    }
