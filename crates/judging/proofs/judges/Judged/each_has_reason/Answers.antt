use Rattle.std.proofs.lemmas.Iterator.{cases_from_all}
use Rattle.std.proofs.lemmas.Iterator.Consumers.{YieldsList-from_first}
use Rattle.std.proofs.Common.{rules}
use borrow.Author.Tests.{tests}
use Rattle.atoms.specs.Atoms.{bits, index}
use Rattle.atoms.specs.Members.{atoms_left, members}
use Rattle.judging.proofs.Reasoned.{each_told}
use Rattle.judging.specs.Reasons.{HasReason}
use Rattle.judging.specs.Standing.{judged_by}
use Rattle.judging.proofs.judges.Judged.each_has_reason.Goals as goal

pub returns : goal.returns
returns g c =
    let cs = judged_by g.S.Source.clauses c.args.self.now in
    let set = c.args.self.now.set in
    each_told cs set c.all.result
    (cases_from_all _ _ _ (λ a. HasReason cs (bits set) (index a)) (λ a. ¬ HasReason cs (bits set) (index a)) c.all.ensures.ran
    (YieldsList-from_first (λ x. x) atoms_left (members set) c.iter.ensures)
    (λ x q k. search (rules, tests))
    (λ x q k. search (rules, tests)))
