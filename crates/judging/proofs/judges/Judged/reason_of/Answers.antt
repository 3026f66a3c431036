use Rattle.std.proofs.Common.{◌≡◌, ap, ◌∙◌, rules}
use Rattle.atoms.specs.Atoms.{bits}
use Rattle.clauses.specs.Clauses.{language}
use Rattle.models.specs.Models.{first_broken}
use Rattle.judging.proofs.Asked.{broken_reason, reason_told}
use Rattle.judging.specs.Standing.{judged_by}
use Rattle.std.specs.Prelude.{option_map}
use Rattle.judging.proofs.judges.Judged.reason_of.Goals as goal

pub returns : goal.returns
returns g c =
    let cs = judged_by g.S.Source.clauses c.args.self.now in
    let asked =
    c.first_broken.ensures ∙ ap (λ ds. first_broken language ds (bits c.without.result.set)) c.without.ensures.clauses
    ∙ ap (first_broken language cs) c.without.ensures.set in
    let mapped : c.map.result ≡ option_map (broken_reason c.args.atom) c.first_broken.result = search rules in
    reason_told cs (bits c.args.self.now.set) c.args.atom c.first_broken.result c.map.result asked mapped
