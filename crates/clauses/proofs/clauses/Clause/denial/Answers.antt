use Rattle.std.proofs.Common.{◌^◌}
use Rattle.atoms.specs.Atoms.{index}
use Rattle.atoms.proofs.Values.{value_is}
use Rattle.clauses.proofs.clauses.Clause.denial.Goals as goal

pub returns : goal.returns
returns c =
    let body = value_is c.single.result (2 ^ index c.args.atom) c.single.ensures.value in
    let head = value_is c.empty.result 0 c.empty.ensures.value in
    cc
