use Rattle.std.proofs.Common.{rules, not}
use Rattle.atoms.specs.Atoms.{bits}
use Rattle.clauses.proofs.Decided.{told}
use Rattle.clauses.proofs.clauses.Clause.is_broken_by.Goals as goal

pub returns-then-is_subset-clause-test : goal.returns-then-is_subset-clause-test
returns-then-is_subset-clause-test c = told (not c.intersects.result) (bits c.args.set) c.args.self.now (search rules)

pub returns-else-is_subset-clause-test : goal.returns-else-is_subset-clause-test
returns-else-is_subset-clause-test c = told c.is_subset.result (bits c.args.set) c.args.self.now (search rules)
