use Rattle.std.proofs.Common.{◌≡◌, vec_items}
use Rattle.explaining.proofs.copying.copy_clauses.Given as goal

-- the clauses that are passed
abbrev pub invariant-loop-clause : goal.invariant-loop-clause
invariant-loop-clause l = vec_items l.records ≡ l.yielded
