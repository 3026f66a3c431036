use Rattle.std.proofs.Common.{◌*◌, get_or}
use Rattle.atoms.specs.Atoms.{bits}
use Rattle.atoms.specs.Sets.{hasb}
use Rattle.sheets.proofs.Marks.{Marked}
use Rattle.sheets.proofs.lookups.read_clause.Given as goal

abbrev pub invariant-loop-k : goal.invariant-loop-k
invariant-loop-k l =
    Marked (hasb (bits l.body)) (λ j. get_or l.line (2 * j) 0) 98 l.k
    × Marked (hasb (bits l.head)) (λ j. get_or l.line (2 * j) 0) 104 l.k
