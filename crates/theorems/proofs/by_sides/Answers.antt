-- The theorem that `by_sides` states.
use Rattle.theorems.proofs.Sides.{by_sides}
use Rattle.theorems.proofs.by_sides.Goals as goal

pub returns : goal.returns
returns c = by_sides
