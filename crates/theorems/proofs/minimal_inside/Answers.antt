-- The theorem that `minimal_inside` states.
use Rattle.theorems.proofs.Ours.{minimal_inside}
use Rattle.theorems.proofs.minimal_inside.Goals as goal

pub returns : goal.returns
returns c = minimal_inside
