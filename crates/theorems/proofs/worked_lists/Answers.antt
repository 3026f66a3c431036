-- The theorem that `worked_lists` states.
use Rattle.theorems.proofs.Sides.{worked}
use Rattle.theorems.proofs.worked_lists.Goals as goal

pub returns : goal.returns
returns c = worked
