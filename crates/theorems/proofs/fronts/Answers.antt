-- The theorem that `fronts` states.
use Rattle.theorems.proofs.Ours.{fronts}
use Rattle.theorems.proofs.fronts.Goals as goal

pub returns : goal.returns
returns c = fronts
