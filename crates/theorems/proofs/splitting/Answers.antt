-- The theorem that `splitting` states.
use Rattle.theorems.proofs.Ours.{splitting}
use Rattle.theorems.proofs.splitting.Goals as goal

pub returns : goal.returns
returns c = splitting
