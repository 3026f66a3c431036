-- The theorem that `first_broken_is_first` states.
use Rattle.theorems.proofs.Ours.{first_broken_lem}
use Rattle.theorems.proofs.first_broken_is_first.Goals as goal

pub returns : goal.returns
returns c = first_broken_lem
