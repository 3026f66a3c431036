-- The theorem that `empty_list` states.
use Rattle.theorems.proofs.Ours.{empty_list}
use Rattle.theorems.proofs.empty_list.Goals as goal

pub returns : goal.returns
returns c = empty_list
