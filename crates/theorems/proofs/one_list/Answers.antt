-- The theorem that `one_list` states.
use Rattle.theorems.proofs.Ours.{one_list}
use Rattle.theorems.proofs.one_list.Goals as goal

pub returns : goal.returns
returns c = one_list
