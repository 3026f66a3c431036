-- The theorem that `computed_list` states.
use Rattle.theorems.proofs.Ours.{computed_list}
use Rattle.theorems.proofs.computed_list.Goals as goal

pub returns : goal.returns
returns c = computed_list
