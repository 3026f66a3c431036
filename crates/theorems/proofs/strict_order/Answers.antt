-- The theorem that `strict_order` states.
use Rattle.theorems.proofs.Ours.{strict_order}
use Rattle.theorems.proofs.strict_order.Goals as goal

pub returns : goal.returns
returns c = strict_order
