use Rattle.histories.proofs.Deciding.{no_freedom}
use Rattle.histories.proofs.theorems.no_freedom.Goals as goal

pub returns : goal.returns
returns c = no_freedom
