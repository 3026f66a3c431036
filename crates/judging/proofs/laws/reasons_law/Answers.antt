use Rattle.judging.proofs.Reasoned.{reasons_law}
use Rattle.judging.proofs.laws.reasons_law.Goals as goal

pub returns : goal.returns
returns c = reasons_law
