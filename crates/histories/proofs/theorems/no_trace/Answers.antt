use Rattle.histories.proofs.Deciding.{no_trace}
use Rattle.histories.proofs.theorems.no_trace.Goals as goal

pub returns : goal.returns
returns c = no_trace
