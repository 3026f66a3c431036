use Rattle.formats.proofs.Once.{one_outcome}
use Rattle.formats.proofs.one_outcome.Goals as goal

pub returns : goal.returns
returns c = one_outcome
