use Rattle.explaining.proofs.Once.{one_printed}
use Rattle.explaining.proofs.one_printed.Goals as goal

pub returns : goal.returns
returns c = one_printed
