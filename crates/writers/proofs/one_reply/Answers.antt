use Rattle.writers.proofs.Once.{one_reply}
use Rattle.writers.proofs.one_reply.Goals as goal

pub returns : goal.returns
returns c = one_reply
