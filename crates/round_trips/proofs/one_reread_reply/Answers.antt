use Rattle.round_trips.proofs.Once.{one_reread_reply}
use Rattle.round_trips.proofs.one_reread_reply.Goals as goal

pub returns : goal.returns
returns c = one_reread_reply
