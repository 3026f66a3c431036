use Rattle.round_trips.proofs.Once.{one_rewrite_reply}
use Rattle.round_trips.proofs.one_rewrite_reply.Goals as goal

pub returns : goal.returns
returns c = one_rewrite_reply
