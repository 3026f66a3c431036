use Rattle.round_trips.proofs.Undone.{written_read}
use Rattle.round_trips.proofs.written_read.Goals as goal

pub returns : goal.returns
returns c = written_read
