use Rattle.round_trips.proofs.Undone.{read_written}
use Rattle.round_trips.proofs.read_written.Goals as goal

pub returns : goal.returns
returns c = read_written
