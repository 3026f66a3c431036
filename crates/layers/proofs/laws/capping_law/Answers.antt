use Rattle.layers.proofs.Meanings.{caps}
use Rattle.layers.proofs.laws.capping_law.Goals as goal

pub returns : goal.returns
returns c m cs = caps m cs
