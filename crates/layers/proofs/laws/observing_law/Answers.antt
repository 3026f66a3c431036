use Rattle.layers.proofs.Meanings.{observed_models}
use Rattle.layers.proofs.laws.observing_law.Goals as goal

pub returns : goal.returns
returns c os cs t = observed_models os 0 cs t
