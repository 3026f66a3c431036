use Rattle.atoms.proofs.Values.{value_is}
use Rattle.layers.proofs.capped.Cap.whole.Goals as goal

pub returns : goal.returns
returns c = let e = value_is c.empty.result 0 c.empty.ensures.value in cc
