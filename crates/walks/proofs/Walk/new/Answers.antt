use Rattle.walks.proofs.Soundness.{sound_begin}
use Rattle.walks.proofs.Walk.new.Goals as goal

pub returns : goal.returns
returns c = λ cs. sound_begin cs _ c.new.ensures
