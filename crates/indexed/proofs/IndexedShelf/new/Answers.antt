use Rattle.indexed.proofs.IndexedShelf.new.Goals as goal
use Rattle.indexed.proofs.Sharing.{chained_none}

pub invariant_of-result : goal.invariant_of-result
invariant_of-result c = chained_none _ c.new.ensures.empty
