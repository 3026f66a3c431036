use Rattle.indexed.proofs.Sharing.{chained_none}
use Rattle.indexed.proofs.shelf.IndexedShelfShelf.clear.Goals as goal

pub invariant_of-self : goal.invariant_of-self
invariant_of-self c = chained_none _ c.clear.ensures.empty
