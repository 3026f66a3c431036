use Rattle.indexed.proofs.IndexedShelf.chain_holds.Given as goal
use Rattle.indexed.proofs.Walked.{Walked}
use Rattle.indexed.specs.Chains.{slot_of}
use Rattle.lists.specs.Items.{items}

abbrev pub invariant-loop-link : goal.invariant-loop-link
invariant-loop-link l = Walked (items l.self.records) (slot_of l.fn.least) l.set l.link

abbrev pub decreases-loop-link : goal.decreases-loop-link
decreases-loop-link l = l.link
