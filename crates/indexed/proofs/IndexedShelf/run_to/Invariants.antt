use Rattle.std.proofs.Common.{length}
use Rattle.atoms.specs.Atoms.{bits}
use Rattle.atoms.specs.Sets.{◌⊆◌}
use Rattle.indexed.proofs.IndexedShelf.run_to.Given as goal
use Rattle.indexed.specs.Chains.{Shared, chain_of}
use Rattle.lists.specs.Items.{items}

abbrev pub invariant-loop-skip : goal.invariant-loop-skip
invariant-loop-skip l =
    let rs = items l.self.records in
    Shared rs (chain_of l.initial.common) (length rs) l.common l.skip × (bits l.common ⊆ bits l.initial.common)

abbrev pub decreases-loop-skip : goal.decreases-loop-skip
decreases-loop-skip l = l.skip
