use Rattle.std.proofs.Common.{List}
use Rattle.arrayvec.specs.ArrayVec.{array_vec_len}
use Rattle.walks.specs.Walks.{Advanced, stack}
use Rattle.walks.specs.declared.branches.Branch.{Branch}
use Rattle.walks.proofs.paths.Path.advance.Given as goal

-- the next branch of the records that are left is the next branch of all
abbrev pub invariant-loop-self : goal.invariant-loop-self
invariant-loop-self l = (st : List Branch) → Advanced (stack l.self) st → Advanced (stack l.initial.self) st

abbrev pub decreases-loop-self : goal.decreases-loop-self
decreases-loop-self l = array_vec_len l.self.branches
