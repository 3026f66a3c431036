use Rattle.std.proofs.Common.{arith}
use Rattle.atoms.proofs.Members.{trailing_least}
use Rattle.atoms.proofs.Values.{bits_below}
use Rattle.atoms.specs.Atoms.{bits, index}
use Rattle.atoms.proofs.AtomSet.least.Goals as goal

pub returns-then-self-eq0 : goal.returns-then-self-eq0
unfolding bits index
returns-then-self-eq0 c = c.if-self-eq0.true

pub returns-else-self-eq0 : goal.returns-else-self-eq0
unfolding bits index
returns-else-self-eq0 c =
    let g = trailing_least 64 c.args.self.word (omega arith) (bits_below c.args.self) in
    (g, omega arith)
