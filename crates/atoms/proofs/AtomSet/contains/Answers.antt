use Rattle.atoms.specs.Atoms.{bits, index}
use Rattle.atoms.proofs.Words.{contains_is}
use Rattle.atoms.proofs.AtomSet.contains.Goals as goal

pub returns : goal.returns
unfolding bits index
returns c = contains_is c.args.self.word c.args.atom.index
