use Rattle.std.proofs.Common.{ap, ◌∙◌}
use Rattle.atoms.specs.Sets.{hasb}
use Rattle.atoms.proofs.Members.{hasb-minus}
use Rattle.atoms.proofs.Values.{bits_below}
use Rattle.atoms.proofs.Words.{minus_is}
use Rattle.atoms.specs.Atoms.{bits}
use Rattle.atoms.proofs.AtomSet.difference.Goals as goal

pub returns : goal.returns
unfolding bits
returns c =
    let e = minus_is 64 c.args.self.word c.args.other.word (bits_below c.args.self) (bits_below c.args.other) in
    record { value = e; members = λ a. ap (λ x. hasb x a) e ∙ hasb-minus c.args.self.word c.args.other.word a }
