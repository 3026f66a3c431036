use Rattle.std.proofs.Common.{ap, ◌∙◌}
use lib.Bits.{bit_or}
use Rattle.atoms.specs.Atoms.{bits, index}
use Rattle.atoms.specs.Sets.{hasb}
use Rattle.atoms.proofs.Members.{hasb-insert}
use Rattle.atoms.proofs.AtomSet.with.Goals as goal

pub returns : goal.returns
returns c =
    let e = c.union.ensures.value ∙ ap (bit_or (bits c.args.self)) c.single.ensures.value in
    record { value = e; members = λ b. ap (λ x. hasb x b) e ∙ hasb-insert (bits c.args.self) (index c.args.atom) b }
