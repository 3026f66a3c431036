use Rattle.std.proofs.Common.{ap, ◌∙◌}
use Rattle.atoms.specs.Atoms.{bits, index}
use Rattle.atoms.specs.Sets.{hasb, minus}
use Rattle.atoms.proofs.Members.{hasb-remove}
use Rattle.atoms.proofs.AtomSet.without.Goals as goal

pub returns : goal.returns
returns c =
    let e = c.difference.ensures.value ∙ ap (minus (bits c.args.self)) c.single.ensures.value in
    record { value = e; members = λ b. ap (λ x. hasb x b) e ∙ hasb-remove (bits c.args.self) (index c.args.atom) b }
