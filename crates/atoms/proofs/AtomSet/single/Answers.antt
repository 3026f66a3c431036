use Rattle.std.proofs.Common.{ap, ◌∙◌}
use Rattle.std.proofs.lemmas.Nat.{one_shl}
use Rattle.atoms.specs.Atoms.{bits, index}
use Rattle.atoms.specs.Sets.{hasb}
use Rattle.atoms.proofs.Members.{hasb_pow}
use Rattle.atoms.proofs.Values.{index_below}
use Rattle.atoms.proofs.AtomSet.single.Goals as goal

pub returns : goal.returns
unfolding bits index
returns c =
    let e = one_shl c.args.atom.index 64 (index_below c.args.atom) in
    record { value = e; members = λ b. ap (λ x. hasb x b) e ∙ hasb_pow c.args.atom.index b }
