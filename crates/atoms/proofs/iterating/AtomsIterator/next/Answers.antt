use Rattle.std.proofs.Common.{length, ap, arith, rules}
use Rattle.atoms.specs.Members.{atoms_left}
use Rattle.atoms.proofs.Rising.{members_next, members_none}
use Rattle.atoms.proofs.iterating.AtomsIterator.next.Goals as goal
use Rattle.std.proofs.iter.Next.{firm}

pub returns-in_err-atom-clause-steps : goal.returns-in_err-atom-clause-steps
unfolding atoms_left
returns-in_err-atom-clause-steps c =
    let none = members_none c.args.self.now.left (c.in_err-atom.ensures) in
    rw c.from_residual.ensures (none, none)

pub returns : goal.returns
unfolding atoms_left
returns c =
    let e = members_next c.args.self.now.left c.without_least-self.result c.in_ok-atom.atom c.in_ok-atom.ensures.0 c.without_least-self.ensures in
    record { steps = e; goes = firm ((tt, tt, omega (arith, ap length e))) (λ h. search rules) }
