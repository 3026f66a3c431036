use Rattle.std.proofs.Common.{◌≡◌, ℕ, ◌<◌, ◌≤◌, Bool, true, false, None, Some, Option, MatchBool, MatchOption, rules, arith}
use borrow.Author.Tests.{tests}
use Rattle.atoms.specs.Atoms.{bits, index}
use Rattle.atoms.specs.Sets.{Greatest}
use Rattle.atoms.specs.declared.Atom.{Atom}
use Rattle.atoms.specs.declared.AtomSet.{AtomSet}
use Rattle.atoms.proofs.Members.{empty_from_zero, not_has}
use Rattle.writers.specs.Documents.{Unnamed}
use Rattle.writers.proofs.rows.AtomSetRow.is_unfit.Goals as goal

-- the greatest atom of the set tells whether one has no name
by_greatest : (n : ℕ) (s : AtomSet) (r : Bool) (o : Option Atom) → MatchOption o (bits s ≡ 0) (λ a. Greatest (bits s) (index a) × (0 < bits s))
    → MatchOption o (r ≡ false) (λ a. MatchBool r (n ≤ index a) (index a < n)) → MatchBool r (Unnamed n s) (Unnamed n s → ⊥)
by_greatest n s true None z e = absurd (cc)
by_greatest n s false None z e = λ u. not_has (bits s) u.0 (empty_from_zero (bits s) z u.0) u.1
by_greatest n s true (Some a) g h = (index a, g.0.0, h)
by_greatest n s false (Some a) g h = λ u. omega (arith, g.0.1 u.0 u.1, u.2, h)

pub returns : goal.returns
returns c = by_greatest c.args.n c.args.self.now c.is_some_and.result c.greatest.result c.greatest.ensures (search (rules, tests))
