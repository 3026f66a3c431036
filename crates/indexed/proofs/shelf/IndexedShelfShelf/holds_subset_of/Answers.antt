-- The chain of the empty set, and then those of the atoms.
use Rattle.std.proofs.Common.{rules, tests}
use Rattle.atoms.specs.Atoms.{index}
use Rattle.atoms.specs.Members.{atoms_left, members}
use Rattle.indexed.proofs.Asked.{asked_all}
use Rattle.indexed.proofs.shelf.IndexedShelfShelf.holds_subset_of.Goals as goal
use Rattle.indexed.specs.Chains.{NoneIn}
use Rattle.indexed.specs.Shelved.{sets_on}
use Rattle.shelves.specs.Shelves.{Holds}
use Rattle.std.proofs.lemmas.Iterator.{cases_from_any}
use Rattle.std.proofs.lemmas.Iterator.Consumers.{YieldsList-from_first}

pub returns-else-chain_holds : goal.returns-else-chain_holds
returns-else-chain_holds c =
    let s = c.args.set in
    let ts = sets_on c.args.self.now in
    asked_all ts s _ c.if-chain_holds.ensures
    (cases_from_any _ _ _ (λ _. Holds ts s) (λ a. NoneIn ts (index a) s) c.any.ensures.ran
    (YieldsList-from_first (λ a. a) atoms_left {s = c.iter.result} (members s) c.iter.ensures)
    (λ x q k. search (rules, tests)) (λ x q k. search (rules, tests)))
