use Rattle.std.proofs.Common.{rules, tests}
use Rattle.atoms.specs.Atoms.{bits}
use Rattle.atoms.specs.Sets.{◌⊆◌}
use Rattle.lists.specs.Items.{items}
use Rattle.shelves.proofs.Held.{Outside, held_from}
use Rattle.shelves.proofs.flat.BoundedListAtomSetShelf.holds_subset_of.Goals as goal
use Rattle.std.proofs.lemmas.Iterator.{YieldsList-from_slice, cases_from_any}

pub returns : goal.returns
returns c =
    let s = c.args.set in
    let sets = items c.args.self.now in
    let each = YieldsList-from_slice {s = c.iter.result} sets (search rules) in
    held_from s sets _ (cases_from_any _ _ _ (λ t. bits t ⊆ bits s) (Outside s) c.any.ensures.ran each
    (λ x q k. search (rules, tests)) (λ x q k. search (rules, tests)))
