use Rattle.shelf_tests.proofs.placeless.PlacelessShelf.holds_subset_of.Goals as goal
use Rattle.shelves.proofs.Held.{none_held}

pub returns : goal.returns
returns c = none_held c.args._set
