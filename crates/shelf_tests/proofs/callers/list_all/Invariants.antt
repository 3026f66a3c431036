use Rattle.std.proofs.Common.{◌≡◌, take}
use Rattle.lists.specs.Items.{Filled, cells, lender, room}
use Rattle.shelf_tests.proofs.callers.list_all.Given as goal

abbrev pub invariant-loop-element : goal.invariant-loop-element
invariant-loop-element l =
    Filled (cells l.initial.list) (take l.element-index l.elements) l.list
    × (room l.list ≡ room l.initial.list)
    × (lender l.list ≡ lender l.initial.list)
