use Rattle.std.proofs.Common.{◌≡◌, ◌-◌, length}
use Rattle.cases.specs.Cases.{clauses_of}
use Rattle.explaining.proofs.Requests.{Going}
use Rattle.explaining.proofs.listing.list_on.Given as goal

-- the listing stays sound, and the shelf has what it handed out
abbrev pub invariant-requests : goal.invariant-requests
invariant-requests g l =
    Going g.S.Source.clauses (clauses_of g.S.Source.clauses l.initial.listing) (g.H.Shelf.room l.initial.shelf) l.listing
    (g.H.Shelf.sets l.shelf) (g.H.Shelf.room l.shelf)
    × (g.H.Shelf.lender l.shelf ≡ g.H.Shelf.lender l.initial.shelf)

-- the places that are left
abbrev pub decreases-requests : goal.decreases-requests
decreases-requests g l = g.H.Shelf.room l.initial.shelf - length (g.H.Shelf.sets l.shelf)
