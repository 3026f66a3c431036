use Rattle.std.proofs.Common.{map}
use Rattle.atoms.specs.Atoms.{bits}
use Rattle.walks.specs.Walks.{Sound}
use Rattle.walks.proofs.Weights.{measure}
use Rattle.walks.proofs.Walk.next.Given as goal

-- the walk stays sound
abbrev pub invariant-loop-self : goal.invariant-loop-self
invariant-loop-self g l =
    let cs = g.S.Source.clauses l.source in
    let out = map bits (g.H.Shelf.sets l.shelf) in
    Sound cs l.initial.self out → Sound cs l.self out

-- its records fall in weight until it is done
abbrev pub decreases-loop-self : goal.decreases-loop-self
decreases-loop-self g l = measure l.self
