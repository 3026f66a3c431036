-- The next place that is left, and the set that stands there.
use Rattle.std.proofs.Common.{◌<◌, ap, ◌∙◌, arith}
use Rattle.std.specs.List.{slice_get}
use Rattle.shelves.proofs.Left.{left_next, progress_first}
use Rattle.shelves.proofs.sets.SetsIterator.next.Goals as goal

pub returns-clause-steps : goal.returns-clause-steps
returns-clause-steps g c =
    let s = c.args.self.now in
    let sets = g.H.Shelf.sets s.shelf.now in
    let step = c.in_ok-next.ensures.steps in
    let below : s.places.start < s.places.end = omega (arith, step.1.0) in
    rw step.0 (left_next sets s.places.start c.next.new.self.start s.places.end c.get.result below step.1.2
    (c.get.ensures ∙ ap (slice_get sets) step.1.1))

pub returns-clause-goes : goal.returns-clause-goes
returns-clause-goes g c = progress_first _ _ _ _ (returns-clause-steps g c)
