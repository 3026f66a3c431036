use Rattle.std.proofs.Common.{map, sym, arith}
use lib.ListN.{length-map}
use Rattle.atoms.specs.Atoms.{bits}
use Rattle.cases.specs.Cases.{clauses_of}
use Rattle.cases.proofs.Answering.{full_is, next_is, none_left}
use Rattle.cases.proofs.Listing.request.Goals as goal

-- there is no more
pub returns-in_default-clause-answer : goal.returns-in_default-clause-answer
returns-in_default-clause-answer g c = λ v ms e.
    none_left (clauses_of g.S.Source.clauses c.args.self.now) (g.H.Shelf.sets c.args.shelf.now) (c.in_default.ensures.reached v.stands).1 ms e

-- there is one, and no place for it
pub returns-in_err-keep-clause-answer : goal.returns-in_err-keep-clause-answer
returns-in_err-keep-clause-answer g c = λ v ms e.
    let ts = g.H.Shelf.sets c.args.shelf.now in
    let n = next_is (clauses_of g.S.Source.clauses c.args.self.now) ts c.next.new.self c.in-Some.set (c.in-Some.ensures.reached v.stands).1 ms e in
    full_is (map bits ts) ms (g.H.Shelf.room c.args.shelf.now) c.from_residual.result c.from_residual.ensures.1
    (n.0, omega (arith, c.in_err-keep.ensures.answer.was_full, length-map ts bits))

-- the next is on the shelf
pub returns-clause-answer : goal.returns-clause-answer
returns-clause-answer g c = λ v ms e.
    let ts = g.H.Shelf.sets c.args.shelf.now in
    let n = next_is (clauses_of g.S.Source.clauses c.args.self.now) ts c.next.new.self c.in-Some.set (c.in-Some.ensures.reached v.stands).1 ms e in
    (n.0, omega (arith, c.in_ok-keep.ensures.answer.had_place, length-map ts bits), sym n.1)
