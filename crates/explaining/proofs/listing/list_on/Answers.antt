use Rattle.std.proofs.Common.{refl, ◌∙◌}
use Rattle.cases.specs.Cases.{clauses_of}
use Rattle.explaining.proofs.Requests.{begins, ends, goes_on, stops}
use Rattle.explaining.proofs.listing.list_on.Goals as goal

pub requests-init : goal.requests-init
requests-init g c =
    let f = g.S.Source.clauses in
    let l = c.args.listing.now in
    let h = c.args.shelf.now in
    (begins f (clauses_of f l) l (g.H.Shelf.sets h) (g.H.Shelf.room h) refl c.requires.0 c.requires.1, refl)

-- one more set is on the shelf
pub requests-preserved : goal.requests-preserved
requests-preserved g c =
    let e = c.in-Ok-Some.ensures in (
      (goes_on c.requests.invariant.0 c.in-Ok-Some.field-0 c.in-Ok-Some.field-0-0 c.request.new.self _ _ c.in-Ok-Some.field-0-is
          e.answer e.standing e.below e.room e.kept e.sound).0,
      e.lender ∙ c.requests.invariant.1,
    )

pub requests-smaller : goal.requests-smaller
requests-smaller g c =
    let e = c.in-Ok-Some.ensures in
    (goes_on c.requests.invariant.0 c.in-Ok-Some.field-0 c.in-Ok-Some.field-0-0 c.request.new.self _ _ c.in-Ok-Some.field-0-is
    e.answer e.standing e.below e.room e.kept e.sound).1

-- there are no more
pub returns-in-Ok-None-clause-firsts : goal.returns-in-Ok-None-clause-firsts
returns-in-Ok-None-clause-firsts g c =
    ends c.requests.invariant.0 c.in-Ok-None.field-0 _ c.in-Ok-None.field-0-is c.in-Ok-None.ensures.answer c.in-Ok-None.ensures.kept

-- there is no place for the next
pub returns-in-Err-clause-firsts : goal.returns-in-Err-clause-firsts
returns-in-Err-clause-firsts g c = stops c.requests.invariant.0 c.in-Err.field-0 _ c.in-Err.ensures.answer c.in-Err.ensures.kept
