use Rattle.std.proofs.Common.{length, length-append, rules, arith}
use Rattle.std.specs.Iterator.{YieldsFirst}
use Rattle.std.specs.Iterator.Adapters.{enumerate_source}
use Rattle.std.proofs.lemmas.Iterator.{YieldsList}
use Rattle.std.proofs.lemmas.Iterator.Consumers.{YieldsList-from_first}
use Rattle.sheets.specs.Lines.{clauses_left}
use Rattle.sheets.specs.Sheets.{clauses}
use Rattle.writers.proofs.Enumerated.{enumerated, enumerated_all}
use Rattle.round_trips.proofs.Placed.{filled_all, filled_more}
use Rattle.round_trips.proofs.reading.read_clauses.Goals as goal

pub loop-i-preserved : goal.loop-i-preserved
loop-i-preserved c =
    let cs = clauses c.args.sheet.now in
    let e : YieldsList (YieldsFirst clauses_left) (λ x. x) (enumerate_source c.into_iter-i-iterator.result) cs = YieldsList-from_first (λ x. x) clauses_left cs (search rules) in
    let w = enumerated (YieldsFirst clauses_left) cs c.into_iter-i-iterator.result e.runs (search rules) c.loop-i.yielded _ c.loop-i.yielded_by _ _ c.next.ensures.steps
    c.in-Some.i c.in-Some.clause c.in-Some.is in (
      search rules,
      search rules,
      filled_more cs c.args.places.now (length c.loop-i.yielded) c.in-Some.i _ c.in-Some.clause c.loop-i.places w.0 (omega (arith, w.0)) w.1 w.2
          (omega (arith, length-append c.loop-i.yielded)) c.loop-i.invariant.2,
    )

pub returns : goal.returns
returns c =
    let cs = clauses c.args.sheet.now in
    let e : YieldsList (YieldsFirst clauses_left) (λ x. x) (enumerate_source c.into_iter-i-iterator.result) cs = YieldsList-from_first (λ x. x) clauses_left cs (search rules) in
    filled_all cs c.args.places.now (length c.loop-i.yielded) c.loop-i.places
    (enumerated_all (YieldsFirst clauses_left) cs c.into_iter-i-iterator.result e.runs (search rules) c.loop-i.yielded _ c.loop-i.yielded_by _ _ c.next.ensures.steps c.in-None.is)
    c.loop-i.invariant.2
