use Rattle.std.proofs.Common.{arith}
use Rattle.std.proofs.lemmas.List.{take_rest}
use Rattle.std.proofs.lemmas.Result.{err_from_is_err_and}
use Rattle.formats.proofs.Loads.{refused_twice, refused_stop, accepted_sheet, lies}
use Rattle.formats.proofs.layouts.Layout.read.Goals as goal

pub returns-then-repeats : goal.returns-then-repeats
returns-then-repeats c =
    refused_twice c.args.text.now c.in-Some.first c.in-Some.ensures (omega arith) c.if-repeats.ensures

pub returns-in_err-clauses : goal.returns-in_err-clauses
returns-in_err-clauses c =
    let p = err_from_is_err_and c.from_residual.result c.from_residual.ensures.1 in
    rw (p.1, p.2)
    (refused_stop c.args.text.now c.in-Some.first c.in-Some.ensures _ (omega arith) c.if-repeats.ensures (rw take_rest at c.in_err-clauses.ensures))

pub returns : goal.returns
returns c =
    let e = rw take_rest at c.in_ok-clauses.ensures in (
      accepted_sheet c.args.text.now c.in-Some.first c.in-Some.ensures c.in_ok-clauses.clauses e.0 (omega arith) c.if-repeats.ensures e.1,
      lies c.args.text.now c.in-Some.first c.in-Some.ensures c.in_ok-clauses.clauses e.0 (omega arith) c.if-repeats.ensures e.1,
    )
