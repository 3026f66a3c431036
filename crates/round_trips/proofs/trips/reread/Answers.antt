use Rattle.std.proofs.Common.{take, rules, arith}
use Rattle.formats.specs.Format.{IsSheet}
use Rattle.sheets.specs.Sheets.{names, rows}
use Rattle.round_trips.proofs.Runs.{count_back, not_refused, ok_since, rereads}
use Rattle.round_trips.proofs.trips.reread.Goals as goal

pub unwrap-requires : goal.unwrap-requires
unwrap-requires c =
    ok_since c.load.result _ _ c.load.ensures
    (λ f h. not_refused c.args.names.now c.args.clauses.now c.args.text.now c.in_ok-size.size c.write_sheet.new.out c.in_ok-size.ensures f h.0)

pub read_clauses-requires : goal.read_clauses-requires
read_clauses-requires c =
    let s = c.load.new.self in
    let l : IsSheet (take c.in_ok-size.size c.write_sheet.new.out) (names s) (rows s) = search rules in
    omega (arith, count_back c.args.names.now c.args.clauses.now c.args.text.now c.in_ok-size.size c.write_sheet.new.out c.in_ok-size.ensures (names s) (rows s) l)

pub returns : goal.returns
returns c =
    let s = c.load.new.self in
    let l : IsSheet (take c.in_ok-size.size c.write_sheet.new.out) (names s) (rows s) = search rules in
    rereads c.args.names.now c.args.clauses.now c.args.text.now c.in_ok-size.size c.write_sheet.new.out c.in_ok-size.ensures (names s) (rows s) l
    c.args.again.now c.read_clauses.new.places _ (omega arith) (omega arith) c.read_clauses.ensures
