use Rattle.std.proofs.Common.{◌≡◌, refl, rules, arith}
use Rattle.std.proofs.lemmas.Result.{err_from_is_err_and}
use Rattle.formats.specs.Format.{line}
use Rattle.sheets.specs.Sheets.{names, rows}
use Rattle.round_trips.proofs.Runs.{clause_count, rewrite_ok, rewrites}
use Rattle.round_trips.proofs.trips.rewrite.Goals as goal

pub returns-in_err-load : goal.returns-in_err-load
returns-in_err-load c =
    let p = err_from_is_err_and c.from_residual.result c.from_residual.ensures.1 in
    rw (p.1, p.2) (c.in_err-load.ensures.0, refl, refl)

pub returns-then-clauses-count : goal.returns-then-clauses-count
returns-then-clauses-count c =
    let s = c.load.new.self in
    ((names s, rows s, c.in_ok-load.ensures, omega (arith, clause_count (rows s), c.clause_count-count.ensures.value)), refl, refl)

pub returns-then-out-text : goal.returns-then-out-text
returns-then-out-text c =
    let s = c.load.new.self in
    ((names s, rows s, c.in_ok-load.ensures, omega (arith, clause_count (rows s), c.clause_count-count.ensures.value), omega arith), refl, refl)

pub unwrap-requires : goal.unwrap-requires
unwrap-requires c =
    let s = c.load.new.self in
    let l : c.unwrap-names.result.now ≡ line (names s) = search rules in
    rewrite_ok c.args.text.now (names s) (rows s) c.in_ok-load.ensures c.args.clauses.now c.read_clauses.new.places _
    c.args.out.now c.write_sheet.new.out c.unwrap-names.result.now c.write_sheet.result c.write_sheet.ensures
    (omega (arith, c.clause_count-count.ensures.value)) (omega arith) (omega arith) c.read_clauses.ensures l

pub returns : goal.returns
returns c =
    let s = c.load.new.self in
    let l : c.unwrap-names.result.now ≡ line (names s) = search rules in
    rewrites c.args.text.now (names s) (rows s) c.in_ok-load.ensures c.args.clauses.now c.read_clauses.new.places _
    c.args.out.now c.write_sheet.new.out c.unwrap-names.result.now c.write_sheet.result c.write_sheet.ensures
    (omega (arith, c.clause_count-count.ensures.value)) (omega arith) (omega arith) c.read_clauses.ensures l
    c.unwrap.result c.unwrap.ensures
