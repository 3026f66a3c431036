use Rattle.std.proofs.Common.{sym, arith}
use Rattle.std.proofs.lemmas.List.{length-take-le}
use Rattle.formats.proofs.Splits.{read_past}
use Rattle.formats.proofs.names.names_line.Goals as goal

pub slice_bounds-read_names-end : goal.slice_bounds-read_names-end
slice_bounds-read_names-end c =
    sym (length-take-le 1088 c.args.text.now (omega (arith, c.if-text-gt-LONGEST_LINE.true)))

pub returns-then-text-gt-LONGEST_LINE : goal.returns-then-text-gt-LONGEST_LINE
returns-then-text-gt-LONGEST_LINE c = read_past c.args.text.now c.read_names.result c.read_names.ensures
