use Rattle.std.proofs.Common.{arith}
use Rattle.sheets.proofs.Parts.{no_names, names-count, first_part}
use Rattle.sheets.proofs.held.Sheet.names_line.Goals as goal

pub returns-then-self-eq0 : goal.returns-then-self-eq0
returns-then-self-eq0 c = no_names c.args.self.now c.if-self-eq0.true

pub returns-else-self-eq0 : goal.returns-else-self-eq0
returns-else-self-eq0 c =
    (omega (arith, names-count c.args.self.now), first_part c.args.self.now (omega arith))
