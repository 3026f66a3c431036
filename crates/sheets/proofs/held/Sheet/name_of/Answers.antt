use Rattle.std.proofs.Common.{length, ap, arith}
use Rattle.sheets.proofs.Parts.{no_names, some_names}
use Rattle.sheets.proofs.held.Sheet.name_of.Goals as goal

pub returns-then-self-eq0 : goal.returns-then-self-eq0
returns-then-self-eq0 c = omega (arith, ap length (no_names c.args.self.now c.if-self-eq0.true))

pub returns : goal.returns
returns c = rw (some_names c.args.self.now c.if-self-eq0.false, ← c.number.ensures.value) c.word_at.ensures
