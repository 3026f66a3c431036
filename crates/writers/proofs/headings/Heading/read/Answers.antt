use Rattle.std.proofs.Common.{refl, arith}
use Rattle.writers.proofs.Heads.{heading, more_after, repeated}
use Rattle.writers.proofs.headings.Heading.read.Goals as goal

pub returns-then-first-text : goal.returns-then-first-text
returns-then-first-text c = more_after c.args.text.now c.in-Some.first c.in-Some.ensures (λ e. omega arith)

pub returns-then-repeats : goal.returns-then-repeats
returns-then-repeats c = repeated c.args.text.now c.in-Some.first c.in-Some.ensures (omega arith) c.if-repeats.ensures

pub returns : goal.returns
returns c = (refl, heading c.args.text.now c.in-Some.first c.in-Some.ensures (omega arith) c.if-repeats.ensures)
