use Rattle.writers.proofs.Pairs.{PairsAt}
use Rattle.writers.proofs.headings.Heading.put_row.Given as goal

abbrev pub invariant-loop-k : goal.invariant-loop-k
invariant-loop-k g l = PairsAt (g.R.Row.byte l.row) l.self.count l.out l.k
