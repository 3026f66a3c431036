use Rattle.std.proofs.Common.{◌≡◌, ◌*◌, ◌++◌, length, take, drop}
use Rattle.writers.specs.Documents.{row_lines}
use Rattle.writers.proofs.headings.Heading.put_rows.Given as goal

abbrev pub invariant-loop-k : goal.invariant-loop-k
invariant-loop-k g l =
    (goal.iterator-loop-k g).can_next l.k-iterator ×
    (goal.iterator-loop-k g).is_finite l.k-iterator ×
    (l.out ≡ row_lines g.R.Row.byte l.self.count (take (length l.yielded) g.xs) ++ drop (length l.yielded * (2 * l.self.count)) l.initial.out)
