use Rattle.std.proofs.Common.{◌≡◌, ◌++◌, length, take, drop}
use Rattle.sheets.specs.Sheets.{clauses}
use Rattle.round_trips.proofs.reading.read_clauses.Given as goal

abbrev pub invariant-loop-i : goal.invariant-loop-i
invariant-loop-i l =
    goal.iterator-loop-i.can_next l.i-iterator ×
    goal.iterator-loop-i.is_finite l.i-iterator ×
    (l.places ≡ take (length l.yielded) (clauses l.sheet) ++ drop (length l.yielded) l.initial.places)
