use Rattle.std.proofs.Common.{◌≡◌, map, take, drop}
use Rattle.histories.specs.Answers.{call_of}
use Rattle.histories.specs.Phases.{Lawful, phase_after}
use Rattle.histories.specs.States.{Agrees, below_of}
use Rattle.histories.proofs.replays.run.Given as goal

-- the entries so far are lawful, and the case is in the phase that they leave
abbrev pub invariant-loop-i : goal.invariant-loop-i
invariant-loop-i g l =
    let f = g.S.Source.clauses in
    let h = g.H.Shelf in
    (below_of l.state ≡ below_of l.initial.state)
    × (h.room l.shelf ≡ h.room l.initial.shelf)
    × (h.lender l.shelf ≡ h.lender l.initial.shelf)
    × (map call_of l.entries ≡ map call_of l.initial.entries)
    × (drop l.i l.entries ≡ drop l.i l.initial.entries)
    × Lawful (f (below_of l.initial.state)) (h.room l.initial.shelf) (take l.i l.entries)
    × Agrees f l.state (h.sets l.shelf) (phase_after (take l.i l.entries))
