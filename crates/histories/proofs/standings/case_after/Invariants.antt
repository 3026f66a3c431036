use Rattle.std.proofs.Common.{◌≡◌, ℕ, List, ◌++◌, take}
use Rattle.clauses.specs.declared.clauses.Clause.{Clause}
use Rattle.layers.specs.Standing.{below, standing}
use Rattle.cases.specs.Cases.{resting}
use Rattle.histories.specs.Histories.{Complete, standing as standing_in}
use Rattle.histories.specs.declared.calls.Entry.{Entry}
use Rattle.histories.proofs.standings.case_after.Given as goal

abbrev pub invariant-loop-made : goal.invariant-loop-made
invariant-loop-made g l =
    ((cs : List Clause) (places : ℕ) (later : List Entry) → Complete cs places (l.history ++ later) →
    standing (resting l.case) ≡ standing_in (take l.made-index l.history))
    × (below (resting l.case) ≡ below (resting l.initial.case))
