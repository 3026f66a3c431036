use Rattle.std.proofs.Common.{get_or, take}
use Rattle.histories.specs.Answers.{blank, call_of}
use Rattle.histories.proofs.Completing.{complete}
use Rattle.histories.proofs.Phased.{barred}
use Rattle.histories.proofs.Replayed.{on_shelf}
use Rattle.histories.proofs.replays.replay.Goals as goal

pub returns-clause-complete : goal.returns-clause-complete
returns-clause-complete g c =
    let r = c.run-state in
    complete (g.S.Source.clauses c.args.source) (g.H.Shelf.room c.args.shelf.now) (take r.result.1 r.new.entries) r.ensures.lawful

pub returns-clause-shelf : goal.returns-clause-shelf
returns-clause-shelf g c =
    let f = g.S.Source.clauses in
    let r = c.run-state in
    on_shelf f (f c.args.source) (g.H.Shelf.room c.args.shelf.now) (take r.result.1 r.new.entries) r.ensures.lawful r.result.0
    (g.H.Shelf.sets r.new.shelf) r.ensures.agrees

pub returns-clause-stopped : goal.returns-clause-stopped
returns-clause-stopped g c = λ few.
    let r = c.run-state in
    barred (g.S.Source.clauses c.args.source) (g.H.Shelf.room c.args.shelf.now) (take r.result.1 r.new.entries) r.ensures.lawful
    (call_of (get_or r.new.entries r.result.1 blank)) (r.ensures.stopped few)
