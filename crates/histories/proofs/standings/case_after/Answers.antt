use Rattle.std.proofs.Common.{ap, ◌∙◌}
use Rattle.std.proofs.lemmas.List.{take_all}
use Rattle.layers.specs.Standing.{standing}
use Rattle.cases.specs.Cases.{resting}
use Rattle.histories.specs.Histories.{standing as standing_in}
use Rattle.histories.proofs.Stood.{stands_on}
use Rattle.histories.proofs.standings.case_after.Goals as goal

pub loop-made-preserved : goal.loop-made-preserved
loop-made-preserved g c =
    let l = c.loop-made in
    let q = c.make_again in (
      λ cs places later law.
          stands_on cs places c.args.history.now later law l.made-index c.loop-made-test.true c.made-item.result c.made-item.is
          (standing (resting l.case)) (standing (resting q.new.case)) (l.invariant.0 cs places later law) q.ensures.standing,
      q.ensures.below ∙ l.invariant.1,
    )

pub returns-clause-standing : goal.returns-clause-standing
returns-clause-standing g c = λ cs places later law.
    let l = c.loop-made in
    l.invariant.0 cs places later law ∙ ap standing_in (take_all l.made-index c.args.history.now c.loop-made-test.false)
