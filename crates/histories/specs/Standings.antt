-- What a case at rest answers to a call, by the observations that stand.
use Rattle.std.specs.Prelude.{List}
use Rattle.layers.specs.declared.observations.Observation.{Observation}
use Rattle.cases.specs.Observing.{verdict, withdrawal}
use Rattle.histories.specs.Answers.{told_observe, told_withdraw}
use Rattle.histories.specs.declared.calls.Answer.{Answer}
use Rattle.histories.specs.declared.calls.Answer.TheVariants.{Done}
use Rattle.histories.specs.declared.calls.Call.{Call}
use Rattle.histories.specs.declared.calls.Call.TheVariants.{Observe, Withdraw, Open, Request, Close}

abbrev pub replied : List Observation → Call → Answer
replied os (Observe a p) = told_observe (verdict os a)
replied os Withdraw = told_withdraw (withdrawal os)
replied os Open = Done
replied os Request = Done
replied os Close = Done
