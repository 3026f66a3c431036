-- The answers of calls, and the entries of a history.
use Rattle.std.specs.Prelude.{◌≡◌, ℕ, ◌≤◌, false, List, [], ◌∷◌, ◌++◌, map, length, drop, Some, None, Ok, Err, Result}
use Rattle.atoms.specs.Atoms.{bits}
use Rattle.cases.specs.Requests.{Reply}
use Rattle.cases.specs.declared.refusals.ObserveRefusal.{ObserveRefusal}
use Rattle.cases.specs.declared.refusals.WithdrawRefusal.{WithdrawRefusal}
use Rattle.histories.specs.declared.calls.Answer.{Answer}
use Rattle.histories.specs.declared.calls.Answer.TheVariants.{Pending, Done, Explanation, NoMore, ObserveRefused, WithdrawRefused, RequestRefused}
use Rattle.histories.specs.declared.calls.Call.{Call}
use Rattle.histories.specs.declared.calls.Call.TheVariants.{Observe}
use Rattle.histories.specs.declared.calls.Entry.{Entry}

-- what each call of a case is answered in a history
abbrev pub told_observe : Result Unit ObserveRefusal → Answer
told_observe (Ok u) = Done
told_observe (Err e) = ObserveRefused e

abbrev pub told_withdraw : Result Unit WithdrawRefusal → Answer
told_withdraw (Ok u) = Done
told_withdraw (Err e) = WithdrawRefused e

abbrev pub told_request : Reply → Answer
told_request (Ok (Some s)) = Explanation s
told_request (Ok None) = NoMore
told_request (Err e) = RequestRefused e

-- the sets that an answer hands out: one or none
abbrev pub handed_by : Answer → List ℕ
handed_by (Explanation s) = bits s ∷ []
handed_by r = []

-- the sets that entries hand out, in order
abbrev pub handed : List Entry → List ℕ
handed [] = []
handed (e ∷ es) = handed_by e.answer ++ handed es

abbrev pub call_of : Entry → Call
call_of e = e.call

-- the entry of a call that is not made yet
abbrev pub unmade : Call → Entry
unmade k = record { call = k; answer = Pending }

-- an entry of no history, where none is read
abbrev pub blank : Entry
blank = unmade (Observe 0 false)

-- the calls of so many of the entries were made: no call is changed, and no later entry
pub record Made (before after : List Entry) (made : ℕ) : Type 0 where
  -- there are as many entries
  pub within : made ≤ length after
  -- each entry has its call still
  pub calls : map call_of after ≡ map call_of before
  -- the entries past those are as they were
  pub rest : drop made after ≡ drop made before
