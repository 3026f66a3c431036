-- The law call by call: the phase in which a history leaves a case, and which answers are right there.
use Rattle.std.specs.Prelude.{◌≡◌, ℕ, List, [], ◌∷◌, ◌++◌, Some, None, Option}
use Rattle.models.specs.Models.{Explanations}
use Rattle.clauses.specs.Clauses.{language}
use Rattle.clauses.specs.declared.clauses.Clause.{Clause}
use Rattle.layers.specs.Standing.{observed_over}
use Rattle.layers.specs.declared.observations.Observation.{Observation}
use Rattle.cases.specs.Observing.{verdict, withdrawal}
use Rattle.cases.specs.Requests.{Answered, Reply}
use Rattle.histories.specs.Answers.{handed_by, told_observe, told_request, told_withdraw}
use Rattle.histories.specs.Histories.{stood, Turn}
use Rattle.histories.specs.declared.calls.Answer.{Answer}
use Rattle.histories.specs.declared.calls.Answer.TheVariants.{Done}
use Rattle.histories.specs.declared.calls.Call.{Call}
use Rattle.histories.specs.declared.calls.Call.TheVariants.{Observe, Withdraw, Open, Request, Close}
use Rattle.histories.specs.declared.calls.Entry.{Entry}

-- at rest, with the observations that stand; or in a listing, with those and the sets that it has handed out
pub data Phase : Type 0 where
  resting : List Observation → Phase
  listing : List Observation → List ℕ → Phase

-- the phase after a call was answered
abbrev pub after : Phase → Call → Answer → Phase
after (resting os) (Observe a p) r = resting (stood os (Observe a p) r)
after (resting os) Withdraw r = resting (stood os Withdraw r)
after (resting os) Open r = listing os []
after (resting os) Request r = resting os
after (resting os) Close r = resting os
after (listing os out) (Observe a p) r = listing os out
after (listing os out) Withdraw r = listing os out
after (listing os out) Open r = listing os out
after (listing os out) Request r = listing os (out ++ handed_by r)
after (listing os out) Close r = resting os

abbrev pub phase_from : Phase → List Entry → Phase
phase_from p [] = p
phase_from p (e ∷ es) = phase_from (after p e.call e.answer) es

-- a new case is at rest, with no observation
abbrev pub phase_after : List Entry → Phase
phase_after es = phase_from (resting []) es

-- the answer to a request, where the explanations are ms and `out` is handed out
abbrev pub Told : List ℕ → List ℕ → ℕ → Answer → Type 0
Told ms out places r = (x : Reply) × (r ≡ told_request x) × Answered ms out places x

-- a listing is open in the phase
abbrev pub Going : Phase → Type 0
Going (resting os) = ⊥
Going (listing os out) = Unit {0}

-- the call is not for the phase
abbrev pub Barred : Phase → Call → Type 0
Barred p k = ¬ Turn (Going p) k

-- the call is for the phase, and the answer is right there
abbrev pub Right : List Clause → ℕ → Phase → Call → Answer → Type 0
Right cs places (resting os) (Observe a p) r = r ≡ told_observe (verdict os a)
Right cs places (resting os) Withdraw r = r ≡ told_withdraw (withdrawal os)
Right cs places (resting os) Open r = r ≡ Done
Right cs places (resting os) Request r = ⊥
Right cs places (resting os) Close r = ⊥
Right cs places (listing os out) (Observe a p) r = ⊥
Right cs places (listing os out) Withdraw r = ⊥
Right cs places (listing os out) Open r = ⊥
Right cs places (listing os out) Request r = (ms : List ℕ) → Explanations language (observed_over os cs) ms → Told ms out places r
Right cs places (listing os out) Close r = r ≡ Done

-- each answer is right, from a phase on
abbrev pub LawfulFrom : List Clause → ℕ → Phase → List Entry → Type 0
LawfulFrom cs places p [] = Unit {0}
LawfulFrom cs places p (e ∷ es) = Right cs places p e.call e.answer × LawfulFrom cs places (after p e.call e.answer) es

abbrev pub Lawful : List Clause → ℕ → List Entry → Type 0
Lawful cs places h = LawfulFrom cs places (resting []) h

-- a call that is answered, or is not for the phase
abbrev pub Rightly : List Clause → ℕ → Phase → Call → Option Answer → Type 0
Rightly cs places p call None = Barred p call
Rightly cs places p call (Some r) = Right cs places p call r

abbrev pub onwards : Phase → Call → Option Answer → Phase
onwards p call None = p
onwards p call (Some r) = after p call r
