-- The law over whole runs, in the words of the subject. A history is a list of entries, each a call with its answer. A call
-- that is pending keeps no law.
use Rattle.std.specs.Prelude.{◌≡◌, ◌↔◌, ℕ, ◌<◌, ◌≤◌, Bool, List, [], ◌∷◌, ◌++◌, length, take, ◌≢◌, slice_index}
use Rattle.std.specs.List.{AllByRecursion}
use Rattle.atoms.specs.Atoms.{bits}
use Rattle.atoms.specs.declared.AtomSet.{AtomSet}
use Rattle.models.specs.Models.{Explanations, Model}
use Rattle.clauses.specs.Clauses.{language}
use Rattle.clauses.specs.declared.clauses.Clause.{Clause}
use Rattle.layers.specs.Standing.{observed_over}
use Rattle.layers.specs.declared.observations.Observation.{Observation}
use Rattle.cases.specs.Observing.{observation, verdict, withdrawal, withdrawn}
use Rattle.cases.specs.declared.refusals.RequestRefusal.TheVariants.{ShelfFull}
use Rattle.histories.specs.Answers.{handed, told_observe, told_withdraw}
use Rattle.histories.specs.declared.calls.Answer.{Answer}
use Rattle.histories.specs.declared.calls.Answer.TheVariants.{Done, Explanation, NoMore, RequestRefused}
use Rattle.histories.specs.declared.calls.Call.{Call}
use Rattle.histories.specs.declared.calls.Call.TheVariants.{Observe, Withdraw, Open, Request, Close}
use Rattle.histories.specs.declared.calls.Entry.{Entry}

-- the call was taken
abbrev pub if_done : Answer → List Observation → List Observation → List Observation
if_done Done yes' no' = yes'
if_done r yes' no' = no'

-- the observations that stand after one more entry: an observation that is taken stands last, and a withdrawal takes the
-- last back
abbrev pub stood : List Observation → Call → Answer → List Observation
stood os (Observe a p) r = if_done r (os ++ (observation a p ∷ [])) os
stood os Withdraw r = if_done r (withdrawn os) os
stood os Open r = os
stood os Request r = os
stood os Close r = os

abbrev pub standing_from : List Observation → List Entry → List Observation
standing_from os [] = os
standing_from os (e ∷ es) = standing_from (stood os e.call e.answer) es

-- the observations taken and not taken back in a history, in order
abbrev pub standing : List Entry → List Observation
standing h = standing_from [] h

-- the entries are requests
abbrev pub Requests : List Entry → Type 0
Requests es = AllByRecursion (λ e. e.call ≡ Request) es

-- a listing of h, from its opening, which comes after `before`, up to any point: `during` are the requests until then
pub record Listed (h before during rest : List Entry) : Type 0 where
  pub opening : Entry
  pub place : h ≡ before ++ (opening ∷ (during ++ rest))
  pub opened : opening.call ≡ Open
  pub asked : Requests during

-- the answer r of a request, where the listing's clauses are cs with the explanations ms, and `out` was handed out in it before
pub record Due (cs : List Clause) (ms out : List ℕ) (places : ℕ) (r : Answer) : Type 0 where
  -- "no more" exactly when all are handed out
  pub no_more : (r ≡ NoMore) ↔ (out ≡ ms)
  -- with nothing handed out, exactly when the clauses have no model
  pub none_at_first : out ≡ [] → (r ≡ NoMore) ↔ ((t : ℕ) → ¬ Model language cs t)
  -- "shelf full" exactly when one is left and no place is free
  pub full : (r ≡ RequestRefused ShelfFull) ↔ ((length out < length ms) × (places ≤ length out))
  -- any other answer is the next explanation
  pub next :
      (r ≢ NoMore) → (r ≢ RequestRefused ShelfFull) →
      (s : AtomSet) × (r ≡ Explanation s) × (length out < length ms) × (bits s ≡ slice_index ms (length out))

-- a listing of h is open at its end
abbrev pub Opened : List Entry → Type 0
Opened h = (before : List Entry) × (during : List Entry) × Listed h before during []

-- whether a call may come, by whether a listing is open: requests and closings while it is, all others while none is
abbrev pub Turn : Type 0 → Call → Type 0
Turn P (Observe a p) = ¬ P
Turn P Withdraw = ¬ P
Turn P Open = ¬ P
Turn P Request = P
Turn P Close = P

-- the call may follow h
abbrev pub InTurn : List Entry → Call → Type 0
InTurn h k = Turn (Opened h) k

-- the law over a history of a case over a source with the clauses cs, with a shelf of so many places
pub record Complete (cs : List Clause) (places : ℕ) (h : List Entry) : Type 0 where
  -- each listing hands out the first so many explanations of the observations standing at its opening, then the source
  pub first_so_many :
      (before during rest : List Entry) → Listed h before during rest →
      (ms : List ℕ) → Explanations language (observed_over (standing before) cs) ms →
      handed during ≡ take (length (handed during)) ms
  -- each request is answered as is due
  pub requests :
      (before during rest : List Entry) (e : Entry) → Listed h before during (e ∷ rest) → e.call ≡ Request →
      (ms : List ℕ) → Explanations language (observed_over (standing before) cs) ms →
      Due (observed_over (standing before) cs) ms (handed during) places e.answer
  -- observing is refused where there is no such atom, else where it is observed, else taken
  pub observing :
      (before rest : List Entry) (e : Entry) (a : ℕ) (p : Bool) → h ≡ before ++ (e ∷ rest) → e.call ≡ Observe a p →
      e.answer ≡ told_observe (verdict (standing before) a)
  -- withdrawing is refused where nothing stands, else taken
  pub withdrawing :
      (before rest : List Entry) (e : Entry) → h ≡ before ++ (e ∷ rest) → e.call ≡ Withdraw →
      e.answer ≡ told_withdraw (withdrawal (standing before))
  -- opening and closing are done
  pub opening : (before rest : List Entry) (e : Entry) → h ≡ before ++ (e ∷ rest) → e.call ≡ Open → e.answer ≡ Done
  pub closing : (before rest : List Entry) (e : Entry) → h ≡ before ++ (e ∷ rest) → e.call ≡ Close → e.answer ≡ Done
  -- each call is in turn
  pub in_turn : (before rest : List Entry) (e : Entry) → h ≡ before ++ (e ∷ rest) → InTurn before e.call

-- where a listing is open at the end of h, the sets on its shelf are those that it has handed out
abbrev pub OnShelf : List Entry → List ℕ → Type 0
OnShelf h sets = (before during : List Entry) → Listed h before during [] → sets ≡ handed during
