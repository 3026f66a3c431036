-- What the law over whole runs comes to.
use Rattle.std.specs.Prelude.{◌≡◌, ℕ, List, ◌∷◌, ◌++◌, map}
use Rattle.clauses.specs.declared.clauses.Clause.{Clause}
use Rattle.histories.specs.Answers.{call_of}
use Rattle.histories.specs.Histories.{Complete}
use Rattle.histories.specs.declared.calls.Answer.{Answer}
use Rattle.histories.specs.declared.calls.Answer.TheVariants.{ObserveRefused, WithdrawRefused, RequestRefused}
use Rattle.histories.specs.declared.calls.Entry.{Entry}

-- the law leaves no freedom: the calls, the clauses of the source and the places of the shelf decide every answer
abbrev pub NoFreedom : Type 0
NoFreedom =
    (cs : List Clause) (places : ℕ) (h h' : List Entry) → Complete cs places h → Complete cs places h' →
    map call_of h ≡ map call_of h' → h ≡ h'

-- the answer is a refusal
abbrev pub Refused : Answer → Type 0
Refused (ObserveRefused e) = Unit {0}
Refused (WithdrawRefused e) = Unit {0}
Refused (RequestRefused e) = Unit {0}
Refused r = ⊥

-- a refused call leaves no trace: the history without it keeps the law too
abbrev pub NoTrace : Type 0
NoTrace =
    (cs : List Clause) (places : ℕ) (before rest : List Entry) (e : Entry) → Refused e.answer →
    Complete cs places (before ++ (e ∷ rest)) → Complete cs places (before ++ rest)
