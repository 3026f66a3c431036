-- What reading a text as a sheet comes to: its names and clauses, or one of four refusals.
use Rattle.std.specs.Prelude.{◌≡◌, ℕ, ◌+◌, ◌<◌, ◌≤◌, List, ◌++◌, length, Some, None, Option}
use Rattle.formats.specs.Format.{longest, Apart, Content, IsSheet, Begins, BeginsRow, render}
use Rattle.formats.specs.Places.{Stops}
use Rattle.formats.specs.declared.faults.SheetFault.{SheetFault}
use Rattle.formats.specs.declared.faults.SheetFault.TheVariants.{Long, Names, Twice, Clause}

-- the number of each refusal
abbrev pub number_of : SheetFault → ℕ
number_of Long = 1
number_of Names = 2
number_of Twice = 3
number_of (Clause at) = 4

-- the line that a refusal names
abbrev pub line_of : SheetFault → Option ℕ
line_of Long = None
line_of Names = None
line_of Twice = None
line_of (Clause at) = Some at

-- line 1 is not as described
abbrev pub NoNames : List ℕ → Type 0
NoNames text = (names : List (List ℕ)) (rest : List ℕ) → Begins text names rest → ⊥

-- the text begins with no line of a clause for n names
abbrev pub NoRow : ℕ → List ℕ → Type 0
NoRow n text = (row rest : List ℕ) → BeginsRow n text row rest → ⊥

-- line 1 is as described, but for a name that stands twice
pub record Repeated (text : List ℕ) : Type 0 where
  pub names : List (List ℕ)
  pub rest : List ℕ
  pub begins : Begins text names rest
  pub again : Apart names → ⊥

-- after some clause lines comes line `at`, which is no clause line
pub record Stopped (text : List ℕ) (at : ℕ) : Type 0 where
  pub names : List (List ℕ)
  pub rows : List (List ℕ)
  pub rest : List ℕ
  pub content : Content names rows
  pub is : text ≡ render names rows ++ rest
  pub number : at ≡ 2 + length rows
  pub more : 0 < length rest
  pub none : NoRow (length names) rest

-- a text is refused under this number, and the refusal names this line; each refusal is due only where no earlier one is
pub data Refused (text : List ℕ) (number : ℕ) (named : Option ℕ) : Type 0 where
  too_long : number ≡ 1 → named ≡ None → longest < length text → Refused text number named
  no_names : number ≡ 2 → named ≡ None → length text ≤ longest → NoNames text → Refused text number named
  name_twice : number ≡ 3 → named ≡ None → length text ≤ longest → Repeated text → Refused text number named
  no_clause : (at : ℕ) → number ≡ 4 → named ≡ Some at → length text ≤ longest → Stopped text at → Refused text number named

-- names and clauses, or a refusal by its number and the line that it names
pub data Outcome : Type 0 where
  accepted : List (List ℕ) → List (List ℕ) → Outcome
  refused : ℕ → Option ℕ → Outcome

-- what a fault stands for
abbrev pub outcome_of : SheetFault → Outcome
outcome_of f = refused (number_of f) (line_of f)

-- reading the text comes to this outcome
abbrev pub Says : List ℕ → Outcome → Type 0
Says text (accepted names rows) = IsSheet text names rows
Says text (refused number named) = Refused text number named

-- a text has one outcome: one list of names and one of clauses, or one refusal
abbrev pub OneOutcome : Type 0
OneOutcome = (text : List ℕ) (o o' : Outcome) → Says text o → Says text o' → o ≡ o'

-- the fault is that of the first line that is no clause line for n names, where line 2 begins the text
abbrev pub StopsWith : List ℕ → ℕ → SheetFault → Type 0
StopsWith text n Long = ⊥
StopsWith text n Names = ⊥
StopsWith text n Twice = ⊥
StopsWith text n (Clause at) = Stops text n 0 at
