-- What holds of the list order and of the list of explanations, whatever the clauses are.
use Rattle.std.specs.Prelude.{◌≡◌, ℕ, ◌≢◌, ◌⊎◌, ◌↔◌, List, [], map, length, take, Some, None}
use Rattle.atoms.specs.Atoms.{bits}
use Rattle.clauses.specs.Clauses.{language}
use Rattle.clauses.specs.declared.clauses.Clause.{Clause}
use Rattle.models.specs.Lister.{explanations}
use Rattle.models.specs.Models.{Within, Model, Minimal, First, first_broken, Precedes, Explanations}
use Rattle.models.specs.Search.{Front}

-- the list order is irreflexive and transitive, and it decides any two different minimal models
pub record Strict (cs : List Clause) : Type 0 where
  pub irreflexive : (m : ℕ) → ¬ Precedes language cs m m
  pub transitive : (m n o : ℕ) → Precedes language cs m n → Precedes language cs n o → Precedes language cs m o
  pub decides :
      (m n : ℕ) → Minimal language cs m → Minimal language cs n → m ≢ n
      → Precedes language cs m n ⊎ Precedes language cs n m

-- and so for every list of clauses
abbrev pub StrictOrder : Type 0
StrictOrder = (cs : List Clause) → Strict cs

-- every list of clauses has exactly one list of explanations
abbrev pub OneList : Type 0
OneList =
    (cs : List Clause) → (ms : List ℕ) × Explanations language cs ms × ((ns : List ℕ) → Explanations language cs ns → ns ≡ ms)

-- the list that is computed by splitting is the list of explanations
abbrev pub ComputedList : Type 0
ComputedList = (cs : List Clause) → Explanations language cs (explanations language cs)

-- every model includes a minimal model
abbrev pub MinimalInside : Type 0
MinimalInside = (cs : List Clause) (t : ℕ) → Model language cs t → (m : ℕ) × Minimal language cs m × Within language m t

-- the list of explanations is empty exactly when the clauses have no model
abbrev pub EmptyList : Type 0
EmptyList =
    (cs : List Clause) (ms : List ℕ) → Explanations language cs ms → ((ms ≡ []) ↔ ((t : ℕ) → ¬ Model language cs t))

-- minimal models in list order, such that every other minimal model comes after all of them, are the beginning of the list of
-- explanations, and the beginning of that list is such
abbrev pub Fronts : Type 0
Fronts =
    (cs : List Clause) (ms out : List ℕ) → Explanations language cs ms → (Front language cs out ↔ (out ≡ take (length out) ms))

-- the sides of a clause: its body and its head
abbrev pub sides : Clause → ℕ × ℕ
sides c = (bits c.body, bits c.head)

-- clauses with the same sides have the same explanations, whatever their origins are
abbrev pub BySides : Type 0
BySides =
    (cs ds : List Clause) → map sides cs ≡ map sides ds → (ms : List ℕ) → Explanations language cs ms
    → Explanations language ds ms

-- the first broken clause of a list: none exactly where the set is a model, and a clause exactly where the set breaks it and no
-- clause that stands before it
pub record Firsts (cs : List Clause) (s : ℕ) : Type 0 where
  pub none : (first_broken language cs s ≡ None) ↔ Model language cs s
  pub some : (c : Clause) → (first_broken language cs s ≡ Some c) ↔ First language cs s c

abbrev pub FirstBroken : Type 0
FirstBroken = (cs : List Clause) (s : ℕ) → Firsts cs s
