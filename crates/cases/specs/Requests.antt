-- What a request answers, and what it leaves.
use Rattle.std.specs.Prelude.{◌≡◌, ℕ, ◌<◌, ◌≤◌, List, [], ◌∷◌, length, Some, None, Ok, Err, Option, Result, slice_index}
use Rattle.atoms.specs.Atoms.{bits}
use Rattle.atoms.specs.declared.AtomSet.{AtomSet}
use Rattle.clauses.specs.declared.clauses.Clause.{Clause}
use Rattle.walks.specs.Walks as walks
use Rattle.cases.specs.declared.refusals.RequestRefusal.{RequestRefusal}
use Rattle.cases.specs.declared.refusals.RequestRefusal.TheVariants.{WrongShelf, ShelfFull}

-- what a request answers: a set, or that there is no more, or a refusal
abbrev pub Reply : Type 0
Reply = Result (Option AtomSet) RequestRefusal

-- the sets that it hands out: one or none
abbrev pub handed : Reply → List AtomSet
handed (Ok (Some s)) = s ∷ []
handed (Ok None) = []
handed (Err e) = []

-- P holds unless a set is handed out
abbrev pub Unless : Reply → Type 0 → Type 0
Unless (Ok (Some s)) P = Unit {0}
Unless (Ok None) P = P
Unless (Err e) P = P

-- a set that is handed out is a model, with no set of ts within it
abbrev pub Fresh : List Clause → List AtomSet → Reply → Type 0
Fresh cs ts (Ok o) = walks.Fresh cs ts o
Fresh cs ts (Err e) = Unit {0}

-- the answer where the explanations are ms, `out` is handed out, and the shelf has so many places: the next explanation where
-- there is one and a place is free; "no more" where all are handed out; "shelf full" where there is one and no place is free
abbrev pub Answered : List ℕ → List ℕ → ℕ → Reply → Type 0
Answered ms out places (Ok (Some s)) = (length out < length ms) × (length out < places) × (bits s ≡ slice_index ms (length out))
Answered ms out places (Ok None) = length out ≡ length ms
Answered ms out places (Err WrongShelf) = ⊥
Answered ms out places (Err ShelfFull) = (length out < length ms) × (places ≤ length out)
