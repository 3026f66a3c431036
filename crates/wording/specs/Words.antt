-- Clauses, and what reading a sheet comes to, in words. A text is a list of bytes.
use Rattle.std.specs.Prelude.{◌≡◌, ℕ, ◌+◌, cond, List, [], ◌∷◌, ◌++◌, length, Some, None, codes, decimal, Option}
use Rattle.std.specs.List.{flat_map}
use Rattle.atoms.specs.Atoms.{bits}
use Rattle.atoms.specs.Sets.{hasb}
use Rattle.clauses.specs.declared.clauses.Clause.{Clause}
use Rattle.formats.specs.Outcomes.{Outcome, Says}
use Rattle.formats.specs.Outcomes.Outcome.{accepted, refused}
use Rattle.sheets.specs.Meaning.{row_clauses}

-- the names of the atoms of s, in their order, where the first of the names is that of atom k
abbrev pub names_of : ℕ → ℕ → List (List ℕ) → List (List ℕ)
names_of s k [] = []
names_of s k (w ∷ ws) = cond (hasb s k) (w ∷ names_of s (k + 1) ws) (names_of s (k + 1) ws)

-- words one after another, with a gap between two of them
abbrev pub listed : List ℕ → List (List ℕ) → List ℕ
listed gap [] = []
listed gap (w ∷ ws) = w ++ flat_map (λ x. gap ++ x) ws

-- the same, or another word where there are none
abbrev pub listed_or : List ℕ → List ℕ → List (List ℕ) → List ℕ
listed_or none gap [] = none
listed_or none gap (w ∷ ws) = listed gap (w ∷ ws)

-- a clause: the names of its body, an arrow, and the names of its head
abbrev pub clause_words : List (List ℕ) → Clause → List ℕ
clause_words names c =
    listed_or (codes "true") (codes " & ") (names_of (bits c.body) 0 names)
    ++ (codes " -> " ++ listed_or (codes "false") (codes " | ") (names_of (bits c.head) 0 names))

-- a clause on a line of its own, after the number of its line in the sheet
abbrev pub clause_text : List (List ℕ) → Clause → List ℕ
clause_text names c = codes "line " ++ (decimal c.origin.number ++ (codes ": " ++ (clause_words names c ++ 10 ∷ [])))

-- how many names and clauses there are, and then the clauses
abbrev pub sheet_text : List (List ℕ) → List Clause → List ℕ
sheet_text names cs =
    codes "accepted: " ++ (decimal (length names) ++ (codes " names, " ++ (decimal (length cs) ++ (codes " clauses" ++ 10 ∷ flat_map (clause_text names) cs))))

-- the number of a refusal, and the line that it names
abbrev pub refusal_line : ℕ → Option ℕ → List ℕ
refusal_line number None = codes "refused " ++ (decimal number ++ 10 ∷ [])
refusal_line number (Some at) = codes "refused " ++ (decimal number ++ (codes " line " ++ (decimal at ++ 10 ∷ [])))

-- an outcome: the sheet, or the refusal
abbrev pub outcome_text : Outcome → List ℕ
outcome_text (accepted names rows) = sheet_text names (row_clauses rows)
outcome_text (refused number named) = refusal_line number named

-- the report on a text: the outcome of reading it, in words
pub record Report (text report : List ℕ) : Type 0 where
  pub outcome : Outcome
  pub says : Says text outcome
  pub is : report ≡ outcome_text outcome
