-- What clause lines mean: each row of values is a clause.
use Rattle.std.specs.Prelude.{◌≡◌, ℕ, ◌+◌, ◌-◌, ◌*◌, ◌<◌, ◌≤◌, cond, List, [], ◌∷◌, length, ◌==◌, slice_index, slice_index_or}
use Rattle.atoms.specs.Atoms.{bits, set_of, width}
use Rattle.atoms.specs.Sets.{hasb}
use Rattle.clauses.specs.Sources.{numbered}
use Rattle.clauses.specs.declared.clauses.Clause.{Clause}
use Rattle.clauses.specs.declared.origins.Kind.TheVariants.{Sheet}

-- the places of a value in a row, as a set: place k is the binary digit k
abbrev pub marked : ℕ → List ℕ → ℕ
marked v [] = 0
marked v (x ∷ row) = cond (x == v) 1 0 + 2 * marked v row

-- the clause of row i, from 0: its body are the places of 'b', its head those of 'h', and it stands on line i + 2
abbrev pub row_clause : ℕ → List ℕ → Clause
row_clause i row = record { body = set_of (marked 98 row); head = set_of (marked 104 row); origin = record { kind = Sheet; number = i + 2 } }

-- the clauses of the rows, in their order
abbrev pub row_clauses : List (List ℕ) → List Clause
row_clauses rows = numbered row_clause 0 rows

-- the atom k is in the body exactly where value k is 'b', and in the head exactly where it is 'h'
pub record ReadOff (row : List ℕ) (c : Clause) : Type 0 where
  pub body : (k : ℕ) → hasb (bits c.body) k ≡ (slice_index row k == 98)
  pub head : (k : ℕ) → hasb (bits c.head) k ≡ (slice_index row k == 104)

-- the clause of a row is read off its values
abbrev pub RowsReadOff : Type 0
RowsReadOff = (i : ℕ) (row : List ℕ) → length row ≤ width → ReadOff row (row_clause i row)

-- c is the clause on line `at` of a sheet that means these clauses
pub record OnLine (cs : List Clause) (at : ℕ) (c : Clause) : Type 0 where
  pub first : 2 ≤ at
  pub last : at < length cs + 2
  pub is : c ≡ slice_index_or cs (at - 2) c

-- no clause stands on line `at`
abbrev pub NoneOnLine : List Clause → ℕ → Type 0
NoneOnLine cs at = 2 ≤ at → at < length cs + 2 → ⊥
