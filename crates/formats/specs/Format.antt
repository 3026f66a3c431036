-- The sheet format. A text is a list of bytes, a name is a list of bytes, and a clause is the list of its values.
use Rattle.std.specs.Prelude.{◌≡◌, ℕ, ◌<◌, ◌≤◌, ◌⊎◌, List, [], ◌∷◌, ◌++◌, length, ◌≢◌, slice_index_or}
use Rattle.std.specs.List.{flat_map, AllByRecursion}

-- the most bytes of a sheet, the most names, and the most bytes of a name
abbrev pub longest : ℕ
longest = 65535

abbrev pub most_names : ℕ
most_names = 64

abbrev pub longest_name : ℕ
longest_name = 16

-- the most bytes of line 1: one byte stands after each name
abbrev pub longest_line : ℕ
longest_line = 1088

-- a byte of a name: a to z, 0 to 9 or '-'
abbrev pub NameByte : ℕ → Type 0
NameByte b = ((97 ≤ b) × (b ≤ 122)) ⊎ (((48 ≤ b) × (b ≤ 57)) ⊎ (b ≡ 45))

-- a name has 1 to 16 such bytes
pub record Name (w : List ℕ) : Type 0 where
  pub some : 1 ≤ length w
  pub few : length w ≤ longest_name
  pub bytes : AllByRecursion NameByte w

-- a value: 'b' for body, 'h' for head, '.' for neither
abbrev pub Value : ℕ → Type 0
Value v = (v ≡ 98) ⊎ ((v ≡ 104) ⊎ (v ≡ 46))

-- a line of words with one space between two of them, and byte 10 at its end
abbrev pub line : List (List ℕ) → List ℕ
line [] = 10 ∷ []
line (w ∷ []) = w ++ 10 ∷ []
line (w ∷ x ∷ ws) = w ++ 32 ∷ line (x ∷ ws)

-- the line of a clause: its values with one space between two of them, and byte 10 at its end
abbrev pub clause_line : List ℕ → List ℕ
clause_line [] = 10 ∷ []
clause_line (v ∷ []) = v ∷ 10 ∷ []
clause_line (v ∷ x ∷ vs) = v ∷ 32 ∷ clause_line (x ∷ vs)

-- the names that line 1 may hold, repeated or not
pub record Names (names : List (List ℕ)) : Type 0 where
  pub some : 1 ≤ length names
  pub few : length names ≤ most_names
  pub each : AllByRecursion Name names

-- no name stands twice
abbrev pub Apart : List (List ℕ) → Type 0
Apart names = (i k : ℕ) → i < k → k < length names → slice_index_or names i [] ≢ slice_index_or names k []

-- a clause: one value for each of n names, in their order
pub record Row (n : ℕ) (row : List ℕ) : Type 0 where
  pub size : length row ≡ n
  pub values : AllByRecursion Value row

-- names and clauses that a sheet may hold
pub record Content (names rows : List (List ℕ)) : Type 0 where
  pub names_ok : Names names
  pub apart : Apart names
  pub rows_ok : AllByRecursion (Row (length names)) rows

-- the text of names and clauses: line 1 has the names, and each later line a clause
abbrev pub render : List (List ℕ) → List (List ℕ) → List ℕ
render names rows = line names ++ flat_map clause_line rows

-- the text is the sheet of these names and clauses
pub record IsSheet (text : List ℕ) (names rows : List (List ℕ)) : Type 0 where
  pub short : length text ≤ longest
  pub content : Content names rows
  pub is : text ≡ render names rows

-- line 1 of the text holds these names, repeated or not, and rest comes after it
pub record Begins (text : List ℕ) (names : List (List ℕ)) (rest : List ℕ) : Type 0 where
  pub names_ok : Names names
  pub is : text ≡ line names ++ rest

-- the text begins with the line of a clause for n names
pub record BeginsRow (n : ℕ) (text : List ℕ) (row rest : List ℕ) : Type 0 where
  pub row_ok : Row n row
  pub is : text ≡ clause_line row ++ rest
