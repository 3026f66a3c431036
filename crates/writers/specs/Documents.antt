-- What can be written under a names line, and its text. A text is a list of bytes.
use Rattle.std.specs.Prelude.{ℕ, ◌<◌, ◌≤◌, Bool, true, false, cond, List, [], ◌∷◌, ◌++◌, map, length, codes}
use Rattle.std.specs.List.{range_with_len, ContainsAt as Has, flat_map}
use Rattle.atoms.specs.Atoms.{bits}
use Rattle.atoms.specs.Sets.{has, hasb}
use Rattle.atoms.specs.declared.AtomSet.{AtomSet}
use Rattle.clauses.specs.declared.clauses.Clause.{Clause}
use Rattle.formats.specs.Format.{clause_line, longest, render}

-- the clauses of a sheet, or the sets of a report and whether its list is complete
pub data Document : Type 0 where
  sheet : List Clause → Document
  report : List AtomSet → Bool → Document

-- the value of atom k in the line of a clause: 'b' in the body, 'h' in the head, '.' in neither
abbrev pub value_of : Clause → ℕ → ℕ
value_of c k = cond (hasb (bits c.body) k) 98 (cond (hasb (bits c.head) k) 104 46)

-- the value of atom k in the line of a set: '1' in the set, '0' not in it
abbrev pub mark_of : AtomSet → ℕ → ℕ
mark_of s k = cond (hasb (bits s) k) 49 48

-- a row with a value for each of n names, in their order
abbrev pub row_by : (ℕ → ℕ) → ℕ → List ℕ
row_by f n = map f (range_with_len 0 n)

-- the last line of a report
abbrev pub last_line : Bool → List ℕ
last_line true = codes "end" ++ 10 ∷ []
last_line false = codes "more" ++ 10 ∷ []

-- the text of a document under these names: the names line, a line for each clause or set, and in a report the last line
abbrev pub text_of : List (List ℕ) → Document → List ℕ
text_of names (sheet clauses) = render names (map (λ c. row_by (value_of c) (length names)) clauses)
text_of names (report sets complete) = render names (map (λ s. row_by (mark_of s) (length names)) sets) ++ last_line complete

-- an atom of the set has none of n names
abbrev pub Unnamed : ℕ → AtomSet → Type 0
Unnamed n s = (k : ℕ) × has (bits s) k × (n ≤ k)

-- an atom of the clause has none of n names, or is in body and head
pub data Misfit (n : ℕ) (c : Clause) : Type 0 where
  in_body : Unnamed n c.body → Misfit n c
  in_head : Unnamed n c.head → Misfit n c
  in_both : (k : ℕ) → has (bits c.body) k → has (bits c.head) k → Misfit n c

-- some element of the list is so
abbrev pub Among : {X : Type 0} → (X → Type 0) → List X → Type 0
Among {X} P xs = (x : X) × Has xs x × P x

-- a clause or a set of the document cannot be written for n names
abbrev pub Unfit : ℕ → Document → Type 0
Unfit n (sheet clauses) = Among (Misfit n) clauses
Unfit n (report sets complete) = Among (Unnamed n) sets

-- a text of this size is too long; a report has no limit
abbrev pub TooLong : Document → ℕ → Type 0
TooLong (sheet clauses) size = longest < size
TooLong (report sets complete) size = ⊥

-- a line for each element, with its values for n names
abbrev pub row_lines : {X : Type 0} → (X → ℕ → ℕ) → ℕ → List X → List ℕ
row_lines f n xs = flat_map clause_line (map (λ x. row_by (f x) n) xs)

-- a first line, and these lines under it
abbrev pub lines_under : {X : Type 0} → (X → ℕ → ℕ) → List ℕ → ℕ → List X → List ℕ
lines_under f first n xs = first ++ row_lines f n xs
