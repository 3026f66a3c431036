-- Lists of explanations, worked out: `a`, `b`, `c` and `d` are the atoms 0 to 3.
use Rattle.std.specs.Prelude.{◌≡◌, ℕ, List, [], ◌∷◌, map}
use Rattle.atoms.specs.Sets.{insert}
use Rattle.clauses.specs.Clauses.{language}
use Rattle.clauses.specs.declared.clauses.Clause.{Clause}
use Rattle.models.specs.Models.{Explanations}
use Rattle.theorems.specs.Lists.{sides}

-- the atoms by their letters
abbrev a : ℕ
a = 0

abbrev b : ℕ
b = 1

abbrev c : ℕ
c = 2

abbrev d : ℕ
d = 3

-- the set of the atoms of a list
abbrev set : List ℕ → ℕ
set [] = 0
set (x ∷ xs) = insert (set xs) x

-- the clause that asks for one of the atoms, by its sides
abbrev some : List ℕ → ℕ × ℕ
some xs = (set [], set xs)

-- the clause that asks for the atom `y` where there is the atom `x`
abbrev if_then : ℕ → ℕ → ℕ × ℕ
if_then x y = (set (x ∷ []), set (y ∷ []))

-- the clause that forbids the atom
abbrev never : ℕ → ℕ × ℕ
never x = (set (x ∷ []), set [])

-- there are clauses with these sides, and any such, whatever their origins are, have this list of explanations
pub record Lists (rows : List (ℕ × ℕ)) (ms : List ℕ) : Type 0 where
  pub possible : (cs : List Clause) × (map sides cs ≡ rows)
  pub listed : (cs : List Clause) → map sides cs ≡ rows → Explanations language cs ms

-- the lists
pub record Worked : Type 0 where
  -- no clauses: the empty set
  pub no_clause : Lists [] (set [] ∷ [])
  -- the clause with nothing in it: no explanation, not even the empty set
  pub no_way : Lists (some [] ∷ []) []
  -- a ∨ b, b ∨ c: {a, c}, {b}
  pub one_shared : Lists (some (a ∷ b ∷ []) ∷ some (b ∷ c ∷ []) ∷ []) (set (a ∷ c ∷ []) ∷ set (b ∷ []) ∷ [])
  -- a ∨ b, b → a: {a}
  pub one_implies : Lists (some (a ∷ b ∷ []) ∷ if_then b a ∷ []) (set (a ∷ []) ∷ [])
  -- a ∨ b, a ∨ c: {a}, {b, c}
  pub first_shared : Lists (some (a ∷ b ∷ []) ∷ some (a ∷ c ∷ []) ∷ []) (set (a ∷ []) ∷ set (b ∷ c ∷ []) ∷ [])
  -- b → a, a → b, a ∨ b: {a, b}
  pub both_imply : Lists (if_then b a ∷ if_then a b ∷ some (a ∷ b ∷ []) ∷ []) (set (a ∷ b ∷ []) ∷ [])
  -- a ∨ b, a → c, never c: {b}
  pub denied : Lists (some (a ∷ b ∷ []) ∷ if_then a c ∷ never c ∷ []) (set (b ∷ []) ∷ [])
  -- 0 ∨ 63: {0}, {63}
  pub ends : Lists (some (0 ∷ 63 ∷ []) ∷ []) (set (0 ∷ []) ∷ set (63 ∷ []) ∷ [])
  -- a ∨ b, c ∨ d: {a, c}, {a, d}, {b, c}, {b, d}
  pub two_pairs :
      Lists (some (a ∷ b ∷ []) ∷ some (c ∷ d ∷ []) ∷ [])
      (set (a ∷ c ∷ []) ∷ set (a ∷ d ∷ []) ∷ set (b ∷ c ∷ []) ∷ set (b ∷ d ∷ []) ∷ [])
  -- never a, a ∨ b, a ∨ c: {b, c}
  pub absent_first : Lists (never a ∷ some (a ∷ b ∷ []) ∷ some (a ∷ c ∷ []) ∷ []) (set (b ∷ c ∷ []) ∷ [])
  -- c, a ∨ b, a ∨ c: {a, c}, {b, c}
  pub present_first :
      Lists (some (c ∷ []) ∷ some (a ∷ b ∷ []) ∷ some (a ∷ c ∷ []) ∷ []) (set (a ∷ c ∷ []) ∷ set (b ∷ c ∷ []) ∷ [])
