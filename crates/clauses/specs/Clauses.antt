-- The clauses of the program in the language of the theory: the sets are numbers, whose binary digits are the atoms.
use Rattle.std.specs.Prelude.{ℕ, ◌^◌}
use Rattle.atoms.specs.Atoms.{bits, set_of}
use Rattle.models.specs.Language.{Language}
use Rattle.models.specs.Numbers.{numbers}
use Rattle.clauses.specs.declared.clauses.Clause.{Clause}
use Rattle.clauses.specs.declared.origins.Origin.{Origin}

-- what breaks, model, minimal model and explanations mean of our clauses: those words over this language
abbrev pub language : Language ℕ Clause
language = numbers (λ c. bits c.body) (λ c. bits c.head)

-- the atom a is present
abbrev pub fact : ℕ → Origin → Clause
fact a o = record { body = set_of 0; head = set_of (2 ^ a); origin = o }

-- the atom a is absent
abbrev pub denial : ℕ → Origin → Clause
denial a o = record { body = set_of (2 ^ a); head = set_of 0; origin = o }
