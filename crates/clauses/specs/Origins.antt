-- Origins as they are told: kinds to other programs by their numbers, and origins to people in words.
use Rattle.std.specs.Prelude.{ℕ, ◌+◌, List, ◌++◌, codes, decimal}
use Rattle.clauses.specs.declared.origins.Kind.{Kind}
use Rattle.clauses.specs.declared.origins.Origin.{Origin}
use Rattle.clauses.specs.declared.origins.Kind.TheVariants.{Sheet, Table, Observation, Cap}

-- the number by which a kind is told to other programs
abbrev pub code_of : Kind → ℕ
code_of Sheet = 0
code_of Table = 1
code_of Observation = 2
code_of Cap = 3

-- where a clause comes from, by the kind and the number of its origin: the first observation has 0 before it, and is the first
abbrev pub origin_text : Kind → ℕ → List ℕ
origin_text Sheet n = codes "line " ++ decimal n
origin_text Table n = codes "record " ++ decimal n
origin_text Observation n = codes "observation " ++ decimal (n + 1)
origin_text Cap n = codes "cap " ++ decimal n

abbrev pub origin_words : Origin → List ℕ
origin_words o = origin_text o.kind o.number
