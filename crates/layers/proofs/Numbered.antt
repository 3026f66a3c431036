-- The first broken clause of a numbered list, by a search of the numbered elements.
use Rattle.std.proofs.Common.{◌≡◌, ℕ, ◌+◌, cond, List, [], ◌∷◌, map, Some, refl, ap}
use Rattle.std.specs.List.{enumerate_from, find}
use Rattle.clauses.specs.Clauses.{language}
use Rattle.clauses.specs.Sources.{numbered}
use Rattle.clauses.specs.declared.clauses.Clause.{Clause}
use Rattle.models.specs.Models.{breaks, first_broken}

pub numbered_find : {X : Type 0} (f : ℕ → X → Clause) (s i : ℕ) (xs : List X)
    → find (breaks language s) (map (λ p. f p.0 p.1) (enumerate_from i xs)) ≡ first_broken language (numbered f i xs) s
numbered_find f s i [] = refl
numbered_find f s i (x ∷ xs) = ap (cond (breaks language s (f i x)) (Some (f i x))) (numbered_find f s (i + 1) xs)
