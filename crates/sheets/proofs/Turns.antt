-- The first broken clause, as `find` answers it.
use Rattle.std.proofs.Common.{◌≡◌, cond, List, [], ◌∷◌, Some, refl, ap}
use Rattle.std.specs.List.{find}
use Rattle.models.specs.Language.{Language}
use Rattle.models.specs.Models.{breaks, first_broken}

pub first_found : {S C : Type 0} (L : Language S C) (set : S) (cs : List C) → find (breaks L set) cs ≡ first_broken L cs set
first_found L set [] = refl
first_found L set (c ∷ cs) = ap (cond (breaks L set c) (Some c)) (first_found L set cs)
