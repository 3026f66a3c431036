-- A program's answer to the question whether a set breaks a clause is the theory's test.
use Rattle.std.proofs.Common.{◌≡◌, ℕ, Bool, Decides, sym}
use Rattle.atoms.specs.Atoms.{bits}
use Rattle.models.specs.Language.{Laws}
use Rattle.models.specs.Models.{Breaks, breaks}
use Rattle.models.proofs.Broken.{breaks_true, breaks_from}
use Rattle.models.proofs.Numerals.{numbers_laws}
use Rattle.models.proofs.Tests.{same_test}
use Rattle.clauses.specs.Clauses.{language}
use Rattle.clauses.specs.declared.clauses.Clause.{Clause}

-- what the theory asks of a language holds of ours
pub laws : Laws language
laws = numbers_laws (λ c. bits c.body) (λ c. bits c.head)

pub decided : (r : Bool) (s : ℕ) (c : Clause) → Decides r (Breaks language s c) → breaks language s c ≡ r
decided r s c d =
    same_test (breaks language s c) r (λ e. d.1 (breaks_true laws s c e)) (λ e. breaks_from laws s c (d.0 e))

pub told : (r : Bool) (s : ℕ) (c : Clause) → Decides r (Breaks language s c) → r ≡ breaks language s c
told r s c d = sym (decided r s c d)
