-- Explanations depend on the sides of clauses alone; so the worked lists are found by computing them from the sides.
use Rattle.std.proofs.Common.{◌≡◌, ℕ, List, map, sym, refl, subst}
use Rattle.atoms.specs.Atoms.{bits, set_of}
use Rattle.atoms.specs.Sets.{hasb, digit}
use Rattle.clauses.specs.declared.clauses.Clause.{Clause}
use Rattle.clauses.specs.declared.origins.Kind.TheVariants.{Table}
use Rattle.models.proofs.Lister.{explanations_right}
use Rattle.models.proofs.Numerals.{numbers_laws}
use Rattle.models.proofs.Reading.{explanations_read, explanations_same}
use Rattle.models.specs.Language.{Language, Laws}
use Rattle.models.specs.Lister.{explanations}
use Rattle.models.specs.Models.{breaks, Explanations}
use Rattle.models.specs.Numbers.{numbers}
use Rattle.theorems.specs.Lists.{BySides, sides}
use Rattle.theorems.specs.Worked.{Lists, Worked}

-- clauses that are their sides
abbrev pairs : Language ℕ (ℕ × ℕ)
pairs = numbers (λ (p : ℕ × ℕ). p.0) (λ (p : ℕ × ℕ). p.1)

pairs_laws : Laws pairs
pairs_laws = numbers_laws (λ (p : ℕ × ℕ). p.0) (λ (p : ℕ × ℕ). p.1)

pub by_sides : BySides
by_sides cs ds e ms h = explanations_same sides pairs_laws cs ds e ms h

-- a clause with given sides
made : ℕ × ℕ → Clause
made p = record { body = set_of p.0; head = set_of p.1; origin = record { kind = Table; number = 0 } }

-- what is computed from the sides holds of the clauses
lists : (rows : List (ℕ × ℕ)) (ms : List ℕ) → map sides (map made rows) ≡ rows → explanations pairs rows ≡ ms → Lists rows ms
lists rows ms fits e =
    record { possible = (map made rows, fits); listed = λ cs h. explanations_read sides pairs_laws cs ms (right cs h) }
  where
    right : (cs : List Clause) → map sides cs ≡ rows → Explanations pairs (map sides cs) ms
    right cs h =
        subst (λ (xs : List (ℕ × ℕ)). Explanations pairs xs ms) (sym h)
        (subst (λ (xs : List ℕ). Explanations pairs rows xs) e (explanations_right pairs_laws rows))

pub worked : Worked
unfolding bits set_of made hasb digit breaks
worked =
    record {
      no_clause = lists _ _ refl refl;
      no_way = lists _ _ refl refl;
      one_shared = lists _ _ refl refl;
      one_implies = lists _ _ refl refl;
      first_shared = lists _ _ refl refl;
      both_imply = lists _ _ refl refl;
      denied = lists _ _ refl refl;
      ends = lists _ _ refl refl;
      two_pairs = lists _ _ refl refl;
      absent_first = lists _ _ refl refl;
      present_first = lists _ _ refl refl;
    }
