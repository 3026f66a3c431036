-- A table of a copy of clauses has the same explanations as they have.
use Rattle.std.proofs.Common.{◌≡◌, ℕ, ◌+◌, Bool, List, [], ◌∷◌, map, refl, ap, subst}
use Rattle.clauses.specs.Sources.{at_place, numbered, placed}
use Rattle.clauses.specs.declared.clauses.Clause.{Clause}
use Rattle.theorems.specs.Lists.{sides}
use Rattle.theorems.proofs.Sides.{by_sides}
use Rattle.explaining.specs.Firsts.{Firsts}

-- a place changes no side
same_sides : (i : ℕ) (cs : List Clause) → map sides (numbered at_place i cs) ≡ map sides cs
same_sides i [] = refl
same_sides i (c ∷ cs) = ap (λ xs. sides c ∷ xs) (same_sides (i + 1) cs)

-- what is listed of a table is listed of the clauses that its records are
pub of_table : (table records cs : List Clause) → table ≡ placed records → records ≡ cs → {places room : ℕ} → room ≡ places
    → {complete : Bool} {out : List ℕ} → Firsts table room complete out → Firsts cs places complete out
of_table table records cs t e {places} {room} r {complete} {out} f =
    let h : Firsts (placed records) places complete out =
    subst (λ (n : ℕ). Firsts (placed records) n complete out) r (subst (λ (ds : List Clause). Firsts ds room complete out) t f) in
    subst (λ (ds : List Clause). Firsts ds places complete out) e
    (record {
      ms = h.ms;
      explanations = by_sides (placed records) records (same_sides 0 records) h.ms h.explanations;
      out_is = h.out_is;
      complete_is = h.complete_is;
    })
