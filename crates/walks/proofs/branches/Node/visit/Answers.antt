use Rattle.std.proofs.Common.{◌≡◌, ap, sym, refl, arith, rules}
use Rattle.std.proofs.lemmas.Bool.{eqb-true, eqb-false}
use Rattle.atoms.specs.Atoms.{bits}
use Rattle.clauses.specs.declared.clauses.Clause.{Clause}
use Rattle.walks.specs.Nodes.Ended.{covered, headless}
use Rattle.walks.proofs.branches.Node.visit.Goals as goal

pub returns-then-holds_subset_of : goal.returns-then-holds_subset_of
returns-then-holds_subset_of g c = covered (search rules)

pub returns-in-Some : goal.returns-in-Some
returns-in-Some g c = headless c.in-Some.clause (sym c.in-Some.ensures) (eqb-true _ 0 (sym c.if-is_empty.ensures.value))

pub returns-in-Some-2 : goal.returns-in-Some-2
returns-in-Some-2 g c =
    let some = eqb-false _ 0 (sym c.if-is_empty.ensures.value) in
    let same : c.in-Some.clause ≡ c.in-Some-2.clause = cc in
    record {
      clause = c.in-Some-2.clause;
      first = sym c.in-Some-2.ensures;
      some = omega (arith, ap (λ (x : Clause). bits x.head) same);
      begun = refl;
    }
