use Rattle.std.proofs.Common.{◌≡◌, Some, None, sym, ◌∙◌, rules, tests}
use Rattle.std.specs.List.{position_from}
use Rattle.std.proofs.lemmas.Iterator.{YieldsList-from_slice}
use Rattle.std.proofs.lemmas.Iterator.Adapters.{position_from-zero}
use Rattle.std.proofs.lemmas.Iterator.Search.{position_from_yields_List}
use Rattle.atoms.specs.Atoms.{bits}
use Rattle.models.specs.Models.{breaks}
use Rattle.clauses.specs.Clauses.{language}
use Rattle.clauses.specs.declared.clauses.Clause.{Clause}
use Rattle.clauses.specs.Sources.{at_place}
use Rattle.clauses.proofs.Places.{none_first, first_at, placed_same}
use Rattle.clauses.proofs.tables.TableSource.first_broken.Goals as goal

pub returns-in_err-place : goal.returns-in_err-place
returns-in_err-place c =
    let xs = c.args.self.now.records.now in
    let test = λ (x : Clause). breaks language (bits c.args.set) x in
    let at = position_from_yields_List test _ _ c.position.result c.position.ensures.ran (YieldsList-from_slice xs cc) (λ x b q k. search (rules, tests)) in
    let none : position_from test 0 xs ≡ None = sym (position_from-zero test xs) ∙ (sym at ∙ c.in_err-place.was) in
    c.from_residual.ensures ∙ sym (none_first at_place (bits c.args.set) test (placed_same (bits c.args.set)) 0 xs none)

pub returns : goal.returns
returns c =
    let xs = c.args.self.now.records.now in
    let test = λ (x : Clause). breaks language (bits c.args.set) x in
    let at = position_from_yields_List test _ _ c.position.result c.position.ensures.ran (YieldsList-from_slice xs cc) (λ x b q k. search (rules, tests)) in
    let some : position_from test 0 xs ≡ Some c.in_ok-place.place = sym (position_from-zero test xs) ∙ (sym at ∙ c.in_ok-place.was) in
    sym (first_at at_place (bits c.args.set) test (placed_same (bits c.args.set)) xs c.in_ok-place.place c.index-self-place.result some)
