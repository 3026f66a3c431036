use Rattle.std.proofs.Common.{rules, tests, sym, ◌∙◌}
use Rattle.std.proofs.lemmas.Iterator.Consumers.{YieldsList-from_first}
use Rattle.std.proofs.lemmas.Iterator.Search.{find_from_yields_List}
use Rattle.std.proofs.lemmas.Iterator.Adapters.{option_map_id}
use Rattle.atoms.specs.Atoms.{bits}
use Rattle.clauses.specs.Clauses.{language}
use Rattle.models.specs.Models.{breaks}
use Rattle.sheets.specs.Lines.{clauses_left}
use Rattle.sheets.specs.Sheets.{clauses}
use Rattle.sheets.proofs.Turns.{first_found}
use Rattle.sheets.proofs.sources.SheetSource.first_broken.Goals as goal

pub returns : goal.returns
returns c =
    let cs = clauses c.args.self.now in
    let set = bits c.args.set in
    sym (option_map_id c.find.result)
    ∙ (find_from_yields_List (breaks language set) _ _ c.find.result c.find.ensures.ran (YieldsList-from_first (λ x. x) clauses_left cs c.clauses.ensures) (λ x b q k. search (rules, tests))
    ∙ first_found language set cs)
