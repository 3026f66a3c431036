use Rattle.std.proofs.Common.{sym, ◌∙◌, rules}
use Rattle.std.proofs.lemmas.Iterator.{YieldsList-from_map, YieldsList-from_slice}
use Rattle.std.proofs.lemmas.Iterator.Adapters.{option_map_id}
use Rattle.std.proofs.lemmas.Iterator.Consumers.{YieldsList-at, YieldsList-from_enumerate}
use Rattle.std.proofs.lemmas.Iterator.Search.{find_from_yields_List}
use Rattle.atoms.specs.Atoms.{bits}
use Rattle.clauses.specs.Clauses.{language}
use Rattle.clauses.proofs.Decided.{decided}
use Rattle.models.specs.Models.{breaks}
use Rattle.layers.specs.Observations.{clause_of}
use Rattle.layers.specs.Standing.{items}
use Rattle.layers.proofs.Numbered.{numbered_find}
use Rattle.layers.proofs.observations.standing.ObservationsSource.first_broken.Goals as goal

pub returns : goal.returns
returns c =
    let s = bits c.args.set in
    sym (option_map_id c.find.result)
    ∙ find_from_yields_List (breaks language s) _ _ c.find.result c.find.ensures.ran
    (YieldsList-from_map _ (λ p. clause_of p.0 p.1)
    (YieldsList-at c.map.ensures.source (YieldsList-from_enumerate (YieldsList-from_slice (items c.args.self.now) cc) cc))
    c.map.ensures.closure (λ x r q k. search rules))
    (λ x b q k. (search rules, sym (decided b s x (search rules))))
    ∙ numbered_find clause_of s 0 (items c.args.self.now)
