use Rattle.std.proofs.Common.{[], ◌∷◌, map, ◌∙◌, ap, sym, rules}
use Rattle.std.proofs.lemmas.Option.{MatchOption-at_none, MatchOption-at_some}
use Rattle.atoms.specs.Atoms.{bits}
use Rattle.clauses.specs.Clauses.{language}
use Rattle.layers.specs.Caps.{cap_clauses, denied, outside, whole}
use Rattle.models.specs.Models.{first_broken}
use Rattle.layers.proofs.Fronts.{front_or}
use Rattle.layers.proofs.capped.CapSource.first_broken.Goals as goal

pub returns : goal.returns
returns c =
    let m = c.in_ok-cap.cap in
    front_or (map denied (outside (bits m))) (whole m ∷ []) (bits c.args.set) c.broken_outside.result c.or_else.result
    c.broken_outside.ensures (λ e. let h = MatchOption-at_none _ _ e c.or_else.ensures in search rules) (λ x e. MatchOption-at_some _ _ x e c.or_else.ensures)
    ∙ ap (λ o. first_broken language (cap_clauses o) (bits c.args.set)) (sym c.in_ok-cap.was)
