use Rattle.std.proofs.Common.{rules}
use Rattle.std.proofs.lemmas.Option.{MatchOption-at_none, MatchOption-at_some}
use Rattle.atoms.specs.Atoms.{bits}
use Rattle.layers.proofs.Caps.{first_outside}
use Rattle.layers.proofs.capped.Cap.broken_outside.Goals as goal

pub returns : goal.returns
returns c =
    first_outside (bits c.args.cap) (bits c.args.set) (bits c.difference.result) c.least.result c.map.result c.difference.ensures.value c.least.ensures
    (λ e. MatchOption-at_none _ _ e c.map.ensures.cases) (λ a e. let h = MatchOption-at_some _ _ a e c.map.ensures.cases in search rules)
