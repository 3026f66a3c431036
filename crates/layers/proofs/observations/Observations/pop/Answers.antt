use Rattle.std.proofs.Common.{◌≡◌, [], ◌∷◌, ◌++◌, length, sym, ap, ◌∙◌}
use Rattle.atoms.specs.Atoms.{bits, index}
use Rattle.atoms.specs.Sets.{remove, size}
use Rattle.layers.specs.Observations.{atoms_of}
use Rattle.layers.proofs.Seen.{atoms_pop, distinct_pop}
use Rattle.layers.proofs.observations.Observations.pop.Goals as goal

pub invariant_of-self-2 : goal.invariant_of-self-2
invariant_of-self-2 c =
    let w = c.args.self.now in
    let os = c.pop.new.self.items in
    let o = c.in_ok-latest.latest in
    let before : bits w.atoms ≡ atoms_of (os ++ o ∷ []) = w.members ∙ ap atoms_of c.in_ok-latest.ensures.items in
    let distinct : size (atoms_of (os ++ o ∷ [])) ≡ length (os ++ o ∷ []) =
    ap size (sym before) ∙ w.distinct ∙ ap length c.in_ok-latest.ensures.items in
    let members = c.without-self.ensures.value ∙ ap (λ x. remove x (index o.atom)) before ∙ atoms_pop os o distinct in
    record { distinct = ap size members ∙ distinct_pop os o distinct; members = members }
