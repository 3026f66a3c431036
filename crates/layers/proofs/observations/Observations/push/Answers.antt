use Rattle.std.proofs.Common.{◌≡◌, ◌+◌, false, length, sym, ap, ◌∙◌, arith}
use Rattle.atoms.specs.Atoms.{bits, index}
use Rattle.atoms.specs.Sets.{hasb, insert, size}
use Rattle.atoms.proofs.Members.{size-insert}
use Rattle.atoms.proofs.Values.{size_at_most}
use Rattle.layers.specs.Observations.{atoms_of, seen}
use Rattle.layers.specs.Standing.{items}
use Rattle.layers.specs.declared.observations.Observation.{Observation}
use Rattle.layers.specs.declared.observations.Observations.{Observations}
use Rattle.layers.proofs.Seen.{atoms_push}
use Rattle.layers.proofs.observations.Observations.push.Goals as goal

-- an atom that is not observed makes one more
grown : (w : Observations) (o : Observation) → seen (items w) (index o.atom) ≡ false
    → size (insert (bits w.atoms) (index o.atom)) ≡ length (items w) + 1
grown w o new =
    size-insert (bits w.atoms) (index o.atom) (ap (λ x. hasb x (index o.atom)) w.members ∙ new) ∙ ap (λ n. n + 1) w.distinct

pub push-requires : goal.push-requires
push-requires c =
    let more = grown c.args.self.now c.args.observation (sym c.if-has.ensures) in
    (omega arith, omega (arith, more, ap size c.with-self.ensures.value, size_at_most c.with-self.result))

pub invariant_of-self : goal.invariant_of-self
invariant_of-self c =
    let w = c.args.self.now in
    let o = c.args.observation in
    record {
      distinct = ap size c.with-self.ensures.value ∙ grown w o (sym c.if-has.ensures) ∙ sym c.push.ensures.len;
      members =
          c.with-self.ensures.value ∙ ap (λ x. insert x (index o.atom)) w.members ∙ sym (atoms_push (items w) o)
          ∙ ap atoms_of (sym c.push.ensures.items);
    }
