-- A case in either of its states, in terms of phases.
use Rattle.std.specs.Prelude.{◌≡◌, List, map}
use Rattle.atoms.specs.Atoms.{bits}
use Rattle.atoms.specs.declared.AtomSet.{AtomSet}
use Rattle.clauses.specs.declared.clauses.Clause.{Clause}
use Rattle.layers.specs.Standing.{below, standing}
use Rattle.cases.specs.Cases as cases
use Rattle.cases.specs.Cases.{clauses_of, listed, Sound}
use Rattle.histories.specs.Phases.{Phase}
use Rattle.histories.specs.Phases.Phase.{resting, listing}
use Rattle.histories.specs.declared.states.State.{State}
use Rattle.histories.specs.declared.states.State.TheVariants.{AtRest, Listed}

-- the source of a case
abbrev pub below_of : {S : Type 0} → State S → S
below_of (AtRest c) = below (cases.resting c)
below_of (Listed l) = below (listed l)

-- a case and the sets on its shelf are in a phase
abbrev pub Agrees : {S : Type 0} → (S → List Clause) → State S → List AtomSet → Phase → Type 0
Agrees f (AtRest c) ts p = p ≡ resting (standing (cases.resting c))
Agrees f (Listed l) ts p = (p ≡ listing (standing (listed l)) (map bits ts)) × Sound (clauses_of f l) l (map bits ts)
