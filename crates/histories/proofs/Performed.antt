-- An opening keeps a case in its phase.
use Rattle.std.proofs.Common.{◌≡◌, List, [], map, sym, ap, ◌∙◌, subst, ap₂}
use Rattle.atoms.specs.Atoms.{bits}
use Rattle.atoms.specs.declared.AtomSet.{AtomSet}
use Rattle.clauses.specs.declared.clauses.Clause.{Clause}
use Rattle.layers.specs.Standing.{standing}
use Rattle.cases.specs.Cases as cases
use Rattle.cases.specs.Cases.{clauses_of, listed, Sound}
use Rattle.cases.specs.declared.Case.{Case}
use Rattle.cases.specs.declared.Listing.{Listing}
use Rattle.histories.specs.Phases.{after, Phase}
use Rattle.histories.specs.Phases.Phase.{resting, listing}
use Rattle.histories.specs.States.{Agrees}
use Rattle.histories.specs.declared.calls.Answer.TheVariants.{Done}
use Rattle.histories.specs.declared.calls.Call.{Call}
use Rattle.histories.specs.declared.calls.Call.TheVariants.{Open}
use Rattle.histories.specs.declared.states.State.{State}
use Rattle.histories.specs.declared.states.State.TheVariants.{AtRest, Listed}

module _ {S : Type 0} (f : S → List Clause) (st : State S) (k : Call) (ts : List AtomSet) (p : Phase) (ag : Agrees f st ts p) where
  -- a case at rest that is opened is in a listing that has handed out nothing
  pub opened :
      (c : Case S) (l : Listing S) (ts' : List AtomSet) → st ≡ AtRest c → k ≡ Open → standing (listed l) ≡ standing (cases.resting c) →
      ((cs : List Clause) → Sound cs l []) → ts' ≡ [] → Agrees f (Listed l) ts' (after p k Done)
  opened c l ts' is called stands sound none =
      let at_rest : p ≡ resting (standing (cases.resting c)) = subst (λ (x : State S). Agrees f x ts p) is ag in (
        ap₂ (λ (q : Phase) (x : Call). after q x Done) at_rest called ∙ ap₂ listing (sym stands) (ap (map bits) (sym none)),
        subst (λ (xs : List AtomSet). Sound (clauses_of f l) l (map bits xs)) (sym none) (sound (clauses_of f l)),
      )
