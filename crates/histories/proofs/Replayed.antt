-- One more entry of a history, and what is on the shelf at its end.
use Rattle.std.proofs.Common.{◌≡◌, ℕ, ◌+◌, ◌<◌, List, [], ◌∷◌, map, length, take, drop, set, sym, refl, ap, ◌∙◌, subst, arith}
use Rattle.std.proofs.lemmas.List.{drop-drop, drop-set-lt, take_more_set}
use Rattle.atoms.specs.Atoms.{bits}
use Rattle.atoms.specs.declared.AtomSet.{AtomSet}
use Rattle.clauses.specs.declared.clauses.Clause.{Clause}
use Rattle.histories.specs.Histories.{OnShelf}
use Rattle.histories.specs.Phases.{after, Lawful, Phase, phase_after, Right}
use Rattle.histories.specs.Phases.Phase.{resting, listing}
use Rattle.histories.specs.States.{Agrees}
use Rattle.histories.specs.declared.calls.Entry.{Entry}
use Rattle.histories.specs.declared.states.State.{State}
use Rattle.histories.specs.declared.states.State.TheVariants.{AtRest, Listed}
use Rattle.histories.proofs.Phased.{lawful_join, phase_join, phase_open}

module _ (es : List Entry) (i : ℕ) (e : Entry) (h : i < length es) where
  pub phase_set : phase_after (take (i + 1) (set es i e)) ≡ after (phase_after (take i es)) e.call e.answer
  phase_set = ap phase_after (take_more_set es i e h) ∙ phase_join (resting []) (take i es) (e ∷ [])

  pub lawful_set :
      (cs : List Clause) (places : ℕ) → Lawful cs places (take i es) → Right cs places (phase_after (take i es)) e.call e.answer →
      Lawful cs places (take (i + 1) (set es i e))
  lawful_set cs places l r =
      subst (λ (xs : List Entry). Lawful cs places xs) (sym (take_more_set es i e h)) (lawful_join cs places (resting []) (take i es) (e ∷ []) l (r, tt))

-- the entries that are still to come
pub rest_set : (es es' : List Entry) (i : ℕ) (e : Entry) → drop i es ≡ drop i es' → drop (i + 1) (set es i e) ≡ drop (i + 1) es'
rest_set es es' i e same =
    drop-set-lt (i + 1) es i e (omega arith) ∙ (sym (drop-drop 1 i es) ∙ ap (drop 1) same ∙ drop-drop 1 i es')

-- the sets of a phase are on the shelf
abbrev Shelved : Phase → List ℕ → Type 0
Shelved (resting os) sets = Unit {0}
Shelved (listing os out) sets = sets ≡ out

shelved : {S : Type 0} (f : S → List Clause) (st : State S) (ts : List AtomSet) (p : Phase) → Agrees f st ts p → Shelved p (map bits ts)
shelved f (AtRest c) ts p ag = subst (λ (q : Phase). Shelved q (map bits ts)) (sym ag) tt
shelved f (Listed l) ts p ag = subst (λ (q : Phase). Shelved q (map bits ts)) (sym ag.0) refl

pub on_shelf :
    {S : Type 0} (f : S → List Clause) (cs : List Clause) (places : ℕ) (h : List Entry) → Lawful cs places h →
    (st : State S) (ts : List AtomSet) → Agrees f st ts (phase_after h) → OnShelf h (map bits ts)
on_shelf f cs places h l st ts ag before d x =
    subst (λ (p : Phase). Shelved p (map bits ts)) (phase_open cs places h before d l x) (shelved f st ts (phase_after h) ag)
