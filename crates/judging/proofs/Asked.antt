-- What the answers of a source and of a search say of a set that is judged.
use Rattle.std.proofs.Common.{◌≡◌, ℕ, Bool, true, false, not, List, [], map, is_some, Some, None, Decides, MatchOption, Option, option_map, sym, refl, ◌∙◌, subst, arith}
use mathlib.Core.List.Memᴰ
use Rattle.atoms.specs.Atoms.{bits, index}
use Rattle.atoms.specs.Sets.{remove}
use Rattle.atoms.specs.declared.Atom.{Atom}
use Rattle.atoms.specs.declared.AtomSet.{AtomSet}
use Rattle.clauses.proofs.Decided.{laws}
use Rattle.clauses.specs.Clauses.{language}
use Rattle.clauses.specs.declared.clauses.Clause.{Clause}
use Rattle.judging.specs.Reasons.{Tells}
use Rattle.judging.specs.declared.records.Reason.{Reason}
use Rattle.layers.specs.Laws.{Caps, Satisfiable}
use Rattle.models.proofs.Broken.{first_some, model_none, none_model, some≢none}
use Rattle.models.proofs.Minimals.{includes_minimal}
use Rattle.models.specs.Models.{Explanations, Minimal, Model, first_broken}
use Rattle.walks.specs.Walks.{Fresh, Reached, Sound}
use Rattle.walks.specs.declared.Walk.{Walk}

true≢false : true ≡ false → ⊥
true≢false e = let z : ◌≡◌ {A = ℕ} 0 1 = cc in omega arith

-- a source that tells no broken clause says that the set is a model
pub model_decided : (cs : List Clause) (s : ℕ) (o : Option Clause) (r : Bool)
    → o ≡ first_broken language cs s → is_some o ≡ not r → Decides r (Model language cs s)
model_decided cs s None true e k = (λ z. none_model laws cs s (sym e), λ m. refl)
model_decided cs s None false e k = absurd (true≢false (sym k))
model_decided cs s (Some c) true e k = absurd (true≢false k)
model_decided cs s (Some c) false e k = (λ z. absurd (true≢false (sym z)), λ m. absurd (some≢none (e ∙ model_none laws cs s m)))

-- clauses whose list of explanations is empty have no model
unsatisfiable : (cs : List Clause) → Explanations language cs [] → Satisfiable cs → ⊥
unsatisfiable cs h m =
    let w = includes_minimal laws cs m.0 m.1 in Memᴰ.not-nil (h.all w.0 w.1)

-- a search under a cap, with no set handed out, says whether a model that is the cap is a minimal one
module _ (m : AtomSet) (cs under : List Clause) (capped : Caps m cs under) (model : Model language cs (bits m)) where
  pub minimal_decided : (o : Option AtomSet) (r : Bool) (w : Walk)
      → is_some o ≡ not r → Fresh under [] o → Reached under [] w o → Decides r (Minimal language cs (bits m))
  minimal_decided None true w k f h = (λ z. (capped.minimal model).1 (unsatisfiable under h.1), λ p. refl)
  minimal_decided None false w k f h = absurd (true≢false (sym k))
  minimal_decided (Some s) true w k f h = absurd (true≢false k)
  minimal_decided (Some s) false w k f h = (
    λ z. absurd (true≢false (sym z)),
    λ p. absurd ((capped.minimal model).0 p (bits s, f.0)),
  )

  -- the same of a shelf that has no set, and a walk that is at its start
  pub minimal_searched : (ts : List AtomSet) (o : Option AtomSet) (r : Bool) (start w : Walk)
      → ts ≡ [] → is_some o ≡ not r → Fresh under ts o → Sound under start []
      → (Sound under start (map bits ts) → Reached under (map bits ts) w o) → Decides r (Minimal language cs (bits m))
  minimal_searched ts o r start w e k f sound reached =
      minimal_decided o r w k (subst (λ (xs : List AtomSet). Fresh under xs o) e f)
      (subst (λ (xs : List AtomSet). Sound under start (map bits xs) → Reached under (map bits xs) w o) e reached sound)

-- the reason that a broken clause is for the atom that the set lacks
abbrev pub broken_reason : Atom → Clause → Reason
broken_reason atom c = record { atom = atom; origin = c.origin }

pub reason_told : (cs : List Clause) (s : ℕ) (atom : Atom) (o : Option Clause) (r : Option Reason)
    → o ≡ first_broken language cs (remove s (index atom)) → r ≡ option_map (broken_reason atom) o
    → MatchOption r (Model language cs (remove s (index atom))) (λ x. (x.atom ≡ atom) × Tells cs s x)
reason_told cs s atom None None e k = none_model laws cs (remove s (index atom)) (sym e)
reason_told cs s atom None (Some x) e k = absurd (some≢none k)
reason_told cs s atom (Some c) None e k = absurd (some≢none (sym k))
reason_told cs s atom (Some c) (Some x) e k =
    let same : x ≡ broken_reason atom c = cc in
    subst (λ (y : Reason). (y.atom ≡ atom) × Tells cs s y) (sym same)
    (refl, record { clause = c; first = first_some laws cs (remove s (index atom)) c (sym e); told = refl })
