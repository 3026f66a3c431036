-- The layers in the subject's words: the models of what a layer means, by the models of the clauses below it.
use Rattle.std.specs.Prelude.{◌≡◌, ℕ, List, Some, ◌≢◌}
use mathlib.Core.List.{Memᴰ}
use Rattle.atoms.specs.Atoms.{bits, index}
use Rattle.atoms.specs.Sets.{◌⊆◌, hasb}
use Rattle.atoms.specs.declared.AtomSet.{AtomSet}
use Rattle.clauses.specs.Clauses.{language}
use Rattle.clauses.specs.declared.clauses.Clause.{Clause}
use Rattle.models.specs.Models.{Minimal, Model}
use Rattle.layers.specs.Caps.{capped_over}
use Rattle.layers.specs.Standing.{observed_over}
use Rattle.layers.specs.declared.observations.Observation.{Observation}

-- each says the other
abbrev pub Exactly : Type 0 → Type 0 → Type 0
Exactly P Q = (P → Q) × (Q → P)

-- the set t agrees with an observation: it has the atom that is present, or lacks the atom that is absent
abbrev pub Agrees : ℕ → Observation → Type 0
Agrees t o = hasb t (index o.atom) ≡ o.present

-- a set is a model of the observations os over the clauses cs exactly where it is a model of cs that agrees with each of os
abbrev pub ObservingLaw : Type 0
ObservingLaw =
    (os : List Observation) (cs : List Clause) (t : ℕ)
    → Exactly (Model language (observed_over os cs) t) (Model language cs t × ((o : Observation) → Memᴰ o os → Agrees t o))

-- s is a proper subset of m
abbrev pub Proper : ℕ → ℕ → Type 0
Proper s m = (s ⊆ m) × (s ≢ m)

-- some set is a model
abbrev pub Satisfiable : List Clause → Type 0
Satisfiable cs = (t : ℕ) × Model language cs t

-- the clauses `under` are the clauses cs under the cap m
pub record Caps (m : AtomSet) (cs under : List Clause) : Type 0 where
  -- a set of atoms is a model of them exactly where it is a model of cs and a proper subset of m
  pub models : (t : AtomSet) → Exactly (Model language under (bits t)) (Model language cs (bits t) × Proper (bits t) (bits m))
  -- they have a model exactly where some model of cs is a proper subset of m
  pub some : Exactly (Satisfiable under) ((t : ℕ) × Model language cs t × Proper t (bits m))
  -- where m is a model of cs, it is minimal exactly where they have no model
  pub minimal : Model language cs (bits m) → Exactly (Minimal language cs (bits m)) (Satisfiable under → ⊥)

abbrev pub CappingLaw : Type 0
CappingLaw = (m : AtomSet) (cs : List Clause) → Caps m cs (capped_over (Some m) cs)
