-- Which atoms of a set have a reason.
use Rattle.std.specs.Prelude.{ℕ, List}
use Rattle.atoms.specs.Sets.{has, remove}
use Rattle.clauses.specs.Clauses.{language}
use Rattle.clauses.specs.declared.clauses.Clause.{Clause}
use Rattle.judging.specs.Reasons.{EachHasReason}
use Rattle.layers.specs.Laws.{Exactly}
use Rattle.models.specs.Models.{Minimal, Model}

-- no single atom can be left out of s: without it, s is no model
abbrev pub Tight : List Clause → ℕ → Type 0
Tight cs s = (a : ℕ) → has s a → ¬ Model language cs (remove s a)

-- each atom has a reason exactly where no single atom can be left out; and so it is with a minimal model
pub record Reasoning (cs : List Clause) (s : ℕ) : Type 0 where
  pub each : Exactly (EachHasReason cs s) (Tight cs s)
  pub minimal : Minimal language cs s → EachHasReason cs s

abbrev pub ReasonsLaw : Type 0
ReasonsLaw = (cs : List Clause) (s : ℕ) → Reasoning cs s
