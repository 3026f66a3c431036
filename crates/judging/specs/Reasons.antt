-- Why the atoms of a set are in it, and what the call for reasons answers.
use Rattle.std.specs.Prelude.{◌≡◌, ℕ, ◌<◌, ◌≤◌, List, length, take, drop, Ok, Err, Result}
use mathlib.Core.List.{Memᴰ}
use Rattle.atoms.specs.Atoms.{index}
use Rattle.atoms.specs.Sets.{has, remove, size}
use Rattle.clauses.specs.Clauses.{language}
use Rattle.clauses.specs.declared.clauses.Clause.{Clause}
use Rattle.judging.specs.declared.records.Reason.{Reason}
use Rattle.judging.specs.declared.records.ReasonsRefusal.{ReasonsRefusal}
use Rattle.judging.specs.declared.records.ReasonsRefusal.TheVariants.{NoModel, NoReason, TooFewRecords}
use Rattle.models.specs.Models.{First, Model}

module _ (cs : List Clause) (s : ℕ) where
  -- the atom a has a reason in the set s: some clause is the first that s without a breaks
  abbrev pub HasReason : ℕ → Type 0
  HasReason a = (c : Clause) × First language cs (remove s a) c

  -- each atom of s has a reason
  abbrev pub EachHasReason : Type 0
  EachHasReason = (a : ℕ) → has s a → HasReason a

  -- some atom of s has none
  abbrev pub SomeLacksReason : Type 0
  SomeLacksReason = (a : ℕ) × has s a × ¬ HasReason a

  -- the record tells the origin of the first clause that s without its atom breaks
  pub record Tells (r : Reason) : Type 0 where
    pub clause : Clause
    pub first : First language cs (remove s (index r.atom)) clause
    pub told : r.origin ≡ clause.origin

  -- the records are the reasons of s, in any order: as many as s has atoms, each the reason of an atom of s, and one of each
  pub record Complete (rs : List Reason) : Type 0 where
    pub many : length rs ≡ size s
    pub each : (r : Reason) → Memᴰ r rs → has s (index r.atom) × Tells r
    pub all : (a : ℕ) → has s a → (r : Reason) × Memᴰ r rs × (index r.atom ≡ a)

  -- the front of the records, n of them, has the reasons of s, and the later ones are as before
  pub record Front (before after : List Reason) (n : ℕ) : Type 0 where
    pub count : n ≡ size s
    pub reasons : Complete (take n after)
    pub rest : drop n after ≡ drop n before

  -- why the call is refused: each refusal comes where the ones before it do not
  abbrev pub Refused : List Reason → ReasonsRefusal → Type 0
  Refused before NoModel = ¬ Model language cs s
  Refused before NoReason = Model language cs s × SomeLacksReason
  Refused before TooFewRecords = Model language cs s × EachHasReason × (length before < size s)

  -- what the call answers, and what it leaves of the records
  abbrev pub Answered : List Reason → List Reason → Result ℕ ReasonsRefusal → Type 0
  Answered before after (Ok n) = Model language cs s × (size s ≤ length before) × Front before after n
  Answered before after (Err e) = Refused before e × (after ≡ before)

  -- the reasons are filled in, with no refusal
  abbrev pub Filled : List Reason → List Reason → Result ℕ ReasonsRefusal → Type 0
  Filled before after (Ok n) = Front before after n
  Filled before after (Err e) = ⊥

-- the reasons are given, or only the records are too few
abbrev pub Reasoned : Result ℕ ReasonsRefusal → Type 0
Reasoned (Ok n) = Unit {0}
Reasoned (Err NoModel) = ⊥
Reasoned (Err NoReason) = ⊥
Reasoned (Err TooFewRecords) = Unit {0}
