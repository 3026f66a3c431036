-- What observing and withdrawing answer, and which observations stand then.
use Rattle.std.specs.Prelude.{ℕ, ◌-◌, Bool, cond, List, [], ◌∷◌, ◌++◌, length, take, Ok, Err, Result, nat_lt}
use Rattle.atoms.specs.Atoms.{atom_of, width}
use Rattle.layers.specs.Observations.{seen}
use Rattle.layers.specs.declared.observations.Observation.{Observation}
use Rattle.cases.specs.declared.refusals.ObserveRefusal.{ObserveRefusal}
use Rattle.cases.specs.declared.refusals.ObserveRefusal.TheVariants.{NoSuchAtom, AlreadyObserved}
use Rattle.cases.specs.declared.refusals.WithdrawRefusal.{WithdrawRefusal}
use Rattle.cases.specs.declared.refusals.WithdrawRefusal.TheVariants.{NothingObserved}

-- the observation that the atom of a number is present, or absent
abbrev pub observation : ℕ → Bool → Observation
observation a p = record { atom = atom_of a; present = p }

-- an observation of the atom a, where the observations os stand: refused where there is no such atom, else where it is observed
abbrev pub verdict : List Observation → ℕ → Result Unit ObserveRefusal
verdict os a = cond (nat_lt a width) (cond (seen os a) (Err AlreadyObserved) (Ok tt)) (Err NoSuchAtom)

-- the observations that stand after an observation was answered
abbrev pub observed_with : List Observation → Observation → Result Unit ObserveRefusal → List Observation
observed_with os o (Ok u) = os ++ o ∷ []
observed_with os o (Err e) = os

-- a withdrawal: refused where no observation stands
abbrev pub withdrawal : List Observation → Result Unit WithdrawRefusal
withdrawal [] = Err NothingObserved
withdrawal (o ∷ os) = Ok tt

-- the observations without the latest
abbrev pub withdrawn : List Observation → List Observation
withdrawn os = take (length os - 1) os
