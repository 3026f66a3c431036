-- The question by chains: that of the empty set, and those of the atoms of `s`.
use Rattle.std.proofs.Common.{ℕ, ◌<◌, Bool, true, false, List, length, MatchBool, sym, ap, ◌∙◌, inl, inr, arith}
use Rattle.atoms.proofs.Rising.{has_member}
use Rattle.atoms.specs.Atoms.{atom_of, bits, index, width}
use Rattle.atoms.specs.Members.{members}
use Rattle.atoms.specs.declared.AtomSet.{AtomSet}
use Rattle.indexed.proofs.Kept.{chain_empty, chain_least}
use Rattle.indexed.specs.Chains.{NoneIn, chain_of}
use Rattle.shelves.proofs.Held.{member_place}
use Rattle.shelves.specs.Shelves.{Holds}
use Rattle.std.proofs.lemmas.Bool.{cases_eq}
use Rattle.std.specs.List.{AllWithin, HoldsAt}

-- the chain of some atom holds a subset, or that of none
pub asked_all : (ts : List AtomSet) (s : AtomSet) (r : Bool) → NoneIn ts width s
    → MatchBool r ((k : ℕ) × (k < length (members s)) × HoldsAt (λ _. Holds ts s) (members s) k)
    (AllWithin (λ a. NoneIn ts (index a) s) (members s) 0 (length (members s)))
    → MatchBool r (Holds ts s) (¬ Holds ts s)
asked_all ts s true empties at = at.2 (atom_of 0)
asked_all ts s false empties none = λ (t, among, sub). elim (cases_eq (bits t) 0) [
  | inl e ↦ empties t among (chain_empty t e) sub
  | inr ne ↦
      let m = has_member s (chain_of t) (sub (chain_of t) (chain_least t (omega arith)).0) in
      let place = member_place m.0 m.0 (members s) m.1 in
      let out = none place.0 m.0 (omega arith) place.1 in
      out t among (sym (ap index place.2 ∙ m.2)) sub
]
