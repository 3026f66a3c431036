-- What the questions and the calls of a shelf say.
use Rattle.std.specs.Prelude.{◌≡◌, ℕ, ◌<◌, List, [], ◌∷◌, ◌++◌, length}
use mathlib.Core.List.{Memᴰ}
use Rattle.atoms.specs.Atoms.{bits}
use Rattle.atoms.specs.Sets.{◌⊆◌}
use Rattle.atoms.specs.declared.AtomSet.{AtomSet}

-- some set of the list is contained in `s`
abbrev pub Holds : List AtomSet → AtomSet → Type 0
Holds ts s = (t : AtomSet) × Memᴰ t ts × (bits t ⊆ bits s)

-- of any kind of shelf, by the sets on it and the number of its places
module _ {S : Type 0} (sets : S → List AtomSet) (room : S → ℕ) where
  -- there was a place, and `s` stands at the end
  pub record Kept (before : S) (s : AtomSet) (after : S) : Type 0 where
    pub had_place : length (sets before) < room before
    pub at_end : sets after ≡ sets before ++ s ∷ []

  -- the sets filled all places, and nothing changed
  pub record Refused (before after : S) : Type 0 where
    pub was_full : length (sets before) ≡ room before
    pub unchanged : after ≡ before
