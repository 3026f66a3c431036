-- What a reader of a shelf has still to hand out.
use Rattle.std.specs.Prelude.{List, take, drop}
use Rattle.atoms.specs.declared.AtomSet.{AtomSet}
use Rattle.shelves.specs.declared.sets.Sets.{Sets}

-- the sets that are left: those at the places that are left
abbrev pub sets_left : {H : Type 0} → (H → List AtomSet) → Sets H → List AtomSet
sets_left sets r = drop r.places.start (take r.places.end (sets r.shelf.now))
