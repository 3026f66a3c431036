-- Members of a list by their positions, and a question of each set of a list whether it is contained in `s`.
use Rattle.std.proofs.Common.{◌≡◌, ℕ, zero, suc, ◌<◌, Bool, true, false, List, [], ◌∷◌, length, get_or, sym, refl, subst, MatchBool, arith}
use mathlib.Core.List.Memᴰ
use mathlib.Core.List.{Memᴰ}
use Rattle.atoms.specs.Atoms.{bits}
use Rattle.atoms.specs.Sets.{◌⊆◌, has, hasb}
use Rattle.atoms.specs.declared.AtomSet.{AtomSet}
use Rattle.shelves.specs.Shelves.{Holds}
use Rattle.std.specs.List.{AllWithin, HoldsAt}
use Rattle.std.proofs.lemmas.Bool.{both_ways}

-- what stands at a position is in the list
pub member_at : {X : Type 0} (xs : List X) (i : ℕ) (d : X) → i < length xs → Memᴰ (get_or xs i d) xs
member_at [] i d h = absurd (omega arith)
member_at (x ∷ xs) zero d h = Memᴰ.head refl
member_at (x ∷ xs) (suc i) d h = Memᴰ.tail (member_at xs i d (omega arith))

-- what is in a list stands at a position
pub member_place : {X : Type 0} (x d : X) (xs : List X) → Memᴰ x xs → (p : ℕ) × (p < length xs) × (get_or xs p d ≡ x)
member_place x d [] m = elim m [ ]
member_place x d (y ∷ ys) (Memᴰ.head e) = (0, omega arith, sym e)
member_place x d (y ∷ ys) (Memᴰ.tail m) =
    let w = member_place x d ys m in
    (suc w.0, omega (arith, w.1), w.2)

-- the empty list holds no subset
pub none_held : (s : AtomSet) → ¬ Holds [] s
none_held s held = Memᴰ.not-nil held.1

-- some atom of `t` is outside `s`
abbrev pub Outside : AtomSet → AtomSet → Type 0
Outside s t = (a : ℕ) × has (bits t) a × (hasb (bits s) a ≡ false)

pub not_contained : (s t : AtomSet) → Outside s t → ¬ (bits t ⊆ bits s)
not_contained s t out sub = both_ways (hasb (bits s) out.0) out.2 (sub out.0 out.1)

-- some set is contained in `s`, or each has an atom outside it
pub held_from : (s : AtomSet) (ts : List AtomSet) (r : Bool)
    → MatchBool r ((k : ℕ) × (k < length ts) × HoldsAt (λ t. bits t ⊆ bits s) ts k) (AllWithin (Outside s) ts 0 (length ts))
    → MatchBool r (Holds ts s) (¬ Holds ts s)
held_from s ts true at = (get_or ts at.0 s, member_at ts at.0 s at.1, at.2 s)
held_from s ts false none = λ (t, among, sub).
    let place = member_place t s ts among in
    not_contained s t (subst (Outside s) place.2 (none place.0 s (omega arith) place.1)) sub
