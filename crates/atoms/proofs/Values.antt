-- What holds of every value of `Atom` and of `AtomSet`.
use Rattle.std.proofs.Common.{◌≡◌, ℕ, ◌^◌, ◌<◌, ◌≤◌, sym, ◌∙◌, subst, mod-eq_of_lt}
use mathlib.Core.HLevel.{is_prop→PathP}
use native.Mathlib.Bridge.{le_prop}
use Rattle.atoms.specs.declared.Atom.{Atom}
use Rattle.atoms.specs.declared.AtomSet.{AtomSet}
use Rattle.atoms.specs.Sets.{has, size}
use Rattle.atoms.specs.Atoms.{atom_of, bits, index, set_of, width}
use Rattle.atoms.proofs.Members.{has-below, size_below}

pub index_below : (a : Atom) → index a < width
unfolding index
index_below a = a.within

-- two atoms of one number are one value
pub same_atom : (a b : Atom) → index a ≡ index b → a ≡ b
unfolding index
same_atom a b e = λ i. record { index = e i; within = is_prop→PathP (λ j. e j < width) (λ j. le_prop) a.within b.within i }

-- a number below the width is the number of its atom
pub index-atom_of : (n : ℕ) → n < width → index (atom_of n) ≡ n
unfolding index atom_of
index-atom_of n l = mod-eq_of_lt l

-- an atom is the atom of its number
pub atom_is : (a : Atom) (n : ℕ) → index a ≡ n → a ≡ atom_of n
atom_is a n e =
    same_atom a (atom_of n) (e ∙ sym (index-atom_of n (subst (λ (x : ℕ). x < width) e (index_below a))))

pub bits_below : (s : AtomSet) → bits s < 2 ^ width
unfolding bits
bits_below s = s.fits

pub atom_below : (s : AtomSet) (a : ℕ) → has (bits s) a → a < width
atom_below s a h = has-below width (bits s) a (bits_below s) h

pub size_at_most : (s : AtomSet) → size (bits s) ≤ width
size_at_most s = size_below width (bits s) (bits_below s)

-- two values that hold one set are one value
pub same_value : (s t : AtomSet) → bits s ≡ bits t → s ≡ t
unfolding bits
same_value s t e = λ i. record { word = e i; fits = is_prop→PathP (λ j. e j < 2 ^ width) (λ j. le_prop) s.fits t.fits i }

-- a number of atoms below the width is the set that its value holds
pub bits-set_of : (n : ℕ) → n < 2 ^ width → bits (set_of n) ≡ n
unfolding bits set_of
bits-set_of n l = mod-eq_of_lt l

-- a value is the value of the set that it holds
pub value_is : (s : AtomSet) (n : ℕ) → bits s ≡ n → s ≡ set_of n
value_is s n e =
    same_value s (set_of n) (e ∙ sym (bits-set_of n (subst (λ (x : ℕ). x < 2 ^ width) e (bits_below s))))
