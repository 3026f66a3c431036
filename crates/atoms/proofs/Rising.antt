-- The rising list of the atoms of a set: its first is the least, and the others are those of the set without the least.
use Rattle.std.proofs.Common.{◌≡◌, ℕ, zero, suc, ◌+◌, ◌<◌, ◌≤◌, true, false, ◌&&◌, [], ◌∷◌, ltb, inl, inr, refl, ap, sym, ◌∙◌, arith, zero-le}
use mathlib.Core.List.{Memᴰ}
use Rattle.std.specs.Prelude.{filter, map}
use Rattle.std.specs.List.{range_with_len}
use Rattle.std.proofs.lemmas.Bool.{cases_Bool, cases_eq}
use Rattle.std.proofs.lemmas.Bool.Decides.{nat_tests}
use Rattle.atoms.specs.Atoms.{atom_of, bits, index, width}
use Rattle.atoms.specs.Sets.{hasb, has, Dropped, Least}
use Rattle.atoms.specs.Members.{members, rising}
use Rattle.atoms.specs.declared.Atom.{Atom}
use Rattle.atoms.specs.declared.AtomSet.{AtomSet}
use Rattle.atoms.proofs.Members.{lacks, empty_from_zero}
use Rattle.atoms.proofs.Values.{atom_below, atom_is, index-atom_of, index_below}

-- two sets with the same atoms in a range have the same list there
pub same_in_range :
    (s r n lo : ℕ) → ((b : ℕ) → lo ≤ b → hasb s b ≡ hasb r b)
    → filter (hasb s) (range_with_len lo n) ≡ filter (hasb r) (range_with_len lo n)
same_in_range s r zero lo h = refl
same_in_range s r (suc n) lo h =
    let rest = same_in_range s r n (lo + 1) (λ b l. h b (omega arith)) in
    rw (h lo (omega arith), rest) refl

-- no atom of a set below its least one is in the list
pub from_least :
    (s r a : ℕ) → has s a → ((b : ℕ) → has s b → a ≤ b) → ((b : ℕ) → hasb r b ≡ (hasb s b && ltb a b))
    → (n lo : ℕ) → lo ≤ a → a < lo + n → filter (hasb s) (range_with_len lo n) ≡ a ∷ filter (hasb r) (range_with_len lo n)
from_least s r a k m h zero lo l u = absurd (omega arith)
from_least s r a k m h (suc n) lo l u = elim (cases_eq lo a) [
  | inl e ↦
      let same = same_in_range s r n (lo + 1) (λ b lt. rw (h b) (grind (arith, nat_tests, e, lt))) in
      let yes : hasb s lo ≡ true = rw e k in
      let no : hasb r lo ≡ false = rw (h lo) (grind (arith, nat_tests, e)) in
      rw (yes, no, same, e) refl
  | inr ne ↦
      let none = lacks s lo (λ y. ne (grind (arith, m lo y, l))) in
      let no : hasb r lo ≡ false = rw (h lo, none) refl in
      rw (none, no) (from_least s r a k m h n (lo + 1) (omega arith) (omega arith))
]

-- an empty set has an empty list
pub none_in_range : (s n lo : ℕ) → ((b : ℕ) → hasb s b ≡ false) → filter (hasb s) (range_with_len lo n) ≡ []
none_in_range s zero lo h = refl
none_in_range s (suc n) lo h = rw (h lo) (none_in_range s n (lo + 1) h)

-- the least atom of a set comes first, and then come the atoms of the set without it
rising_next : (s r a : ℕ) → a < width → Least s a → Dropped s r → rising s ≡ a ∷ rising r
unfolding rising
rising_next s r a l least dropped = from_least s r a least.0 least.1 (λ b. dropped.members a b least) width 0 zero-le l

rising_none : (s : ℕ) → s ≡ 0 → rising s ≡ []
unfolding rising
rising_none s e = none_in_range s width 0 (empty_from_zero s e)

pub members_next : (s r : AtomSet) (a : Atom) → Least (bits s) (index a) → Dropped (bits s) (bits r) → members s ≡ a ∷ members r
members_next s r a least dropped =
    ap (map atom_of) (rising_next (bits s) (bits r) (index a) (index_below a) least dropped)
    ∙ ap (λ b. b ∷ members r) (sym (atom_is a (index a) refl))

pub members_none : (s : AtomSet) → bits s ≡ 0 → members s ≡ []
members_none s e = ap (map atom_of) (rising_none (bits s) e)

-- an atom of a set that is in a range is in the list there
has_listed : (s n lo a : ℕ) → lo ≤ a → a < lo + n → has s a → Memᴰ (atom_of a) (map atom_of (filter (hasb s) (range_with_len lo n)))
has_listed s zero lo a l u h = absurd (omega arith)
has_listed s (suc n) lo a l u h = elim (cases_eq lo a) [
  | inl e ↦ let y : hasb s lo ≡ true = ap (hasb s) e ∙ h in rw y (Memᴰ.head (ap atom_of (sym e)))
  | inr ne ↦
      let rest = has_listed s n (lo + 1) a (omega arith) (omega arith) h in
      elim (cases_Bool (hasb s lo)) [
        | inl y ↦ rw y (Memᴰ.tail rest)
        | inr none ↦ rw none rest
      ]
]

-- an atom of the set is in the list
pub has_member : (s : AtomSet) (a : ℕ) → has (bits s) a → (x : Atom) × Memᴰ x (members s) × (index x ≡ a)
unfolding rising
has_member s a h =
    let l = atom_below s a h in
    (atom_of a, has_listed (bits s) width 0 a zero-le l h, index-atom_of a l)
