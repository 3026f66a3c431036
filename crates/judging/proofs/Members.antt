-- The list of the atoms of a set: which these are, and how many.
use Rattle.std.proofs.Common.{◌≡◌, ◌≢◌, ℕ, zero, suc, ◌+◌, ◌<◌, ◌≤◌, false, ◌&&◌, not, eqb, List, length, sym, ap, ◌∙◌, subst, ⊎_elim, inl, inr, arith}
use Rattle.std.specs.Prelude.{filter, map}
use Rattle.std.specs.List.{range_with_len}
use Rattle.std.proofs.lemmas.Bool.{and_parts, cases_Bool}
use Rattle.std.proofs.lemmas.Bool.Decides.{nat_tests}
use mathlib.Core.List.Memᴰ
use mathlib.Core.List.{Memᴰ}
use Rattle.atoms.proofs.Members.{hasb-remove, not_has, size-remove, size_zero, zero_from_empty, lacks as lacking}
use Rattle.atoms.proofs.Rising.{same_in_range}
use Rattle.atoms.proofs.Values.{atom_below, index-atom_of}
use Rattle.atoms.specs.Atoms.{atom_of, bits, index, width}
use Rattle.atoms.specs.Members.{members, rising}
use Rattle.atoms.specs.Sets.{has, hasb, remove, size}
use Rattle.atoms.specs.declared.Atom.{Atom}
use Rattle.atoms.specs.declared.AtomSet.{AtomSet}

-- the atoms of s from lo on, n of them at most
abbrev listed : ℕ → ℕ → ℕ → List Atom
listed s lo n = map atom_of (filter (hasb s) (range_with_len lo n))

listed_has : (s n lo : ℕ) → lo + n ≤ width → (a : Atom) → Memᴰ a (listed s lo n) → has s (index a)
listed_has s zero lo l a m = absurd (Memᴰ.not-nil m)
listed_has s (suc n) lo l a m = elim (cases_Bool (hasb s lo)) [
  | inl y ↦
      ⊎_elim
      (λ (e : a ≡ atom_of lo). subst (λ (x : Atom). has s (index x)) (sym e) (subst (has s) (sym (index-atom_of lo (omega arith))) y))
      (λ (k : Memᴰ a (listed s (lo + 1) n)). listed_has s n (lo + 1) (omega arith) a k) (Memᴰ.cases_cons (rw y at m))
  | inr lacks ↦ listed_has s n (lo + 1) (omega arith) a (rw lacks at m)
]

-- an atom of what is left of s without lo is in s, and another one than lo
removed : (s lo a : ℕ) → hasb (remove s lo) a ≡ (hasb s a && not (eqb lo a)) → has (remove s lo) a → has s a × (lo ≢ a)
removed s lo a e h =
    let p = and_parts (hasb s a) (not (eqb lo a)) (sym e ∙ h) in
    (p.0, λ same. grind (arith, nat_tests, p.1, same))

differ : (s lo a : ℕ) → hasb s lo ≡ false → has s a → lo ≢ a
differ s lo a n h same = not_has s lo n (subst (has s) (sym same) h)

-- where all atoms of s are among those, there are as many in the list
length-listed : (n lo s : ℕ) → ((a : ℕ) → has s a → (lo ≤ a) × (a < lo + n)) → length (listed s lo n) ≡ size s
length-listed zero lo s h =
    let e : s ≡ 0 = zero_from_empty s (λ a. lacking s a (λ k. omega (arith, (h a k).0, (h a k).1))) in
    sym (ap size e ∙ size_zero)
length-listed (suc n) lo s h = elim (cases_Bool (hasb s lo)) [
  | inl y ↦
      let r = remove s lo in
      let members : (a : ℕ) → has r a → has s a × (lo ≢ a) = λ a k. removed s lo a (hasb-remove s lo a) k in
      let rest =
      length-listed n (lo + 1) r
      (λ a k. (omega (arith, (h a (members a k).0).0, (members a k).1), omega (arith, (h a (members a k).0).1))) in
      let same = same_in_range s r n (lo + 1) (λ b l. sym (grind (arith, nat_tests, hasb-remove s lo b, l))) in
      rw y (omega (arith, ap (λ xs. length (map atom_of xs)) same, rest, size-remove s lo y))
  | inr lacks ↦
      rw lacks
      (length-listed n (lo + 1) s
      (λ a k. (omega (arith, (h a k).0, differ s lo a lacks k), omega (arith, (h a k).1))))
]

-- an atom of the list is in the set
pub member_has : (s : AtomSet) (a : Atom) → Memᴰ a (members s) → has (bits s) (index a)
unfolding rising
member_has s a m = listed_has (bits s) width 0 (omega arith) a m

pub length-members : (s : AtomSet) → length (members s) ≡ size (bits s)
unfolding rising
length-members s = length-listed width 0 (bits s) (λ a h. (omega arith, atom_below s a h))
