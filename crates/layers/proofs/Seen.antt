-- The atoms of a list of observations: how many they are, and what one observation more or less does to them.
use Rattle.std.proofs.Common.{◌≡◌, ℕ, ◌+◌, ◌≤◌, Bool, true, false, not, ◌&&◌, ◌||◌, eqb, ◌⊎◌, List, [], ◌∷◌, ◌++◌, length, sym, refl, ap, ◌∙◌, inl, inr, arith, length-append}
use Rattle.std.proofs.lemmas.Bool.{cases_Bool, cases_eq}
use Rattle.std.proofs.lemmas.Bool.Decides.{nat_tests}
use Rattle.atoms.specs.Atoms.{index}
use Rattle.atoms.specs.Sets.{◌⊆◌, has, hasb, insert, remove, size}
use Rattle.atoms.proofs.Members.{has-insert, hasb-insert, hasb-remove, insert_same, insert_sub, lacks, same_from_members, size-insert, size_zero, sub_antisym, sub_insert, sub_trans}
use Rattle.layers.specs.Observations.{atoms_of}
use Rattle.layers.specs.declared.observations.Observation.{Observation}

-- two atoms may be put in in either order
insert_swap : (s a b : ℕ) → insert (insert s a) b ≡ insert (insert s b) a
insert_swap s a b = sub_antisym (insert (insert s a) b) (insert (insert s b) a) (half s a b) (half s b a)
  where
    half : (s a b : ℕ) → insert (insert s a) b ⊆ insert (insert s b) a
    half s a b =
        insert_sub (insert s a) (insert (insert s b) a) b
        (insert_sub s (insert (insert s b) a) a
        (sub_trans s (insert s b) (insert (insert s b) a) (sub_insert s b) (sub_insert (insert s b) a)) (has-insert (insert s b) a))
        (sub_insert (insert s b) a b (has-insert s b))

-- an atom that is put in and taken out again
remove-insert : (s a : ℕ) → hasb s a ≡ false → remove (insert s a) a ≡ s
remove-insert s a n =
    same_from_members (remove (insert s a) a) s
    (λ b. hasb-remove (insert s a) a b ∙ ap (λ (x : Bool). x && not (eqb a b)) (hasb-insert s a b) ∙ each b)
  where
    each : (b : ℕ) → ((hasb s b || eqb a b) && not (eqb a b)) ≡ hasb s b
    each b = grind (arith, nat_tests, cases_Bool (hasb s b), cases_eq a b, n)

size_insert_le : (s a : ℕ) → size (insert s a) ≤ size s + 1
size_insert_le s a = go (cases_Bool (hasb s a))
  where
    go : (hasb s a ≡ true) ⊎ (hasb s a ≡ false) → size (insert s a) ≤ size s + 1
    go (inl h) = omega (arith, ap size (insert_same s a h))
    go (inr n) = omega (arith, size-insert s a n)

-- no more atoms than observations
size_atoms : (os : List Observation) → size (atoms_of os) ≤ length os
size_atoms [] = omega (arith, size_zero)
size_atoms (o ∷ os) = omega (arith, size_insert_le (atoms_of os) (index o.atom), size_atoms os)

-- one more observation
pub atoms_push : (os : List Observation) (o : Observation) → atoms_of (os ++ o ∷ []) ≡ insert (atoms_of os) (index o.atom)
atoms_push [] o = refl
atoms_push (x ∷ os) o =
    ap (λ s. insert s (index x.atom)) (atoms_push os o) ∙ insert_swap (atoms_of os) (index o.atom) (index x.atom)

-- the latest of observations with different atoms: the others have different atoms too, and all atoms but that of the latest
module _ (os : List Observation) (o : Observation) (distinct : size (atoms_of (os ++ o ∷ [])) ≡ length (os ++ o ∷ [])) where
  grows : size (insert (atoms_of os) (index o.atom)) ≡ length os + 1
  grows = ap size (sym (atoms_push os o)) ∙ distinct ∙ length-append os (o ∷ [])

  pub distinct_pop : size (atoms_of os) ≡ length os
  distinct_pop = omega (arith, grows, size_insert_le (atoms_of os) (index o.atom), size_atoms os)

  pub atoms_pop : remove (atoms_of (os ++ o ∷ [])) (index o.atom) ≡ atoms_of os
  atoms_pop =
      ap (λ s. remove s (index o.atom)) (atoms_push os o)
      ∙ remove-insert (atoms_of os) (index o.atom) (lacks (atoms_of os) (index o.atom) twice)
    where
      twice : has (atoms_of os) (index o.atom) → ⊥
      twice h = omega (arith, grows, distinct_pop, ap size (insert_same (atoms_of os) (index o.atom) h))
