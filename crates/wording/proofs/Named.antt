-- The names of the atoms of a set, in the order of the atoms.
use Rattle.std.proofs.Common.{◌≡◌, ℕ, zero, suc, ◌+◌, ◌≤◌, Bool, ltb, List, [], ◌∷◌, ◌++◌, length, get_or, drop, map, filter, sym, refl, ap, ◌∙◌, subst, inl, inr, arith}
use Rattle.std.specs.Iterator.{AlwaysYields}
use Rattle.std.specs.Iterator.Runs.{Run}
use Rattle.std.specs.List.{flat_map, range_with_len}
use Rattle.std.specs.Prelude.{Option, Some, None}
use Rattle.std.proofs.lemmas.Bool.{cases_Bool, cases_lt, lt-ltb, le-ltb}
use Rattle.std.proofs.lemmas.Iterator.{YieldsList}
use Rattle.std.proofs.lemmas.List.{append_assoc, drop_all, drop_more, map-id}
use Rattle.std.proofs.lemmas.List.Folds.{flat_map-map}
use Rattle.atoms.proofs.Values.{index-atom_of}
use Rattle.atoms.specs.Atoms.{atom_of, bits, index, width}
use Rattle.atoms.specs.Members.{members, rising}
use Rattle.atoms.specs.Sets.{hasb}
use Rattle.atoms.specs.declared.Atom.{Atom}
use Rattle.atoms.specs.declared.AtomSet.{AtomSet}
use Rattle.wording.specs.Words.{listed_or, names_of}

-- is the atom one of the first n?
abbrev pub is_named : ℕ → Atom → Bool
is_named n a = ltb (index a) n

module _ (ws : List (List ℕ)) where
  -- the name of an atom
  abbrev pub name_at : Atom → List ℕ
  name_at a = get_or ws (index a) []

  -- the names of those of the n atoms from k on that are in s
  abbrev named : ℕ → ℕ → ℕ → List (List ℕ)
  named s k n = map name_at (filter (is_named (length ws)) (map atom_of (filter (hasb s) (range_with_len k n))))

  named_from : (s n k : ℕ) → k + n ≡ width → length ws ≤ width → named s k n ≡ names_of s k (drop k ws)
  named_from s zero k e h = ap (names_of s k) (sym (drop_all k ws (omega arith)))
  named_from s (suc n) k e h =
      let rest = named_from s n (k + 1) (omega arith) h in
      let i : index (atom_of k) ≡ k = index-atom_of k (omega arith) in
      elim (cases_lt k (length ws)) [
        | inl l ↦ rw (drop_more ws k [] l)
            (elim (cases_Bool (hasb s k)) [
              | inl y ↦ rw (y, i, lt-ltb k (length ws) l) (ap (λ j. get_or ws j [] ∷ named s (k + 1) n) i ∙ ap (λ x. get_or ws k [] ∷ x) rest)
              | inr out ↦ rw out rest
            ])
        | inr l ↦ rw (drop_all k ws l)
            (elim (cases_Bool (hasb s k)) [
              | inl y ↦ rw (y, i, le-ltb k (length ws) l) (rest ∙ ap (names_of s (k + 1)) (drop_all (k + 1) ws (omega arith)))
              | inr out ↦ rw out (rest ∙ ap (names_of s (k + 1)) (drop_all (k + 1) ws (omega arith)))
            ])
      ]

  pub names_are : (set : AtomSet) (n : ℕ) → n ≡ length ws → n ≤ width → map name_at (filter (is_named n) (members set)) ≡ names_of (bits set) 0 ws
  unfolding rising
  names_are set n e h = rw e (named_from (bits set) width 0 (omega arith) (omega (arith, e)))

-- the text after the first name, and after each other name with the gap before it
pub names_told : (ws : List (List ℕ)) (set : AtomSet) (none gap entry before after : List ℕ) (first : Atom) (rest yielded : List Atom) → before ≡ entry ++ name_at ws first → after ≡ before ++ flat_map (λ a. gap ++ name_at ws a) yielded → map (λ a. a) yielded ≡ rest → names_of (bits set) 0 ws ≡ map (name_at ws) (first ∷ rest) → after ≡ entry ++ listed_or none gap (names_of (bits set) 0 ws)
names_told ws set none gap entry before after first rest yielded p q e n =
    let y : yielded ≡ rest = sym (map-id yielded) ∙ e in
    q
    ∙ (ap (λ l. l ++ flat_map (λ a. gap ++ name_at ws a) yielded) p
    ∙ (append_assoc entry (name_at ws first) (flat_map (λ a. gap ++ name_at ws a) yielded)
    ∙ (ap (λ l. entry ++ (name_at ws first ++ flat_map (λ a. gap ++ name_at ws a) l)) y
    ∙ (ap (λ l. entry ++ (name_at ws first ++ l)) (sym (flat_map-map (λ x. gap ++ x) (name_at ws) rest)) ∙ ap (λ l. entry ++ listed_or none gap l) (sym n)))))

-- the steps of an iterator are those of its runs
pub of_runs : {S A : Type 0} {steps : S → Option A → S → Type 0} {Q : Run steps → Type 0} {s : S} {xs : List A} → ((p : Run steps) → Q p) → YieldsList steps (λ x. x) s xs → YieldsList steps (λ x. x) s xs
of_runs r e = e

-- the first item of what an iterator yields
module _ {S A : Type 0} {steps : S → Option A → S → Type 0} (s t : S) (r : Option A) (h : steps s r t) (xs : List A) (e : YieldsList steps (λ x. x) s xs) where
  pub none_left : r ≡ None → xs ≡ []
  none_left z = go xs e.runs (subst (λ o. steps s o t) z h)
    where
      go : (xs : List A) → AlwaysYields steps (λ x. x) s xs → steps s None t → xs ≡ []
      go [] y k = refl
      go (x ∷ xs) y k = absurd (y.0 t k)

  pub some_left : (x : A) → r ≡ Some x → (rest : List A) × (xs ≡ x ∷ rest) × YieldsList steps (λ x. x) t rest
  some_left x z = go xs e.runs (subst (λ o. steps s o t) z h)
    where
      go : (xs : List A) → AlwaysYields steps (λ x. x) s xs → steps s (Some x) t → (rest : List A) × (xs ≡ x ∷ rest) × YieldsList steps (λ x. x) t rest
      go [] y k = absurd (y x t k)
      go (w ∷ xs) y k = let p = y.1 x t k in (xs, ap (λ z. z ∷ xs) (sym p.0), record { runs = p.1 })
