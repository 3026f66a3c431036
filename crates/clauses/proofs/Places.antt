-- The first broken clause of a numbered list, by the place of its element.
use Rattle.std.proofs.Common.{◌≡◌, ℕ, suc, ◌+◌, ◌-◌, ◌≤◌, Bool, cond, List, [], ◌∷◌, get_or, Some, None, refl, inl, inr, arith}
use Rattle.std.specs.List.{position_from}
use Rattle.std.proofs.lemmas.Bool.{cases_Bool}
use Rattle.models.specs.Models.{breaks, first_broken}
use Rattle.clauses.specs.Clauses.{language}
use Rattle.clauses.specs.Sources.{at_place, numbered}
use Rattle.clauses.specs.declared.clauses.Clause.{Clause}

-- f makes the clauses, and the test p tells of an element whether the set s breaks its clause
module _ {X : Type 0} (f : ℕ → X → Clause) (s : ℕ) (p : X → Bool) (same : (i : ℕ) (x : X) → breaks language s (f i x) ≡ p x) where
  pub none_first : (i : ℕ) (xs : List X) → position_from p i xs ≡ None → first_broken language (numbered f i xs) s ≡ None
  none_first i [] e = refl
  none_first i (x ∷ xs) e = elim (cases_Bool (p x)) [
    | inl here ↦ absurd (let h : cond (p x) (Some i) (position_from p (i + 1) xs) ≡ None = e in let g = rw here at h in cc)
    | inr later ↦
        let h : cond (p x) (Some i) (position_from p (i + 1) xs) ≡ None = e in
        rw (same i x, later) (none_first (i + 1) xs (rw later at h))
  ]

  place_first :
      (i : ℕ) (xs : List X) (k : ℕ) (d : X) → position_from p i xs ≡ Some k
      → (i ≤ k) × (first_broken language (numbered f i xs) s ≡ Some (f k (get_or xs (k - i) d)))
  place_first i [] k d e = absurd (cc)
  place_first i (x ∷ xs) k d e = elim (cases_Bool (p x)) [
    | inl here ↦
        let h : cond (p x) (Some i) (position_from p (i + 1) xs) ≡ Some k = e in
        let g : i ≡ k = (let found = rw here at h in cc) in
        let z : k - i ≡ 0 = omega arith in
        (omega arith, rw (same i x, here, z, g) refl)
    | inr later ↦
        let h : cond (p x) (Some i) (position_from p (i + 1) xs) ≡ Some k = e in
        let rest = place_first (i + 1) xs k d (rw later at h) in
        let l = rest.0 in
        let z : k - i ≡ suc (k - (i + 1)) = omega arith in
        (omega arith, rw (same i x, later, z) rest.1)
  ]

  pub first_at :
      (xs : List X) (k : ℕ) (d : X) → position_from p 0 xs ≡ Some k
      → first_broken language (numbered f 0 xs) s ≡ Some (f k (get_or xs k d))
  first_at xs k d e = let z : k - 0 ≡ k = omega arith in rw z at ((place_first 0 xs k d e).1)

-- a clause with another origin is broken by the same sets
pub placed_same : (s i : ℕ) (c : Clause) → breaks language s (at_place i c) ≡ breaks language s c
unfolding breaks
placed_same s i c = refl
