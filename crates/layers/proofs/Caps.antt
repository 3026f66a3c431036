-- The clauses of a cap: which they are, and the first that a set breaks.
use Rattle.std.proofs.Common.{◌≡◌, ℕ, zero, suc, ◌+◌, ◌<◌, ◌≤◌, Bool, true, false, cond, not, ◌⊎◌, List, ◌∷◌, map, Some, None, Option, MatchOption, filter, sym, refl, ap, ◌∙◌, subst, inl, inr, arith}
use mathlib.Core.List.Memᴰ
use mathlib.Core.List.{Memᴰ}
use Rattle.std.proofs.lemmas.Bool.{and_from, cases_Bool, cases_eq, cond_both, not_from_false, not-true}
use Rattle.std.specs.List.{range_with_len}
use Rattle.atoms.specs.Atoms.{index, width}
use Rattle.atoms.specs.Sets.{Least, has, hasb, minus}
use Rattle.atoms.specs.declared.Atom.{Atom}
use Rattle.atoms.proofs.Values.{index_below}
use Rattle.atoms.proofs.Members.{empty_from_zero, hasb-minus, minus_lacks, minus_sub, not_has}
use Rattle.clauses.specs.Clauses.{language}
use Rattle.clauses.specs.declared.clauses.Clause.{Clause}
use Rattle.clauses.proofs.Decided.{laws}
use Rattle.models.specs.Models.{Breaks, Model, first_broken}
use Rattle.models.proofs.Broken.{first_here, first_past, model_none}
use Rattle.layers.specs.Caps.{cap_origin, denied, outside}
use Rattle.layers.proofs.Units.{denial-breaks, denial_broken}

-- a clause for each of the n numbers from k on that pass a test
module _ (test : ℕ → Bool) (f : ℕ → Clause) where
  abbrev made : ℕ → ℕ → List Clause
  made k n = map f (filter test (range_with_len k n))

  made_has : (k n b : ℕ) → k ≤ b → b < k + n → test b ≡ true → Memᴰ (f b) (made k n)
  made_has k zero b l u e = absurd (omega arith)
  made_has k (suc n) b l u e = go (cases_eq k b) (λ ne. made_has (k + 1) n b (omega arith) (omega arith) e)
    where
      rest : List ℕ
      rest = filter test (range_with_len (k + 1) n)

      go : (k ≡ b) ⊎ (k ≡ b → ⊥) → ((k ≡ b → ⊥) → Memᴰ (f b) (map f rest)) → Memᴰ (f b) (map f (cond (test k) (k ∷ rest) rest))
      go (inl q) later =
          subst (λ (x : Bool). Memᴰ (f b) (map f (cond x (k ∷ rest) rest))) (sym (ap test q ∙ e)) (Memᴰ.head (ap f (sym q)))
      go (inr ne) later =
          cond_both (test k) (k ∷ rest) rest (λ (xs : List ℕ). Memᴰ (f b) (map f xs)) (λ _. Memᴰ.tail (later ne)) (λ _. later ne)

  -- what a clause of the list is made of
  abbrev Maker : ℕ → ℕ → Clause → Type 0
  Maker k n c = (b : ℕ) × (k ≤ b) × (b < k + n) × (test b ≡ true) × (c ≡ f b)

  made_from : (k n : ℕ) (c : Clause) → Memᴰ c (made k n) → Maker k n c
  made_from k zero c m = absurd (Memᴰ.not-nil m)
  made_from k (suc n) c m = go (test k) refl m (λ j. let r = made_from (k + 1) n c j in (r.0, omega (arith, r.1), omega (arith, r.2), r.3, r.4))
    where
      rest : List ℕ
      rest = filter test (range_with_len (k + 1) n)

      go : (x : Bool) → test k ≡ x → Memᴰ c (map f (cond x (k ∷ rest) rest)) → (Memᴰ c (map f rest) → Maker k (suc n) c) → Maker k (suc n) c
      go true e m later = this (Memᴰ.cases_cons m)
        where
          this : (c ≡ f k) ⊎ Memᴰ c (map f rest) → Maker k (suc n) c
          this (inl q) = (k, omega arith, omega arith, e, q)
          this (inr j) = later j
      go false e m later = later m

  -- the first that the set breaks, where no clause of a smaller number is broken
  made_first : (s k n a : ℕ) → k ≤ a → a < k + n → test a ≡ true → Breaks language s (f a)
      → ((b : ℕ) → b < a → test b ≡ true → ¬ Breaks language s (f b)) → first_broken language (made k n) s ≡ Some (f a)
  made_first s k zero a l u e b least = absurd (omega arith)
  made_first s k (suc n) a l u e b least = go (cases_eq k a) (λ ne. made_first s (k + 1) n a (omega arith) (omega arith) e b least)
    where
      rest : List ℕ
      rest = filter test (range_with_len (k + 1) n)

      found : Type 0
      found = first_broken language (map f rest) s ≡ Some (f a)

      past : (x : Bool) → test k ≡ x → k < a → found → first_broken language (map f (cond x (k ∷ rest) rest)) s ≡ Some (f a)
      past true q l later = first_past laws (f k) (map f rest) s (least k l q) ∙ later
      past false q l later = later

      go : (k ≡ a) ⊎ (k ≡ a → ⊥) → ((k ≡ a → ⊥) → found) → first_broken language (map f (cond (test k) (k ∷ rest) rest)) s ≡ Some (f a)
      go (inl q) later =
          ap (λ (x : Bool). first_broken language (map f (cond x (k ∷ rest) rest)) s) (ap test q ∙ e)
          ∙ first_here laws (f k) (map f rest) s (subst (λ (x : ℕ). Breaks language s (f x)) (sym q) b)
          ∙ ap (λ (x : ℕ). Some (f x)) q
      go (inr ne) later = past (test k) refl (omega arith) (later ne)

-- the clauses of the atoms outside a cap
module _ (m : ℕ) where
  pub outside-has : (a : ℕ) → a < width → hasb m a ≡ false → Memᴰ (denied a) (map denied (outside m))
  outside-has a l n = made_has (λ b. not (hasb m b)) denied 0 width a (omega arith) (omega arith) (not_from_false (hasb m a) n)

  pub outside_model : (s : ℕ) → ((a : ℕ) → has s a → a < width → has m a) → Model language (map denied (outside m)) s
  outside_model s h c k b =
      let r = made_from (λ b. not (hasb m b)) denied 0 width c k in
      let l : r.0 < width = omega (arith, r.2) in
      let i = denial-breaks s r.0 (cap_origin r.0) l (subst (λ (x : Clause). Breaks language s x) r.4 b) in
      not_has m r.0 (not-true (hasb m r.0) r.3) (h r.0 i l)

-- the first clause of the atoms outside a cap that a set breaks: that of the least atom that the set has there, or none
module _ (m s : ℕ) where
  denied_first : (a : ℕ) → a < width → Least (minus s m) a → first_broken language (map denied (outside m)) s ≡ Some (denied a)
  denied_first a l least =
      made_first (λ b. not (hasb m b)) denied s 0 width a (omega arith) (omega arith) (not_from_false (hasb m a) (minus_lacks s m a least.0))
      (denial_broken s a (cap_origin a) l (minus_sub s m a least.0))
      smaller
    where
      smaller : (b : ℕ) → b < a → not (hasb m b) ≡ true → ¬ Breaks language s (denied b)
      smaller b k t i =
          omega (arith, least.1 b (hasb-minus s m b ∙ and_from (hasb s b) (not (hasb m b)) (denial-breaks s b (cap_origin b) (omega arith) i) t))

  denied_none : minus s m ≡ 0 → first_broken language (map denied (outside m)) s ≡ None
  denied_none e = model_none laws (map denied (outside m)) s (outside_model m s inside)
    where
      inside : (a : ℕ) → has s a → a < width → has m a
      inside a h l = go (cases_Bool (hasb m a))
        where
          go : (hasb m a ≡ true) ⊎ (hasb m a ≡ false) → has m a
          go (inl k) = k
          go (inr n) =
              absurd (not_has (minus s m) a (empty_from_zero (minus s m) e a)
              (hasb-minus s m a ∙ and_from (hasb s a) (not (hasb m a)) h (not_from_false (hasb m a) n)))

  pub first_outside :
      (d : ℕ) (o : Option Atom) (r : Option Clause) → d ≡ minus s m → MatchOption o (d ≡ 0) (λ a. Least d (index a) × (0 < d))
      → (o ≡ None → r ≡ None) → ((a : Atom) → o ≡ Some a → r ≡ Some (denied (index a))) → r ≡ first_broken language (map denied (outside m)) s
  first_outside d None r e h none some = none refl ∙ sym (denied_none (sym e ∙ h))
  first_outside d (Some a) r e h none some =
      some a refl ∙ sym (denied_first (index a) (index_below a) (subst (λ (x : ℕ). Least x (index a)) e h.0))
