-- Tests: two that pass together are one, and tests at the numbers below a bound.
use Rattle.std.proofs.Common.{◌≡◌, ℕ, zero, suc, ◌<◌, ◌≤◌, Bool, true, false, ◌⊎◌, sym, refl, ap, ◌∙◌, inl, inr, not-suc-le-zero, arith}
use Rattle.std.proofs.lemmas.Bool.{both_ways, or_cases, or_parts, cases_Bool, cases_order}
use Rattle.models.specs.Models.{some_below}

pub same_test : (x y : Bool) → (x ≡ true → y ≡ true) → (y ≡ true → x ≡ true) → x ≡ y
same_test true y f g = sym (f refl)
same_test false true f g = g refl
same_test false false f g = refl

pub below_found : (n : ℕ) (p : ℕ → Bool) → some_below n p ≡ true → (a : ℕ) × (a < n) × (p a ≡ true)
below_found zero p e = absurd (both_ways false refl e)
below_found (suc n) p e = go (or_cases (p n) (some_below n p) e) (below_found n p)
  where
    go : (p n ≡ true) ⊎ (some_below n p ≡ true) → (some_below n p ≡ true → (a : ℕ) × (a < n) × (p a ≡ true)) →
        (a : ℕ) × (a < suc n) × (p a ≡ true)
    go (inl h) f = (n, omega arith, h)
    go (inr h) f = let r = f h in (r.0, omega (arith, r.1), r.2)

pub below_none : (n : ℕ) (p : ℕ → Bool) → some_below n p ≡ false → (a : ℕ) → a < n → p a ≡ false
below_none zero p e a h = absurd (not-suc-le-zero h)
below_none (suc n) p e a h = go (cases_order a n) (below_none n p)
  where
    parts : (p n ≡ false) × (some_below n p ≡ false)
    parts = or_parts (p n) (some_below n p) e

    go : (a ≡ n) ⊎ ((a < n) ⊎ (n < a)) → (some_below n p ≡ false → (b : ℕ) → b < n → p b ≡ false) → p a ≡ false
    go (inl q) f = ap p q ∙ parts.0
    go (inr (inl l)) f = f parts.1 a l
    go (inr (inr g)) f = absurd (omega arith)

-- the greatest number below n at which the test passes, if it passes at any
pub greatest_below : (n : ℕ) (p : ℕ → Bool) →
    ((a : ℕ) × (p a ≡ true) × ((b : ℕ) → b < n → p b ≡ true → b ≤ a)) ⊎ ((b : ℕ) → b < n → p b ≡ false)
greatest_below zero p = inr (λ b h. absurd (not-suc-le-zero h))
greatest_below (suc n) p = go (cases_Bool (p n)) (greatest_below n p)
  where
    go : (p n ≡ true) ⊎ (p n ≡ false) → ((a : ℕ) × (p a ≡ true) × ((b : ℕ) → b < n → p b ≡ true → b ≤ a)) ⊎
        ((b : ℕ) → b < n → p b ≡ false) →
        ((a : ℕ) × (p a ≡ true) × ((b : ℕ) → b < suc n → p b ≡ true → b ≤ a)) ⊎ ((b : ℕ) → b < suc n → p b ≡ false)
    go (inl h) r = inl (n, h, λ b l e. omega arith)
    go (inr h) (inl r) = inl (r.0, r.1, λ b l e. below b l e (cases_order b n))
      where
        below : (b : ℕ) → b < suc n → p b ≡ true → (b ≡ n) ⊎ ((b < n) ⊎ (n < b)) → b ≤ r.0
        below b l e (inl q) = absurd (both_ways (p n) h (sym (ap p q) ∙ e))
        below b l e (inr (inl m)) = r.2 b m e
        below b l e (inr (inr g)) = absurd (omega arith)
    go (inr h) (inr r) = inr (λ b l. below b l (cases_order b n))
      where
        below : (b : ℕ) → b < suc n → (b ≡ n) ⊎ ((b < n) ⊎ (n < b)) → p b ≡ false
        below b l (inl q) = ap p q ∙ h
        below b l (inr (inl m)) = r b m
        below b l (inr (inr g)) = absurd (omega arith)
