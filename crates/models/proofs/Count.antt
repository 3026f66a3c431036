-- How many atoms below a bound a set lacks: it falls with each new atom.
use Rattle.std.proofs.Common.{◌≡◌, ℕ, zero, suc, ◌+◌, ◌<◌, ◌≤◌, Bool, true, false, ◌||◌, eqb, ◌⊎◌, List, Some, sym, refl, ap, ◌∙◌, ap₂, inl, inr, not-suc-le-zero, arith}
use mathlib.Core.Bool.{or-false}
use Rattle.std.proofs.lemmas.Bool.{cases_Bool, cases_order, ne_eqb, eq-eqb, or_right}
use Rattle.models.specs.Language.{Language, Laws}
use Rattle.models.specs.Models.{In, first_broken}
use Rattle.models.proofs.Broken.{first_broken_lem}

abbrev pub lack : Bool → ℕ
lack true = 0
lack false = 1

module _ {S C : Type 0} (L : Language S C) where
  abbrev pub missing : ℕ → S → ℕ
  missing zero s = 0
  missing (suc k) s = missing k s + lack (L.has s k)

module _ {S C : Type 0} {L : Language S C} (laws : Laws L) where
  pub missing_most : (k : ℕ) (s : S) → missing L k s ≤ k
  missing_most zero s = omega arith
  missing_most (suc k) s = go (L.has s k) (missing_most k s)
    where
      go : (b : Bool) → missing L k s ≤ k → missing L k s + lack b ≤ suc k
      go true h = omega arith
      go false h = omega arith

  apart_has : (s : S) (h k : ℕ) → (h ≡ k → ⊥) → L.has (L.with s h) k ≡ L.has s k
  apart_has s h k n = laws.has_with s h k ∙ (ap (λ (b : Bool). L.has s k || b) (ne_eqb h k n) ∙ or-false (L.has s k))

  here_has : (s : S) (h k : ℕ) → h ≡ k → L.has (L.with s h) k ≡ true
  here_has s h k e = laws.has_with s h k ∙ or_right (L.has s k) (eqb h k) (eq-eqb h k e)

  missing_same : (k : ℕ) (s : S) (h : ℕ) → k ≤ h → missing L k (L.with s h) ≡ missing L k s
  missing_same zero s h l = refl
  missing_same (suc k) s h l = ap₂ ◌+◌ (missing_same k s h (omega arith)) (ap lack (apart_has s h k (λ e. omega arith)))

  pub missing_with : (k : ℕ) (s : S) (h : ℕ) → L.has s h ≡ false → h < k → missing L k (L.with s h) + 1 ≡ missing L k s
  missing_with zero s h n l = absurd (not-suc-le-zero l)
  missing_with (suc k) s h n l = go (cases_order h k) (missing_with k s h n)
    where
      go : (h ≡ k) ⊎ ((h < k) ⊎ (k < h)) → (h < k → missing L k (L.with s h) + 1 ≡ missing L k s) →
          missing L k (L.with s h) + lack (L.has (L.with s h) k) + 1 ≡ missing L k s + lack (L.has s k)
      go (inl e) f =
          let p : lack (L.has (L.with s h) k) ≡ 0 = ap lack (here_has s h k e) in
          let q : lack (L.has s k) ≡ 1 = ap lack (ap (L.has s) (sym e) ∙ n) in
          let r : missing L k (L.with s h) ≡ missing L k s = missing_same k s h (omega arith) in
          omega arith
      go (inr (inl m)) f =
          let p : lack (L.has (L.with s h) k) ≡ lack (L.has s k) = ap lack (apart_has s h k (λ e. omega arith)) in
          let r : missing L k (L.with s h) + 1 ≡ missing L k s = f m in
          omega arith
      go (inr (inr g)) f = absurd (omega arith)

  pub missing_some : (k : ℕ) (s : S) (h : ℕ) → L.has s h ≡ false → h < k → 0 < missing L k s
  missing_some k s h n l = omega (arith, missing_with k s h n l)

  pub not_in : (s : S) (a : ℕ) → (In L s a → ⊥) → L.has s a ≡ false
  not_in s a f = go (cases_Bool (L.has s a))
    where
      go : (L.has s a ≡ true) ⊎ (L.has s a ≡ false) → L.has s a ≡ false
      go (inl h) = absurd (f h)
      go (inr n) = n

  module _ (cs : List C) where
    -- a head atom of the first clause broken is new
    pub head_new : (s : S) (c : C) → first_broken L cs s ≡ Some c → (h : ℕ) → In L (L.head c) h → L.has s h ≡ false
    head_new s c e h p = not_in s h ((first_broken_lem laws cs s e).none h p)
