-- The binary digits of a number, place by place: what `&`, `|`, a difference and a power of two have at each place, and that the digits
-- determine the number. Over any number of digits.
use Rattle.std.proofs.Common.{◌≡◌, ℕ, zero, suc, ◌-◌, ◌/◌, ◌%◌, ◌^◌, ◌<◌, ◌≤◌, min, max, sym, refl, ap, ◌∙◌, ap₂, pow-suc, div-one, one-add, arith, shr-shr}
use native.Mathlib.Nat.{zero-div}
use lib.Arith.{bin_ind}
use lib.Bits.{bit_and, bit_or, and_le_l, and_step, or_step, and_shr, or_shr}
use Rattle.atoms.specs.Sets.{digit}

pub digit_first : (s : ℕ) → digit s 0 ≡ s % 2
unfolding digit
digit_first s = ap (λ x. x % 2) (div-one s)

pub digit_next : (s a : ℕ) → digit s (suc a) ≡ digit (s / 2) a
unfolding digit
digit_next s a = ap (λ x. x % 2) (ap (λ x. s / 2 ^ x) (sym (one-add a)) ∙ sym (shr-shr s 1 a))

pub digit-below : (s a : ℕ) → digit s a < 2
unfolding digit
digit-below s a = omega arith

pub digit_zero : (a : ℕ) → digit 0 a ≡ 0
unfolding digit
digit_zero a = ap (λ x. x % 2) (zero-div (2 ^ a))

-- the digits determine the number
pub zero_from_digits : (t : ℕ) → ((a : ℕ) → digit t a ≡ 0) → t ≡ 0
zero_from_digits =
    bin_ind (λ t. ((a : ℕ) → digit t a ≡ 0) → t ≡ 0) (λ h. refl)
    (λ t ih h. omega (arith, ih (λ a. sym (digit_next t a) ∙ h (suc a)), h 0, digit_first t))

pub same_from_digits : (s t : ℕ) → ((a : ℕ) → digit s a ≡ digit t a) → s ≡ t
same_from_digits =
    bin_ind (λ s. (t : ℕ) → ((a : ℕ) → digit s a ≡ digit t a) → s ≡ t) (λ t h. sym (zero_from_digits t (λ a. sym (h a) ∙ digit_zero a)))
    (λ s ih t h. omega (arith, ih (t / 2) (λ a. sym (digit_next s a) ∙ h (suc a) ∙ digit_next t a), h 0, digit_first s, digit_first t))

pub digit_and : (s t a : ℕ) → digit (bit_and s t) a ≡ min (digit s a) (digit t a)
unfolding digit
digit_and s t a = omega (arith, ap (λ x. x % 2) (and_shr s t a), and_step (s / 2 ^ a) (t / 2 ^ a))

pub digit_or : (s t a : ℕ) → digit (bit_or s t) a ≡ max (digit s a) (digit t a)
unfolding digit
digit_or s t a = omega (arith, ap (λ x. x % 2) (or_shr s t a), or_step (s / 2 ^ a) (t / 2 ^ a))

-- `s - (s & t)` is `s` with the digits of `t` taken out
minus_half : (s t : ℕ) → (s - bit_and s t) / 2 ≡ s / 2 - bit_and (s / 2) (t / 2)
minus_half s t = omega (arith, and_step s t, and_le_l (s / 2) (t / 2))

minus_odd : (s t : ℕ) → (s - bit_and s t) % 2 ≡ s % 2 - t % 2
minus_odd s t = omega (arith, and_step s t, and_le_l (s / 2) (t / 2))

pub digit-minus : (s t a : ℕ) → digit (s - bit_and s t) a ≡ digit s a - digit t a
digit-minus s t zero = omega (arith, digit_first (s - bit_and s t), digit_first s, digit_first t, minus_odd s t)
digit-minus s t (suc a) =
    digit_next (s - bit_and s t) a ∙ ap (λ x. digit x a) (minus_half s t) ∙ digit-minus (s / 2) (t / 2) a
    ∙ sym (ap₂ (λ x y. x - y) (digit_next s a) (digit_next t a))

-- a power of two has one digit set
pow_half : (a : ℕ) → 2 ^ suc a / 2 ≡ 2 ^ a
pow_half a = omega (arith, pow-suc 2 a)

pow_even : (a : ℕ) → 2 ^ suc a % 2 ≡ 0
pow_even a = omega (arith, pow-suc 2 a)

pub digit_pow : (a : ℕ) → digit (2 ^ a) a ≡ 1
digit_pow zero = digit_first 1
digit_pow (suc a) = digit_next (2 ^ suc a) a ∙ ap (λ x. digit x a) (pow_half a) ∙ digit_pow a

pub digit_pow_other : (a b : ℕ) → (a ≡ b → ⊥) → digit (2 ^ a) b ≡ 0
digit_pow_other zero zero h = absurd (h refl)
digit_pow_other zero (suc b) h = digit_next 1 b ∙ digit_zero b
digit_pow_other (suc a) zero h = digit_first (2 ^ suc a) ∙ pow_even a
digit_pow_other (suc a) (suc b) h =
    digit_next (2 ^ suc a) b ∙ ap (λ x. digit x b) (pow_half a) ∙ digit_pow_other a b (λ e. h (ap suc e))

-- what a set digit says of the size of the number
pub pow_le : (s a : ℕ) → digit s a ≡ 1 → 2 ^ a ≤ s
pow_le s zero h = omega (arith, digit_first s)
pow_le s (suc a) h = omega (arith, pow-suc 2 a, pow_le (s / 2) a (sym (digit_next s a) ∙ h))

pub below_pow : (s k : ℕ) → ((a : ℕ) → digit s a ≡ 1 → a < k) → s < 2 ^ k
below_pow s zero h = omega (arith, zero_from_digits s (λ a. unset a))
  where
    unset : (a : ℕ) → digit s a ≡ 0
    unset a = let ne : digit s a ≡ 1 → ⊥ = λ e. omega (arith, h a e) in omega (arith, digit-below s a)
below_pow s (suc k) h =
    omega (arith, pow-suc 2 k, below_pow (s / 2) k (λ a e. omega (arith, h (suc a) (digit_next s a ∙ e))))
