-- What the code computes with words of `k` digits, in terms of sets.
use Rattle.std.proofs.Common.{◌≡◌, ℕ, zero, suc, ◌+◌, ◌-◌, ◌/◌, ◌^◌, ◌<◌, Bool, true, false, not, eqb, MatchBool, sym, refl, ap, ◌∙◌, subst, pow-suc, arith}
use lib.Arith.{lt-one}
use lib.Bits.{bit_and, and_mask, and_step}
use lib.Count.{count_leading_zeros, leading_top}
use Rattle.std.proofs.lemmas.Bool.{eqb-true, eqb-false}
use Rattle.atoms.specs.Sets.{digit, hasb, has, ◌⊆◌, Disjoint, Empty, Greatest, minus, size, Dropped}
use Rattle.atoms.proofs.Members.{empty_from_zero, least_from_members, sub_from_meet, disjoint_from_meet, outside, common, greatest_from_bounds, pos_from_has, drop_least, hasb-drop, remove_less, size-remove}

-- `(s >> a) & 1 == 1`
pub contains_is : (s a : ℕ) → eqb (bit_and (s / 2 ^ a) 1) 1 ≡ hasb s a
unfolding hasb digit
contains_is s a = ap (λ x. eqb x 1) (and_mask (s / 2 ^ a) 1)

-- `s & !t`
not_and : (k s t : ℕ) → s < 2 ^ k → t < 2 ^ k → bit_and s ((2 ^ k - 1) - t) + bit_and s t ≡ s
not_and zero s t hs ht = ap (λ x. bit_and x ((2 ^ 0 - 1) - t) + bit_and x t) (lt-one hs) ∙ sym (lt-one hs)
not_and (suc k) s t hs ht =
    let half : ((2 ^ suc k - 1) - t) / 2 ≡ (2 ^ k - 1) - t / 2 = omega (arith, pow-suc 2 k) in
    omega (
      arith,
      pow-suc 2 k,
      and_step s ((2 ^ suc k - 1) - t),
      and_step s t,
      ap (bit_and (s / 2)) half,
      not_and k (s / 2) (t / 2) (omega (arith, pow-suc 2 k)) (omega (arith, pow-suc 2 k)),
    )

pub minus_is : (k s t : ℕ) → s < 2 ^ k → t < 2 ^ k → bit_and s ((2 ^ k - 1) - t) ≡ minus s t
minus_is k s t hs ht = omega (arith, not_and k s t hs ht)

-- a test of two numbers, and what it says
when_equal : (m n : ℕ) (P Q : Type 0) → (m ≡ n → P) → ((m ≡ n → ⊥) → Q) → MatchBool (eqb m n) P Q
when_equal m n P Q f g = go (eqb m n) refl
  where
    go : (b : Bool) → eqb m n ≡ b → MatchBool b P Q
    go true e = f (eqb-true m n e)
    go false e = g (eqb-false m n e)

when_unequal : (m n : ℕ) (P Q : Type 0) → ((m ≡ n → ⊥) → P) → (m ≡ n → Q) → MatchBool (not (eqb m n)) P Q
when_unequal m n P Q f g = go (eqb m n) refl
  where
    go : (b : Bool) → eqb m n ≡ b → MatchBool (not b) P Q
    go true e = g (eqb-true m n e)
    go false e = f (eqb-false m n e)

-- `s == 0`
pub empty_is : (s : ℕ) → MatchBool (eqb s 0) (Empty s) ((a : ℕ) × has s a)
empty_is s =
    when_equal s 0 (Empty s) ((a : ℕ) × has s a) (empty_from_zero s)
    (λ n. let w = least_from_members s (omega arith) in (w.0, w.1.0))

-- `s & t == s`
pub subset_is : (s t : ℕ) → MatchBool (eqb (bit_and s t) s) (s ⊆ t) ((a : ℕ) × has s a × (hasb t a ≡ false))
subset_is s t = when_equal (bit_and s t) s (s ⊆ t) ((a : ℕ) × has s a × (hasb t a ≡ false)) (sub_from_meet s t) (outside s t)

-- `s & t != 0`
pub intersects_is : (s t : ℕ) → MatchBool (not (eqb (bit_and s t) 0)) ((a : ℕ) × has s a × has t a) (Disjoint s t)
intersects_is s t = when_unequal (bit_and s t) 0 ((a : ℕ) × has s a × has t a) (Disjoint s t) (common s t) (disjoint_from_meet s t)

-- `k - 1 - leading_zeros(s)`, the greatest atom
pub leading_greatest : (k s : ℕ) → 0 < s → s < 2 ^ suc k → Greatest s (k - count_leading_zeros (suc k) s)
leading_greatest k s p l =
    let t = leading_top (suc k) s p l in
    let e : t.0 ≡ k - count_leading_zeros (suc k) s = omega (arith, t.1) in
    subst (Greatest s) e (greatest_from_bounds s t.0 t.2 t.3)

-- the empty set stays
pub dropped_none : (s r : ℕ) → r ≡ s → s ≡ 0 → Dropped s r
dropped_none s r e z = record {
  none = λ _. e ∙ z;
  value = λ a h. absurd (gone (pos_from_has s a h.0));
  members = λ a b h. absurd (gone (pos_from_has s a h.0));
  less = λ p. absurd (gone p);
  count = λ p. absurd (gone p);
}
  where
    gone : 0 < s → ⊥
    gone p = omega arith

-- `s & (s - 1)`
pub dropped_some : (s r : ℕ) → r ≡ bit_and s (s - 1) → (s ≡ 0 → ⊥) → Dropped s r
dropped_some s r e n = record {
  none = λ z. absurd (n z);
  value = λ a h. e ∙ drop_least s a h;
  members = λ a b h. ap (λ x. hasb x b) (e ∙ drop_least s a h) ∙ hasb-drop s a b h;
  less = λ p. let w = least_from_members s p in omega (arith, e ∙ drop_least s w.0 w.1, remove_less s w.0 w.1.0);
  count = λ p. let w = least_from_members s p in
      ap (λ x. size x + 1) (e ∙ drop_least s w.0 w.1) ∙ size-remove s w.0 w.1.0;
}
