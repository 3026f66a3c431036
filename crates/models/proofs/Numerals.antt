-- The laws of the language of numbers, and its tests by `&`.
use Rattle.std.proofs.Common.{◌≡◌, ℕ, zero, suc, ◌-◌, ◌/◌, ◌^◌, ◌<◌, ◌≤◌, true, false, not, ◌&&◌, eqb, ◌⊎◌, sym, refl, ap, ◌∙◌, subst, inl, inr, arith}
use lib.Bits.{bit_and}
use Rattle.std.proofs.lemmas.Bool.{eq-eqb, ne_eqb, eqb-true, eqb-false, cases_Bool, both_ways, and_parts, and_from, not-true, not_from_false}
use Rattle.models.specs.Language.{Laws}
use Rattle.models.specs.Models.{breaks, sticks_out}
use Rattle.models.proofs.Tests.{same_test}
use Rattle.models.proofs.Broken.{breaks_true, breaks_from, within_from, within_not}
use Rattle.atoms.specs.Sets.{hasb, has, ◌⊆◌, Least}
use Rattle.models.specs.Numbers.{digits_of, numbers}
use Rattle.atoms.proofs.Members.{hasb_zero, hasb_next, hasb-insert, same_from_members, meet_from_sub, sub_from_meet, meet_from_disjoint, disjoint_from_meet, remove_is, drop_least, lacks, hasb_pow}

digits_step : (n s : ℕ) → eqb s 0 ≡ false → digits_of (suc n) s ≡ suc (digits_of n (s / 2))
digits_step n s e = rw (e, digits_of)

pub not_zero : (s a : ℕ) → hasb s a ≡ true → s ≡ 0 → ⊥
not_zero s a h e = both_ways (hasb s a) (ap (λ (x : ℕ). hasb x a) e ∙ hasb_zero a) h

below_digits : (n s a : ℕ) → s ≤ n → hasb s a ≡ true → a < digits_of n s
below_digits zero s a l h = absurd (not_zero s a h (omega arith))
below_digits (suc n) s zero l h = let e = digits_step n s (ne_eqb s 0 (not_zero s 0 h)) in omega arith
below_digits (suc n) s (suc a) l h =
    let e = digits_step n s (ne_eqb s 0 (not_zero s (suc a) h)) in
    let k : a < digits_of n (s / 2) = below_digits n (s / 2) a (omega arith) (sym (hasb_next s a) ∙ h) in
    omega arith

module _ {C : Type 0} (body head : C → ℕ) where
  pub numbers_laws : Laws (numbers body head)
  numbers_laws =
      record {
        has_bound = λ s a h. below_digits s s a (omega arith) h;
        ext = same_from_members;
        has_empty =
            hasb_zero;
        has_with = hasb-insert;
      }

  -- a clause is broken: the test by `&`
  pub breaks_and : (s : ℕ) (c : C) → (eqb (bit_and (body c) s) (body c) && eqb (bit_and (head c) s) 0) ≡ breaks
      (numbers body head) s c
  breaks_and s c =
      same_test (eqb (bit_and (body c) s) (body c) && eqb (bit_and (head c) s) 0) (breaks (numbers body head) s c)
      (λ e. let k = and_parts (eqb (bit_and (body c) s) (body c)) (eqb (bit_and (head c) s) 0) e in
      breaks_from numbers_laws s c
      (record {
        whole = sub_from_meet (body c) s (eqb-true (bit_and (body c) s) (body c) k.0);
        none =
            disjoint_from_meet (head c) s (eqb-true (bit_and (head c) s) 0 k.1);
      }))
      (λ e. let b = breaks_true numbers_laws s c e in
      and_from (eqb (bit_and (body c) s) (body c)) (eqb (bit_and (head c) s) 0)
      (eq-eqb (bit_and (body c) s) (body c) (meet_from_sub (body c) s b.whole))
      (eq-eqb (bit_and (head c) s) 0 (meet_from_disjoint (head c) s b.none)))

-- a set less its least atom leaves that atom alone as the difference
pub least_alone : (s a : ℕ) → Least s a → s - bit_and s (s - 1) ≡ 2 ^ a
least_alone s a l = omega (arith, drop_least s a l, remove_is s a l.0)

pub one_apart : (a t : ℕ) → eqb (bit_and (2 ^ a) t) 0 ≡ true → hasb t a ≡ false
one_apart a t e = lacks t a (disjoint_from_meet (2 ^ a) t (eqb-true (bit_and (2 ^ a) t) 0 e) a (hasb_pow a a ∙ eq-eqb a a refl))

pub one_meets : (a t : ℕ) → eqb (bit_and (2 ^ a) t) 0 ≡ false → has t a
one_meets a t e = go (cases_Bool (hasb t a))
  where
    go : (hasb t a ≡ true) ⊎ (hasb t a ≡ false) → has t a
    go (inl h) = h
    go (inr n) =
        absurd (eqb-false (bit_and (2 ^ a) t) 0 e
        (meet_from_disjoint (2 ^ a) t
        (λ b h k. both_ways (hasb t a) n (subst (λ (x : ℕ). has t x) (sym (eqb-true a b (sym (hasb_pow a b) ∙ h))) k))))

-- a set is within another: the test by `&`
pub inside_and : {C : Type 0} (body head : C → ℕ) (s t : ℕ) → eqb (bit_and s t) s ≡ not (sticks_out (numbers body head) s t)
inside_and body head s t =
    same_test (eqb (bit_and s t) s) (not (sticks_out (numbers body head) s t))
    (λ e. there (cases_Bool (sticks_out (numbers body head) s t)) (sub_from_meet s t (eqb-true (bit_and s t) s e)))
    (λ e. eq-eqb (bit_and s t) s
    (meet_from_sub s t (within_from (numbers_laws body head) s t (not-true (sticks_out (numbers body head) s t) e))))
  where
    there : (sticks_out (numbers body head) s t ≡ true) ⊎ (sticks_out (numbers body head) s t ≡ false) → s ⊆ t →
        not (sticks_out (numbers body head) s t) ≡ true
    there (inl k) w = absurd (within_not (numbers_laws body head) s t k w)
    there (inr k) w = not_from_false (sticks_out (numbers body head) s t) k
