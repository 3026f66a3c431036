-- The laws of sets of atoms. A set is a number, and the atom `a` is in `s` where `has s a`. Nothing here depends on how many atoms there are.
use Rattle.std.proofs.Common.{◌≡◌, ℕ, zero, suc, ◌+◌, ◌-◌, ◌/◌, ◌%◌, ◌^◌, ◌<◌, ◌≤◌, max, true, false, not, ◌&&◌, ◌||◌, eqb, ltb, ◌⊎◌, sym, refl, ap, ◌∙◌, subst, inl, inr, suc-le-suc, zero-le, lt_of_lt_of_le, le_of_suc-le-suc, not-suc-le-zero, lt_irrefl, pow-suc, arith, pow_pos, pow_mono}
use lib.Bits.{bit_and, bit_or, and_comm, and_le_l, and_le_r, and_step, and_self, or_step, or_zero_r}
use lib.Count.{ones, count_trailing_zeros, under, ones_step, ones-le, leading_top}
use lib.Arith.{bin_ind}
use Rattle.std.proofs.lemmas.Bool.{eq-eqb, ne_eqb, eqb-true, cases_Bool, cases_eq, cases_lt, both_ways, not-true, and_parts, and_from, and_left, and_right, not_from_true, or_left, or_right, or_cases}
use Rattle.std.proofs.lemmas.Bool.Decides.{nat_tests}
use Rattle.atoms.specs.Sets.{digit, hasb, has, ◌⊆◌, Disjoint, Empty, Least, Greatest, union, meet, minus, insert, remove, size}
use Rattle.atoms.proofs.Digits.{digit_first, digit_next, digit-below, digit_zero, same_from_digits, digit_and, digit_or, digit-minus, digit_pow, digit_pow_other, pow_le, below_pow}

-- ---- membership, and the digit that says it

pub has_tells : (s a : ℕ) → ((hasb s a ≡ true) × (digit s a ≡ 1)) ⊎ ((hasb s a ≡ false) × (digit s a ≡ 0))
unfolding hasb
has_tells s a = go (cases_Bool (eqb (digit s a) 1))
  where
    go : (eqb (digit s a) 1 ≡ true) ⊎ (eqb (digit s a) 1 ≡ false)
        → ((eqb (digit s a) 1 ≡ true) × (digit s a ≡ 1)) ⊎ ((eqb (digit s a) 1 ≡ false) × (digit s a ≡ 0))
    go (inl e) = inl (e, eqb-true (digit s a) 1 e)
    go (inr e) = inr (e, grind (arith, nat_tests, digit-below s a))

pub hasb_and : (s t a : ℕ) → hasb (bit_and s t) a ≡ (hasb s a && hasb t a)
hasb_and s t a = grind (arith, has_tells (bit_and s t) a, has_tells s a, has_tells t a, digit_and s t a)

pub hasb_or : (s t a : ℕ) → hasb (bit_or s t) a ≡ (hasb s a || hasb t a)
hasb_or s t a = grind (arith, has_tells (bit_or s t) a, has_tells s a, has_tells t a, digit_or s t a)

pub hasb-minus : (s t a : ℕ) → hasb (minus s t) a ≡ (hasb s a && not (hasb t a))
hasb-minus s t a = grind (arith, has_tells (minus s t) a, has_tells s a, has_tells t a, digit-minus s t a)

pub hasb_pow : (a b : ℕ) → hasb (2 ^ a) b ≡ eqb a b
hasb_pow a b = go (cases_eq a b)
  where
    go : (a ≡ b) ⊎ (a ≡ b → ⊥) → hasb (2 ^ a) b ≡ eqb a b
    go (inl e) = (rw e grind (has_tells (2 ^ b) b, digit_pow b, arith)) ∙ sym (eq-eqb a b e)
    go (inr n) = (let d = digit_pow_other a b n in grind (has_tells (2 ^ a) b, arith)) ∙ sym (ne_eqb a b n)

pub hasb_zero : (a : ℕ) → hasb 0 a ≡ false
hasb_zero a = grind (arith, has_tells 0 a, digit_zero a)

pub hasb_first : (s : ℕ) → hasb s 0 ≡ eqb (s % 2) 1
unfolding hasb
hasb_first s = ap (λ x. eqb x 1) (digit_first s)

pub hasb_next : (s a : ℕ) → hasb s (suc a) ≡ hasb (s / 2) a
unfolding hasb
hasb_next s a = ap (λ x. eqb x 1) (digit_next s a)

-- ---- two sets with the same atoms are one number

pub same_from_members : (s t : ℕ) → ((a : ℕ) → hasb s a ≡ hasb t a) → s ≡ t
same_from_members s t h = same_from_digits s t (λ a. digits a (h a))
  where
    digits : (a : ℕ) → hasb s a ≡ hasb t a → digit s a ≡ digit t a
    digits a e = grind (arith, has_tells s a, has_tells t a)

pub zero_from_empty : (s : ℕ) → Empty s → s ≡ 0
zero_from_empty s h = same_from_members s 0 (λ a. h a ∙ sym (hasb_zero a))

pub empty_from_zero : (s : ℕ) → s ≡ 0 → Empty s
empty_from_zero s e a = ap (λ x. hasb x a) e ∙ hasb_zero a

-- ---- how large a number with an atom is

pub pow_le_has : (s a : ℕ) → has s a → 2 ^ a ≤ s
pow_le_has s a h = pow_le s a (grind (arith, has_tells s a))

-- an atom of a number of k digits is below k
pub has-below : (k s a : ℕ) → s < 2 ^ k → has s a → a < k
has-below k s a l h = go (cases_lt a k)
  where
    go : (a < k) ⊎ (k ≤ a) → a < k
    go (inl lt) = lt
    go (inr le) = omega (arith, pow_mono le, pow_le_has s a h)

pub none_above : (k s a : ℕ) → s < 2 ^ k → k ≤ a → hasb s a ≡ false
none_above k s a l h = go (cases_Bool (hasb s a))
  where
    go : (hasb s a ≡ true) ⊎ (hasb s a ≡ false) → hasb s a ≡ false
    go (inl e) = absurd (lt_irrefl a (lt_of_lt_of_le (has-below k s a l e) h))
    go (inr e) = e

-- a number whose atoms are all below k has k digits
pub below_from_members : (k s : ℕ) → ((a : ℕ) → has s a → a < k) → s < 2 ^ k
below_from_members k s h = below_pow s k (λ a e. h a (grind (arith, has_tells s a)))

-- ---- subsets, and sets with nothing in common

pub not_has : (s a : ℕ) → hasb s a ≡ false → has s a → ⊥
not_has s a e h = both_ways (hasb s a) e h

pub lacks : (s a : ℕ) → (has s a → ⊥) → hasb s a ≡ false
lacks s a n = go (cases_Bool (hasb s a))
  where
    go : (hasb s a ≡ true) ⊎ (hasb s a ≡ false) → hasb s a ≡ false
    go (inl e) = absurd (n e)
    go (inr e) = e

pub meet_from_sub : (s t : ℕ) → s ⊆ t → bit_and s t ≡ s
meet_from_sub s t h = same_from_members (bit_and s t) s (λ a. hasb_and s t a ∙ each a (h a))
  where
    each : (a : ℕ) → (has s a → has t a) → (hasb s a && hasb t a) ≡ hasb s a
    each a f = grind (cases_Bool (hasb s a), cases_Bool (hasb t a), arith)

pub sub_from_meet : (s t : ℕ) → bit_and s t ≡ s → s ⊆ t
sub_from_meet s t e a h = (and_parts (hasb s a) (hasb t a) (sym (hasb_and s t a) ∙ ap (λ x. hasb x a) e ∙ h)).1

pub meet_from_disjoint : (s t : ℕ) → Disjoint s t → bit_and s t ≡ 0
meet_from_disjoint s t h = zero_from_empty (bit_and s t) (λ a. lacks (bit_and s t) a (each a))
  where
    each : (a : ℕ) → has (bit_and s t) a → ⊥
    each a e = let p = and_parts (hasb s a) (hasb t a) (sym (hasb_and s t a) ∙ e) in h a p.0 p.1

pub disjoint_from_meet : (s t : ℕ) → bit_and s t ≡ 0 → Disjoint s t
disjoint_from_meet s t e a h k =
    not_has (bit_and s t) a (empty_from_zero (bit_and s t) e a) (hasb_and s t a ∙ and_from (hasb s a) (hasb t a) h k)

pub sub_refl : (s : ℕ) → s ⊆ s
sub_refl s a h = h

pub sub_trans : (s t u : ℕ) → s ⊆ t → t ⊆ u → s ⊆ u
sub_trans s t u p q a h = q a (p a h)

pub sub_antisym : (s t : ℕ) → s ⊆ t → t ⊆ s → s ≡ t
sub_antisym s t p q = sym (meet_from_sub s t p) ∙ and_comm s t ∙ meet_from_sub t s q

pub sub_le : (s t : ℕ) → s ⊆ t → s ≤ t
sub_le s t h = omega (arith, meet_from_sub s t h, and_le_r s t)

pub sub_zero : (s : ℕ) → 0 ⊆ s
sub_zero s a h = absurd (not_has 0 a (hasb_zero a) h)

-- ---- one atom more, one atom less

pub hasb-insert : (s a b : ℕ) → hasb (insert s a) b ≡ (hasb s b || eqb a b)
hasb-insert s a b = hasb_or s (2 ^ a) b ∙ ap (λ x. hasb s b || x) (hasb_pow a b)

pub hasb-remove : (s a b : ℕ) → hasb (remove s a) b ≡ (hasb s b && not (eqb a b))
hasb-remove s a b = hasb-minus s (2 ^ a) b ∙ ap (λ x. hasb s b && not x) (hasb_pow a b)

pub has-insert : (s a : ℕ) → has (insert s a) a
has-insert s a = hasb-insert s a a ∙ or_right (hasb s a) (eqb a a) (eq-eqb a a refl)

pub sub_insert : (s a : ℕ) → s ⊆ insert s a
sub_insert s a b h = hasb-insert s a b ∙ or_left (hasb s b) (eqb a b) h

-- what is in `insert s a` is `a`, or in `s`
pub insert_cases : (s a b : ℕ) → has (insert s a) b → has s b ⊎ (a ≡ b)
insert_cases s a b h = go (or_cases (hasb s b) (eqb a b) (sym (hasb-insert s a b) ∙ h))
  where
    go : (hasb s b ≡ true) ⊎ (eqb a b ≡ true) → has s b ⊎ (a ≡ b)
    go (inl e) = inl e
    go (inr e) = inr (eqb-true a b e)

pub insert_sub : (s t a : ℕ) → s ⊆ t → has t a → insert s a ⊆ t
insert_sub s t a h k b i = go (insert_cases s a b i)
  where
    go : has s b ⊎ (a ≡ b) → has t b
    go (inl e) = h b e
    go (inr e) = subst (λ x. has t x) e k

-- ---- the least and the greatest

lt_pow : (n : ℕ) → n < 2 ^ n
lt_pow zero = omega arith
lt_pow (suc n) = omega (arith, pow-suc 2 n, lt_pow n)

pub trailing_least : (k s : ℕ) → 0 < s → s < 2 ^ k → Least s (count_trailing_zeros k s)
unfolding count_trailing_zeros
trailing_least zero s p l = absurd (lt_irrefl 0 (omega arith))
trailing_least (suc k) s p l = go (s % 2) refl (λ q. trailing_least k (s / 2) q (omega (arith, pow-suc 2 k)))
  where
    go : (d : ℕ) → s % 2 ≡ d → (0 < s / 2 → Least (s / 2) (count_trailing_zeros k (s / 2))) → Least s (under d (count_trailing_zeros k (s / 2)))
    go zero e ih =
        let f = ih (omega arith) in
        (hasb_next s (count_trailing_zeros k (s / 2)) ∙ f.0, λ b h. above b h f)
      where
        above : (b : ℕ) → has s b → Least (s / 2) (count_trailing_zeros k (s / 2)) → suc (count_trailing_zeros k (s / 2)) ≤ b
        above zero h f = omega (arith, eqb-true (s % 2) 1 (sym (hasb_first s) ∙ h))
        above (suc b) h f = suc-le-suc (f.1 b (sym (hasb_next s b) ∙ h))
    go (suc d) e ih = (hasb_first s ∙ eq-eqb (s % 2) 1 (omega arith), λ b h. zero-le)

pub greatest_from_bounds : (s j : ℕ) → 2 ^ j ≤ s → s < 2 ^ suc j → Greatest s j
greatest_from_bounds s j l u = (top s j l u, λ b h. omega (arith, has-below (suc j) s b u h))
  where
    top : (s j : ℕ) → 2 ^ j ≤ s → s < 2 ^ suc j → has s j
    top s zero l u = hasb_first s ∙ eq-eqb (s % 2) 1 (omega arith)
    top s (suc j) l u = hasb_next s j ∙ top (s / 2) j (omega (arith, pow-suc 2 j)) (omega (arith, pow-suc 2 (suc j)))

pub least_from_members : (s : ℕ) → 0 < s → (a : ℕ) × Least s a
least_from_members s p = (count_trailing_zeros s s, trailing_least s s p (lt_pow s))

pub greatest_from_members : (s : ℕ) → 0 < s → (a : ℕ) × Greatest s a
greatest_from_members s p = let t = leading_top s s p (lt_pow s) in (t.0, greatest_from_bounds s t.0 t.2 t.3)

pub least_unique : (s a b : ℕ) → Least s a → Least s b → a ≡ b
least_unique s a b p q = omega (arith, p.1 b q.0, q.1 a p.0)

pub greatest_unique : (s a b : ℕ) → Greatest s a → Greatest s b → a ≡ b
greatest_unique s a b p q = omega (arith, p.1 b q.0, q.1 a p.0)

-- a set with an atom is not 0, and one that is not 0 has an atom
pub pos_from_has : (s a : ℕ) → has s a → 0 < s
pos_from_has s a h = omega (arith, pow_le_has s a h, pow_pos a)

-- where `s` is not a subset of `t`, there is an atom that shows it; and so where they are not disjoint
pub outside : (s t : ℕ) → (bit_and s t ≡ s → ⊥) → (a : ℕ) × has s a × (hasb t a ≡ false)
outside s t n =
    let p : 0 < minus s t = positive in
    let w = least_from_members (minus s t) p in
    let e = and_parts (hasb s w.0) (not (hasb t w.0)) (sym (hasb-minus s t w.0) ∙ w.1.0) in
    (w.0, e.0, not-true (hasb t w.0) e.1)
  where
    positive : 0 < s - bit_and s t
    positive = omega (arith, and_le_l s t)

pub common : (s t : ℕ) → (bit_and s t ≡ 0 → ⊥) → (a : ℕ) × has s a × has t a
common s t n =
    let w = least_from_members (bit_and s t) positive in
    let e = and_parts (hasb s w.0) (hasb t w.0) (sym (hasb_and s t w.0) ∙ w.1.0) in (w.0, e.0, e.1)
  where
    positive : 0 < bit_and s t
    positive = omega arith

-- ---- how many atoms there are

or_half : (s t : ℕ) → bit_or s t / 2 ≡ bit_or (s / 2) (t / 2)
or_half s t = omega (arith, or_step s t)

or_odd : (s t : ℕ) → bit_or s t % 2 ≡ max (s % 2) (t % 2)
or_odd s t = omega (arith, or_step s t)

-- an atom that was not there makes one more
pub size-insert : (s a : ℕ) → hasb s a ≡ false → size (insert s a) ≡ size s + 1
size-insert s zero n =
    let h : bit_or s 1 / 2 ≡ s / 2 = or_half s 1 ∙ or_zero_r (s / 2) in
    let z : s % 2 ≡ 0 = grind (arith, nat_tests, hasb_first s) in
    omega (arith, ones_step (bit_or s 1), ones_step s, ap ones h, or_odd s 1)
size-insert s (suc a) n =
    let h : bit_or s (2 ^ suc a) / 2 ≡ bit_or (s / 2) (2 ^ a) = or_half s (2 ^ suc a) ∙ ap (bit_or (s / 2)) (omega (arith, pow-suc 2 a)) in
    let o : bit_or s (2 ^ suc a) % 2 ≡ s % 2 = omega (arith, or_odd s (2 ^ suc a), pow-suc 2 a) in
    omega (arith, ones_step (bit_or s (2 ^ suc a)), ones_step s, ap ones h, size-insert (s / 2) a (sym (hasb_next s a) ∙ n))

pub size_below : (k s : ℕ) → s < 2 ^ k → size s ≤ k
size_below k s h = ones-le k s h

pub size_zero : size 0 ≡ 0
unfolding ones
size_zero = refl

-- a subset has no more atoms
pub size_sub : (s t : ℕ) → s ⊆ t → size s ≤ size t
size_sub =
    bin_ind (λ s. (t : ℕ) → s ⊆ t → size s ≤ size t) (λ t h. omega (arith, size_zero))
    (λ s ih t h. omega (arith, ones_step s, ones_step t, ih (t / 2) (halves s t h), lowest s t h))
  where
    halves : (s t : ℕ) → s ⊆ t → (s / 2) ⊆ (t / 2)
    halves s t h a e = sym (hasb_next t a) ∙ h (suc a) (hasb_next s a ∙ e)

    lowest : (s t : ℕ) → s ⊆ t → s % 2 ≤ t % 2
    lowest s t h = grind (arith, nat_tests, hasb_first s, hasb_first t, h 0)

-- and fewer, where an atom is not in it
pub size_smaller : (s t a : ℕ) → s ⊆ t → has t a → hasb s a ≡ false → size s < size t
size_smaller s t a h k n = omega (arith, size-insert s a n, size_sub (insert s a) t (insert_sub s t a h k))

-- a subset with as many atoms is the whole
pub same_from_size : (s t : ℕ) → s ⊆ t → size t ≤ size s → s ≡ t
same_from_size s t h l = sub_antisym s t h (λ a e. go a e (cases_Bool (hasb s a)))
  where
    go : (a : ℕ) → has t a → (hasb s a ≡ true) ⊎ (hasb s a ≡ false) → has s a
    go a e (inl y) = y
    go a e (inr n) = absurd (lt_irrefl (size s) (omega (arith, size_smaller s t a h e n)))

-- ---- without the least atom

pub meet_one : (s a : ℕ) → has s a → bit_and s (2 ^ a) ≡ 2 ^ a
meet_one s a h = and_comm s (2 ^ a) ∙ meet_from_sub (2 ^ a) s one
  where
    one : 2 ^ a ⊆ s
    one b e = subst (λ x. has s x) (eqb-true a b (sym (hasb_pow a b) ∙ e)) h

-- an atom that is there is a power of two that can be taken from the number
pub remove_is : (s a : ℕ) → has s a → remove s a + 2 ^ a ≡ s
remove_is s a h = omega (arith, meet_one s a h, pow_le_has s a h)

drop_number : (a s : ℕ) → has s a → ((c : ℕ) → has s c → a ≤ c) → bit_and s (s - 1) + 2 ^ a ≡ s
drop_number zero s h m =
    let odd : s % 2 ≡ 1 = eqb-true (s % 2) 1 (sym (hasb_first s) ∙ h) in
    let same : (s - 1) / 2 ≡ s / 2 = omega arith in
    omega (arith, and_step s (s - 1), ap (bit_and (s / 2)) same, and_self (s / 2))
drop_number (suc a) s h m =
    let even : s % 2 ≡ 0 = lowest (cases_eq (s % 2) 1) in
    let p : 0 < s = pos_from_has s (suc a) h in
    let less : (s - 1) / 2 ≡ s / 2 - 1 = omega arith in
    let ih : bit_and (s / 2) (s / 2 - 1) + 2 ^ a ≡ s / 2 =
    drop_number a (s / 2) (sym (hasb_next s a) ∙ h) (λ c k. le_of_suc-le-suc (m (suc c) (hasb_next s c ∙ k))) in
    omega (arith, and_step s (s - 1), ap (bit_and (s / 2)) less, pow-suc 2 a)
  where
    lowest : (s % 2 ≡ 1) ⊎ (s % 2 ≡ 1 → ⊥) → s % 2 ≡ 0
    lowest (inl e) = absurd (not-suc-le-zero (m 0 (hasb_first s ∙ eq-eqb (s % 2) 1 e)))
    lowest (inr n) = omega arith

-- `s & (s - 1)` is `s` without its least atom
pub drop_least : (s a : ℕ) → Least s a → bit_and s (s - 1) ≡ remove s a
drop_least s a h = omega (arith, drop_number a s h.0 h.1, remove_is s a h.0)

pub remove_less : (s a : ℕ) → has s a → remove s a < s
remove_less s a h = omega (arith, remove_is s a h, pow_pos a)

-- without the least atom there are left exactly the greater ones
pub hasb-drop : (s a b : ℕ) → Least s a → hasb (remove s a) b ≡ (hasb s b && ltb a b)
hasb-drop s a b h = hasb-remove s a b ∙ go (cases_Bool (hasb s b))
  where
    go : (hasb s b ≡ true) ⊎ (hasb s b ≡ false) → (hasb s b && not (eqb a b)) ≡ (hasb s b && ltb a b)
    go (inl e) = ap (λ x. hasb s b && x) (let l = h.1 b e in grind (arith, nat_tests))
    go (inr e) = and_left (hasb s b) (not (eqb a b)) e ∙ sym (and_left (hasb s b) (ltb a b) e)

pub insert-remove : (s a : ℕ) → has s a → insert (remove s a) a ≡ s
insert-remove s a h = same_from_members (insert (remove s a) a) s (λ b. hasb-insert (remove s a) a b ∙ ap (λ x. x || eqb a b) (hasb-remove s a b) ∙ each b (cases_eq a b))
  where
    each : (b : ℕ) → (a ≡ b) ⊎ (a ≡ b → ⊥) → ((hasb s b && not (eqb a b)) || eqb a b) ≡ hasb s b
    each b (inl e) = or_right (hasb s b && not (eqb a b)) (eqb a b) (eq-eqb a b e) ∙ sym (subst (λ x. has s x) e h)
    each b (inr n) = let k = ne_eqb a b n in grind (arith, cases_Bool (hasb s b), k)

pub size-remove : (s a : ℕ) → has s a → size (remove s a) + 1 ≡ size s
size-remove s a h = sym (size-insert (remove s a) a gone) ∙ ap ones (insert-remove s a h)
  where
    gone : hasb (remove s a) a ≡ false
    gone = hasb-remove s a a ∙ and_right (hasb s a) (not (eqb a a)) (not_from_true (eqb a a) (eq-eqb a a refl))

-- ---- more on the operations

pub sub_union_l : (s t : ℕ) → s ⊆ union s t
sub_union_l s t a h = hasb_or s t a ∙ or_left (hasb s a) (hasb t a) h

pub sub_union_r : (s t : ℕ) → t ⊆ union s t
sub_union_r s t a h = hasb_or s t a ∙ or_right (hasb s a) (hasb t a) h

pub union_cases : (s t a : ℕ) → has (union s t) a → has s a ⊎ has t a
union_cases s t a h = or_cases (hasb s a) (hasb t a) (sym (hasb_or s t a) ∙ h)

pub union_sub : (s t u : ℕ) → s ⊆ u → t ⊆ u → union s t ⊆ u
union_sub s t u p q a h = go (union_cases s t a h)
  where
    go : has s a ⊎ has t a → has u a
    go (inl e) = p a e
    go (inr e) = q a e

pub meet_sub_l : (s t : ℕ) → meet s t ⊆ s
meet_sub_l s t a h = (and_parts (hasb s a) (hasb t a) (sym (hasb_and s t a) ∙ h)).0

pub meet_sub_r : (s t : ℕ) → meet s t ⊆ t
meet_sub_r s t a h = (and_parts (hasb s a) (hasb t a) (sym (hasb_and s t a) ∙ h)).1

pub has_meet : (s t a : ℕ) → has s a → has t a → has (meet s t) a
has_meet s t a h k = hasb_and s t a ∙ and_from (hasb s a) (hasb t a) h k

pub minus_sub : (s t : ℕ) → minus s t ⊆ s
minus_sub s t a h = (and_parts (hasb s a) (not (hasb t a)) (sym (hasb-minus s t a) ∙ h)).0

pub minus_lacks : (s t a : ℕ) → has (minus s t) a → hasb t a ≡ false
minus_lacks s t a h = not-true (hasb t a) (and_parts (hasb s a) (not (hasb t a)) (sym (hasb-minus s t a) ∙ h)).1

pub insert_same : (s a : ℕ) → has s a → insert s a ≡ s
insert_same s a h = sym (sub_antisym s (insert s a) (sub_insert s a) (insert_sub s s a (sub_refl s) h))

-- a proper subset leaves out an atom, and has fewer
pub proper_lacks : (s t : ℕ) → s ⊆ t → (s ≡ t → ⊥) → (a : ℕ) × has t a × (hasb s a ≡ false)
proper_lacks s t h n = outside t s (λ e. n (sub_antisym s t h (sub_from_meet t s e)))

pub size_proper : (s t : ℕ) → s ⊆ t → (s ≡ t → ⊥) → size s < size t
size_proper s t h n = let w = proper_lacks s t h n in size_smaller s t w.0 h w.1 w.2
