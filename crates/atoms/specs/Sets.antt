-- Sets of atoms as natural numbers: the atom `a` is in the set `s` where the binary digit `a` of `s` is set.
-- Nothing here depends on how many digits a program's set has.
use Rattle.std.specs.Prelude.{◌≡◌, ℕ, ◌+◌, ◌-◌, ◌/◌, ◌%◌, ◌^◌, ◌<◌, ◌≤◌, Bool, true, false, ◌&&◌, ◌==◌, bit_and, bit_or, count_ones, nat_lt}

infix 40 ◌⊆◌
-- the digit of `s` at the place `a`: 0 or 1
unfoldable pub digit : ℕ → ℕ → ℕ
digit s a = (s / 2 ^ a) % 2

-- is the atom `a` in the set `s`?
unfoldable pub hasb : ℕ → ℕ → Bool
hasb s a = digit s a == 1

-- the atom `a` is in the set `s`
abbrev pub has : ℕ → ℕ → Type 0
has s a = hasb s a ≡ true

-- each atom of `s` is in `t`
abbrev pub ◌⊆◌ : ℕ → ℕ → Type 0
s ⊆ t = (a : ℕ) → has s a → has t a

-- no atom is in both
abbrev pub Disjoint : ℕ → ℕ → Type 0
Disjoint s t = (a : ℕ) → has s a → has t a → ⊥

-- no atom is in `s`
abbrev pub Empty : ℕ → Type 0
Empty s = (a : ℕ) → hasb s a ≡ false

-- `a` is the least atom of `s`
abbrev pub Least : ℕ → ℕ → Type 0
Least s a = has s a × ((b : ℕ) → has s b → a ≤ b)

-- `a` is the greatest atom of `s`
abbrev pub Greatest : ℕ → ℕ → Type 0
Greatest s a = has s a × ((b : ℕ) → has s b → b ≤ a)

-- what is in either, what is in both, and what is in `s` and not in `t`
abbrev pub union : ℕ → ℕ → ℕ
union s t = bit_or s t

abbrev pub meet : ℕ → ℕ → ℕ
meet s t = bit_and s t

abbrev pub minus : ℕ → ℕ → ℕ
minus s t = s - bit_and s t

-- `s` with the atom `a`, and `s` without it
abbrev pub insert : ℕ → ℕ → ℕ
insert s a = bit_or s (2 ^ a)

abbrev pub remove : ℕ → ℕ → ℕ
remove s a = minus s (2 ^ a)

-- how many atoms are in `s`
abbrev pub size : ℕ → ℕ
size s = count_ones s

-- `r` is `s` without its least atom: there are left exactly the greater ones. Where `s` is empty, so is `r`
pub record Dropped (s r : ℕ) : Type 0 where
  pub none : s ≡ 0 → r ≡ 0
  pub value : (a : ℕ) → Least s a → r ≡ remove s a
  pub members : (a b : ℕ) → Least s a → hasb r b ≡ (hasb s b && nat_lt a b)
  pub less : 0 < s → r < s
  pub count : 0 < s → size r + 1 ≡ size s
