-- The language of clauses whose sets are numbers: the atom `a` is in `s` where the binary digit `a` of `s` is 1. Of any width.
use Rattle.std.specs.Prelude.{ℕ, zero, suc, ◌/◌, true, false, ◌==◌}
use Rattle.atoms.specs.Sets.{hasb, insert}
use Rattle.models.specs.Language.{Language}

-- how many binary digits `s` has, counted in at most `n` steps
abbrev pub digits_of : ℕ → ℕ → ℕ
digits_of zero s = 0
digits_of (suc n) s = elim (s == 0) [ true ↦ 0 | false ↦ suc (digits_of n (s / 2)) ]

-- the clauses of the type `C`, whose bodies and heads are the numbers that `body` and `head` give
abbrev pub numbers : {C : Type 0} → (C → ℕ) → (C → ℕ) → Language ℕ C
numbers body head =
    record { has = hasb; bound = λ s. digits_of s s; empty = 0; with = insert; body = body; head = head }
