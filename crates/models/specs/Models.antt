-- The words of the subject: when a set breaks a clause, models, minimal models, their list order, and the list of explanations.
-- Nothing here speaks of a search.
use Rattle.std.specs.Prelude.{◌≡◌, ℕ, zero, suc, ◌<◌, ◌≤◌, Bool, true, false, cond, not, ◌&&◌, ◌||◌, List, [], ◌∷◌, ◌++◌, Some, None, Option}
use mathlib.Core.List.{Memᴰ}
use Rattle.models.specs.Language.{Language}

-- each element of a list stands in the relation `R` to each later one
abbrev pub Pairwise : {X : Type 0} → (X → X → Type 0) → List X → Type 0
Pairwise R [] = Unit {0}
Pairwise {X} R (x ∷ xs) = ((y : X) → Memᴰ y xs → R x y) × Pairwise R xs

-- does the test pass at some number below `n`?
abbrev pub some_below : ℕ → (ℕ → Bool) → Bool
some_below zero test = false
some_below (suc n) test = test n || some_below n test

module _ {S C : Type 0} (L : Language S C) where
  -- the atom `a` is in the set `s`
  abbrev pub In : S → ℕ → Type 0
  In s a = L.has s a ≡ true

  -- each atom of `s` is in `t`
  abbrev pub Within : S → S → Type 0
  Within s t = (a : ℕ) → In s a → In t a

  -- no atom is in both `s` and `t`
  abbrev pub Apart : S → S → Type 0
  Apart s t = (a : ℕ) → In s a → In t a → ⊥

  -- the set `s` breaks the clause `c`: it includes the whole body and has no atom of the head
  pub record Breaks (s : S) (c : C) : Type 0 where
    pub whole : Within (L.body c) s
    pub none : Apart (L.head c) s

  -- a model of a list of clauses breaks none of them
  abbrev pub Model : List C → S → Type 0
  Model cs s = (c : C) → Memᴰ c cs → ¬ Breaks s c

  -- a minimal model is a model that includes no other model
  pub record Minimal (cs : List C) (s : S) : Type 0 where
    pub model : Model cs s
    pub least : (t : S) → Model cs t → Within t s → t ≡ s

  -- the test whether some atom of `s` is outside `t`
  abbrev pub sticks_out : S → S → Bool
  sticks_out s t = some_below (L.bound s) (λ a. L.has s a && not (L.has t a))

  -- the test whether some atom is in both `s` and `t`
  abbrev pub meets : S → S → Bool
  meets s t = some_below (L.bound s) (λ a. L.has s a && L.has t a)

  -- the test whether the set `s` breaks the clause `c`: it answers true exactly where `Breaks` holds
  unfoldable pub breaks : S → C → Bool
  breaks s c = not (sticks_out (L.body c) s) && not (meets (L.head c) s)

  -- the first clause of a list that the set breaks; none exactly where the set is a model
  abbrev pub first_broken : List C → S → Option C
  first_broken [] s = None
  first_broken (c ∷ cs) s = cond (breaks s c) (Some c) (first_broken cs s)

  -- the same in words: `s` breaks `c`, and no clause that stands before it
  pub record First (cs : List C) (s : S) (c : C) : Type 0 where
    pub front : List C
    pub back : List C
    pub place : cs ≡ front ++ (c ∷ back)
    pub before : Model front s
    pub broken : Breaks s c

  -- `a` is the greatest atom of the head `h` that is in `m`
  pub record Greatest (h m : S) (a : ℕ) : Type 0 where
    pub of_head : In h a
    pub of_set : In m a
    pub top : (b : ℕ) → In h b → In m b → b ≤ a

  -- The list order, from a common set on. Take the first clause that the common set breaks, and of its head the greatest atom
  -- that is in `m` and the greatest that is in `n`. If they differ, `m` precedes `n` where its atom is the smaller one; if they
  -- are one atom, where `m` precedes `n` from the common set with that atom on.
  pub data PrecedesFrom (cs : List C) (m n : S) : S → Type 0 where
    differ :
        {common : S} {c : C} {a b : ℕ} → first_broken cs common ≡ Some c → Greatest (L.head c) m a → Greatest (L.head c) n b
        → a < b → PrecedesFrom cs m n common
    agree :
        {common : S} {c : C} {a : ℕ} → first_broken cs common ≡ Some c → Greatest (L.head c) m a → Greatest (L.head c) n a
        → PrecedesFrom cs m n (L.with common a) → PrecedesFrom cs m n common

  -- the list order: from the empty set on
  abbrev pub Precedes : List C → S → S → Type 0
  Precedes cs m n = PrecedesFrom cs m n L.empty

  -- the list of explanations has exactly the minimal models, in list order
  pub record Explanations (cs : List C) (ms : List S) : Type 0 where
    pub only : (m : S) → Memᴰ m ms → Minimal cs m
    pub all : (m : S) → Minimal cs m → Memᴰ m ms
    pub ordered : Pairwise (Precedes cs) ms
