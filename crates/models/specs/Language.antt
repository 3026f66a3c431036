-- What the theory asks of a representation of sets of atoms and of clauses.
-- An atom is a number. `S` is a type of finite sets of atoms, `C` a type of clauses. Nothing here knows how wide a set is.
use Rattle.std.specs.Prelude.{◌≡◌, ℕ, ◌<◌, Bool, true, false, ◌||◌, ◌==◌}

-- the operations, which the definitions name
pub record Language (S C : Type 0) : Type 0 where
  -- is the atom in the set?
  pub has : S → ℕ → Bool
  -- a number above every atom of the set
  pub bound : S → ℕ
  -- the set with no atom
  pub empty : S
  -- the set with one more atom
  pub with : S → ℕ → S
  -- a clause says: if all atoms of the body hold, then some atom of the head does
  pub body : C → S
  pub head : C → S

-- the laws of the operations, which the proofs take
pub record Laws {S C : Type 0} (L : Language S C) : Type 0 where
  -- each atom of a set is below its bound
  pub has_bound : (s : S) (a : ℕ) → L.has s a ≡ true → a < L.bound s
  -- sets with the same atoms are one set
  pub ext : (s t : S) → ((a : ℕ) → L.has s a ≡ L.has t a) → s ≡ t
  -- the empty set has no atom
  pub has_empty : (a : ℕ) → L.has L.empty a ≡ false
  -- a set with one more atom has its old atoms and that one
  pub has_with : (s : S) (a b : ℕ) → L.has (L.with s a) b ≡ (L.has s b || a == b)

-- the language of clauses that are read as those of another one
abbrev pub reading : {S C D : Type 0} → (C → D) → Language S D → Language S C
reading f L =
    record {
      has = L.has;
      bound = L.bound;
      empty = L.empty;
      with = L.with;
      body = λ c. L.body (f c);
      head = λ c. L.head (f c);
    }
