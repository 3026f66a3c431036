-- Why splitting is complete and in order: the minimal models of a node and of its children.
use Rattle.std.specs.Prelude.{◌≡◌, ℕ, ◌<◌, Bool, ◌↔◌, List, Some}
use Rattle.clauses.specs.Clauses.{language}
use Rattle.clauses.specs.declared.clauses.Clause.{Clause}
use Rattle.models.specs.Language.{Language}
use Rattle.models.specs.Models.{In, Within, Model, Minimal, first_broken, Precedes}
use Rattle.models.specs.Search.{unmarked, marked, Clear}

module _ {S C : Type 0} (L : Language S C) where
  -- A node has atoms taken and atoms marked absent. The root has neither. Where the atoms taken break a clause, and `c` is the
  -- first such, the node has a child for each atom `h` of the head of `c`: it takes `h`, and marks the greater atoms of that
  -- head absent.
  pub data Node (cs : List C) : S → (ℕ → Bool) → Type 0 where
    root : Node cs L.empty unmarked
    child :
        {taken : S} {absent : ℕ → Bool} {c : C} {h : ℕ} → Node cs taken absent → first_broken L cs taken ≡ Some c
        → In L (L.head c) h → Node cs (L.with taken h) (marked L absent c h)

  -- `m` is a minimal model of the node: it includes the atoms taken and has no atom marked absent
  pub record MinimalAt (cs : List C) (taken : S) (absent : ℕ → Bool) (m : S) : Type 0 where
    pub minimal : Minimal L cs m
    pub includes : Within L taken m
    pub avoids : Clear L m absent

  -- A node whose atoms break `c` first: its minimal models are those of its children, those of one child are those of no other,
  -- and those of the child of a smaller atom come first. Each child takes an atom that was not taken.
  pub record Split (cs : List C) (taken : S) (absent : ℕ → Bool) (c : C) : Type 0 where
    pub covers :
        (m : S) → MinimalAt cs taken absent m
        → (h : ℕ) × In L (L.head c) h × MinimalAt cs (L.with taken h) (marked L absent c h) m
    pub inside : (h : ℕ) (m : S) → MinimalAt cs (L.with taken h) (marked L absent c h) m → MinimalAt cs taken absent m
    pub apart :
        (h k : ℕ) (m : S) → In L (L.head c) h → In L (L.head c) k → MinimalAt cs (L.with taken h) (marked L absent c h) m
        → MinimalAt cs (L.with taken k) (marked L absent c k) m → h ≡ k
    pub ordered :
        (h k : ℕ) (m n : S) → In L (L.head c) h → In L (L.head c) k → h < k
        → MinimalAt cs (L.with taken h) (marked L absent c h) m → MinimalAt cs (L.with taken k) (marked L absent c k) n
        → Precedes L cs m n
    pub new : (h : ℕ) → In L (L.head c) h → ¬ In L taken h

  -- A node whose atoms are a model: it has no minimal model but that. And that is one of its minimal models exactly when it has
  -- no atom marked absent and includes no minimal model that comes before it.
  pub record Leaf (cs : List C) (taken : S) (absent : ℕ → Bool) : Type 0 where
    pub only : (m : S) → MinimalAt cs taken absent m → m ≡ taken
    pub when :
        MinimalAt cs taken absent taken
        ↔ (Clear L taken absent × ((m : S) → Minimal L cs m → Precedes L cs m taken → ¬ Within L m taken))

-- the root has all minimal models, a node whose atoms break a clause splits, and a node whose atoms are a model is a leaf
pub record Splits (cs : List Clause) : Type 0 where
  pub all : (m : ℕ) → Minimal language cs m → MinimalAt language cs 0 unmarked m
  pub split :
      (taken : ℕ) (absent : ℕ → Bool) (c : Clause) → Node language cs taken absent → first_broken language cs taken ≡ Some c
      → Split language cs taken absent c
  pub leaf :
      (taken : ℕ) (absent : ℕ → Bool) → Node language cs taken absent → Model language cs taken
      → Leaf language cs taken absent

-- and so for every list of clauses
abbrev pub Splitting : Type 0
Splitting = (cs : List Clause) → Splits cs
