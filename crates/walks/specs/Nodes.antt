-- Where a branch leads, and what is found there.
use Rattle.std.specs.Prelude.{◌≡◌, ℕ, ◌<◌, true, false, List, Some, None, Option}
use Rattle.atoms.specs.Atoms.{bits}
use Rattle.atoms.specs.Sets.{hasb, Least}
use Rattle.atoms.specs.declared.AtomSet.{AtomSet}
use Rattle.models.specs.Models.{first_broken}
use Rattle.models.specs.Rows.{Present}
use Rattle.clauses.specs.Clauses.{language}
use Rattle.clauses.specs.declared.clauses.Clause.{Clause}
use Rattle.shelves.specs.Shelves.{Holds}
use Rattle.walks.specs.Branches.{row_of}
use Rattle.walks.specs.declared.branches.Branch.{Branch}
use Rattle.walks.specs.declared.branches.Node.{Node}
use Rattle.walks.specs.declared.branches.Visit.{Visit}
use Rattle.walks.specs.declared.branches.Visit.TheVariants.{Dead, Model, Split}

-- the node of the present branch, which takes the least atom that is left; there is none where the record denies that atom
abbrev pub Leads : Branch → Option Node → Type 0
Leads b None = (a : ℕ) → Least (bits b.left) a → hasb (bits b.node.denied) a ≡ true
Leads b (Some n) =
    (a : ℕ) → Least (bits b.left) a →
    Present language (row_of b) a (bits n.taken) (bits n.denied) × (hasb (bits b.node.denied) a ≡ false)

-- a dead end: an atom taken is denied, or a set handed out lies within what is taken, or a clause is broken that has no head
pub data Ended (cs : List Clause) (ts : List AtomSet) : Option Node → Type 0 where
  clashes : Ended cs ts None
  covered : {n : Node} → Holds ts n.taken → Ended cs ts (Some n)
  headless : {n : Node} (c : Clause) → first_broken language cs (bits n.taken) ≡ Some c → bits c.head ≡ 0 → Ended cs ts (Some n)

-- a model, with no set handed out within it
pub record Found (cs : List Clause) (ts : List AtomSet) (n : Node) (s : AtomSet) : Type 0 where
  pub set : s ≡ n.taken
  pub fresh : Holds ts n.taken → ⊥
  pub model : first_broken language cs (bits n.taken) ≡ None

-- a clause is broken that has a head: the record of the node, with the whole head left
pub record Splits (cs : List Clause) (n : Node) (b : Branch) : Type 0 where
  pub clause : Clause
  pub first : first_broken language cs (bits n.taken) ≡ Some clause
  pub some : 0 < bits clause.head
  pub begun : b ≡ record { node = n; left = clause.head }

-- what is found at a node, with the clauses cs, where the sets ts are handed out
abbrev pub Visited : List Clause → List AtomSet → Option Node → Visit → Type 0
Visited cs ts o Dead = Ended cs ts o
Visited cs ts (Some n) (Model s) = Found cs ts n s
Visited cs ts (Some n) (Split b) = Splits cs n b
Visited cs ts None (Model s) = ⊥
Visited cs ts None (Split b) = ⊥
