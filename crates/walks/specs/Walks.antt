-- What a walk says of the sets that are handed out, and what its steps do to its records.
use Rattle.std.specs.Prelude.{◌≡◌, ℕ, ◌<◌, List, [], ◌∷◌, ◌++◌, map, reverse, Some, None, Option, MatchOption}
use Rattle.atoms.specs.Atoms.{bits}
use Rattle.atoms.specs.Sets.{Dropped}
use Rattle.atoms.specs.declared.AtomSet.{AtomSet}
use Rattle.models.specs.Models.{Explanations, Model}
use Rattle.models.specs.Rows.{Standing}
use Rattle.clauses.specs.Clauses.{language}
use Rattle.clauses.specs.declared.clauses.Clause.{Clause}
use Rattle.shelves.specs.Shelves.{Holds}
use Rattle.walks.specs.Branches.{narrowed, row_of}
use Rattle.walks.specs.Nodes.{Leads, Visited}
use Rattle.walks.specs.declared.Walk.{Walk}
use Rattle.walks.specs.declared.paths.Path.{Path}
use Rattle.walks.specs.declared.branches.Branch.{Branch}
use Rattle.walks.specs.declared.branches.Node.{Node}
use Rattle.walks.specs.declared.branches.Visit.{Visit}

-- the records of a path, the deepest first
abbrev pub stack : Path → List Branch
stack p = reverse p.branches.items

-- with the clauses cs, the sets `out` are handed out, and the walk stands where the next is to be found; once it is done,
-- they are all
pub record Sound (cs : List Clause) (w : Walk) (out : List ℕ) : Type 0 where
  pub goes_on : (p : Path) → w.path ≡ Some p → Standing language cs out (map row_of (stack p))
  pub ended : w.path ≡ None → Explanations language cs out

-- where a sound walk comes to: at a set, and it is sound with that set handed out and without; or at the end, and all are
-- handed out
abbrev pub Reached : List Clause → List ℕ → Walk → Option AtomSet → Type 0
Reached cs out w (Some s) = Sound cs w out × Sound cs w (out ++ (bits s ∷ []))
Reached cs out w None = Sound cs w out × Explanations language cs out

-- a set that any walk comes to is a model, with no set handed out within it
abbrev pub Fresh : List Clause → List AtomSet → Option AtomSet → Type 0
Fresh cs ts (Some s) = Model language cs (bits s) × (Holds ts s → ⊥)
Fresh cs ts None = Unit {0}

-- the node below the records: the root, or where the present branch of the top record leads
abbrev pub Here : List Branch → Option Node → Type 0
Here [] o = MatchOption o ⊥ (λ n. (bits n.taken ≡ 0) × (bits n.denied ≡ 0))
Here (b ∷ below) o = Leads b o

-- what is found below the records, with the clauses cs, where the sets ts are handed out
abbrev pub Visits : List Clause → List AtomSet → List Branch → Visit → Type 0
Visits cs ts st v = (o : Option Node) × Here st o × Visited cs ts o v

-- the next branch: the top record drops the atom that it takes, and is dropped itself where no other is left
pub data Advanced : List Branch → List Branch → Type 0 where
  over : Advanced [] []
  next :
      {b : Branch} {below : List Branch} (x : AtomSet) → Dropped (bits b.left) (bits x) → 0 < bits x
      → Advanced (b ∷ below) (narrowed b x ∷ below)
  pop :
      {b : Branch} {below after : List Branch} (x : AtomSet) → Dropped (bits b.left) (bits x) → bits x ≡ 0
      → Advanced below after → Advanced (b ∷ below) after
