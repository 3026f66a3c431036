-- The list of explanations by computing it: depth first, splitting at the head of the first clause broken. It is the list that
-- `Explanations` of Models speaks of (proofs/Lister), so that a list can be found by computing.
use Rattle.std.specs.Prelude.{ℕ, zero, suc, max, Bool, true, false, not, ◌&&◌, ◌||◌, List, [], ◌∷◌, ◌++◌, Some, None, Option}
use Rattle.models.specs.Language.{Language}
use Rattle.models.specs.Models.{sticks_out, first_broken}
use Rattle.models.specs.Search.{unmarked, marked}

module _ {S C : Type 0} (L : Language S C) where
  -- is some set of the list within `t`?
  abbrev pub holds_within : List S → S → Bool
  holds_within [] t = false
  holds_within (x ∷ xs) t = not (sticks_out L x t) || holds_within xs t

  -- a number above every atom of every head
  abbrev pub width : List C → ℕ
  width [] = 0
  width (c ∷ cs) = max (L.bound (L.head c)) (width cs)

  -- a walk of a node: from the atoms taken, the marks and the sets listed before, the sets listed after
  abbrev pub Way : Type 0
  Way = S → (ℕ → Bool) → List S → List S

  -- the branch of the head atom `k`, where the test passed
  abbrev pub try : Way → S → (ℕ → Bool) → C → ℕ → List S → Bool → List S
  try way taken denied c k out true = way (L.with taken k) (marked L denied c k) out
  try way taken denied c k out false = out

  -- the branches of those of the `j` atoms from `k` on that are in the head and not marked absent
  abbrev pub branches : Way → S → (ℕ → Bool) → C → ℕ → ℕ → List S → List S
  branches way taken denied c zero k out = out
  branches way taken denied c (suc j) k out =
      branches way taken denied c j (suc k) (try way taken denied c k out (L.has (L.head c) k && not (denied k)))

  -- a node: nothing where a set listed is within it, the node itself where it is a model, else its branches
  abbrev pub node : Way → S → (ℕ → Bool) → List S → Bool → Option C → List S
  node way taken denied out true o = out
  node way taken denied out false None = out ++ (taken ∷ [])
  node way taken denied out false (Some c) = branches way taken denied c (L.bound (L.head c)) 0 out

  -- a node and at most `depth` atoms more
  abbrev pub visit : List C → ℕ → Way
  visit cs zero taken denied out = out
  visit cs (suc depth) taken denied out = node (visit cs depth) taken denied out (holds_within out taken) (first_broken L cs taken)

  -- the list of explanations
  abbrev pub explanations : List C → List S
  explanations cs = visit cs (suc (width cs)) L.empty unmarked []
