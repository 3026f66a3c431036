-- The words of a search by complement splitting: nodes, the models in the region of a node, the branches that lead to it, what
-- they leave for later, and the invariant at a node and between nodes.
use Rattle.std.specs.Prelude.{◌≡◌, ℕ, suc, ◌≤◌, Bool, true, false, ◌&&◌, ◌||◌, ◌⊎◌, List, [], ◌∷◌, Some, nat_le}
use mathlib.Core.List.{Memᴰ}
use Rattle.models.specs.Language.{Language}
use Rattle.models.specs.Models.{Pairwise, In, Within, Model, Minimal, first_broken, Precedes}

-- the marks of the root: no atom is marked absent
abbrev pub unmarked : ℕ → Bool
unmarked b = false

-- a frame: a node (the atoms taken and those marked absent), the first clause that the atoms taken break, and the head atom
-- that the present branch takes
pub record Frame (S C : Type 0) : Type 0 where
  pub taken : S
  pub denied : ℕ → Bool
  pub clause : C
  pub now : ℕ

module _ {S C : Type 0} (L : Language S C) where
  -- the test for the atoms of the head of `c` from `k` on
  abbrev pub from : C → ℕ → ℕ → Bool
  from c k b = L.has (L.head c) b && nat_le k b

  -- the marks of the branch that takes the head atom `h` of `c`: the greater head atoms are absent too
  abbrev pub marked : (ℕ → Bool) → C → ℕ → ℕ → Bool
  marked denied c h b = denied b || from c (suc h) b

  -- no atom of the set is marked absent
  abbrev pub Clear : S → (ℕ → Bool) → Type 0
  Clear m denied = (b : ℕ) → denied b ≡ true → In L m b → ⊥

  -- `m` is in the region of a node: a model that includes what is taken and avoids what is marked absent
  pub record Region (cs : List C) (taken : S) (denied : ℕ → Bool) (m : S) : Type 0 where
    pub model : Model L cs m
    pub holds : Within L taken m
    pub clear : Clear m denied

  -- `m` is in the region of a node and of its branches from `k` on: it has an atom from `k` on of the head of `c`
  pub record Pending (cs : List C) (taken : S) (denied : ℕ → Bool) (c : C) (k : ℕ) (m : S) : Type 0 where
    pub region : Region cs taken denied m
    pub atom : ℕ
    pub of_head : In L (L.head c) atom
    pub late : k ≤ atom
    pub of_set : In L m atom

  -- the node (`taken`, `denied`) is the present branch of the frame `f`
  pub record Branch (cs : List C) (f : Frame S C) (taken : S) (denied : ℕ → Bool) : Type 0 where
    pub first : first_broken L cs f.taken ≡ Some f.clause
    pub of_head : In L (L.head f.clause) f.now
    pub clear : Clear f.taken f.denied
    pub takes : taken ≡ L.with f.taken f.now
    pub marks : (b : ℕ) → denied b ≡ marked f.denied f.clause f.now b

  -- the frames, the deepest first, lead from the root to the node (`taken`, `denied`)
  abbrev pub Leads : List C → List (Frame S C) → S → (ℕ → Bool) → Type 0
  Leads cs [] taken denied = (taken ≡ L.empty) × ((b : ℕ) → denied b ≡ false)
  Leads cs (f ∷ fs) taken denied = Branch cs f taken denied × Leads cs fs f.taken f.denied

  -- `m` is in the region of a branch that the frames have left for later
  abbrev pub Left : List C → List (Frame S C) → S → Type 0
  Left cs [] m = ⊥
  Left cs (f ∷ fs) m = Pending cs f.taken f.denied f.clause (suc f.now) m ⊎ Left cs fs m

  -- `out` is a front of the list of explanations: minimal models in list order, and every other minimal model comes after them
  pub record Front (cs : List C) (out : List S) : Type 0 where
    pub minimal : (m : S) → Memᴰ m out → Minimal L cs m
    pub ordered : Pairwise (Precedes L cs) out
    pub after : (n : S) → Minimal L cs n → Memᴰ n out ⊎ ((m : S) → Memᴰ m out → Precedes L cs m n)

  -- some set of `out` is within `t`
  abbrev pub Covered : List S → S → Type 0
  Covered out t = (x : S) × Memᴰ x out × Within L x t

  -- The invariant at a node: the frames lead to it, a front of the list is handed out, and every minimal model includes a set
  -- handed out, or is in the region of the node, or is left for later. It speaks of minimal models alone, so that a node
  -- without one may be left.
  pub record Visiting (cs : List C) (out : List S) (fs : List (Frame S C)) (taken : S) (denied : ℕ → Bool) : Type 0 where
    pub leads : Leads cs fs taken denied
    pub front : Front cs out
    pub complete : (t : S) → Minimal L cs t → Covered out t ⊎ (Region cs taken denied t ⊎ Left cs fs t)

  -- the frames lead to the present branch of the top frame
  abbrev pub Stacked : List C → List (Frame S C) → Type 0
  Stacked cs [] = Unit {0}
  Stacked cs (f ∷ fs) =
      Branch cs f (L.with f.taken f.now) (marked f.denied f.clause f.now) × Leads cs fs f.taken f.denied

  -- the invariant between nodes: the present branch of the top frame is done
  pub record Returning (cs : List C) (out : List S) (fs : List (Frame S C)) : Type 0 where
    pub stacked : Stacked cs fs
    pub front : Front cs out
    pub complete : (t : S) → Minimal L cs t → Covered out t ⊎ Left cs fs t
