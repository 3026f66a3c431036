-- The invariant of a walk whose branch records, or rows, are three sets: the present branch of a row takes the least atom of
-- `still` and marks the other atoms of `still` absent.
use Rattle.std.specs.Prelude.{◌≡◌, ℕ, zero, suc, ◌≤◌, ◌&&◌, ◌||◌, List, [], ◌∷◌, nat_lt, slice_index_or}
use Rattle.models.specs.Language.{Language}
use Rattle.models.specs.Models.{In}
use Rattle.models.specs.Search.{Frame, from, Visiting, Returning}

-- a row: the atoms that its node has taken, those marked absent there, and the head atoms of the present and the later branches
pub record Row (S : Type 0) : Type 0 where
  pub taken : S
  pub denied : S
  pub still : S

-- the first `n` rows of an array, the last of them first
abbrev pub stacked : {X : Type 0} → List X → ℕ → X → List X
stacked rows zero x = []
stacked rows (suc n) x = slice_index_or rows n x ∷ stacked rows n x

-- the two lists are of one length, and `R` holds at each place
abbrev pub Paired : {X Y : Type 0} → (X → Y → Type 0) → List X → List Y → Type 0
Paired R [] [] = Unit {0}
Paired R [] (y ∷ ys) = ⊥
Paired R (x ∷ xs) [] = ⊥
Paired R (x ∷ xs) (y ∷ ys) = R x y × Paired R xs ys

module _ {S C : Type 0} (L : Language S C) where
  -- `a` is the least atom of `s`
  abbrev pub Least : S → ℕ → Type 0
  Least s a = In L s a × ((b : ℕ) → In L s b → a ≤ b)

  -- the row has the sets of the frame
  pub record Matches (r : Row S) (f : Frame S C) : Type 0 where
    pub taken : r.taken ≡ f.taken
    pub denied : (b : ℕ) → L.has r.denied b ≡ f.denied b
    pub still : (b : ℕ) → L.has r.still b ≡ from L f.clause f.now b

  -- the walk stands at the node (`taken`, `denied`), below the rows (the deepest first), and has handed out `out`
  pub record At (cs : List C) (out : List S) (rows : List (Row S)) (taken denied : S) : Type 0 where
    pub frames : List (Frame S C)
    pub matched : Paired Matches rows frames
    pub visiting : Visiting L cs out frames taken (L.has denied)

  -- the walk is between nodes: the present branch of the top row is done
  pub record Back (cs : List C) (out : List S) (rows : List (Row S)) : Type 0 where
    pub frames : List (Frame S C)
    pub matched : Paired Matches rows frames
    pub returning : Returning L cs out frames

  -- the node (`taken`, `denied`) is the present branch of the row, which takes `a`
  pub record Present (r : Row S) (a : ℕ) (taken denied : S) : Type 0 where
    pub least : Least r.still a
    pub takes : taken ≡ L.with r.taken a
    pub marks : (b : ℕ) → L.has denied b ≡ (L.has r.denied b || (L.has r.still b && nat_lt a b))

  -- the node below the rows: the root, or the present branch of the top row
  abbrev pub Here : List (Row S) → S → S → Type 0
  Here [] taken denied = (taken ≡ L.empty) × (denied ≡ L.empty)
  Here (r ∷ rows) taken denied = (a : ℕ) × Present r a taken denied

  -- the invariant over the rows alone: the walk stands at the node below them
  pub record Standing (cs : List C) (out : List S) (rows : List (Row S)) : Type 0 where
    pub taken : S
    pub denied : S
    pub here : Here rows taken denied
    pub at : At cs out rows taken denied
