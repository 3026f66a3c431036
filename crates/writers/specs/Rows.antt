-- The rows that are to be written, as they are handed out.
use Rattle.std.specs.Prelude.{List, length, Option}
use Rattle.std.specs.Iterator.{AlwaysYields, Count, UpTo}

-- an iterator may be asked, hands out xs, and then ends
pub record Gives {S A : Type 0} (can : S → Type 0) (steps : S → Option A → S → Type 0) (left : S → Count) (s : S) (xs : List A) : Type 0 where
  pub asked : can s
  pub yields : AlwaysYields steps (λ x. x) s xs
  pub ends : UpTo (left s) (length xs)
