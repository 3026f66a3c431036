-- What a bounded list means, and what pushes leave behind.
use Rattle.std.specs.Prelude.{◌≡◌, ℕ, ◌<◌, min, List, [], ◌∷◌, ◌++◌, length, take, drop, slice_set}
use Rattle.lists.specs.Limit.{limit}
use Rattle.lists.specs.declared.BoundedList.{BoundedList}

-- the memory that is lent to the list, whole
abbrev pub cells : {T : Type 0} → BoundedList T → List T
cells l = l.memory.now

-- the name of the loan: two lists with one name stand in the same memory
abbrev pub lender : {T : Type 0} → BoundedList T → ℕ
lender l = l.memory.ghost_name

-- the list: the first elements of its memory
abbrev pub items : {T : Type 0} → BoundedList T → List T
items l = take l.len (cells l)

-- the number of its places: as many as its memory has, and no more than the limit
abbrev pub room : {T : Type 0} → BoundedList T → ℕ
room l = min (length (cells l)) limit

-- there was a place: `x` is the new last element, and of the memory only the place of `x` is written
pub record Pushed {T : Type 0} (before : BoundedList T) (x : T) (after : BoundedList T) : Type 0 where
  pub had_place : length (items before) < room before
  pub at_end : items after ≡ items before ++ x ∷ []
  pub written : cells after ≡ slice_set (cells before) (length (items before)) x

-- the list filled all places, and nothing changed
pub record Refused {T : Type 0} (before after : BoundedList T) : Type 0 where
  pub was_full : length (items before) ≡ room before
  pub unchanged : after ≡ before

-- the list is `xs`, and past it the memory is as `before`: what many pushes leave behind
pub record Filled {T : Type 0} (before xs : List T) (l : BoundedList T) : Type 0 where
  pub holds : items l ≡ xs
  pub memory : cells l ≡ xs ++ drop (length xs) before
