-- What a program does between a reader and a writer.
use Rattle.std.specs.Prelude.{◌≡◌, ℕ, List, ◌++◌, Some, Option, IfSome}

-- a text was read, all that the reader was to give, and what may be printed for it was appended to what the writer held
pub record Answered (Prints : List ℕ → List ℕ → Type 0) (given : Option (List ℕ)) (text : List ℕ) (before after : Option (List ℕ)) : Type 0 where
  pub printed : List ℕ
  pub right : Prints text printed
  pub whole : IfSome given (λ xs. text ≡ xs)
  pub written : IfSome before (λ held. after ≡ Some (held ++ printed))
