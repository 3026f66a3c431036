-- What the writing calls reply, and what the buffer holds then.
use Rattle.std.specs.Prelude.{◌≡◌, ℕ, ◌≤◌, List, ◌++◌, length, drop, Result, MatchResult}
use Rattle.writers.specs.Documents.{Document, text_of}
use Rattle.writers.specs.Refusals.{Due, IsLine, Wrong}
use Rattle.writers.specs.declared.refusals.WriteRefusal.{WriteRefusal}

-- nothing was wrong, and the text of `size` bytes stands at the front of the buffer
pub record Written (text : List ℕ) (doc : Document) (before : List ℕ) (size : ℕ) (after : List ℕ) : Type 0 where
  pub names : List (List ℕ)
  pub is_line : IsLine text names
  pub right : (f : WriteRefusal) → Wrong text doc (length before) f → ⊥
  pub size_is : size ≡ length (text_of names doc)
  pub room : size ≤ length before
  pub is : after ≡ text_of names doc ++ drop size before

-- the reply to a document under a names line, with the buffer before and after it: a refusal changes no byte
abbrev pub Reply : List ℕ → Document → List ℕ → Result ℕ WriteRefusal → List ℕ → Type 0
Reply text doc before r after = MatchResult r (λ size. Written text doc before size after) (λ f. Due text doc (length before) f × (after ≡ before))

-- two replies to the same input are equal, and so are the buffers after them
abbrev pub OneReply : Type 0
OneReply =
    (text : List ℕ) (doc : Document) (before : List ℕ) (r r' : Result ℕ WriteRefusal) (after after' : List ℕ)
    → Reply text doc before r after → Reply text doc before r' after' → (r ≡ r') × (after ≡ after')
