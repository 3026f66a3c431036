-- The first explanations of a list of clauses.
use Rattle.std.specs.Prelude.{◌≡◌, ℕ, Bool, List, length, take, nat_le}
use Rattle.models.specs.Models.{Explanations}
use Rattle.clauses.specs.Clauses.{language}
use Rattle.clauses.specs.declared.clauses.Clause.{Clause}

-- the sets `out` are the first explanations of the clauses cs, up to so many; `complete` tells whether there are no more than these
pub record Firsts (cs : List Clause) (places : ℕ) (complete : Bool) (out : List ℕ) : Type 0 where
  pub ms : List ℕ
  pub explanations : Explanations language cs ms
  pub out_is : out ≡ take places ms
  pub complete_is : complete ≡ nat_le (length ms) places
