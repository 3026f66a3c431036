-- The first broken clause of two lists, one after the other.
use Rattle.std.proofs.Common.{◌≡◌, ℕ, List, ◌∷◌, ◌++◌, Some, None, Option, refl, sym, ap, ◌∙◌}
use Rattle.std.proofs.lemmas.List.{append_assoc}
use Rattle.clauses.specs.Clauses.{language}
use Rattle.clauses.specs.declared.clauses.Clause.{Clause}
use Rattle.clauses.proofs.Decided.{laws}
use Rattle.models.specs.Models.{first_broken}
use Rattle.models.proofs.Broken.{first_after, first_from, first_some, none_model}

module _ (xs ys : List Clause) (s : ℕ) where
  pub front_some : (c : Clause) → first_broken language xs s ≡ Some c → first_broken language (xs ++ ys) s ≡ Some c
  front_some c e =
      let r = first_some laws xs s c e in
      first_from laws (xs ++ ys) s c
      (record {
        front = r.front;
        back = r.back ++ ys;
        place = ap (λ zs. zs ++ ys) r.place ∙ append_assoc r.front (c ∷ r.back) ys;
        before = r.before;
        broken = r.broken;
      })

  pub front_none : first_broken language xs s ≡ None → first_broken language (xs ++ ys) s ≡ first_broken language ys s
  front_none e = first_after laws xs ys s (none_model laws xs s e)

  -- the answer of the first list, or else that of the second
  pub front_or :
      (o r : Option Clause) → o ≡ first_broken language xs s → (o ≡ None → r ≡ first_broken language ys s) → ((c : Clause) → o ≡ Some c → r ≡ Some c)
      → r ≡ first_broken language (xs ++ ys) s
  front_or None r e none some = none refl ∙ sym (front_none (sym e))
  front_or (Some c) r e none some = some c refl ∙ sym (front_some c (sym e))
