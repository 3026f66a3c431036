-- What `any` says of the elements of a list.
use Rattle.std.proofs.Common.{ℕ, ◌<◌, Bool, true, false, List, [], ◌∷◌, length, get_or, MatchBool, subst, sym, arith}
use Rattle.std.specs.List.{AllWithin, HoldsAt}
use Rattle.std.proofs.ByRecursion.{has_get_or}
use Rattle.writers.specs.Documents.{Among}

module _ {X : Type 0} (P : X → Type 0) where
  some_among : (xs : List X) (k : ℕ) → k < length xs → HoldsAt P xs k → Among P xs
  some_among [] k h p = absurd (omega arith)
  some_among (x ∷ xs) k h p = (get_or (x ∷ xs) k x, has_get_or (x ∷ xs) k x h, p x)

  -- some element is so, or none is
  pub among : (xs : List X) (r : Bool) → MatchBool r ((k : ℕ) × (k < length xs) × HoldsAt P xs k) (AllWithin (λ x. P x → ⊥) xs 0 (length xs)) → MatchBool r (Among P xs) (Among P xs → ⊥)
  among xs true h = some_among xs h.0 h.1 h.2
  among xs false h = λ u. h u.1.0 u.0 (omega arith) u.1.1 (subst P (sym (u.1.2 u.0)) u.2)
