-- Looking for the first clause broken place by place: what one place says of the list from there on.
use Rattle.std.proofs.Common.{◌≡◌, ℕ, suc, ◌+◌, ◌<◌, ◌≤◌, true, false, List, length, get_or, drop, Some, None, sym, ap, ◌∙◌, add-one, drop_of_length-le, drop-cons}
use Rattle.std.proofs.lemmas.Bool.{cond-true, cond-false}
use Rattle.models.specs.Language.{Language}
use Rattle.models.specs.Models.{breaks, first_broken}

module _ {S C : Type 0} (L : Language S C) (xs : List C) (s : S) (i : ℕ) where
  pub drop_here : (d : C) → i < length xs → breaks L s (get_or xs i d) ≡ true → first_broken L (drop i xs) s ≡ Some (get_or xs i d)
  drop_here d l e = ap (λ (ys : List C). first_broken L ys s) (drop-cons xs i d l)
      ∙ cond-true (breaks L s (get_or xs i d)) (Some (get_or xs i d)) (first_broken L (drop (suc i) xs) s) e

  pub drop_past : (d : C) → i < length xs → breaks L s (get_or xs i d) ≡ false →
      first_broken L (drop i xs) s ≡ first_broken L (drop (i + 1) xs) s
  drop_past d l e =
      ap (λ (ys : List C). first_broken L ys s) (drop-cons xs i d l)
      ∙ (cond-false (breaks L s (get_or xs i d)) (Some (get_or xs i d)) (first_broken L (drop (suc i) xs) s) e
      ∙ ap (λ (j : ℕ). first_broken L (drop j xs) s) (sym (add-one i)))

  pub drop_end : length xs ≤ i → first_broken L (drop i xs) s ≡ None
  drop_end l = ap (λ (ys : List C). first_broken L ys s) (drop_of_length-le xs l)
