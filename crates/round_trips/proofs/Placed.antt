-- Places that are filled with clauses, one after another.
use Rattle.std.proofs.Common.{◌≡◌, ℕ, ◌+◌, ◌<◌, List, [], ◌∷◌, ◌++◌, length, get_or, take, drop, set, sym, ap, ◌∙◌, arith}
use Rattle.std.proofs.lemmas.List.{append_assoc, drop_more, length-take-le, set_at, take_all, take_more}

module _ {X : Type 0} (xs before : List X) where
  -- the element at place i is put behind those before it
  pub filled_more : (i k m : ℕ) (x : X) (out : List X) → i < length xs → i < length before → k ≡ i → x ≡ get_or xs i x → m ≡ i + 1 → out ≡ take i xs ++ drop i before
      → set out k x ≡ take m xs ++ drop m before
  filled_more i k m x out h l z d r w =
      rw (z, r, w, drop_more before i x l)
      (set_at (take i xs) (get_or before i x) (drop (i + 1) before) x i (length-take-le i xs (omega arith))
      ∙ (sym (append_assoc (take i xs) (x ∷ []) (drop (i + 1) before))
      ∙ ap (λ f. f ++ drop (i + 1) before) (sym (take_more xs i x h ∙ ap (λ y. take i xs ++ y ∷ []) (sym d)))))

  pub filled_all : (i : ℕ) (out : List X) → i ≡ length xs → out ≡ take i xs ++ drop i before → out ≡ xs ++ drop (length xs) before
  filled_all i out e w = w ∙ (ap (λ f. f ++ drop i before) (take_all i xs (omega arith)) ∙ ap (λ k. xs ++ drop k before) e)
