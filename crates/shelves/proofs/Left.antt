-- One step along the places of a list up to `n`.
use Rattle.std.proofs.Common.{◌≡◌, ℕ, zero, suc, ◌+◌, ◌<◌, List, [], ◌∷◌, length, take, drop, ◌≤◌, Option, Some, None, refl, ap, add-one, arith}
use Rattle.std.proofs.lemmas.List.{drop_all, length-take}
use Rattle.std.specs.Bool.{⊤}
use Rattle.std.specs.Iterator.{MakesProgress, YieldsFirst, item_count}
use Rattle.std.specs.List.{slice_get}
use Rattle.std.specs.Option.{MatchOption}

-- what stands at a place is the first that is left from there on
left_at : {X : Type 0} (xs : List X) (i n : ℕ) → i < n
    → MatchOption (slice_get xs i) ((drop i (take n xs) ≡ []) × (drop (suc i) (take n xs) ≡ [])) (λ x. drop i (take n xs) ≡ x ∷ drop (suc i) (take n xs))
left_at xs i zero h = absurd (omega arith)
left_at [] zero (suc n) h = (refl, refl)
left_at [] (suc i) (suc n) h = (refl, refl)
left_at (x ∷ xs) zero (suc n) h = refl
left_at (x ∷ xs) (suc i) (suc n) h = left_at xs i n (omega arith)

pub left_next : {X : Type 0} (xs : List X) (i j n : ℕ) (o : Option X) → i < n → j ≡ i + 1 → o ≡ slice_get xs i
    → MatchOption o ((drop i (take n xs) ≡ []) × (drop j (take n xs) ≡ [])) (λ x. drop i (take n xs) ≡ x ∷ drop j (take n xs))
left_next xs i j n o h e is =
    let P : ℕ → Option _ → Type 0 = λ k p. MatchOption p ((drop i (take n xs) ≡ []) × (drop k (take n xs) ≡ [])) (λ x. drop i (take n xs) ≡ x ∷ drop k (take n xs)) in
    rw is (rw e (rw (add-one i) (left_at xs i n h)))

-- no place is left up to `n`
pub left_past : {X : Type 0} (xs : List X) (i n : ℕ) → n ≤ i → drop i (take n xs) ≡ []
left_past xs i n h = drop_all i (take n xs) (omega (arith, length-take n xs))

-- an iterator that hands out a list comes to its end
pub progress_first : {S A : Type 0} (rest : S → List A) (s t : S) (r : Option A) → YieldsFirst rest s r t → MakesProgress (λ _. ⊤) (item_count rest) s r t
progress_first rest s t None e = record { on = λ _. tt; keeps = tt; rests = λ _. tt }
progress_first rest s t (Some x) e = record { on = λ _. (tt, tt, omega (arith, ap length e)); keeps = tt; rests = λ _. tt }
