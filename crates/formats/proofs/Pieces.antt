-- The pieces that `chunks` cuts a text into.
use Rattle.std.proofs.Common.{◌≡◌, ℕ, zero, suc, ◌+◌, ◌*◌, ◌<◌, ◌≤◌, min, List, [], ◌∷◌, ◌++◌, length, get_or, take, drop, sym, refl, ap, ◌∙◌, subst, ⊎_elim, suc-mul, arith}
use Rattle.std.specs.Slice.Iter.{chunks_rest, chunks_size, chunks_steps}
use Rattle.std.proofs.lemmas.Bool.{cases_lt}
use Rattle.std.proofs.lemmas.Iterator.{YieldsList}
use Rattle.std.proofs.lemmas.Iterator.Splits.{YieldsList-from_shown_while}
use Rattle.std.proofs.lemmas.List.{append-nil, drop-drop, drop_all, drop_at, length-append, length-drop, length-take, take_all, take_at}

-- pieces of w bytes, at most f of them: the last may be shorter
abbrev pub cut : ℕ → ℕ → List ℕ → List (List ℕ)
cut w zero t = []
cut w (suc f) [] = []
cut w (suc f) (b ∷ t) = take w (b ∷ t) ∷ cut w f (drop w (b ∷ t))

abbrev pub pieces : ℕ → List ℕ → List (List ℕ)
pieces w t = cut w (length t) t

module _ (w : ℕ) (some : 1 ≤ w) where
  rest_less : (b : ℕ) (t : List ℕ) → length (drop w (b ∷ t)) ≤ length t
  rest_less b t = omega (arith, length-drop w (b ∷ t))

  cut-same : (f g : ℕ) (t : List ℕ) → length t ≤ f → length t ≤ g → cut w f t ≡ cut w g t
  cut-same zero zero t h k = refl
  cut-same zero (suc g) [] h k = refl
  cut-same zero (suc g) (b ∷ t) h k = absurd (omega arith)
  cut-same (suc f) zero [] h k = refl
  cut-same (suc f) zero (b ∷ t) h k = absurd (omega arith)
  cut-same (suc f) (suc g) [] h k = refl
  cut-same (suc f) (suc g) (b ∷ t) h k =
      ap (λ l. take w (b ∷ t) ∷ l) (cut-same f g (drop w (b ∷ t)) (omega (arith, rest_less b t)) (omega (arith, rest_less b t)))

  -- a text that is not empty has a first piece
  pieces-first : (t : List ℕ) → 0 < length t → pieces w t ≡ take w t ∷ pieces w (drop w t)
  pieces-first [] h = absurd (omega arith)
  pieces-first (b ∷ t) h =
      ap (λ l. take w (b ∷ t) ∷ l) (cut-same (length t) (length (drop w (b ∷ t))) (drop w (b ∷ t)) (rest_less b t) (omega arith))

  pieces_empty : (t : List ℕ) → length t ≡ 0 → length (pieces w t) ≡ 0
  pieces_empty [] h = refl
  pieces_empty (b ∷ t) h = absurd (omega arith)

  pieces_step : (t x r : List ℕ) → t ≡ x ++ r → length x ≡ min w (length t) → 0 < length t → pieces w t ≡ x ∷ pieces w r
  pieces_step t x r e l h =
      pieces-first t h
      ∙ ⊎_elim
      (λ (k : length t < w).
      let z : length r ≡ 0 = omega (arith, l, ap length e, length-append x r) in
      ap (λ y. take w t ∷ y) (ap (pieces w) (drop_all w t (omega arith) ∙ sym (no_bytes r z)))
      ∙ ap (λ y. y ∷ pieces w r) (take_all w t (omega arith) ∙ (e ∙ (ap (λ y. x ++ y) (no_bytes r z) ∙ append-nil x))))
      (λ (k : w ≤ length t).
      let z : length x ≡ w = omega (arith, l) in
      ap (λ y. take w t ∷ pieces w y) (ap (drop w) e ∙ drop_at x r w z) ∙ ap (λ y. y ∷ pieces w r) (ap (take w) e ∙ take_at x r w z))
      (cases_lt (length t) w)
    where
      no_bytes : (r : List ℕ) → length r ≡ 0 → r ≡ []
      no_bytes [] z = refl
      no_bytes (b ∷ r) z = absurd (omega arith)

  pub YieldsList-from_chunks : {s : _} (t : List ℕ) → chunks_size s ≡ w → chunks_rest s ≡ t → YieldsList chunks_steps (λ x. x.now) s (pieces w t)
  YieldsList-from_chunks {s} t z e =
      subst (λ l. YieldsList chunks_steps (λ x. x.now) s (pieces w l)) e
      (YieldsList-from_shown_while chunks_steps (λ x. x.now) (λ i. pieces w (chunks_rest i)) (λ i. chunks_size i ≡ w)
      (λ i j p h. pieces_empty (chunks_rest i) h.1.0)
      (λ i x j p h. (h.0 ∙ p, pieces_step (chunks_rest i) x.now (chunks_rest j) h.1.0 (subst (λ n. length x.now ≡ min n (length (chunks_rest i))) p h.1.1) h.1.2))
      s z)

  -- piece k
  cut_at : (f k : ℕ) (t : List ℕ) → length t ≤ f → k < length (cut w f t) → (get_or (cut w f t) k [] ≡ take w (drop (k * w) t)) × (k * w < length t)
  cut_at zero k t h l = absurd (omega arith)
  cut_at (suc f) k [] h l = absurd (omega arith)
  cut_at (suc f) zero (b ∷ t) h l = let z : 0 ≡ 0 * w = omega arith in (ap (λ i. take w (drop i (b ∷ t))) z, omega arith)
  cut_at (suc f) (suc k) (b ∷ t) h l =
      let r = cut_at f k (drop w (b ∷ t)) (omega (arith, rest_less b t)) (omega arith) in
      let z : w + k * w ≡ suc k * w = omega (arith, suc-mul k w) in (
        r.0 ∙ ap (take w) (drop-drop (k * w) w (b ∷ t) ∙ ap (λ i. drop i (b ∷ t)) z),
        omega (arith, z, r.1, length-drop w (b ∷ t)),
      )

  pub piece_at : (k : ℕ) (t : List ℕ) → k < length (pieces w t) → (get_or (pieces w t) k [] ≡ take w (drop (k * w) t)) × (k * w < length t)
  piece_at k t h = cut_at (length t) k t (omega arith) h

  -- pieces of w bytes each make the whole text
  cut_whole : (f : ℕ) (t : List ℕ) → length t ≤ f → ((k : ℕ) → k < length (cut w f t) → length (get_or (cut w f t) k []) ≡ w) → length (cut w f t) * w ≡ length t
  cut_whole zero [] h e = omega arith
  cut_whole zero (b ∷ t) h e = absurd (omega arith)
  cut_whole (suc f) [] h e = omega arith
  cut_whole (suc f) (b ∷ t) h e =
      let r = cut_whole f (drop w (b ∷ t)) (omega (arith, rest_less b t)) (λ k l. e (suc k) (omega arith)) in
      omega (arith, r, e 0 (omega arith), length-drop w (b ∷ t), length-take w (b ∷ t), suc-mul (length (cut w f (drop w (b ∷ t)))) w)

  pub pieces_whole : (t : List ℕ) → ((k : ℕ) → k < length (pieces w t) → length (get_or (pieces w t) k []) ≡ w) → length (pieces w t) * w ≡ length t
  pieces_whole t e = cut_whole (length t) t (omega arith) e
