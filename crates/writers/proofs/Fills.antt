-- A buffer that is filled line by line.
use Rattle.std.proofs.Common.{◌≡◌, ℕ, ◌+◌, ◌-◌, ◌*◌, ◌<◌, ◌≤◌, List, [], ◌∷◌, ◌++◌, map, length, get_or, take, drop, sym, refl, ap, ◌∙◌, suc-mul, add-mul, arith}
use borrow.Rule.Slice.PartMut.{put_mid}
use Rattle.std.specs.List.{flat_map}
use Rattle.std.proofs.lemmas.Nat.{mul-le}
use Rattle.std.proofs.lemmas.List.FromFn.{length-map-range_with_len}
use Rattle.std.proofs.lemmas.List.{append_assoc, drop_at, drop-drop, flat_map_more, length-append, length-take-le, map_push, take_all, take_at, take_more}
use Rattle.formats.specs.Format.{clause_line}
use Rattle.formats.proofs.Rows.{length-clause_line}
use Rattle.writers.specs.Documents.{lines_under, row_by, row_lines}

length_row : (f : ℕ → ℕ) (n : ℕ) → 1 ≤ n → length (clause_line (row_by f n)) ≡ 2 * n
length_row f n h =
    let e = length-map-range_with_len f 0 n in
    omega (arith, length-clause_line (row_by f n) (omega arith))

-- there is room for the line of element i of m
pub room_at : (i k w s m : ℕ) → i < m → k ≡ i → w ≡ s → k * w + w ≤ m * s
room_at i k w s m h e d = rw (e, d) (omega (arith, mul-le (i + 1) s m s (omega arith) (omega arith), add-mul i 1 s))

module _ {X : Type 0} (f : X → ℕ → ℕ) (n : ℕ) (some : 1 ≤ n) where
  pub length-rows : (xs : List X) → length (row_lines f n xs) ≡ length xs * (2 * n)
  length-rows [] = omega arith
  length-rows (x ∷ xs) =
      omega (arith, length-append (clause_line (row_by (f x) n)) (row_lines f n xs), length_row (f x) n some, length-rows xs, suc-mul (length xs) (2 * n))

  pub length_text : (first : List ℕ) (xs : List X) → length (lines_under f first n xs) ≡ length first + length xs * (2 * n)
  length_text first xs = length-append first (row_lines f n xs) ∙ ap (λ k. length first + k) (length-rows xs)

  rows_more : (xs : List X) (x : X) → row_lines f n (xs ++ x ∷ []) ≡ row_lines f n xs ++ clause_line (row_by (f x) n)
  rows_more xs x =
      let g : X → List ℕ = λ y. row_by (f y) n in
      ap (flat_map clause_line) (map_push g xs x) ∙ sym (flat_map_more clause_line [] (map g xs) (g x))

  -- the line of the element at place i is put behind those of the elements before it
  pub filled_more : (before out : List ℕ) (xs : List X) (i : ℕ) (x : X) (ys : List ℕ) (k w m : ℕ) → i < length xs → k ≡ i → x ≡ get_or xs i x → w ≡ 2 * n
      → m ≡ i + 1 → ys ≡ clause_line (row_by (f x) n) → out ≡ row_lines f n (take i xs) ++ drop (i * (2 * n)) before
      → put_mid (k * w) (k * w + w - k * w) out ys ≡ row_lines f n (take m xs) ++ drop (m * (2 * n)) before
  filled_more before out xs i x ys k w m h z d e r q o =
      let t : List ℕ = row_lines f n (take i xs) in
      let at : ℕ = i * (2 * n) in
      let l : length t ≡ at = length-rows (take i xs) ∙ ap (λ j. j * (2 * n)) (length-take-le i xs (omega arith)) in
      let more : take m xs ≡ take i xs ++ x ∷ [] = ap (λ j. take j xs) r ∙ (take_more xs i x h ∙ ap (λ y. take i xs ++ y ∷ []) (sym d)) in
      let b : at + 2 * n - at ≡ 2 * n = omega arith in
      let s : at + 2 * n ≡ m * (2 * n) = rw (r, add-mul i 1 (2 * n)) (omega arith) in
      rw (z, e, b, o, take_at t (drop at before) at l, drop_at t (drop at before) at l, drop-drop (2 * n) at before, q)
      (sym (append_assoc t (clause_line (row_by (f x) n)) (drop (at + 2 * n) before))
      ∙ (ap (λ v. v ++ drop (at + 2 * n) before) (sym (rows_more (take i xs) x) ∙ ap (row_lines f n) (sym more)) ∙ ap (λ j. row_lines f n (take m xs) ++ drop j before) s))

  pub filled_all : (before out : List ℕ) (xs : List X) (k : ℕ) → k ≡ length xs → out ≡ row_lines f n (take k xs) ++ drop (k * (2 * n)) before
      → out ≡ row_lines f n xs ++ drop (length xs * (2 * n)) before
  filled_all before out xs k z w =
      w ∙ (ap (λ m. row_lines f n (take m xs) ++ drop (m * (2 * n)) before) z
      ∙ ap (λ ys. row_lines f n ys ++ drop (length xs * (2 * n)) before) (take_all (length xs) xs (omega arith)))

-- a last line is put behind the lines
pub put_last : (lines last before out : List ℕ) (at m k : ℕ) → out ≡ lines ++ drop k before → k ≡ length lines → at ≡ length lines → m ≡ length last
    → put_mid at m out last ≡ (lines ++ last) ++ drop (length lines + length last) before
put_last lines last before out at m k o z e d =
    rw (e, d, o, z, take_at lines (drop (length lines) before) (length lines) refl, drop_at lines (drop (length lines) before) (length lines) refl, drop-drop (length last) (length lines) before)
    (sym (append_assoc lines last (drop (length lines + length last) before)))
