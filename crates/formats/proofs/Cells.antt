-- Clause lines as pieces of their text, and the cells of a clause line: a value with what stands after it.
use Rattle.std.proofs.Common.{◌≡◌, ℕ, ◌+◌, ◌-◌, ◌*◌, ◌/◌, ◌<◌, ◌≤◌, Bool, true, false, cond, eqb, List, [], length, get_or, take, drop, Some, None, Option, Decides, MatchBool, MatchOption, ⊎_elim, sym, refl, ap, ◌∙◌, subst, arith}
use Rattle.std.specs.List.{enumerate_from, AllWithin, HoldsAt}
use Rattle.std.proofs.lemmas.Bool.{cases_lt, false≢true}
use Rattle.std.proofs.lemmas.Bool.Decides.{nat_tests}
use Rattle.std.proofs.lemmas.List.{get_or-drop, get_or-take, length-drop, length-take}
use Rattle.std.proofs.lemmas.List.FromFn.{length-enumerate_from, get_or-enumerate_from}
use Rattle.std.proofs.lemmas.Nat.{div-mul-add}
use Rattle.formats.specs.Format.{Value}
use Rattle.formats.specs.Places.{Cell, RowAt, RowsAt, Stops, ValueAt, gap, place}
use Rattle.formats.proofs.Pieces.{pieces, piece_at, pieces_whole}
use Rattle.formats.proofs.Rows.{drop_row, row_drop, row_short}

-- a number and a piece: the piece is that cell of a clause line for n names
abbrev pub CellOf : ℕ → ℕ × List ℕ → Type 0
CellOf n c = Cell (cond (eqb c.0 (n - 1)) 10 32) c.1

module _ (n : ℕ) (line : List ℕ) (some : 1 ≤ n) (size : length line ≡ 2 * n) where
  abbrev cells : List (List ℕ)
  cells = pieces 2 line

  cell_size : (k : ℕ) → k < length cells → length (get_or cells k []) ≡ 2
  cell_size k h =
      let p = piece_at 2 (omega arith) k line h in
      ap length p.0 ∙ omega (arith, length-take 2 (drop (k * 2) line), length-drop (k * 2) line, p.1, size)

  count : length cells ≡ n
  count = omega (arith, pieces_whole 2 (omega arith) line cell_size, size)

  after_is : (k : ℕ) → gap n k ≡ cond (eqb k (n - 1)) 10 32
  after_is k = grind (arith, nat_tests)

  byte_at : (k j x : ℕ) → k < n → j < 2 → k * 2 + j ≡ x → get_or (get_or cells k []) j 0 ≡ get_or line x 0
  byte_at k j x h i z =
      ap (λ l. get_or l j 0) (piece_at 2 (omega arith) k line (omega (arith, count))).0
      ∙ (get_or-take 2 (drop (k * 2) line) j 0 i ∙ (get_or-drop (k * 2) line j 0 ∙ ap (λ y. get_or line y 0) z))

  numbered_cell : (k : ℕ) → k < n → get_or (enumerate_from 0 cells) k (0, []) ≡ (k, get_or cells k [])
  numbered_cell k h =
      let z : 0 + k ≡ k = omega arith in
      get_or-enumerate_from 0 cells k (0, []) (omega (arith, count)) ∙ ap (λ i. (i, get_or cells k [])) z

  cell_then : (k : ℕ) → k < n → ValueAt line n 0 k → CellOf n (get_or (enumerate_from 0 cells) k (0, []))
  cell_then k h v =
      subst (CellOf n) (sym (numbered_cell k h))
      (record {
        size = cell_size k (omega (arith, count));
        value = subst Value (sym (byte_at k 0 (0 + 2 * k) h (omega arith) (omega arith))) v.0;
        then = byte_at k 1 (0 + 2 * k + 1) h (omega arith) (omega arith) ∙ (v.1 ∙ after_is k);
      })

  value_then : (k : ℕ) → k < n → CellOf n (get_or (enumerate_from 0 cells) k (0, [])) → ValueAt line n 0 k
  value_then k h v =
      let c = subst (CellOf n) (numbered_cell k h) v in (
        subst Value (byte_at k 0 (0 + 2 * k) h (omega arith) (omega arith)) c.value,
        sym (byte_at k 1 (0 + 2 * k + 1) h (omega arith) (omega arith)) ∙ (c.then ∙ sym (after_is k)),
      )

  pub row_decided : (r : Bool) → MatchBool r (AllWithin (CellOf n) (enumerate_from 0 cells) 0 (length (enumerate_from 0 cells))) ((k : ℕ) × (k < length (enumerate_from 0 cells)) × HoldsAt (λ c. CellOf n c → ⊥) (enumerate_from 0 cells) k) → Decides r ((length line ≡ 2 * n) × RowAt line n 0)
  row_decided true h = (
    (λ e. (size, λ k l. value_then k l (h k (0, []) (omega arith) (omega (arith, count, length-enumerate_from 0 cells))))),
    λ p. refl,
  )
  row_decided false h = (
    (λ e. absurd (false≢true e)),
    λ p. let l : h.0 < n = omega (arith, h.1, count, length-enumerate_from 0 cells) in absurd (h.2 (0, []) (cell_then h.0 l (p.1 h.0 l))),
  )

-- ---- a text's pieces of 2 * n bytes

-- the piece is a clause line for n names
abbrev pub LineOf : ℕ → List ℕ → Type 0
LineOf n line = (length line ≡ 2 * n) × RowAt line n 0

module _ (n : ℕ) (text : List ℕ) (some : 1 ≤ n) where
  abbrev lines : List (List ℕ)
  lines = pieces (2 * n) text

  line_at : (k : ℕ) → k < length lines → (get_or lines k [] ≡ take (2 * n) (drop (place 0 n k) text)) × (place 0 n k < length text)
  line_at k h =
      let p = piece_at (2 * n) (omega arith) k text h in
      let z : k * (2 * n) ≡ place 0 n k = omega arith in
      (p.0 ∙ ap (λ i. take (2 * n) (drop i text)) z, omega (arith, p.1))

  row_there : (k : ℕ) → k < length lines → LineOf n (get_or lines k []) → RowAt text n (place 0 n k)
  row_there k h l =
      let t = drop (place 0 n k) text in
      let r = subst (λ x. RowAt x n 0) (line_at k h).0 l.1 in
      drop_row text n (place 0 n k)
      (λ j m. (
        subst Value (get_or-take (2 * n) t (0 + 2 * j) 0 (omega arith)) (r j m).0,
        sym (get_or-take (2 * n) t (0 + 2 * j + 1) 0 (omega arith)) ∙ (r j m).1,
      ))

  -- a clause line does not pass the end of the text
  row_whole : (p : ℕ) → RowAt text n p → p + 2 * n ≤ length text
  row_whole p r = ⊎_elim (λ (h : length text < p + 2 * n). absurd (row_short text n p (n - 1) (omega arith) (omega arith) r)) (λ (h : p + 2 * n ≤ length text). h) (cases_lt (length text) (p + 2 * n))

  line_there : (k : ℕ) → k < length lines → RowAt text n (place 0 n k) → LineOf n (get_or lines k [])
  line_there k h r =
      let t = drop (place 0 n k) text in
      let d = row_drop text n (place 0 n k) r in
      subst (LineOf n) (sym (line_at k h).0) (
        omega (arith, length-take (2 * n) t, length-drop (place 0 n k) text, row_whole (place 0 n k) r),
        λ j m. (
          subst Value (sym (get_or-take (2 * n) t (0 + 2 * j) 0 (omega arith))) (d j m).0,
          get_or-take (2 * n) t (0 + 2 * j + 1) 0 (omega arith) ∙ (d j m).1,
        ),
      )

  lines_stop : (i : ℕ) → (i < length lines) × HoldsAt (λ l. LineOf n l → ⊥) lines i × AllWithin (LineOf n) lines 0 i → Stops text n 0 (i + 2)
  lines_stop i h = record {
    count = i;
    at_is = refl;
    rows = λ k l. row_there k (omega (arith, h.0)) (h.2 k [] (omega arith) l);
    more = (line_at i h.0).1;
    none = λ r. h.1 [] (line_there i h.0 r);
  }

  lines_whole : AllWithin (LineOf n) lines 0 (length lines) → RowsAt text n 0 (length text / (2 * n)) × (place 0 n (length text / (2 * n)) ≡ length text)
  lines_whole h =
      let e : length lines * (2 * n) ≡ length text = pieces_whole (2 * n) (omega arith) text (λ k l. (h k [] (omega arith) l).0) in
      let z : length lines * (2 * n) + 0 ≡ length text = omega (arith, e) in
      let c : length text / (2 * n) ≡ length lines = ap (λ x. x / (2 * n)) (sym z) ∙ div-mul-add (length lines) (2 * n) 0 (omega arith) in
      subst (λ m. RowsAt text n 0 m × (place 0 n m ≡ length text)) (sym c) ((λ k l. row_there k l (h k [] (omega arith) l)), omega (arith, e))

  pub first_wrong : (r : Option ℕ) → MatchOption r (AllWithin (LineOf n) lines 0 (length lines)) (λ i. (i < length lines) × HoldsAt (λ l. LineOf n l → ⊥) lines i × AllWithin (LineOf n) lines 0 i) → MatchOption r (RowsAt text n 0 (length text / (2 * n)) × (place 0 n (length text / (2 * n)) ≡ length text)) (λ i. Stops text n 0 (i + 2))
  first_wrong None h = lines_whole h
  first_wrong (Some i) h = lines_stop i h
