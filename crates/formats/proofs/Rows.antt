-- Clause lines by their places, and as lists.
use Rattle.std.proofs.Common.{◌≡◌, ℕ, zero, suc, ◌+◌, ◌*◌, ◌<◌, ◌≤◌, List, [], ◌∷◌, ◌++◌, length, get_or, take, drop, sym, refl, ap, ◌∙◌, subst, suc-mul, add-mul, arith}
use Rattle.std.specs.List.{flat_map, between, AllByRecursion}
use Rattle.std.proofs.lemmas.List.{append_assoc, drop_at, drop-drop, take_at, get_or-drop, get_or_past, ext_get_or}
use Rattle.std.proofs.lemmas.List.Edits.{get_or-between}
use Rattle.std.proofs.lemmas.Nat.{mul-le}
use Rattle.std.proofs.lemmas.Bool.Decides.{nat_tests}
use Rattle.formats.specs.Format.{Value, clause_line, Row, BeginsRow}
use Rattle.formats.specs.Outcomes.{NoRow}
use Rattle.formats.specs.Places.{gap, place, RowsAt, RowAt, values, rows_of}

pub gap_some : (n k : ℕ) → gap n k ≡ 0 → ⊥
gap_some n k e = grind (arith, nat_tests)

-- a clause line does not pass the end of the text
pub row_short : (text : List ℕ) (n p k : ℕ) → k < n → length text ≤ p + 2 * k + 1 → RowAt text n p → ⊥
row_short text n p k h e r = gap_some n k (sym (r k h).1 ∙ get_or_past text (p + 2 * k + 1) 0 e)

-- Lines as lists.

row_rest : (a b : ℕ) (t : List ℕ) (n : ℕ) → RowAt (a ∷ b ∷ t) (suc n) 0 → RowAt t n 0
row_rest a b t n r k h =
    let e : 0 + 2 * suc k ≡ suc (suc (0 + 2 * k)) = omega arith in
    let f : 0 + 2 * suc k + 1 ≡ suc (suc (0 + 2 * k + 1)) = omega arith in
    let v = r (suc k) (omega arith) in
    let g : gap (suc n) (suc k) ≡ gap n k = grind (arith, nat_tests) in (
      subst (λ x. Value (get_or (a ∷ b ∷ t) x 0)) e v.0,
      ap (λ x. get_or (a ∷ b ∷ t) x 0) (sym f) ∙ (v.1 ∙ g),
    )

gap_more : (n : ℕ) → gap (suc (suc n)) 0 ≡ 32
gap_more n = grind (arith, nat_tests)

abbrev pub after : ℕ → List ℕ → List ℕ
after zero t = t
after (suc n) t = after n (drop 2 t)

pub after-drop : (n : ℕ) (t : List ℕ) → after n t ≡ drop (2 * n) t
after-drop zero t = refl
after-drop (suc n) t =
    let e : 2 + 2 * n ≡ 2 * suc n = omega arith in
    after-drop n (drop 2 t) ∙ (drop-drop (2 * n) 2 t ∙ ap (λ x. drop x t) e)

-- a line that stands by its places is the line of its values
pub row_made : (n : ℕ) (t : List ℕ) → RowAt t (suc n) 0 → t ≡ clause_line (values (suc n) t) ++ after (suc n) t
row_made n [] r = absurd (row_short [] (suc n) 0 0 (omega arith) (omega arith) r)
row_made n (a ∷ []) r = absurd (row_short (a ∷ []) (suc n) 0 0 (omega arith) (omega arith) r)
row_made zero (a ∷ b ∷ t) r = ap (λ x. a ∷ x ∷ t) (r 0 (omega arith)).1
row_made (suc n) (a ∷ b ∷ t) r =
    ap (λ x. a ∷ x ∷ t) ((r 0 (omega arith)).1 ∙ gap_more n) ∙ ap (λ l. a ∷ 32 ∷ l) (row_made n t (row_rest a b t (suc n) r))

pub values_row : (n : ℕ) (t : List ℕ) → RowAt t n 0 → Row n (values n t)
values_row zero t r = record { size = refl; values = tt }
values_row (suc n) [] r = absurd (row_short [] (suc n) 0 0 (omega arith) (omega arith) r)
values_row (suc n) (a ∷ []) r = absurd (row_short (a ∷ []) (suc n) 0 0 (omega arith) (omega arith) r)
values_row (suc n) (a ∷ b ∷ t) r =
    let h = values_row n t (row_rest a b t n r) in
    record { size = ap suc h.size; values = ((r 0 (omega arith)).0, h.values) }

-- the line of a row stands by its places
row_first : (v x : ℕ) (t : List ℕ) (n : ℕ) → Value v → x ≡ gap (suc n) 0 → RowAt t n 0 → RowAt (v ∷ x ∷ t) (suc n) 0
row_first v x t n p q r zero h = (p, q)
row_first v x t n p q r (suc k) h =
    let e : suc (suc (0 + 2 * k)) ≡ 0 + 2 * suc k = omega arith in
    let f : suc (suc (0 + 2 * k + 1)) ≡ 0 + 2 * suc k + 1 = omega arith in
    let w = r k (omega arith) in
    let g : gap n k ≡ gap (suc n) (suc k) = grind (arith, nat_tests) in (
      subst (λ y. Value (get_or (v ∷ x ∷ t) y 0)) e w.0,
      ap (λ y. get_or (v ∷ x ∷ t) y 0) (sym f) ∙ (w.1 ∙ g),
    )

pub row_places : (row rest : List ℕ) → 1 ≤ length row → AllByRecursion Value row → RowAt (clause_line row ++ rest) (length row) 0
row_places [] rest h a = absurd (omega arith)
row_places (v ∷ []) rest h a = row_first v 10 rest 0 a.0 refl (λ k l. absurd (omega arith))
row_places (v ∷ x ∷ vs) rest h a = row_first v 32 (clause_line (x ∷ vs) ++ rest) (suc (length vs)) a.0 (sym (gap_more (length vs))) (row_places (x ∷ vs) rest (omega arith) a.1)

-- the places of a part
pub row_drop : (text : List ℕ) (n p : ℕ) → RowAt text n p → RowAt (drop p text) n 0
row_drop text n p r k h =
    let e : p + (0 + 2 * k) ≡ p + 2 * k = omega arith in
    let f : p + (0 + 2 * k + 1) ≡ p + 2 * k + 1 = omega arith in (
      subst Value (sym (get_or-drop p text (0 + 2 * k) 0 ∙ ap (λ x. get_or text x 0) e)) (r k h).0,
      get_or-drop p text (0 + 2 * k + 1) 0 ∙ (ap (λ x. get_or text x 0) f ∙ (r k h).1),
    )

pub drop_row : (text : List ℕ) (n p : ℕ) → RowAt (drop p text) n 0 → RowAt text n p
drop_row text n p r k h =
    let e : p + (0 + 2 * k) ≡ p + 2 * k = omega arith in
    let f : p + (0 + 2 * k + 1) ≡ p + 2 * k + 1 = omega arith in (
      subst Value (get_or-drop p text (0 + 2 * k) 0 ∙ ap (λ x. get_or text x 0) e) (r k h).0,
      sym (get_or-drop p text (0 + 2 * k + 1) 0 ∙ ap (λ x. get_or text x 0) f) ∙ (r k h).1,
    )

pub begins_row : (t row rest : List ℕ) (n : ℕ) → 1 ≤ n → BeginsRow n t row rest → RowAt t n 0
begins_row t row rest n h b =
    let r = row_places row rest (omega (arith, b.row_ok.size)) b.row_ok.values in
    subst (λ l. RowAt l n 0) (sym b.is) (subst (λ m. RowAt (clause_line row ++ rest) m 0) b.row_ok.size r)

pub no_row : (text : List ℕ) (n p : ℕ) → 1 ≤ n → (RowAt text n p → ⊥) → NoRow n (drop p text)
no_row text n p h k row rest b = k (drop_row text n p (begins_row (drop p text) row rest n h b))

pub row_shift : (t : List ℕ) (n q p r : ℕ) → r ≡ q + p → RowAt t n r → RowAt (drop q t) n p
row_shift t n q p r z h k l =
    let e : q + (p + 2 * k) ≡ r + 2 * k = omega arith in
    let f : q + (p + 2 * k + 1) ≡ r + 2 * k + 1 = omega arith in (
      subst Value (sym (get_or-drop q t (p + 2 * k) 0 ∙ ap (λ x. get_or t x 0) e)) (h k l).0,
      get_or-drop q t (p + 2 * k + 1) 0 ∙ (ap (λ x. get_or t x 0) f ∙ (h k l).1),
    )

row_is : (n : ℕ) (t : List ℕ) → 1 ≤ n → RowAt t n 0 → t ≡ clause_line (values n t) ++ drop (2 * n) t
row_is zero t h r = absurd (omega arith)
row_is (suc n) t h r = row_made n t r ∙ ap (λ l. clause_line (values (suc n) t) ++ l) (after-drop (suc n) t)

-- clause lines one after another, from place 0
pub record Rows (n count : ℕ) (t : List ℕ) : Type 0 where
  pub is : t ≡ flat_map clause_line (rows_of n count t) ++ drop (count * (2 * n)) t
  pub each : AllByRecursion (Row n) (rows_of n count t)
  pub size : length (rows_of n count t) ≡ count

pub rows_made : (n count : ℕ) (t : List ℕ) → 1 ≤ n → RowsAt t n 0 count → Rows n count t
rows_made n zero t h r =
    let e : 0 ≡ 0 * (2 * n) = omega arith in
    record { is = ap (λ x. drop x t) e; each = tt; size = refl }
rows_made n (suc count) t h r =
    let f : RowAt t n 0 = subst (RowAt t n) (omega arith) (r 0 (omega arith)) in
    let g : RowsAt (drop (2 * n) t) n 0 count = λ i l. row_shift t n (2 * n) (place 0 n i) (place 0 n (suc i)) (omega (arith, suc-mul i (2 * n))) (r (suc i) (omega arith)) in
    let w = rows_made n count (drop (2 * n) t) h g in
    let e : 2 * n + count * (2 * n) ≡ suc count * (2 * n) = omega (arith, suc-mul count (2 * n)) in
    record {
      is = row_is n t h f
          ∙ (ap (λ l. clause_line (values n t) ++ l) (w.is ∙ ap (λ l. flat_map clause_line (rows_of n count (drop (2 * n) t)) ++ l) (drop-drop (count * (2 * n)) (2 * n) t ∙ ap (λ x. drop x t) e))
          ∙ sym (append_assoc (clause_line (values n t)) (flat_map clause_line (rows_of n count (drop (2 * n) t))) (drop (suc count * (2 * n)) t)));
      each = (values_row n t f, w.each);
      size = ap suc w.size;
    }

-- A row by its places.
pub length-values : (n : ℕ) (t : List ℕ) → length (values n t) ≡ n
length-values zero t = refl
length-values (suc n) t = ap suc (length-values n (drop 2 t))

pub values_at : (n k : ℕ) (t : List ℕ) → k < n → get_or (values n t) k 0 ≡ get_or t (2 * k) 0
values_at zero k t h = absurd (omega arith)
values_at (suc n) zero t h = refl
values_at (suc n) (suc k) t h =
    let e : 2 + 2 * k ≡ 2 * suc k = omega arith in
    values_at n k (drop 2 t) (omega arith) ∙ (get_or-drop 2 t (2 * k) 0 ∙ ap (λ x. get_or t x 0) e)

pub values_same : (n : ℕ) (s t : List ℕ) → ((k : ℕ) → k < n → get_or s (2 * k) 0 ≡ get_or t (2 * k) 0) → values n s ≡ values n t
values_same n s t h =
    ext_get_or 0 (values n s) (values n t) (length-values n s ∙ sym (length-values n t))
    (λ k l. let m : k < n = omega (arith, length-values n s) in values_at n k s m ∙ (h k m ∙ sym (values_at n k t m)))

pub length-rows : (n count : ℕ) (t : List ℕ) → length (rows_of n count t) ≡ count
length-rows n zero t = refl
length-rows n (suc count) t = ap suc (length-rows n count (drop (2 * n) t))

pub rows_at : (n count i : ℕ) (t : List ℕ) → i < count → get_or (rows_of n count t) i [] ≡ values n (drop (i * (2 * n)) t)
rows_at n zero i t h = absurd (omega arith)
rows_at n (suc count) zero t h = let e : 0 ≡ 0 * (2 * n) = omega arith in ap (λ x. values n (drop x t)) e
rows_at n (suc count) (suc i) t h =
    let e : 2 * n + i * (2 * n) ≡ suc i * (2 * n) = omega (arith, suc-mul i (2 * n)) in
    rows_at n count i (drop (2 * n) t) (omega arith) ∙ ap (values n) (drop-drop (i * (2 * n)) (2 * n) t ∙ ap (λ x. drop x t) e)

-- the row of the part of the text from a place on
pub row_of_part : (text : List ℕ) (n start count i : ℕ) → i < count → values n (between (place start n i) (place start n i + 2 * n) text) ≡ get_or (rows_of n count (drop start text)) i []
row_of_part text n start count i h =
    let p = place start n i in
    values_same n (between p (p + 2 * n) text) (drop p text)
    (λ k l. get_or-between text p (p + 2 * n) (2 * k) 0 (omega arith) ∙ sym (get_or-drop p text (2 * k) 0))
    ∙ (ap (values n) (sym (drop-drop (i * (2 * n)) start text)) ∙ sym (rows_at n count i (drop start text) h))

-- a clause line ends within the text
pub place_within : (n start count i size : ℕ) → place start n count ≡ size → i < count → place start n i + 2 * n ≤ size
place_within n start count i size e h =
    let m : i + 1 ≤ count = omega arith in
    omega (arith, add-mul i 1 (2 * n), mul-le (i + 1) (2 * n) count (2 * n) m (omega arith))

-- ---- a clause line as a part of all of them

pub length-clause_line : (row : List ℕ) → 1 ≤ length row → length (clause_line row) ≡ 2 * length row
length-clause_line [] h = absurd (omega arith)
length-clause_line (v ∷ []) h = refl
length-clause_line (v ∷ x ∷ vs) h = omega (arith, length-clause_line (x ∷ vs) (omega arith))

pub all_sized : (n count : ℕ) (t : List ℕ) → AllByRecursion (λ r. length r ≡ n) (rows_of n count t)
all_sized n zero t = tt
all_sized n (suc count) t = (length-values n t, all_sized n count (drop (2 * n) t))

pub joined_part : (n : ℕ) (rows : List (List ℕ)) (i : ℕ) → 1 ≤ n → AllByRecursion (λ r. length r ≡ n) rows → i < length rows → take (2 * n) (drop (i * (2 * n)) (flat_map clause_line rows)) ≡ clause_line (get_or rows i [])
joined_part n [] i h a l = absurd (omega arith)
joined_part n (r ∷ rows) zero h a l =
    let z : 0 * (2 * n) ≡ 0 = omega arith in
    ap (λ x. take (2 * n) (drop x (clause_line r ++ flat_map clause_line rows))) z
    ∙ take_at (clause_line r) (flat_map clause_line rows) (2 * n) (omega (arith, length-clause_line r (omega (arith, a.0)), a.0))
joined_part n (r ∷ rows) (suc i) h a l =
    let e : suc i * (2 * n) ≡ 2 * n + i * (2 * n) = omega (arith, suc-mul i (2 * n)) in
    ap (λ x. take (2 * n) (drop x (clause_line r ++ flat_map clause_line rows))) e
    ∙ (ap (take (2 * n)) (sym (drop-drop (i * (2 * n)) (2 * n) (clause_line r ++ flat_map clause_line rows))
    ∙ ap (drop (i * (2 * n))) (drop_at (clause_line r) (flat_map clause_line rows) (2 * n) (omega (arith, length-clause_line r (omega (arith, a.0)), a.0))))
    ∙ joined_part n rows i h a.1 (omega arith))
