-- The places of a value in a row, as a set, and the clauses of rows.
use Rattle.std.proofs.Common.{◌≡◌, ℕ, zero, suc, ◌+◌, ◌*◌, ◌/◌, ◌%◌, ◌^◌, ◌<◌, ◌≤◌, Bool, true, false, cond, ◌&&◌, ◌||◌, eqb, ltb, ◌⊎◌, List, [], ◌∷◌, length, get_or, sym, refl, ap, ◌∙◌, ⊎_elim, arith}
use Rattle.std.proofs.lemmas.List.{get_or_past}
use Rattle.std.proofs.lemmas.Bool.{cases_lt, cases_eq, eq-eqb, eqb-true, ne_eqb, lt-ltb, le-ltb, or_right}
use Rattle.atoms.specs.Atoms.{bits, set_of, width}
use Rattle.atoms.specs.Sets.{hasb}
use Rattle.atoms.specs.declared.AtomSet.{AtomSet}
use Rattle.atoms.proofs.Members.{hasb_first, hasb_next, hasb_zero, same_from_members, below_from_members}
use Rattle.atoms.proofs.Values.{bits-set_of, value_is}
use Rattle.clauses.specs.Sources.{numbered}
use Rattle.clauses.specs.declared.clauses.Clause.{Clause}
use Rattle.formats.specs.Places.{values}
use Rattle.formats.proofs.Rows.{length-values, values_at}
use Rattle.sheets.specs.Meaning.{marked, RowsReadOff}

-- ---- the set of the places of a value

marked_first : (v x : ℕ) (row : List ℕ) → marked v (x ∷ row) % 2 ≡ cond (eqb x v) 1 0
marked_first v x row = go (eqb x v)
  where
    go : (b : Bool) → (cond b 1 0 + 2 * marked v row) % 2 ≡ cond b 1 0
    go true = omega arith
    go false = omega arith

marked_next : (v x : ℕ) (row : List ℕ) → marked v (x ∷ row) / 2 ≡ marked v row
marked_next v x row = go (eqb x v)
  where
    go : (b : Bool) → (cond b 1 0 + 2 * marked v row) / 2 ≡ marked v row
    go true = omega arith
    go false = omega arith

one_or_none : (b : Bool) → eqb (cond b 1 0) 1 ≡ b
one_or_none true = refl
one_or_none false = refl

-- 0, which stands past the end of a row, is no value
pub hasb-marked : (v : ℕ) (row : List ℕ) (k : ℕ) → (0 ≡ v → ⊥) → hasb (marked v row) k ≡ eqb (get_or row k 0) v
hasb-marked v [] k n = hasb_zero k ∙ sym (ne_eqb 0 v n)
hasb-marked v (x ∷ row) zero n =
    hasb_first (marked v (x ∷ row)) ∙ (ap (λ d. eqb d 1) (marked_first v x row) ∙ one_or_none (eqb x v))
hasb-marked v (x ∷ row) (suc k) n =
    hasb_next (marked v (x ∷ row)) k ∙ (ap (λ s. hasb s k) (marked_next v x row) ∙ hasb-marked v row k n)

marked-below : (v : ℕ) (row : List ℕ) → (0 ≡ v → ⊥) → length row ≤ width → marked v row < 2 ^ width
marked-below v row n h = below_from_members width (marked v row) (λ k e. within k (cases_lt k (length row)) (eqb-true (get_or row k 0) v (sym (hasb-marked v row k n) ∙ e)))
  where
    within : (k : ℕ) → (k < length row) ⊎ (length row ≤ k) → get_or row k 0 ≡ v → k < width
    within k c e = ⊎_elim (λ (l : k < length row). omega arith) (λ (l : length row ≤ k). absurd (n (sym (get_or_past row k 0 l) ∙ e))) c

bits-marked : (v : ℕ) (row : List ℕ) → (0 ≡ v → ⊥) → length row ≤ width → (k : ℕ) → hasb (bits (set_of (marked v row))) k ≡ eqb (get_or row k 0) v
bits-marked v row n h k = ap (λ s. hasb s k) (bits-set_of (marked v row) (marked-below v row n h)) ∙ hasb-marked v row k n

pub rows_read_off : RowsReadOff
rows_read_off i row h =
    record { body = bits-marked 98 row (λ z. omega arith) h; head = bits-marked 104 row (λ z. omega arith) h }

-- ---- a set that is made value by value

-- the atoms below k whose value is v
abbrev pub Marked : (ℕ → Bool) → (ℕ → ℕ) → ℕ → ℕ → Type 0
Marked g f v k = (j : ℕ) → g j ≡ (ltb j k && eqb (f j) v)

same_below : (f : ℕ → ℕ) (v k j : ℕ) → (j ≡ k → ⊥) → (ltb j k && eqb (f j) v) ≡ (ltb j (k + 1) && eqb (f j) v)
same_below f v k j n =
    ⊎_elim
    (λ (h : j < k). ap (λ x. x && eqb (f j) v) (lt-ltb j k h ∙ sym (lt-ltb j (k + 1) (omega arith))))
    (λ (h : k ≤ j). ap (λ x. x && eqb (f j) v) (le-ltb j k h ∙ sym (le-ltb j (k + 1) (omega arith))))
    (cases_lt j k)

or_none : (x : Bool) → (x || false) ≡ x
or_none true = refl
or_none false = refl

-- one atom more
abbrev pub Added : ℕ → ℕ → ℕ → Type 0
Added s t k = (j : ℕ) → hasb t j ≡ (hasb s j || eqb k j)

pub marked_hit : (f : ℕ → ℕ) (v k : ℕ) (old new : ℕ → Bool) → f k ≡ v → ((j : ℕ) → new j ≡ (old j || eqb k j)) → Marked old f v k → Marked new f v (k + 1)
marked_hit f v k old new e n m j =
    ⊎_elim
    (λ (h : j ≡ k). n j ∙ (or_right (old j) (eqb k j) (eq-eqb k j (sym h)) ∙ sym (ap (λ x. x && eqb (f j) v) (lt-ltb j (k + 1) (omega arith)) ∙ eq-eqb (f j) v (ap f h ∙ e))))
    (λ (h : j ≡ k → ⊥). n j ∙ (ap (λ x. old j || x) (ne_eqb k j (λ z. h (sym z))) ∙ (or_none (old j) ∙ (m j ∙ same_below f v k j h))))
    (cases_eq j k)

pub marked_miss : (f : ℕ → ℕ) (v k : ℕ) (old : ℕ → Bool) → (f k ≡ v → ⊥) → Marked old f v k → Marked old f v (k + 1)
marked_miss f v k old e m j =
    ⊎_elim
    (λ (h : j ≡ k). m j ∙ (ap (λ x. x && eqb (f j) v) (le-ltb j k (omega arith)) ∙ sym (ap (λ x. x && eqb (f j) v) (lt-ltb j (k + 1) (omega arith)) ∙ ne_eqb (f j) v (λ z. e (ap f (sym h) ∙ z)))))
    (λ (h : j ≡ k → ⊥). m j ∙ same_below f v k j h)
    (cases_eq j k)

pub marked_none : (f : ℕ → ℕ) (v : ℕ) (g : ℕ → Bool) → ((j : ℕ) → g j ≡ false) → Marked g f v 0
marked_none f v g h j = h j ∙ sym (ap (λ x. x && eqb (f j) v) (le-ltb j 0 (omega arith)))

-- a set of all the atoms whose value in a line is v is that of the row
pub marked_all : (n v : ℕ) (line : List ℕ) (s : AtomSet) → (0 ≡ v → ⊥) → Marked (hasb (bits s)) (λ j. get_or line (2 * j) 0) v n → s ≡ set_of (marked v (values n line))
marked_all n v line s z m = value_is s (marked v (values n line)) (same_from_members (bits s) (marked v (values n line)) (λ j. each j ∙ sym (hasb-marked v (values n line) j z)))
  where
    each : (j : ℕ) → hasb (bits s) j ≡ eqb (get_or (values n line) j 0) v
    each j =
        ⊎_elim
        (λ (h : j < n). m j ∙ (ap (λ x. x && eqb (get_or line (2 * j) 0) v) (lt-ltb j n h) ∙ ap (λ x. eqb x v) (sym (values_at n j line h))))
        (λ (h : n ≤ j). m j ∙ (ap (λ x. x && eqb (get_or line (2 * j) 0) v) (le-ltb j n h)
        ∙ sym (ap (λ x. eqb x v) (get_or_past (values n line) j 0 (omega (arith, length-values n line))) ∙ ne_eqb 0 v z)))
        (cases_lt j n)

-- ---- numbered clauses

pub length-numbered : {X : Type 0} (f : ℕ → X → Clause) (i : ℕ) (xs : List X) → length (numbered f i xs) ≡ length xs
length-numbered f i [] = refl
length-numbered f i (x ∷ xs) = ap suc (length-numbered f (i + 1) xs)

pub get_d_numbered : {X : Type 0} (f : ℕ → X → Clause) (i k : ℕ) (xs : List X) (c : Clause) (d : X) → k < length xs → get_or (numbered f i xs) k c ≡ f (i + k) (get_or xs k d)
get_d_numbered f i k [] c d h = absurd (omega arith)
get_d_numbered f i zero (x ∷ xs) c d h = let z : i ≡ i + 0 = omega arith in ap (λ n. f n x) z
get_d_numbered f i (suc k) (x ∷ xs) c d h =
    let z : i + 1 + k ≡ i + suc k = omega arith in
    get_d_numbered f (i + 1) k xs c d (omega arith) ∙ ap (λ n. f n (get_or xs k d)) z
