-- A line by its places.
use Rattle.std.proofs.Common.{◌≡◌, ℕ, zero, suc, ◌+◌, ◌*◌, ◌<◌, ◌≤◌, List, [], ◌∷◌, map, length, get_or, set, sym, ap, ◌∙◌, arith, below_more}
use Rattle.std.specs.List.{range_with_len}
use Rattle.std.proofs.lemmas.Bool.Decides.{nat_tests}
use Rattle.std.proofs.lemmas.List.{get_or-set_same, get_or-set_other, length-set}
use Rattle.formats.specs.Format.{clause_line}
use Rattle.formats.specs.Places.{gap}
use Rattle.writers.specs.Documents.{row_by}

-- the byte of atom j and what stands after it
abbrev pub PairAt : (ℕ → ℕ) → ℕ → List ℕ → ℕ → Type 0
PairAt f n t j = (get_or t (2 * j) 0 ≡ f j) × (get_or t (2 * j + 1) 0 ≡ gap n j)

-- the pairs of the first k atoms stand
abbrev pub PairsAt : (ℕ → ℕ) → ℕ → List ℕ → ℕ → Type 0
PairsAt f n t k = (j : ℕ) → j < k → PairAt f n t j

pub pairs_more : (f : ℕ → ℕ) (n k v g : ℕ) (t : List ℕ) → 2 * k + 1 < length t → v ≡ f k → g ≡ gap n k → PairsAt f n t k → PairsAt f n (set (set t (2 * k) v) (2 * k + 1) g) (k + 1)
pairs_more f n k v g t l e d p =
    let s : List ℕ = set t (2 * k) v in
    let m : length s ≡ length t = length-set t (2 * k) v in
    below_more (PairAt f n (set s (2 * k + 1) g)) k
    (λ j h. (
      get_or-set_other s (2 * k + 1) (2 * j) g 0 (λ z. omega arith) ∙ (get_or-set_other t (2 * k) (2 * j) v 0 (λ z. omega arith) ∙ (p j h).0),
      get_or-set_other s (2 * k + 1) (2 * j + 1) g 0 (λ z. omega arith) ∙ (get_or-set_other t (2 * k) (2 * j + 1) v 0 (λ z. omega arith) ∙ (p j h).1),
    )) (
      get_or-set_other s (2 * k + 1) (2 * k) g 0 (λ z. omega arith) ∙ (get_or-set_same t (2 * k) v 0 (omega arith) ∙ e),
      get_or-set_same s (2 * k + 1) g 0 (omega arith) ∙ d,
    )

-- a line whose pairs stand is the line of the bytes
line_from : (f : ℕ → ℕ) (a n : ℕ) (t : List ℕ) → length t ≡ 2 * suc n
    → ((j : ℕ) → j < suc n → (get_or t (2 * j) 0 ≡ f (a + j)) × (get_or t (2 * j + 1) 0 ≡ gap (suc n) j)) → t ≡ clause_line (map f (range_with_len a (suc n)))
line_from f a n [] e p = absurd (omega arith)
line_from f a n (x ∷ []) e p = absurd (omega arith)
line_from f a zero (x ∷ y ∷ []) e p =
    let q = p 0 (omega arith) in
    let z : a + 0 ≡ a = omega arith in
    ap (λ v. v ∷ y ∷ []) (q.0 ∙ ap f z) ∙ ap (λ v. f a ∷ v ∷ []) q.1
line_from f a zero (x ∷ y ∷ w ∷ t) e p = absurd (omega arith)
line_from f a (suc n) (x ∷ y ∷ t) e p =
    let q = p 0 (omega arith) in
    let z : a + 0 ≡ a = omega arith in
    let g : gap (suc (suc n)) 0 ≡ 32 = grind (arith, nat_tests) in
    let r = line_from f (a + 1) n t (omega arith) (λ j h.
    let u = p (suc j) (omega arith) in
    let i : 2 * suc j ≡ suc (suc (2 * j)) = omega arith in
    let k : 2 * suc j + 1 ≡ suc (suc (2 * j + 1)) = omega arith in
    let o : a + suc j ≡ a + 1 + j = omega arith in
    let d : gap (suc (suc n)) (suc j) ≡ gap (suc n) j = grind (arith, nat_tests) in (
      ap (λ b. get_or (x ∷ y ∷ t) b 0) (sym i) ∙ (u.0 ∙ ap f o),
      ap (λ b. get_or (x ∷ y ∷ t) b 0) (sym k) ∙ (u.1 ∙ d),
    )) in
    ap (λ v. v ∷ y ∷ t) (q.0 ∙ ap f z) ∙ (ap (λ v. f a ∷ v ∷ t) (q.1 ∙ g) ∙ ap (λ l. f a ∷ 32 ∷ l) r)

pub line_is : (f : ℕ → ℕ) (n : ℕ) (t : List ℕ) → 1 ≤ n → length t ≡ 2 * n → PairsAt f n t n → t ≡ clause_line (row_by f n)
line_is f zero t h e p = absurd (omega arith)
line_is f (suc n) t h e p = line_from f 0 n t e (λ j l. let z : j ≡ 0 + j = omega arith in ((p j l).0 ∙ ap f z, (p j l).1))
