-- Every atom of an explanation of a sheet has a name.
use Rattle.std.proofs.Common.{◌≡◌, ℕ, ◌+◌, ◌<◌, ◌≤◌, Bool, List, [], ◌∷◌, map, length, get_or, sym, refl, ◌∙◌, subst, ⊎_elim, arith}
use mathlib.Core.List.Memᴰ
use mathlib.Core.List.{Memᴰ}
use Rattle.std.specs.List.{ContainsAt as Has, AllByRecursion}
use Rattle.std.proofs.ByRecursion.{all-has, All-take}
use Rattle.std.proofs.lemmas.List.{get_or_past}
use Rattle.std.proofs.lemmas.Bool.{cases_lt, eqb-true}
use Rattle.atoms.specs.Atoms.{bits, width}
use Rattle.atoms.specs.Sets.{has}
use Rattle.atoms.specs.declared.AtomSet.{AtomSet}
use Rattle.models.proofs.Depth.{minimal_below}
use Rattle.clauses.specs.Sources.{numbered}
use Rattle.clauses.specs.declared.clauses.Clause.{Clause}
use Rattle.clauses.proofs.Decided.{laws}
use Rattle.formats.specs.Format.{Content, Row}
use Rattle.sheets.specs.Meaning.{row_clause, row_clauses}
use Rattle.sheets.proofs.Marks.{rows_read_off}
use Rattle.writers.specs.Documents.{Unnamed}
use Rattle.explaining.specs.Firsts.{Firsts}

-- ---- what holds of each element

all_from : {X : Type 0} (P : X → Type 0) (xs : List X) → ((x : X) → Memᴰ x xs → P x) → AllByRecursion P xs
all_from P [] f = tt
all_from P (x ∷ xs) f = (f x (Memᴰ.head refl), all_from P xs (λ y m. f y (Memᴰ.tail m)))

all_unmap : {X Y : Type 0} (P : Y → Type 0) (f : X → Y) (xs : List X) → AllByRecursion P (map f xs) → AllByRecursion (λ x. P (f x)) xs
all_unmap P f [] a = tt
all_unmap P f (x ∷ xs) a = (a.0, all_unmap P f xs a.1)

-- ---- the heads of a sheet's clauses

module _ (n : ℕ) (few : n ≤ width) where
  -- the atoms of a head are places of its row
  row_head : (i : ℕ) (row : List ℕ) → Row n row → (a : ℕ) → has (bits (row_clause i row).head) a → a < n
  row_head i row r a h =
      let v : get_or row a 0 ≡ 104 = eqb-true (get_or row a 0) 104 (sym ((rows_read_off i row (omega (arith, r.size))).head a) ∙ h) in
      ⊎_elim
      (λ (l : a < length row). omega (arith, r.size))
      (λ (l : length row ≤ a). absurd (omega (arith, v, get_or_past row a 0 l)))
      (cases_lt a (length row))

  heads : (i : ℕ) (rows : List (List ℕ)) → AllByRecursion (Row n) rows → (c : Clause) → Memᴰ c (numbered row_clause i rows) → (a : ℕ)
      → has (bits c.head) a → a < n
  heads i [] r c m a h = absurd (Memᴰ.not-nil m)
  heads i (row ∷ rows) r c m a h =
      ⊎_elim
      (λ (e : c ≡ row_clause i row). row_head i row r.0 a (subst (λ (d : Clause). has (bits d.head) a) e h))
      (λ (k : Memᴰ c (numbered row_clause (i + 1) rows)). heads (i + 1) rows r.1 c k a h)
      (Memᴰ.cases_cons m)

-- an explanation holds only atoms of heads
pub named : (names rows : List (List ℕ)) → Content names rows → (sets : List AtomSet) (places : ℕ) (complete : Bool)
    → Firsts (row_clauses rows) places complete (map bits sets) → (s : AtomSet) → Has sets s → Unnamed (length names) s → ⊥
named names rows k sets places complete f s h u =
    let n : ℕ = length names in
    let P : ℕ → Type 0 = λ m. (a : ℕ) → has m a → a < n in
    let each : AllByRecursion P f.ms =
    all_from P f.ms (λ m i. minimal_below laws (row_clauses rows) n (heads n k.names_ok.few 0 rows k.rows_ok) m (f.explanations.only m i)) in
    let out : AllByRecursion P (map bits sets) = subst (AllByRecursion P) (sym f.out_is) (All-take P places f.ms each) in
    let here : P (bits s) = all-has (λ (x : AtomSet). P (bits x)) sets s (all_unmap P bits sets out) h in
    omega (arith, here u.0 u.1, u.2)
