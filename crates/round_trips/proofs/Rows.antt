-- Clauses and their rows, one from the other.
use Rattle.std.proofs.Common.{◌≡◌, ℕ, ◌+◌, ◌<◌, ◌≤◌, Bool, true, false, cond, eqb, List, [], ◌∷◌, map, get_or, sym, refl, ap, ◌∙◌, subst, inl, inr, ⊎_elim, arith}
use Rattle.std.specs.List.{range_with_len, ContainsAt as Has, AllByRecursion}
use Rattle.std.proofs.lemmas.List.FromFn.{get_or-map-range_with_len, length-map-range_with_len}
use Rattle.std.proofs.ByRecursion.{All-from_get_or, All-get_or, all_has_itself, All-map, All-weaker}
use Rattle.std.proofs.lemmas.List.{ext_get_or, get_or_past}
use Rattle.std.proofs.lemmas.Bool.{cases_lt, cond_both, eqb-true}
use Rattle.atoms.specs.Atoms.{bits, set_of, width}
use Rattle.atoms.specs.Sets.{hasb}
use Rattle.atoms.specs.declared.AtomSet.{AtomSet}
use Rattle.atoms.proofs.Members.{lacks, same_from_members}
use Rattle.atoms.proofs.Values.{same_value}
use Rattle.clauses.specs.Sources.{numbered}
use Rattle.clauses.specs.declared.clauses.Clause.{Clause}
use Rattle.clauses.specs.declared.origins.Kind.TheVariants.{Sheet}
use Rattle.formats.specs.Format.{Row, Value}
use Rattle.sheets.specs.Meaning.{ReadOff, marked, row_clause}
use Rattle.sheets.proofs.Marks.{rows_read_off}
use Rattle.writers.specs.Documents.Misfit.{in_body, in_head, in_both}
use Rattle.writers.specs.Documents.{Among, Misfit, row_by, value_of}
use Rattle.round_trips.specs.Replies.{on_line}

-- the row of a clause for n names
abbrev pub row_of : ℕ → Clause → List ℕ
row_of n c = row_by (value_of c) n

row_at : (n : ℕ) (c : Clause) (k : ℕ) → k < n → get_or (row_of n c) k 0 ≡ value_of c k
row_at n c k h = get_or-map-range_with_len (value_of c) 0 n k k 0 h (omega arith)

-- ---- the clause of a row has that row

-- a value by its two tests
value_back : (v : ℕ) → Value v → cond (eqb v 98) 98 (cond (eqb v 104) 104 46) ≡ v
value_back v h =
    ⊎_elim (λ (e : v ≡ 98). subst (λ x. cond (eqb x 98) 98 (cond (eqb x 104) 104 46) ≡ x) (sym e) refl)
    (⊎_elim (λ (e : v ≡ 104). subst (λ x. cond (eqb x 98) 98 (cond (eqb x 104) 104 46) ≡ x) (sym e) refl)
    (λ (e : v ≡ 46). subst (λ x. cond (eqb x 98) 98 (cond (eqb x 104) 104 46) ≡ x) (sym e) refl)) h

module _ (n : ℕ) (few : n ≤ width) where
  module _ (i : ℕ) (row : List ℕ) (r : Row n row) where
    read_off : ReadOff row (row_clause i row)
    read_off = rows_read_off i row (omega (arith, r.size))

    row_back : row_of n (row_clause i row) ≡ row
    row_back =
        ext_get_or 0 (row_of n (row_clause i row)) row (length-map-range_with_len (value_of (row_clause i row)) 0 n ∙ sym r.size)
        (λ k h.
        let m : k < n = omega (arith, length-map-range_with_len (value_of (row_clause i row)) 0 n) in
        row_at n (row_clause i row) k m
        ∙ (ap (λ b. cond b 98 (cond (hasb (bits (row_clause i row).head) k) 104 46)) (read_off.body k)
        ∙ (ap (λ b. cond (eqb (get_or row k 0) 98) 98 (cond b 104 46)) (read_off.head k)
        ∙ value_back (get_or row k 0) (All-get_or Value row k 0 (omega (arith, r.size)) r.values))))

    -- a value that the row has at a place stands within the row
    value_within : (k v : ℕ) → (0 ≡ v → ⊥) → eqb (get_or row k 0) v ≡ true → k < n
    value_within k v z e =
        ⊎_elim (λ (h : k < n). h)
        (λ (h : n ≤ k). absurd (z (sym (get_or_past row k 0 (omega (arith, r.size))) ∙ eqb-true (get_or row k 0) v e)))
        (cases_lt k n)

    fits : Misfit n (row_clause i row) → ⊥
    fits (in_body u) = omega (arith, u.2, value_within u.0 98 (λ z. omega arith) (sym (read_off.body u.0) ∙ u.1))
    fits (in_head u) = omega (arith, u.2, value_within u.0 104 (λ z. omega arith) (sym (read_off.head u.0) ∙ u.1))
    fits (in_both k b h) = omega (arith, eqb-true (get_or row k 0) 98 (sym (read_off.body k) ∙ b), eqb-true (get_or row k 0) 104 (sym (read_off.head k) ∙ h))

  pub rows_back : (i : ℕ) (rows : List (List ℕ)) → AllByRecursion (Row n) rows → map (row_of n) (numbered row_clause i rows) ≡ rows
  rows_back i [] a = refl
  rows_back i (r ∷ rs) a =
      ap (λ x. x ∷ map (row_of n) (numbered row_clause (i + 1) rs)) (row_back i r a.0) ∙ ap (λ l. r ∷ l) (rows_back (i + 1) rs a.1)

  pub rows_fit : (i : ℕ) (rows : List (List ℕ)) → AllByRecursion (Row n) rows → AllByRecursion (λ c. Misfit n c → ⊥) (numbered row_clause i rows)
  rows_fit i [] a = tt
  rows_fit i (r ∷ rs) a = (fits i r a.0, rows_fit (i + 1) rs a.1)

-- ---- the row of a clause has that clause

value_of_lem : (c : Clause) (k : ℕ) → Value (value_of c k)
value_of_lem c k =
    cond_both (hasb (bits c.body) k) 98 (cond (hasb (bits c.head) k) 104 46) Value (λ _. inl refl)
    (λ _. cond_both (hasb (bits c.head) k) 104 46 Value (λ _. inr (inl refl)) (λ _. inr (inr refl)))

pub row_ok : (n : ℕ) (c : Clause) → Row n (row_of n c)
row_ok n c = record {
  size = length-map-range_with_len (value_of c) 0 n;
  values = All-map Value (value_of c) (range_with_len 0 n) (All-from_get_or (λ k. Value (value_of c k)) (range_with_len 0 n) 0 (λ i h. value_of_lem c (get_or (range_with_len 0 n) i 0)));
}

pub rows_ok : (n : ℕ) (cs : List Clause) → AllByRecursion (Row n) (map (row_of n) cs)
rows_ok n [] = tt
rows_ok n (c ∷ cs) = (row_ok n c, rows_ok n cs)

same_set : (s t : AtomSet) → ((k : ℕ) → hasb (bits s) k ≡ hasb (bits t) k) → s ≡ t
same_set s t h = same_value s t (same_from_members (bits s) (bits t) h)

test_body : (b h : Bool) → eqb (cond b 98 (cond h 104 46)) 98 ≡ b
test_body true h = refl
test_body false true = refl
test_body false false = refl

test_head : (b h : Bool) → (b ≡ true → h ≡ true → ⊥) → eqb (cond b 98 (cond h 104 46)) 104 ≡ h
test_head true true z = absurd (z refl refl)
test_head true false z = refl
test_head false true z = refl
test_head false false z = refl

module _ (n : ℕ) (few : n ≤ width) where
  module _ (i : ℕ) (c : Clause) (m : Misfit n c → ⊥) where
    read_row : ReadOff (row_of n c) (row_clause i (row_of n c))
    read_row = read_off n few i (row_of n c) (row_ok n c)

    past : (k v : ℕ) → n ≤ k → eqb (get_or (row_of n c) k 0) v ≡ eqb 0 v
    past k v h = ap (λ x. eqb x v) (get_or_past (row_of n c) k 0 (omega (arith, length-map-range_with_len (value_of c) 0 n)))

    body_back : set_of (marked 98 (row_of n c)) ≡ c.body
    body_back = same_set (set_of (marked 98 (row_of n c))) c.body (λ k.
        ⊎_elim
        (λ (h : k < n). read_row.body k ∙ (ap (λ x. eqb x 98) (row_at n c k h) ∙ test_body (hasb (bits c.body) k) (hasb (bits c.head) k)))
        (λ (h : n ≤ k). read_row.body k ∙ (past k 98 h ∙ sym (lacks (bits c.body) k (λ z. m (in_body (k, z, h))))))
        (cases_lt k n))

    head_back : set_of (marked 104 (row_of n c)) ≡ c.head
    head_back = same_set (set_of (marked 104 (row_of n c))) c.head (λ k.
        ⊎_elim
        (λ (h : k < n). read_row.head k ∙ (ap (λ x. eqb x 104) (row_at n c k h) ∙ test_head (hasb (bits c.body) k) (hasb (bits c.head) k) (λ x y. m (in_both k x y))))
        (λ (h : n ≤ k). read_row.head k ∙ (past k 104 h ∙ sym (lacks (bits c.head) k (λ z. m (in_head (k, z, h))))))
        (cases_lt k n))

    clause_back : row_clause i (row_of n c) ≡ on_line i c
    clause_back =
        ap (λ (s : AtomSet). let d : Clause = record { body = s; head = set_of (marked 104 (row_of n c)); origin = record { kind = Sheet; number = i + 2 } } in d) body_back
        ∙ ap (λ (s : AtomSet). let d : Clause = record { body = c.body; head = s; origin = record { kind = Sheet; number = i + 2 } } in d) head_back

  pub clauses_back : (i : ℕ) (cs : List Clause) → AllByRecursion (λ c. Misfit n c → ⊥) cs → numbered row_clause i (map (row_of n) cs) ≡ numbered on_line i cs
  clauses_back i [] a = refl
  clauses_back i (c ∷ cs) a =
      ap (λ d. d ∷ numbered row_clause (i + 1) (map (row_of n) cs)) (clause_back i c a.0) ∙ ap (λ l. on_line i c ∷ l) (clauses_back (i + 1) cs a.1)

-- none among them is so, and so each is not
pub each_not : {X : Type 0} (P : X → Type 0) (xs : List X) → (Among P xs → ⊥) → AllByRecursion (λ x. P x → ⊥) xs
each_not P xs n = All-weaker (Has xs) (λ x. P x → ⊥) (λ x h p. n (x, h, p)) xs (all_has_itself xs)
