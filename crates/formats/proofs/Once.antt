-- A text has one outcome.
use Rattle.std.proofs.Common.{◌≡◌, ℕ, ◌+◌, ◌*◌, ◌≤◌, ◌⊎◌, List, [], ◌∷◌, ◌++◌, length, drop, Some, Option, sym, refl, ap, ◌∙◌, subst, inl, inr, ⊎_elim, arith}
use Rattle.std.specs.List.{flat_map, AllByRecursion}
use Rattle.std.proofs.lemmas.List.{append-nil, append_assoc, length-append, drop_at}
use Rattle.formats.specs.Format.{Begins, Row, Apart, Content, IsSheet, line, clause_line, render}
use Rattle.formats.specs.Outcomes.{NoRow, Repeated, Stopped, Refused, OneOutcome}
use Rattle.formats.specs.Outcomes.Refused.{too_long, no_names, name_twice, no_clause}
use Rattle.formats.specs.Outcomes.Outcome.{accepted, refused}
use Rattle.formats.specs.Places.{values}
use Rattle.formats.proofs.Rows.{length-clause_line}
use Rattle.formats.proofs.Splits.{one_line}

values-line : (row rest : List ℕ) → 1 ≤ length row → values (length row) (clause_line row ++ rest) ≡ row
values-line [] rest h = absurd (omega arith)
values-line (v ∷ []) rest h = refl
values-line (v ∷ x ∷ vs) rest h = ap (λ l. v ∷ l) (values-line (x ∷ vs) rest (omega arith))

module _ (n : ℕ) (some : 1 ≤ n) where
  row_size : (row : List ℕ) → Row n row → length (clause_line row) ≡ 2 * n
  row_size row r = omega (arith, r.size, length-clause_line row (omega (arith, r.size)))

  row_read : (row rest : List ℕ) → Row n row → values n (clause_line row ++ rest) ≡ row
  row_read row rest r = subst (λ m. values m (clause_line row ++ rest) ≡ row) r.size (values-line row rest (omega (arith, r.size)))

  -- equal texts begin with the same clause
  row_once : (row row' rest rest' : List ℕ) → Row n row → Row n row' → clause_line row ++ rest ≡ clause_line row' ++ rest' → (row ≡ row') × (rest ≡ rest')
  row_once row row' rest rest' r r' e = (
    sym (row_read row rest r) ∙ (ap (values n) e ∙ row_read row' rest' r'),
    sym (drop_at (clause_line row) rest (2 * n) (row_size row r)) ∙ (ap (drop (2 * n)) e ∙ drop_at (clause_line row') rest' (2 * n) (row_size row' r')),
  )

  -- what comes after the last clause line
  abbrev End : List ℕ → Type 0
  End rest = (rest ≡ []) ⊎ NoRow n rest

  end_not : (rest row more : List ℕ) → End rest → Row n row → rest ≡ clause_line row ++ more → ⊥
  end_not rest row more d r e =
      ⊎_elim (λ (z : rest ≡ []). omega (arith, ap length z, ap length e, length-append (clause_line row) more, row_size row r))
      (λ (k : NoRow n rest). k row more (record { row_ok = r; is = e })) d

  rows_once : (rows rows' : List (List ℕ)) (rest rest' : List ℕ) → AllByRecursion (Row n) rows → AllByRecursion (Row n) rows' → End rest → End rest' → flat_map clause_line rows ++ rest ≡ flat_map clause_line rows' ++ rest' → (rows ≡ rows') × (rest ≡ rest')
  rows_once [] [] rest rest' a a' d d' e = (refl, e)
  rows_once [] (r ∷ rows') rest rest' a a' d d' e =
      absurd (end_not rest r (flat_map clause_line rows' ++ rest') d a'.0 (e ∙ append_assoc (clause_line r) (flat_map clause_line rows') rest'))
  rows_once (r ∷ rows) [] rest rest' a a' d d' e =
      absurd (end_not rest' r (flat_map clause_line rows ++ rest) d' a.0 (sym e ∙ append_assoc (clause_line r) (flat_map clause_line rows) rest))
  rows_once (r ∷ rows) (r' ∷ rows') rest rest' a a' d d' e =
      let p = row_once r r' (flat_map clause_line rows ++ rest) (flat_map clause_line rows' ++ rest') a.0 a'.0
      (sym (append_assoc (clause_line r) (flat_map clause_line rows) rest) ∙ (e ∙ append_assoc (clause_line r') (flat_map clause_line rows') rest')) in
      let q = rows_once rows rows' rest rest' a.1 a'.1 d d' p.1 in
      (ap (λ x. x ∷ rows) p.0 ∙ ap (λ l. r' ∷ l) q.0, q.1)

-- names and clauses, and what comes after them: nothing, or no clause line
pub record Front (text : List ℕ) (names rows : List (List ℕ)) (rest : List ℕ) : Type 0 where
  pub content : Content names rows
  pub is : text ≡ render names rows ++ rest
  pub end : End (length names) content.names_ok.some rest

module _ (text : List ℕ) where
  sheet_front : (names rows : List (List ℕ)) → IsSheet text names rows → Front text names rows []
  sheet_front names rows s = record { content = s.content; is = s.is ∙ sym (append-nil (render names rows)); end = inl refl }

  stopped_front : (at : ℕ) (s : Stopped text at) → Front text s.names s.rows s.rest
  stopped_front at s = record { content = s.content; is = s.is; end = inr s.none }

  front_begins : (names rows : List (List ℕ)) (rest : List ℕ) → Front text names rows rest → Begins text names (flat_map clause_line rows ++ rest)
  front_begins names rows rest f = record { names_ok = f.content.names_ok; is = f.is ∙ append_assoc (line names) (flat_map clause_line rows) rest }

  fronts_once : (names rows names' rows' : List (List ℕ)) (rest rest' : List ℕ) → Front text names rows rest → Front text names' rows' rest' → (names ≡ names') × (rows ≡ rows') × (rest ≡ rest')
  fronts_once names rows names' rows' rest rest' f g =
      let p = one_line text _ _ names names' (front_begins names rows rest f) (front_begins names' rows' rest' g) in
      let a : AllByRecursion (Row (length names)) rows' = subst (λ w. AllByRecursion (Row (length w)) rows') (sym p.0) g.content.rows_ok in
      let d : (rest' ≡ []) ⊎ NoRow (length names) rest' = subst (λ w. (rest' ≡ []) ⊎ NoRow (length w) rest') (sym p.0) g.end in
      let q = rows_once (length names) f.content.names_ok.some rows rows' rest rest' f.content.rows_ok a f.end d p.1 in
      (p.0, q.0, q.1)

  -- names that are apart are no names of which one stands twice
  apart_once : (names rows : List (List ℕ)) (rest : List ℕ) → Front text names rows rest → Repeated text → ⊥
  apart_once names rows rest f r =
      r.again (subst Apart (one_line text _ _ names r.names (front_begins names rows rest f) r.begins).0 f.content.apart)

  stopped_begins : (at : ℕ) (s : Stopped text at) → Begins text s.names (flat_map clause_line s.rows ++ s.rest)
  stopped_begins at s = front_begins s.names s.rows s.rest (stopped_front at s)

  stopped_apart : (at : ℕ) → Stopped text at → Repeated text → ⊥
  stopped_apart at s r = apart_once s.names s.rows s.rest (stopped_front at s) r

  stopped_not : (names rows : List (List ℕ)) (at : ℕ) → IsSheet text names rows → Stopped text at → ⊥
  stopped_not names rows at s t =
      let p = fronts_once names rows t.names t.rows [] t.rest (sheet_front names rows s) (stopped_front at t) in
      omega (arith, t.more, ap length p.2)

  stopped_once : (at at' : ℕ) → Stopped text at → Stopped text at' → at ≡ at'
  stopped_once at at' s t =
      let p = fronts_once s.names s.rows t.names t.rows s.rest t.rest (stopped_front at s) (stopped_front at' t) in
      s.number ∙ (ap (λ l. 2 + length l) p.1 ∙ sym t.number)

  -- each refusal rules out the others
  refusals_once : (n n' : ℕ) (l l' : Option ℕ) → Refused text n l → Refused text n' l' → (n ≡ n') × (l ≡ l')
  refusals_once n n' l l' (too_long e k h) (too_long e' k' h') = (e ∙ sym e', k ∙ sym k')
  refusals_once n n' l l' (too_long e k h) (no_names e' k' h' r') = absurd (omega arith)
  refusals_once n n' l l' (too_long e k h) (name_twice e' k' h' r') = absurd (omega arith)
  refusals_once n n' l l' (too_long e k h) (no_clause at' e' k' h' r') = absurd (omega arith)
  refusals_once n n' l l' (no_names e k h r) (too_long e' k' h') = absurd (omega arith)
  refusals_once n n' l l' (no_names e k h r) (no_names e' k' h' r') = (e ∙ sym e', k ∙ sym k')
  refusals_once n n' l l' (no_names e k h r) (name_twice e' k' h' r') = absurd (r _ _ r'.begins)
  refusals_once n n' l l' (no_names e k h r) (no_clause at' e' k' h' r') = absurd (r _ _ (stopped_begins at' r'))
  refusals_once n n' l l' (name_twice e k h r) (too_long e' k' h') = absurd (omega arith)
  refusals_once n n' l l' (name_twice e k h r) (no_names e' k' h' r') = absurd (r' _ _ r.begins)
  refusals_once n n' l l' (name_twice e k h r) (name_twice e' k' h' r') = (e ∙ sym e', k ∙ sym k')
  refusals_once n n' l l' (name_twice e k h r) (no_clause at' e' k' h' r') = absurd (stopped_apart at' r' r)
  refusals_once n n' l l' (no_clause at e k h r) (too_long e' k' h') = absurd (omega arith)
  refusals_once n n' l l' (no_clause at e k h r) (no_names e' k' h' r') = absurd (r' _ _ (stopped_begins at r))
  refusals_once n n' l l' (no_clause at e k h r) (name_twice e' k' h' r') = absurd (stopped_apart at r r')
  refusals_once n n' l l' (no_clause at e k h r) (no_clause at' e' k' h' r') = (e ∙ sym e', k ∙ (ap Some (stopped_once at at' r r') ∙ sym k'))

  -- a sheet is not refused
  sheet_not : (names rows : List (List ℕ)) (n : ℕ) (l : Option ℕ) → IsSheet text names rows → Refused text n l → ⊥
  sheet_not names rows n l s (too_long e k h) = omega (arith, s.short)
  sheet_not names rows n l s (no_names e k h r) = r _ _ (front_begins names rows [] (sheet_front names rows s))
  sheet_not names rows n l s (name_twice e k h r) = apart_once names rows [] (sheet_front names rows s) r
  sheet_not names rows n l s (no_clause at e k h r) = stopped_not names rows at s r

pub one_outcome : OneOutcome
one_outcome text (accepted n r) (accepted n' r') a b =
    let p = fronts_once text n r n' r' [] [] (sheet_front text n r a) (sheet_front text n' r' b) in ap (λ x. accepted x r) p.0 ∙ ap (accepted n') p.1
one_outcome text (accepted n r) (refused k l) a b = absurd (sheet_not text n r k l a b)
one_outcome text (refused k l) (accepted n r) a b = absurd (sheet_not text n r k l b a)
one_outcome text (refused k l) (refused k' l') a b = let p = refusals_once text k k' l l' a b in ap (λ x. refused x l) p.0 ∙ ap (refused k') p.1
