-- The lines and the clauses that are handed out.
use Rattle.std.proofs.Common.{◌≡◌, ℕ, zero, suc, ◌+◌, ◌-◌, ◌<◌, ◌≤◌, List, [], ◌∷◌, ◌++◌, length, get_or, drop, sym, refl, ap, ◌∙◌, subst, arith}
use Rattle.std.specs.List.{flat_map}
use Rattle.std.proofs.lemmas.List.{drop_all, drop_more}
use Rattle.formats.specs.Format.{line, clause_line}
use Rattle.clauses.specs.declared.clauses.Clause.{Clause}
use Rattle.sheets.specs.Lines.{LineText, clause_lines, sheet_lines, left, line_bytes, LinesMakeText}
use Rattle.sheets.specs.Lines.LineText.{names_part, clause_part}
use Rattle.sheets.specs.Sheets.{clauses, names, rows}
use Rattle.sheets.specs.declared.held.Sheet.{Sheet}
use Rattle.sheets.specs.declared.reader.SheetLines.{SheetLines}
use Rattle.sheets.proofs.Parts.{clauses-count}

length-clause_lines : (i : ℕ) (rows : List (List ℕ)) → length (clause_lines i rows) ≡ length rows
length-clause_lines i [] = refl
length-clause_lines i (r ∷ rows) = ap suc (length-clause_lines (i + 1) rows)

get_or-clause_lines : (i k : ℕ) (rows : List (List ℕ)) (d : LineText) → k < length rows → get_or (clause_lines i rows) k d ≡ clause_part (clause_line (get_or rows k [])) (i + k + 2)
get_or-clause_lines i k [] d h = absurd (omega arith)
get_or-clause_lines i zero (r ∷ rows) d h = let z : i + 2 ≡ i + 0 + 2 = omega arith in ap (clause_part (clause_line r)) z
get_or-clause_lines i (suc k) (r ∷ rows) d h =
    let z : i + 1 + k + 2 ≡ i + suc k + 2 = omega arith in
    get_or-clause_lines (i + 1) k rows d (omega arith) ∙ ap (clause_part (clause_line (get_or rows k []))) z

module _ (names rows : List (List ℕ)) (some : 1 ≤ length names) where
  lines_are : sheet_lines names rows ≡ names_part (line names) 1 ∷ clause_lines 0 rows
  lines_are = go names some
    where
      go : (ws : List (List ℕ)) → 1 ≤ length ws → sheet_lines ws rows ≡ names_part (line ws) 1 ∷ clause_lines 0 rows
      go [] h = absurd (omega arith)
      go (w ∷ ws) h = refl

  pub lines_count : length (sheet_lines names rows) ≡ length rows + 1
  lines_count = ap length lines_are ∙ omega (arith, length-clause_lines 0 rows)

  -- the names line comes first
  pub read_names : drop 0 (sheet_lines names rows) ≡ names_part (line names) 1 ∷ drop (0 + 1) (sheet_lines names rows)
  read_names = lines_are ∙ ap (λ l. names_part (line names) 1 ∷ drop 1 l) (sym lines_are)

  -- then the clause lines
  pub read_clause : (k : ℕ) → (k ≡ 0 → ⊥) → k ≤ length rows → drop k (sheet_lines names rows) ≡ clause_part (clause_line (get_or rows (k - 1) [])) (k + 1) ∷ drop (k + 1) (sheet_lines names rows)
  read_clause zero n h = absurd (n refl)
  read_clause (suc k) n h =
      let y : suc k - 1 ≡ k = omega arith in
      let z : 0 + k + 2 ≡ suc k + 1 = omega arith in
      drop_more (sheet_lines names rows) (suc k) (names_part [] 0) (omega (arith, lines_count))
      ∙ ap (λ x. x ∷ drop (suc k + 1) (sheet_lines names rows))
      (ap (λ l. get_or l (suc k) (names_part [] 0)) lines_are
      ∙ (get_or-clause_lines 0 k rows (names_part [] 0) (omega arith)
      ∙ (ap (clause_part (clause_line (get_or rows k []))) z ∙ ap (λ x. clause_part (clause_line (get_or rows x [])) (suc k + 1)) (sym y))))

  pub read_all : (k : ℕ) → length rows < k → drop k (sheet_lines names rows) ≡ []
  read_all k h = drop_all k (sheet_lines names rows) (omega (arith, lines_count))

pub read_none : (names rows : List (List ℕ)) (k : ℕ) → names ≡ [] → drop k (sheet_lines names rows) ≡ []
read_none names rows k e = ap (λ ws. drop k (sheet_lines ws rows)) e ∙ drop_all k [] (omega arith)

module _ (r : SheetLines) where
  -- the reader, one line on
  abbrev on : SheetLines
  on = record { sheet = r.sheet; read = r.read + 1 }

  pub left_no_names : names r.sheet ≡ [] → left r ≡ []
  unfolding left
  left_no_names e = read_none (names r.sheet) (rows r.sheet) r.read e

  module _ (some : 1 ≤ length (names r.sheet)) where
    pub left_none : length (rows r.sheet) < r.read → left r ≡ []
    unfolding left
    left_none h = read_all (names r.sheet) (rows r.sheet) some r.read h

    pub left-names : (part : List ℕ) → part ≡ line (names r.sheet) → r.read ≡ 0 → left r ≡ names_part part 1 ∷ left on
    unfolding left
    left-names part e z =
        subst (λ k. drop k lines ≡ names_part part 1 ∷ drop (k + 1) lines) (sym z)
        (read_names (names r.sheet) (rows r.sheet) some ∙ ap (λ l. names_part l 1 ∷ drop 1 lines) (sym e))
      where
        lines : List LineText
        lines = sheet_lines (names r.sheet) (rows r.sheet)

    pub left_clause : (part : List ℕ) → part ≡ clause_line (get_or (rows r.sheet) (r.read - 1) []) → (r.read ≡ 0 → ⊥) → r.read ≤ length (rows r.sheet) → left r ≡ clause_part part (r.read + 1) ∷ left on
    unfolding left
    left_clause part e n h =
        read_clause (names r.sheet) (rows r.sheet) some r.read n h
        ∙ ap (λ l. clause_part l (r.read + 1) ∷ drop (r.read + 1) (sheet_lines (names r.sheet) (rows r.sheet))) (sym e)

module _ (s : Sheet) where
  pub clauses_none : (i : ℕ) → s.layout.clauses ≤ i → drop i (clauses s) ≡ []
  clauses_none i h = drop_all i (clauses s) (omega (arith, clauses-count s))

  pub clauses_next : (i : ℕ) (c : Clause) → i < s.layout.clauses → c ≡ get_or (clauses s) i c → drop i (clauses s) ≡ c ∷ drop (i + 1) (clauses s)
  clauses_next i c h e =
      drop_more (clauses s) i c (omega (arith, clauses-count s)) ∙ ap (λ x. x ∷ drop (i + 1) (clauses s)) (sym e)

joined_clauses : (i : ℕ) (rows : List (List ℕ)) → flat_map line_bytes (clause_lines i rows) ≡ flat_map clause_line rows
joined_clauses i [] = refl
joined_clauses i (r ∷ rows) = ap (λ l. clause_line r ++ l) (joined_clauses (i + 1) rows)

pub lines_make_text : LinesMakeText
lines_make_text [] rows h = absurd (omega arith)
lines_make_text (w ∷ ws) rows h = ap (λ l. line (w ∷ ws) ++ l) (joined_clauses 0 rows)
