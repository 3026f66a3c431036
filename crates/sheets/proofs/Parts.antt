-- What the fields of a sheet say of its names, its rows and the parts of its text.
use Rattle.std.proofs.Common.{◌≡◌, ℕ, zero, suc, ◌+◌, ◌-◌, ◌*◌, ◌<◌, ◌≤◌, eqb, List, [], length, get_or, take, drop, Some, None, Option, sym, refl, ap, ◌∙◌, subst, arith, MatchOption}
use Rattle.std.specs.List.{flat_map, between}
use Rattle.std.proofs.lemmas.Nat.{mul-le}
use Rattle.std.proofs.lemmas.List.{take_at, drop_at, drop-drop}
use Rattle.std.proofs.lemmas.Bool.{cond-true, cond-false, eq-eqb, ne_eqb}
use Rattle.atoms.specs.Atoms.{index, width}
use Rattle.atoms.specs.declared.Atom.{Atom}
use Rattle.formats.specs.Format.{longest, line, clause_line}
use Rattle.formats.specs.Places.{FirstAt, Lacks, values, words, place}
use Rattle.formats.proofs.Rows.{length-rows, joined_part, all_sized, place_within, row_of_part}
use Rattle.sheets.specs.Meaning.{row_clause}
use Rattle.sheets.specs.Sheets.{clauses, names, rows}
use Rattle.sheets.specs.declared.held.Sheet.{Sheet}
use Rattle.clauses.specs.declared.clauses.Clause.{Clause}
use Rattle.sheets.proofs.Marks.{length-numbered, get_d_numbered}

-- the word of number k is the name of the atom k
pub atom_found : (o : Option Atom) (ws : List (List ℕ)) (w : List ℕ) (k : ℕ) → length ws ≤ width → FirstAt ws w k → MatchOption o (width ≤ k) (λ a. (k < width) × (index a ≡ k)) → MatchOption o (Lacks ws w) (λ a. FirstAt ws w (index a))
atom_found None ws w k h f c = absurd (omega (arith, f.within))
atom_found (Some a) ws w k h f c = subst (FirstAt ws w) (sym c.1) f

module _ (s : Sheet) where
  pub no_names : s.layout.names ≡ 0 → names s ≡ []
  unfolding names
  no_names e = cond-true (eqb s.layout.names 0) [] (words s.text.now) (eq-eqb s.layout.names 0 e)

  pub some_names : (s.layout.names ≡ 0 → ⊥) → names s ≡ words s.text.now
  unfolding names
  some_names n = cond-false (eqb s.layout.names 0) [] (words s.text.now) (ne_eqb s.layout.names 0 n)

  pub names-count : s.layout.names ≡ length (names s)
  names-count = go s.layout.names refl
    where
      go : (n : ℕ) → n ≡ s.layout.names → s.layout.names ≡ length (names s)
      go zero e = sym (ap length (no_names (sym e)) ∙ e)
      go (suc n) e = sym (ap length (some_names (λ z. omega arith)) ∙ s.named (omega arith))

  pub rows-count : length (rows s) ≡ s.layout.clauses
  unfolding rows
  rows-count = length-rows s.layout.names s.layout.clauses (drop s.layout.start s.text.now)

  pub clauses-count : length (clauses s) ≡ s.layout.clauses
  clauses-count = length-numbered row_clause 0 (rows s) ∙ rows-count

  pub clause_of_row : (i : ℕ) (d : Clause) → i < s.layout.clauses → get_or (clauses s) i d ≡ row_clause i (get_or (rows s) i [])
  clause_of_row i d h =
      let z : 0 + i ≡ i = omega arith in
      get_d_numbered row_clause 0 i (rows s) d [] (omega (arith, rows-count)) ∙ ap (λ k. row_clause k (get_or (rows s) i [])) z

  -- the number of clauses is small
  pub clauses_few : s.layout.clauses ≤ longest
  clauses_few = go s.layout.names refl
    where
      go : (n : ℕ) → n ≡ s.layout.names → s.layout.clauses ≤ longest
      go zero z = omega (arith, s.bare (sym z))
      go (suc n) z =
          omega (arith, s.ends, s.short, mul-le s.layout.clauses 1 s.layout.clauses (2 * s.layout.names) (omega arith) (omega arith))

  pub first_part : 1 ≤ s.layout.names → take (s.layout.start - 0) s.text.now ≡ line (names s)
  first_part h =
      let z : s.layout.start - 0 ≡ s.layout.start = omega arith in
      ap (λ x. take x s.text.now) z
      ∙ (ap (take s.layout.start) (s.whole h)
      ∙ (take_at (line (words s.text.now)) _ s.layout.start (s.starts h) ∙ ap line (sym (some_names (λ e. omega arith)))))

  -- where row i lies
  abbrev pub row_place : ℕ → ℕ
  row_place i = place s.layout.start s.layout.names i

  module _ (i : ℕ) (h : i < s.layout.clauses) where
    pub row_within : row_place i + 2 * s.layout.names ≤ length s.text.now
    row_within = place_within s.layout.names s.layout.start s.layout.clauses i (length s.text.now) s.ends h

    names_then : 1 ≤ s.layout.names
    names_then = go s.layout.names refl
      where
        go : (n : ℕ) → n ≡ s.layout.names → 1 ≤ s.layout.names
        go zero z = absurd (omega (arith, s.bare (sym z)))
        go (suc n) z = omega arith

    pub row_values : values s.layout.names (between (row_place i) (row_place i + 2 * s.layout.names) s.text.now) ≡ get_or (rows s) i []
    unfolding rows
    row_values = row_of_part s.text.now s.layout.names s.layout.start s.layout.clauses i h

    pub row_part : between (row_place i) (row_place i + 2 * s.layout.names) s.text.now ≡ clause_line (get_or (rows s) i [])
    unfolding rows
    row_part =
        let n = s.layout.names in
        let p = row_place i in
        let t : List ℕ = s.text.now in
        let z : p + 2 * n - p ≡ 2 * n = omega arith in
        ap (λ x. take x (drop p t)) z
        ∙ (ap (take (2 * n)) (sym (drop-drop (i * (2 * n)) s.layout.start t)
        ∙ ap (drop (i * (2 * n))) (ap (drop s.layout.start) (s.whole names_then) ∙ drop_at (line (words t)) (flat_map clause_line (rows s)) s.layout.start (s.starts names_then)))
        ∙ joined_part n (rows s) i names_then (all_sized n s.layout.clauses (drop s.layout.start t)) (omega (arith, rows-count)))
