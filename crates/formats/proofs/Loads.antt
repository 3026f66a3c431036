-- What `Layout::read` finds out, in the words of the format.
use Rattle.std.proofs.Common.{◌≡◌, ℕ, ◌+◌, ◌*◌, ◌≤◌, eqb, List, [], ◌++◌, length, drop, sym, refl, ap, ◌∙◌, subst, arith}
use Rattle.std.specs.List.{flat_map, AllByRecursion}
use Rattle.std.proofs.lemmas.List.{append-nil, append_assoc, drop-drop, drop_all, length-drop}
use Rattle.std.proofs.lemmas.Bool.{cond-false, ne_eqb}
use Rattle.formats.specs.Format.{longest, Names, Row, Apart, Content, IsSheet, render, line, clause_line}
use Rattle.formats.specs.Outcomes.{NoRow, Says, StopsWith, outcome_of}
use Rattle.formats.specs.Outcomes.Refused.{name_twice, no_clause}
use Rattle.formats.specs.Places.{FirstLine, Lies, words, RowsAt, rows_of, Stops, place, names_in, rows_in}
use Rattle.formats.specs.declared.faults.SheetFault.{SheetFault}
use Rattle.formats.specs.declared.faults.SheetFault.TheVariants.{Long, Names as NamesFault, Twice, Clause}
use Rattle.formats.specs.declared.layouts.Layout.{Layout}
use Rattle.formats.specs.declared.names.NamesLine.{NamesLine}
use Rattle.formats.proofs.Rows.{Rows, rows_made, no_row}
use Rattle.formats.proofs.Splits.{begins_words}

module _ (text : List ℕ) (f : NamesLine) (l : FirstLine text f) where
  -- the words of line 1 are its names
  names_are : words text ≡ l.names
  names_are = begins_words text (drop f.size text) l.names l.begins

  named : length (words text) ≡ f.count
  named = ap length names_are ∙ l.count_is

  some_names : 1 ≤ f.count
  some_names = omega (arith, l.begins.names_ok.some, l.count_is)

  pub refused_twice : length text ≤ longest → (Apart (words text) → ⊥) → Says text (outcome_of Twice)
  refused_twice h k =
      name_twice refl refl h
      (record { names = l.names; rest = drop f.size text; begins = l.begins; again = λ a. k (subst Apart (sym names_are) a) })

  -- what stands after line 1
  abbrev rest : List ℕ
  rest = drop f.size text

  module _ (count : ℕ) (rows : RowsAt rest f.count 0 count) where
    rows_from : Rows f.count count rest
    rows_from = rows_made f.count count rest some_names rows

    content : Apart (words text) → Content (words text) (rows_of f.count count (drop f.size text))
    content a = record {
      names_ok = subst Names (sym names_are) l.begins.names_ok;
      apart = a;
      rows_ok = subst (λ m. AllByRecursion (Row m) (rows_of f.count count (drop f.size text))) (sym named) rows_from.each;
    }

    is : text ≡ render (words text) (rows_of f.count count (drop f.size text)) ++ drop (place f.size f.count count) text
    is = l.begins.is
        ∙ (ap (λ x. line x ++ drop f.size text) (sym names_are)
        ∙ (ap (λ r. line (words text) ++ r) (rows_from.is ∙ ap (λ r. flat_map clause_line (rows_of f.count count (drop f.size text)) ++ r) (drop-drop (count * (2 * f.count)) f.size text))
        ∙ sym (append_assoc (line (words text)) (flat_map clause_line (rows_of f.count count (drop f.size text))) (drop (place f.size f.count count) text))))

  pub refused_clause : (at : ℕ) → length text ≤ longest → Apart (words text) → Stops rest f.count 0 at → Says text (outcome_of (Clause at))
  refused_clause at h a s =
      let p = place f.size f.count s.count in
      let z : f.size + place 0 f.count s.count ≡ p = omega arith in
      no_clause at refl refl h
      (record {
        names = words text;
        rows = rows_of f.count s.count (drop f.size text);
        rest = drop p text;
        content = content s.count s.rows a;
        is = is s.count s.rows;
        number = omega (arith, s.at_is, (rows_from s.count s.rows).size);
        more = omega (arith, s.more, length-drop p text, length-drop f.size text);
        none = subst (λ m. NoRow m (drop p text)) (sym named)
            (subst (NoRow f.count) (drop-drop (place 0 f.count s.count) f.size text ∙ ap (λ i. drop i text) z) (no_row rest f.count (place 0 f.count s.count) some_names s.none));
      })

  pub refused_stop : (fault : SheetFault) → length text ≤ longest → Apart (words text) → StopsWith rest f.count fault → Says text (outcome_of fault)
  refused_stop Long h a s = absurd s
  refused_stop NamesFault h a s = absurd s
  refused_stop Twice h a s = absurd s
  refused_stop (Clause at) h a s = refused_clause at h a s

  -- a text with nothing after its clause lines
  module _ (count : ℕ) (rows : RowsAt rest f.count 0 count) (h : length text ≤ longest) (a : Apart (words text)) (e : place 0 f.count count ≡ length rest) where
    ends : place f.size f.count count ≡ length text
    ends = omega (arith, e, length-drop f.size text, l.within)

    layout : Layout
    layout = record { names = f.count; start = f.size; clauses = count }

    whole : text ≡ render (words text) (rows_of f.count count (drop f.size text))
    whole =
        is count rows
        ∙ (ap (λ r. render (words text) (rows_of f.count count (drop f.size text)) ++ r) (drop_all (place f.size f.count count) text (omega (arith, ends)))
        ∙ append-nil (render (words text) (rows_of f.count count (drop f.size text))))

    is_sheet : IsSheet text (words text) (rows_of f.count count (drop f.size text))
    is_sheet = record { short = h; content = content count rows a; is = whole }

    pub accepted_sheet : IsSheet text (names_in (record { names = f.count; start = f.size; clauses = count }) text) (rows_in (record { names = f.count; start = f.size; clauses = count }) text)
    accepted_sheet =
        subst (λ w. IsSheet text w (rows_of f.count count (drop f.size text)))
        (sym (cond-false (eqb f.count 0) [] (words text) (ne_eqb f.count 0 (λ z. omega (arith, some_names))))) is_sheet

    pub lies : Lies text (record { names = f.count; start = f.size; clauses = count })
    lies = record {
      some = some_names;
      few = omega (arith, l.begins.names_ok.few, l.count_is);
      named = named;
      starts = ap (λ w. length (line w)) names_are ∙ l.size_is;
      ends = ends;
      whole = whole;
    }
