-- Reading undoes writing, and writing undoes reading.
use Rattle.std.proofs.Common.{◌≡◌, ℕ, ◌<◌, ◌≤◌, List, ◌++◌, map, length, take, drop, sym, refl, ap, ◌∙◌, subst, ⊎_elim, arith}
use Rattle.std.proofs.ByRecursion.{all-has}
use Rattle.std.proofs.lemmas.List.{append-nil, take_at}
use Rattle.std.proofs.lemmas.Bool.{cases_lt}
use Rattle.clauses.specs.declared.clauses.Clause.{Clause}
use Rattle.formats.specs.Format.{Apart, IsSheet, line, longest, render}
use Rattle.sheets.specs.Meaning.{row_clauses}
use Rattle.writers.specs.Documents.Document.{sheet}
use Rattle.writers.specs.Documents.{Misfit, text_of}
use Rattle.writers.specs.Refusals.{IsLine}
use Rattle.writers.specs.Replies.{Written}
use Rattle.writers.specs.declared.refusals.WriteRefusal.TheVariants.{Twice, Atoms, Long}
use Rattle.writers.proofs.Turns.{nothing_wrong}
use Rattle.round_trips.specs.Laws.{ReadWritten, WrittenRead}
use Rattle.round_trips.specs.Replies.{on_lines}
use Rattle.round_trips.proofs.Rows.{clauses_back, each_not, row_of, rows_back, rows_fit, rows_ok}

-- ---- read and written

module _ (text : List ℕ) (names rows : List (List ℕ)) (s : IsSheet text names rows) where
  is_line : IsLine (line names) names
  is_line = record { names_ok = s.content.names_ok; is = sym (append-nil (line names)) }

  text_back : text_of names (sheet (row_clauses rows)) ≡ text
  text_back = ap (render names) (rows_back (length names) s.content.names_ok.few 0 rows s.content.rows_ok) ∙ sym s.is

  pub rewritten : (before : List ℕ) → length text ≤ length before → Written (line names) (sheet (row_clauses rows)) before (length text) (text ++ drop (length text) before)
  rewritten before r = record {
    names = names;
    is_line = is_line;
    right = nothing_wrong (line names) (sheet (row_clauses rows)) (length before) names is_line s.content.apart
        (λ u. all-has (λ c. Misfit (length names) c → ⊥) (row_clauses rows) u.0 (rows_fit (length names) s.content.names_ok.few 0 rows s.content.rows_ok) u.1 u.2)
        (λ l. omega (arith, s.short, ap length text_back))
        (omega (arith, ap length text_back));
    size_is = ap length (sym text_back);
    room = r;
    is = ap (λ t. t ++ drop (length text) before) (sym text_back);
  }

pub read_written : ReadWritten
read_written text names rows before s r = rewritten text names rows s before r

-- ---- written and read

module _ (text : List ℕ) (clauses : List Clause) (before : List ℕ) (size : ℕ) (after : List ℕ) (w : Written text (sheet clauses) before size after) where
  front_is : take size after ≡ text_of w.names (sheet clauses)
  front_is = ap (take size) w.is ∙ take_at (text_of w.names (sheet clauses)) (drop size before) size (sym w.size_is)

  apart : Apart w.names
  apart i k h l e = w.right Twice (w.names, w.is_line, λ a. a i k h l e)

  short : length (text_of w.names (sheet clauses)) ≤ longest
  short =
      ⊎_elim (λ (h : longest < length (text_of w.names (sheet clauses))). absurd (w.right Long (w.names, w.is_line, h)))
      (λ (h : length (text_of w.names (sheet clauses)) ≤ longest). h)
      (cases_lt longest (length (text_of w.names (sheet clauses))))

  pub is_sheet : IsSheet (take size after) w.names (map (row_of (length w.names)) clauses)
  is_sheet = subst (λ t. IsSheet t w.names (map (row_of (length w.names)) clauses)) (sym front_is)
      (record {
        short = short;
        content = record { names_ok = w.is_line.names_ok; apart = apart; rows_ok = rows_ok (length w.names) clauses };
        is = refl;
      })

  pub come_back : row_clauses (map (row_of (length w.names)) clauses) ≡ on_lines clauses
  come_back =
      clauses_back (length w.names) w.is_line.names_ok.few 0 clauses
      (each_not (Misfit (length w.names)) clauses (λ u. w.right Atoms (w.names, w.is_line, u)))

pub written_read : WrittenRead
written_read text clauses before size after w = (
  w.names,
  map (row_of (length w.names)) clauses,
  is_sheet text clauses before size after w,
  sym (w.is_line.is ∙ append-nil (line w.names)),
  come_back text clauses before size after w,
)
