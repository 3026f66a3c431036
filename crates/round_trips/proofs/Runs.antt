-- What `rewrite` and `reread` come to.
use Rattle.std.proofs.Common.{◌≡◌, ℕ, ◌≤◌, true, List, ◌++◌, length, take, drop, is_ok, Ok, Err, Result, sym, refl, ap, ◌∙◌, subst, arith, MatchResult}
use Rattle.std.proofs.lemmas.List.{take_at}
use Rattle.clauses.specs.declared.clauses.Clause.{Clause}
use Rattle.formats.specs.Format.{IsSheet, line}
use Rattle.formats.specs.Outcomes.{Says, outcome_of}
use Rattle.formats.specs.declared.faults.SheetFault.{SheetFault}
use Rattle.sheets.specs.Meaning.{row_clause, row_clauses}
use Rattle.sheets.specs.Sheets.{rows}
use Rattle.sheets.proofs.Marks.{length-numbered}
use Rattle.writers.specs.Documents.Document.{sheet}
use Rattle.writers.specs.Replies.{Reply, Written}
use Rattle.writers.specs.declared.refusals.WriteRefusal.{WriteRefusal}
use Rattle.writers.proofs.Once.{one_reply}
use Rattle.round_trips.specs.Replies.{Reread, Rewritten, on_line, on_lines}
use Rattle.round_trips.proofs.Once.{rows_once, sheet_not_refused}
use Rattle.round_trips.proofs.Undone.{come_back, is_sheet, rewritten}

pub ok_since : {T E : Type 0} (r : Result T E) (P : T → Type 0) (Q : E → Type 0) → MatchResult r P Q → ((e : E) → Q e → ⊥) → is_ok r ≡ true
ok_since (Ok x) P Q h n = refl
ok_since (Err e) P Q h n = absurd (n e h)

-- there is a clause for each row
pub clause_count : (rows : List (List ℕ)) → length (row_clauses rows) ≡ length rows
clause_count rows = length-numbered row_clause 0 rows

-- ---- read and written

-- `first` and `cs` are what was read of the sheet
module _ (text : List ℕ) (names rows : List (List ℕ)) (s : IsSheet text names rows)
    (places read : List Clause) (count : ℕ) (before after : List ℕ) (first : List ℕ) (r : Result ℕ WriteRefusal)
    (w : Reply first (sheet (take count read)) before r after)
    (k : count ≡ length (row_clauses rows)) (f : count ≤ length places) (b : length text ≤ length before)
    (p : read ≡ row_clauses rows ++ drop (length (row_clauses rows)) places) (l : first ≡ line names) where
  cs_are : take count read ≡ row_clauses rows
  cs_are = ap (take count) p ∙ take_at (row_clauses rows) (drop (length (row_clauses rows)) places) count (sym k)

  once : (r ≡ Ok (length text)) × (after ≡ text ++ drop (length text) before)
  once =
      one_reply (line names) (sheet (row_clauses rows)) before r (Ok (length text)) after (text ++ drop (length text) before)
      (subst (λ t. Reply t (sheet (row_clauses rows)) before r after) l (subst (λ cs. Reply first (sheet cs) before r after) cs_are w))
      (rewritten text names rows s before b)

  pub rewrite_ok : is_ok r ≡ true
  rewrite_ok = ap is_ok once.0

  pub rewrites : (size : ℕ) → r ≡ Ok size → Rewritten text places before size read after
  rewrites size q =
      let o = once.0 in
      let e : size ≡ length text = cc in
      record {
        names = names;
        rows = rows;
        is_sheet = s;
        fits = omega (arith, clause_count rows);
        room = omega arith;
        size_is = e;
        read_is = p ∙ ap (λ n. row_clauses rows ++ drop n places) (clause_count rows);
        is = once.1 ∙ ap (λ n. text ++ drop n before) (sym e);
      }

-- ---- written and read

module _ (text : List ℕ) (clauses : List Clause) (before : List ℕ) (size : ℕ) (after : List ℕ) (w : Written text (sheet clauses) before size after) where
  pub not_refused : (f : SheetFault) → Says (take size after) (outcome_of f) → ⊥
  not_refused f h = sheet_not_refused (take size after) w.names _ f (is_sheet text clauses before size after w) h

  module _ (names rows : List (List ℕ)) (s : IsSheet (take size after) names rows) where
    pub read_back : row_clauses rows ≡ on_lines clauses
    read_back =
        ap row_clauses (rows_once (take size after) names rows w.names _ s (is_sheet text clauses before size after w))
        ∙ come_back text clauses before size after w

    pub count_back : length (row_clauses rows) ≡ length clauses
    count_back = ap length read_back ∙ length-numbered on_line 0 clauses

    pub rereads : (places again : List Clause) (count : ℕ) → count ≡ length clauses → length clauses ≤ length places → again ≡ row_clauses rows ++ drop (length (row_clauses rows)) places
        → Reread text clauses before places count after again
    rereads places again count e f p = record {
      size = size;
      written = w;
      count_is = e;
      fits = omega arith;
      again_is = p ∙ (ap (λ cs. cs ++ drop (length (row_clauses rows)) places) read_back ∙ ap (λ n. on_lines clauses ++ drop n places) (count_back ∙ sym e));
    }
