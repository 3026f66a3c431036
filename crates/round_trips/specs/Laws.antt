-- Reading undoes writing, and writing undoes reading; and the round trips have one reply.
use Rattle.std.specs.Prelude.{◌≡◌, ℕ, ◌≤◌, List, ◌++◌, length, take, drop, Ok, Result}
use Rattle.clauses.specs.declared.clauses.Clause.{Clause}
use Rattle.formats.specs.Format.{IsSheet, line}
use Rattle.sheets.specs.Meaning.{row_clauses}
use Rattle.writers.specs.Documents.Document.{sheet}
use Rattle.writers.specs.Replies.{Reply}
use Rattle.round_trips.specs.Replies.{RereadReply, RewriteReply, on_lines}
use Rattle.round_trips.specs.declared.refusals.RereadRefusal.{RereadRefusal}
use Rattle.round_trips.specs.declared.refusals.RewriteRefusal.{RewriteRefusal}

-- the names line and the clauses of a sheet, written into a buffer that is long enough, give the bytes of the sheet
abbrev pub ReadWritten : Type 0
ReadWritten =
    (text : List ℕ) (names rows : List (List ℕ)) (before : List ℕ)
    → IsSheet text names rows → length text ≤ length before
    → Reply (line names) (sheet (row_clauses rows)) before (Ok (length text)) (text ++ drop (length text) before)

-- what was written is a sheet, with the names line and the clauses that were written, up to their origins
abbrev pub WrittenRead : Type 0
WrittenRead =
    (text : List ℕ) (clauses : List Clause) (before : List ℕ) (size : ℕ) (after : List ℕ)
    → Reply text (sheet clauses) before (Ok size) after
    → (names rows : List (List ℕ)) × IsSheet (take size after) names rows × (line names ≡ text) × (row_clauses rows ≡ on_lines clauses)

-- two replies of `rewrite` to the same input are equal, and so is what the places and the buffer hold after them
abbrev pub OneRewriteReply : Type 0
OneRewriteReply =
    (text : List ℕ) (places : List Clause) (before : List ℕ) (r r' : Result ℕ RewriteRefusal) (read read' : List Clause) (after after' : List ℕ)
    → RewriteReply text places before r read after → RewriteReply text places before r' read' after' → (r ≡ r') × (read ≡ read') × (after ≡ after')

-- and so for `reread`
abbrev pub OneRereadReply : Type 0
OneRereadReply =
    (text : List ℕ) (clauses : List Clause) (before : List ℕ) (places : List Clause) (r r' : Result ℕ RereadRefusal) (after after' : List ℕ) (again again' : List Clause)
    → RereadReply text clauses before places r after again → RereadReply text clauses before places r' after' again' → (r ≡ r') × (after ≡ after') × (again ≡ again')
