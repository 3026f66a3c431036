-- What the round trips reply, and what the given memory holds then.
use Rattle.std.specs.Prelude.{◌≡◌, ℕ, ◌+◌, ◌<◌, ◌≤◌, List, ◌++◌, length, drop, Result, MatchResult}
use Rattle.clauses.specs.Sources.{numbered}
use Rattle.clauses.specs.declared.clauses.Clause.{Clause}
use Rattle.clauses.specs.declared.origins.Kind.TheVariants.{Sheet}
use Rattle.formats.specs.Format.{IsSheet}
use Rattle.formats.specs.Outcomes.{Says, outcome_of}
use Rattle.sheets.specs.Meaning.{row_clauses}
use Rattle.writers.specs.Documents.Document.{sheet}
use Rattle.writers.specs.Refusals.{Due}
use Rattle.writers.specs.Replies.{Written}
use Rattle.round_trips.specs.declared.refusals.RereadRefusal.{RereadRefusal}
use Rattle.round_trips.specs.declared.refusals.RereadRefusal.TheVariants.{Places as TooFew, Write}
use Rattle.round_trips.specs.declared.refusals.RewriteRefusal.{RewriteRefusal}
use Rattle.round_trips.specs.declared.refusals.RewriteRefusal.TheVariants.{Load, Places, Room}

-- ---- read and written

-- the text is a sheet, its clauses stand at the front of the places, and its bytes at the front of the buffer
pub record Rewritten (text : List ℕ) (places : List Clause) (before : List ℕ) (size : ℕ) (read : List Clause) (after : List ℕ) : Type 0 where
  pub names : List (List ℕ)
  pub rows : List (List ℕ)
  pub is_sheet : IsSheet text names rows
  pub fits : length rows ≤ length places
  pub room : size ≤ length before
  pub size_is : size ≡ length text
  pub read_is : read ≡ row_clauses rows ++ drop (length rows) places
  pub is : after ≡ text ++ drop size before

-- when each refusal of `rewrite` is due, with so many places and so many bytes: the first that applies
abbrev pub RewriteDue : List ℕ → ℕ → ℕ → RewriteRefusal → Type 0
RewriteDue text places room (Load f) = Says text (outcome_of f)
RewriteDue text places room Places = (names rows : List (List ℕ)) × IsSheet text names rows × (places < length rows)
RewriteDue text places room Room = (names rows : List (List ℕ)) × IsSheet text names rows × (length rows ≤ places) × (room < length text)

-- the reply of `rewrite`, with the places and the buffer before and after it: a refusal changes neither
abbrev pub RewriteReply : List ℕ → List Clause → List ℕ → Result ℕ RewriteRefusal → List Clause → List ℕ → Type 0
RewriteReply text places before r read after =
    MatchResult r
    (λ size. Rewritten text places before size read after)
    (λ f. RewriteDue text (length places) (length before) f × (read ≡ places) × (after ≡ before))

-- ---- written and read

-- a clause as it comes back from clause line i, from 0: the same body and head, and its line as origin
abbrev pub on_line : ℕ → Clause → Clause
on_line i c = record { body = c.body; head = c.head; origin = record { kind = Sheet; number = i + 2 } }

abbrev pub on_lines : List Clause → List Clause
on_lines cs = numbered on_line 0 cs

-- the sheet stands at the front of the buffer, and its clauses came back to the front of the places
pub record Reread (text : List ℕ) (clauses : List Clause) (before : List ℕ) (places : List Clause) (count : ℕ) (after : List ℕ) (again : List Clause) : Type 0 where
  pub size : ℕ
  pub written : Written text (sheet clauses) before size after
  pub count_is : count ≡ length clauses
  pub fits : count ≤ length places
  pub again_is : again ≡ on_lines clauses ++ drop count places

-- when each refusal of `reread` is due, with so many bytes and so many places: the first that applies
abbrev pub RereadDue : List ℕ → List Clause → ℕ → ℕ → RereadRefusal → Type 0
RereadDue text clauses room places TooFew = places < length clauses
RereadDue text clauses room places (Write f) = (length clauses ≤ places) × Due text (sheet clauses) room f

-- the reply of `reread`, with the buffer and the places before and after it: a refusal changes neither
abbrev pub RereadReply : List ℕ → List Clause → List ℕ → List Clause → Result ℕ RereadRefusal → List ℕ → List Clause → Type 0
RereadReply text clauses before places r after again =
    MatchResult r
    (λ count. Reread text clauses before places count after again)
    (λ f. RereadDue text clauses (length before) (length places) f × (after ≡ before) × (again ≡ places))
