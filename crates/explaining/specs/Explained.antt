-- What is printed for a text, in the words of sheets and models.
use Rattle.std.specs.Prelude.{◌≡◌, ℕ, List, Option}
use Rattle.models.specs.Models.{Explanations}
use Rattle.clauses.specs.Clauses.{language}
use Rattle.formats.specs.Outcomes.Outcome.{accepted, refused}
use Rattle.formats.specs.Outcomes.{Says}
use Rattle.sheets.specs.Meaning.{row_clauses}
use Rattle.wording.specs.Words.{refusal_line}
use Rattle.explaining.specs.Reports.{report_text}

-- the printed text is the report of the explanations of these clause lines under these names
pub record Listed (names rows : List (List ℕ)) (printed : List ℕ) : Type 0 where
  pub ms : List ℕ
  pub explanations : Explanations language (row_clauses rows) ms
  pub is : printed ≡ report_text names ms

-- what is printed for a text: of a sheet the report of its explanations, and of any other text its refusal
pub data Explained (text printed : List ℕ) : Type 0 where
  a_sheet : {names rows : List (List ℕ)} → Says text (accepted names rows) → Listed names rows printed → Explained text printed
  no_sheet : {number : ℕ} {named : Option ℕ} → Says text (refused number named) → printed ≡ refusal_line number named → Explained text printed

-- for one text, one text is printed
abbrev pub OnePrinted : Type 0
OnePrinted = (text printed printed' : List ℕ) → Explained text printed → Explained text printed' → printed ≡ printed'
