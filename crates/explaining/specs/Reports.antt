-- The report of a list of explanations.
use Rattle.std.specs.Prelude.{ℕ, List, map, length, take, nat_le}
use Rattle.atoms.specs.Atoms.{set_of}
use Rattle.writers.specs.Documents.Document.{report}
use Rattle.writers.specs.Documents.{text_of}

-- how many explanations are printed at most (`MOST`)
abbrev pub most : ℕ
most = 256

-- the report of the explanations ms under these names: the first of them, and then `end` exactly where there are no more, else `more`
abbrev pub report_text : List (List ℕ) → List ℕ → List ℕ
report_text names ms = text_of names (report (map set_of (take most ms)) (nat_le (length ms) most))
