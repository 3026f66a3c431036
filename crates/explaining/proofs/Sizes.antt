-- How long a report can get.
use Rattle.std.proofs.Common.{ℕ, ◌*◌, ◌≤◌, Bool, true, false, List, [], ◌∷◌, length, arith, length-append}
use Rattle.std.proofs.lemmas.Nat.{mul-le}
use Rattle.atoms.specs.declared.AtomSet.{AtomSet}
use Rattle.formats.specs.Format.{Names, line}
use Rattle.formats.proofs.Splits.{length-line}
use Rattle.writers.specs.Documents.Document.{report}
use Rattle.writers.specs.Documents.{last_line, lines_under, mark_of, text_of}
use Rattle.writers.proofs.Fills.{length_text}
use Rattle.explaining.specs.Reports.{most}

-- `LONGEST_REPORT`
abbrev pub longest_report : ℕ
longest_report = 33861

last_short : (complete : Bool) → length (last_line complete) ≤ 5
last_short true = omega arith
last_short false = omega arith

pub report_short : (names : List (List ℕ)) → Names names → (sets : List AtomSet) → length sets ≤ most → (complete : Bool)
    → length (text_of names (report sets complete)) ≤ longest_report
report_short names k sets few complete =
    let n : ℕ = length names in
    let lines : length sets * (2 * n) ≤ 256 * 128 = mul-le (length sets) (2 * n) 256 128 few (omega (arith, k.few)) in
    omega (
      arith,
      length-append (lines_under mark_of (line names) n sets) (last_line complete),
      length_text mark_of n k.some (line names) sets,
      length-line names k.some k.each,
      k.few,
      lines,
      last_short complete,
    )
