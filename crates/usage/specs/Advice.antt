-- What is said of each fault of a sheet.
use Rattle.std.specs.Prelude.{ℕ, List, ◌++◌, codes, decimal}
use Rattle.formats.specs.declared.faults.SheetFault.{SheetFault}
use Rattle.formats.specs.declared.faults.SheetFault.TheVariants.{Long, Names, Twice, Clause}

-- of a sheet with so many names
abbrev pub advice_on : SheetFault → ℕ → List ℕ
advice_on Long names = codes "the sheet has more than 65535 bytes"
advice_on Names names = codes "line 1 is not a names line: it needs 1 to 64 names of at most 16 of a to z, 0 to 9 and -, one space between two, and a line end"
advice_on Twice names = codes "a name stands twice on line 1"
advice_on (Clause n) names =
    codes "line " ++ (decimal n ++ (codes " is not a clause line: it needs one of b, h and . for each of the " ++ (decimal names ++ codes " names, one space between two, and a line end")))
